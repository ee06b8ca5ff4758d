-- What the host does of what is wanted.
use Rattle.std.specs.Prelude.{◌≡◌, ◌*◌, ◌≤◌, length, Bool, ⊤, IfOk, IfErr}
use Rattle.usb_transfer.specs.{transaction_bound, write_bound}
use Rattle.usb_table.specs.{At, FirstBulk, control_target, write_target, clears_miss, pipe_to}
use Rattle.usb_table.specs.{polls_miss, polls_through, receives_miss, receives_through, sends_miss}
use Rattle.usb_table.specs.{sends_through, unless_broken}
use Rattle.usb_host.specs.{ClearOfTells, ClearTells, ControlsAnyBus, HostState, InterfaceTells}
use Rattle.usb_host.specs.{LookTells, LooksAnyBus, MovesAnyBus, ReadTells, ReceiveTells}
use Rattle.usb_host.specs.{ReportTells, ReportsNews, RoundTells, RoundsAnyBus, SendTells}
use Rattle.usb_host.specs.{SetsAnyBus, TransfersAnyBus, WriteTells, clear_bound, StopsAsLook}
use Rattle.usb_host.specs.{StopsAsRound, StopsAsTransfer, pipe_for}
use Rattle.usb_host.specs.declared.fault.HostFault.TheVariants as fault
use Rattle.usb_dialogue.specs.declared.call.Done.{Done}
use Rattle.usb_dialogue.specs.declared.call.Done.TheVariants as done
use Rattle.usb_dialogue.specs.declared.want.Want.{Want}
use Rattle.usb_dialogue.specs.declared.want.Want.TheVariants.{Round, Tree, Send, Receive, ClearHalt}
use Rattle.usb_dialogue.specs.declared.want.Want.TheVariants.{SendTo, ReceiveFrom, Poll}
use Rattle.usb_dialogue.specs.declared.want.Want.TheVariants.{ClearHaltOf, SetInterface, ControlIn}
use Rattle.usb_dialogue.specs.declared.want.Want.TheVariants.{ControlOut, Look, News}

-- over any bus: each want is one call of the host, with what the want says
abbrev pub Makes : Bool → Want → HostState → Done → HostState → Type 0
Makes m Round old (done.Round r) new = RoundsAnyBus m old r new × StopsAsRound old r new
Makes m Tree old (done.Tree r) new =
    (new ≡ old) × IfOk r (λ tree. tree ≡ old.entries) × IfErr r (λ f. f ≡ fault.Memory)
Makes m (Send path bytes) old (done.Moved r) new =
    MovesAnyBus m (transaction_bound * length bytes)
    (unless_broken (pipe_for (sends_through FirstBulk) (sends_miss FirstBulk) path old)) old r new
    × StopsAsTransfer old r new
Makes m (Receive path packets) old (done.Received r) new =
    MovesAnyBus m (transaction_bound * packets)
    (unless_broken (pipe_for (receives_through FirstBulk) (receives_miss FirstBulk) path old)) old r
    new × StopsAsTransfer old r new
Makes m (ClearHalt path) old (done.Moved r) new =
    TransfersAnyBus m clear_bound old r new × StopsAsTransfer old r new
Makes m (SendTo path endpoint bytes) old (done.Moved r) new =
    MovesAnyBus m (transaction_bound * length bytes)
    (unless_broken (pipe_for (sends_through (At endpoint)) (sends_miss (At endpoint)) path old)) old
    r new × StopsAsTransfer old r new
Makes m (ReceiveFrom path endpoint packets) old (done.Received r) new =
    MovesAnyBus m (transaction_bound * packets)
    (unless_broken (pipe_for (receives_through (At endpoint)) (receives_miss (At endpoint)) path
    old)) old r new × StopsAsTransfer old r new
Makes m (Poll path endpoint) old (done.Polled r) new =
    MovesAnyBus m transaction_bound
    (unless_broken (pipe_for (polls_through endpoint) (polls_miss endpoint) path old)) old r new
    × StopsAsTransfer old r new
Makes m (ClearHaltOf path endpoint) old (done.Moved r) new =
    MovesAnyBus m write_bound (pipe_for (pipe_to endpoint) (clears_miss endpoint) path old) old r
    new × StopsAsTransfer old r new
Makes m (SetInterface path interface setting) old (done.Moved r) new =
    SetsAnyBus m path interface setting old r new × StopsAsTransfer old r new
Makes m (ControlIn path request) old (done.Received r) new =
    ControlsAnyBus m (control_target path old.entries) request old r new
    × StopsAsTransfer old r new × IfOk r (λ bytes. length bytes.items ≤ request.length)
Makes m (ControlOut path request) old (done.Moved r) new =
    ControlsAnyBus m (write_target path request.setup old.entries) request.setup old r new
    × StopsAsTransfer old r new
Makes m (Look path) old (done.Looked r) new =
    LooksAnyBus m path old r new × StopsAsLook old r new
Makes m News old (done.News news) new = ReportsNews old news new
Makes m want old other new = ⊥

-- over a bus that does what its world does
abbrev pub Tells : Want → HostState → Done → HostState → Type 0
Tells Round old (done.Round r) new = RoundTells old r new
Tells (Send path bytes) old (done.Moved r) new = SendTells path FirstBulk bytes old r new
Tells (Receive path packets) old (done.Received r) new =
    ReceiveTells path FirstBulk packets old r new
Tells (ClearHalt path) old (done.Moved r) new = ClearTells path old r new
Tells (SendTo path endpoint bytes) old (done.Moved r) new =
    SendTells path (At endpoint) bytes old r new
Tells (ReceiveFrom path endpoint packets) old (done.Received r) new =
    ReceiveTells path (At endpoint) packets old r new
Tells (Poll path endpoint) old (done.Polled r) new = ReportTells path endpoint old r new
Tells (ClearHaltOf path endpoint) old (done.Moved r) new = ClearOfTells path endpoint old r new
Tells (SetInterface path interface setting) old (done.Moved r) new =
    InterfaceTells path interface setting old r new
Tells (ControlIn path request) old (done.Received r) new = ReadTells path request old r new
Tells (ControlOut path request) old (done.Moved r) new =
    WriteTells path request.setup request.bytes old r new
Tells (Look path) old (done.Looked r) new = LookTells path old r new
Tells want old other new = ⊤
