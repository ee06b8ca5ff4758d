-- What a run makes of an event that has come, and what a transfer comes to.
use Rattle.std.specs.Prelude.{◌≡◌, ℕ, length, Option, Some, None, Result, Ok, Err}
use Rattle.std.specs.Global.{Vec}
use Rattle.arrayvec.specs.ArrayVec.{ArrayVec}
use Rattle.usb_world.specs.declared.event.Ask.{Ask}
use Rattle.usb_request.specs.{IsToHost}
use Rattle.usb_world.specs.{Show, Send, Receive, Clear, ControlIn, ControlOut, IsWrite}
use Rattle.usb_world.specs.{Look as LookAt, News as AskNews, SendTo, ReceiveFrom, Poll, ClearOf}
use Rattle.usb_world.specs.{SetInterface}
use Rattle.usb_table.specs.{TransferFault, FirstBulk, At}
use Rattle.usb_host.specs.{HostFault, ClearTells, ReceiveTells, SendTells, ReadTells, WriteTells}
use Rattle.usb_host.specs.{LookTells, ReportTells, ClearOfTells, InterfaceTells}
use Rattle.usb_host.specs.{HostState, Look, News}
use Rattle.usb_host.specs.declared.fault.HostFault.TheVariants as host
use Rattle.usb_run.specs.declared.item.Item.{Item}
use Rattle.usb_run.specs.declared.item.Item.TheVariants.{Answer, News as ToldNews}
use Rattle.usb_run.specs.declared.item.Task.TheVariants as task
use Rattle.usb_run.specs.declared.item.TaskEnd.TheVariants.{Sent, Received, Done, Polled, Looked}
use Rattle.usb_run.specs.declared.runs.RunFault.{RunFault}
use Rattle.usb_run.specs.declared.runs.RunFault.TheVariants.{Memory}
use Rattle.usb_run.specs.NewsCalls.{AllNews, SomeNews}
use Rattle.usb_run.specs.Run.{run_fault, listing_of}

-- what a transfer came to, where it did not end the run
abbrev pub transfer_ended : {A : Type 0} → Result A HostFault
    → Result (Result A TransferFault) RunFault
transfer_ended (Ok done) = Ok (Ok done)
transfer_ended (Err (host.Transfer fault)) = Ok (Err fault)
transfer_ended (Err (host.Bus fault)) = Err (run_fault fault)
transfer_ended (Err host.Stopped) = Err Memory
transfer_ended (Err host.Memory) = Err Memory

-- how many bytes were sent, where they were
abbrev pub sent_count : ℕ → Result (Unit {0}) TransferFault → Result ℕ TransferFault
sent_count count (Ok done) = Ok count
sent_count count (Err fault) = Err fault

-- One call

-- the host made one call, and this is told of it
pub record Transfers {A : Type 0} (Tells : HostState → Result A HostFault → HostState → Type 0)
    (old : HostState) (told : Result A TransferFault) (new : HostState) : Type 0 where
  pub answer : Result A HostFault
  pub call : Tells old answer new
  pub tells : transfer_ended answer ≡ Ok told

-- the host made one call, and its fault ends the run
pub record TransferStops {A : Type 0} (Tells : HostState → Result A HostFault → HostState → Type 0)
    (old : HostState) (fault : RunFault) (new : HostState) : Type 0 where
  pub answer : Result A HostFault
  pub call : Tells old answer new
  pub tells : transfer_ended answer ≡ Err fault

-- What a run makes of an event

-- what a call of the host gives if it is done
abbrev pub CallGives : Ask → Type 0
CallGives (Receive path packets) = Vec ℕ
CallGives (ReceiveFrom path endpoint packets) = Vec ℕ
CallGives (ControlIn path request) = Vec ℕ
CallGives (Poll path endpoint) = Option (ArrayVec ℕ)
CallGives (LookAt path) = Look
CallGives _ = Unit {0}

-- what the host tells of the call for what is asked; a listing and news need none
abbrev pub CallTells : (ask : Ask) → HostState → Result (CallGives ask) HostFault → HostState
    → Type 0
CallTells (Show said) = λ old result new. ⊥
CallTells (Send path bytes) = SendTells path FirstBulk bytes
CallTells (Receive path packets) = ReceiveTells path FirstBulk packets
CallTells (Clear path) = ClearTells path
CallTells (SendTo path endpoint bytes) = SendTells path (At endpoint) bytes
CallTells (ReceiveFrom path endpoint packets) = ReceiveTells path (At endpoint) packets
CallTells (Poll path endpoint) = ReportTells path endpoint
CallTells (ClearOf path endpoint) = ClearOfTells path endpoint
CallTells (SetInterface path interface setting) = InterfaceTells path interface setting
CallTells (ControlIn path request) = ReadTells path request
CallTells (ControlOut path write) = WriteTells path write.setup write.bytes
CallTells (LookAt path) = LookTells path
CallTells AskNews = λ old result new. ⊥

-- the item of a call that came to this
abbrev pub IsOfCall : (ask : Ask) → Result (CallGives ask) TransferFault → Option Item → Type 0
IsOfCall (Show said) told item = ⊥
IsOfCall (Send path bytes) told item =
    item ≡ Some (Answer path (task.Send FirstBulk) (Sent (sent_count (length bytes) told)))
IsOfCall (Receive path packets) told item =
    item ≡ Some (Answer path (task.Receive FirstBulk) (Received told))
IsOfCall (Clear path) told item = item ≡ Some (Answer path task.Clear (Done told))
IsOfCall (SendTo path endpoint bytes) told item =
    item ≡ Some (Answer path (task.Send (At endpoint)) (Sent (sent_count (length bytes) told)))
IsOfCall (ReceiveFrom path endpoint packets) told item =
    item ≡ Some (Answer path (task.Receive (At endpoint)) (Received told))
IsOfCall (Poll path endpoint) told item =
    item ≡ Some (Answer path (task.Poll endpoint) (Polled told))
IsOfCall (ClearOf path endpoint) told item =
    item ≡ Some (Answer path (task.ClearOf endpoint) (Done told))
IsOfCall (SetInterface path interface setting) told item =
    item ≡ Some (Answer path (task.SetInterface interface setting) (Done told))
IsOfCall (ControlIn path request) told item =
    item ≡ Some (Answer path task.ControlIn (Received told))
IsOfCall (ControlOut path write) told item =
    item ≡ Some (Answer path task.ControlOut (Sent (sent_count (length write.bytes) told)))
IsOfCall (LookAt path) told item = item ≡ Some (Answer path task.Look (Looked told))
IsOfCall AskNews told item = ⊥

-- the host made the call, and this is its item
abbrev pub ItemOfCall : Ask → Option Item → HostState → HostState → Type 0
ItemOfCall ask item old new =
    (told : Result (CallGives ask) TransferFault) × IsOfCall ask told item
    × Transfers (CallTells ask) old told new

-- nothing of a change, a listing at once if the host is to list, what a transfer or a look came to,
-- and all news
abbrev pub IsItemOf : Option Ask → Option Item → HostState → HostState → Type 0
IsItemOf None item old new = (item ≡ None) × (new ≡ old)
IsItemOf (Some (Show said)) item old new = (item ≡ Some (listing_of said new)) × (new ≡ old)
IsItemOf (Some (ControlIn path request)) item old new =
    IsToHost request × ItemOfCall (ControlIn path request) item old new
IsItemOf (Some (ControlOut path write)) item old new =
    IsWrite write × ItemOfCall (ControlOut path write) item old new
IsItemOf (Some AskNews) item old new =
    (told : Vec News) × (item ≡ Some (ToldNews told)) × AllNews old told.items new
IsItemOf (Some ask) item old new = ItemOfCall ask item old new

-- no item of it: memory was refused for a listing or for news, or a transfer or a look ended the
-- run
abbrev pub StopsAt : Option Ask → RunFault → HostState → HostState → Type 0
StopsAt None fault old new = ⊥
StopsAt (Some (Show said)) fault old new = (fault ≡ Memory) × (new ≡ old)
StopsAt (Some AskNews) fault old new = (fault ≡ Memory) × SomeNews old new
StopsAt (Some ask) fault old new = TransferStops (CallTells ask) old fault new

abbrev pub Does : Option Ask → HostState → Result (Option Item) RunFault → HostState → Type 0
Does due old (Ok item) new = IsItemOf due item old new
Does due old (Err fault) new = StopsAt due fault old new

-- the item of what is asked, or the fault in its place
abbrev pub Gives : Ask → HostState → Result Item RunFault → HostState → Type 0
Gives ask old (Ok item) new = IsItemOf (Some ask) (Some item) old new
Gives ask old (Err fault) new = StopsAt (Some ask) fault old new
