-- What the calls for a transfer have in common, and after which of them the bus still works.
use Rattle.std.proofs.Common.{◌≡◌, ◌+◌, ◌≤◌, arith, ℕ, Bool, true, false, List, Option, Result, Err}
use Rattle.std.proofs.Common.{length, IfOk, IfSome, inl, inr, MatchResult, IfErr}
use Rattle.usb_world.specs.{BusFault, World}
use Rattle.usb_table.specs.{TableFault, TransferTold, GoesThrough, MovedOrRefused, SetOrRefused}
use Rattle.usb_table.specs.{Table, TransferFault, accepted_device_at, is_below_hub, pipes_at}
use Rattle.usb_table.specs.{pipes_set, Pipes, PipesPolled, EndpointChoice, FunctionPipes}
use Rattle.usb_table.specs.{PipesThrough, PipesSent, PipesReceived, PipesReported, PipesCleared}
use Rattle.usb_table.specs.{PipesClearedOf, PipeDid, InterfaceSetIf, SentThrough, ReceivedThrough}
use Rattle.usb_table.specs.{ReportedThrough, ClearedOfThrough, pipe_to, polls_through}
use Rattle.usb_table.specs.{receives_through, sends_through, clears_miss, polls_miss, receives_miss}
use Rattle.usb_table.specs.{sends_miss, MadeOrRefused, ReadIf, ReadLeft, ReadMade, TransferIf}
use Rattle.usb_table.specs.{WriteLeft, WriteMade, TableFaultAllowed, Transferred, control_most}
use Rattle.usb_host.specs.{HostFault, HostState, LeftStatuses, TransferTells, TransfersAnyBus}
use Rattle.usb_host.specs.{counts_of, host_told, FitsPipe, SetsOrRefuses, is_final, Agrees}
use Rattle.usb_host.specs.{ControlsAnyBus, HostSteps, MovesAnyBus, MovesThrough, NothingTried}
use Rattle.usb_host.specs.{TransferKeeps, table_in}
use Rattle.usb_host.specs.declared.fault.HostFault.TheVariants as host
use Rattle.usb_host.proofs.StepSums.{host_goes_none}
use Rattle.usb_host.proofs.knowledge.Soundness.{transfer_none, transfer_kept}
use Rattle.std.specs.BTreeMap.{is_at}
use Rattle.arrayvec.specs.ArrayVec.{ArrayVec}
use Rattle.usb_port.specs.{path_cmp}
use Rattle.usb_transfer.specs.{Target, PipeState, PipeFault, FaultAfter}
use Rattle.usb_table.proofs.Interface.{path_tied}
use Rattle.std.specs.Global.{Vec}
use Rattle.usb_world.proofs.Interface.{decided}
use Rattle.usb_hub.specs.{StillWorks, WorksAfter}
use Rattle.usb_enum.specs.{Bus, Memory}
use Rattle.usb_request.specs.{Setup}
use Rattle.usb_transfer.specs.declared.fault.PipeFault.TheVariants as pipe
use Rattle.usb_table.specs.declared.fault.TableFault.TheVariants as table

-- A poll

pub polled_works : (pipes left : Pipes) (answer : Result (Option (ArrayVec ℕ)) PipeFault)
    (old new : World) → PipesPolled pipes old answer left new → WorksAfter answer old new
polled_works pipes left answer old new x = grind arith

-- As the table tells it

abbrev TableNotOfBus : TableFault → Type 0
TableNotOfBus (table.Transfer fault) = Unit {0}
TableNotOfBus (table.Bus fault) = ⊥
TableNotOfBus table.Memory = Unit {0}

abbrev TableWorks : {A : Type 0} → World → Result A TableFault → World → Type 0
TableWorks old result new = MatchResult result (λ done. StillWorks old new)
    (λ fault. TableNotOfBus fault → StillWorks old new)

-- after a call that did this the bus still works, unless a fault of the bus is told
abbrev pub LeavesWorking : {A P : Type 0} → (P → World → Result A TableFault → P → World → Type 0)
    → Type 0
LeavesWorking {A} {P} Did = (pipes : P) (old : World) (result : Result A TableFault) (left : P)
    (new : World) → Did pipes old result left new → TableWorks old result new

through_works : {A : Type 0} (pick : FunctionPipes → Option PipeState)
    (miss : FunctionPipes → TransferFault) (Did : PipeDid A) → LeavesWorking Did
    → LeavesWorking (PipesThrough pick miss Did)
through_works pick miss Did each = grind arith

pub sent_works : (choice : EndpointChoice) (bytes : List ℕ)
    → LeavesWorking (λ (pipes : Pipes). PipesSent choice pipes bytes)
sent_works choice bytes =
    through_works (sends_through choice) (sends_miss choice) (λ p. SentThrough p bytes)
    (grind arith)

pub received_works : (choice : EndpointChoice) (packets : ℕ)
    → LeavesWorking (λ (pipes : Pipes). PipesReceived choice pipes packets)
received_works choice packets =
    through_works (receives_through choice) (receives_miss choice) (λ p. ReceivedThrough p packets)
    (grind arith)

pub reported_works : (endpoint : ℕ) → LeavesWorking (PipesReported endpoint)
reported_works endpoint =
    through_works (polls_through endpoint) (polls_miss endpoint) ReportedThrough
    (grind arith)

pub cleared_of_works : (endpoint : ℕ) → LeavesWorking (PipesClearedOf endpoint)
cleared_of_works endpoint =
    through_works (pipe_to endpoint) (clears_miss endpoint) ClearedOfThrough
    (grind arith)

pub cleared_works : LeavesWorking PipesCleared
cleared_works = grind arith

-- a request that sets an interface
pub set_works : (path : List ℕ) (interface setting : ℕ) (tab left : Table)
    (target : Result Target TransferFault) (old new : World)
    (answer : Result (Unit {0}) TableFault)
    → InterfaceSetIf path interface setting tab target old answer left new
    → TableWorks old answer new
set_works path interface setting tab left target old new answer x = grind arith

-- Control transfers of a driver's own

read_works : (none : Bool) (request : Setup) (t : Target) (old : World)
    (answer : Result (Vec ℕ) PipeFault) (new : World) → ReadIf none request t old answer new
    → WorksAfter answer old new
read_works none request t old answer new x = grind arith

pub bytes_read_works : (request : Setup) (path : List ℕ) (tab : Table)
    (target : Result Target TransferFault) (old new : World) (answer : Result (Vec ℕ) TableFault)
    → TransferIf (ReadMade request) (ReadLeft request) path tab target old answer new
    → TableWorks old answer new
bytes_read_works request path tab target old new answer h = grind arith

pub bytes_written_works : (request : Setup) (bytes path : List ℕ) (tab : Table)
    (target : Result Target TransferFault) (old new : World) (answer : Result (Unit {0}) TableFault)
    → TransferIf (WriteMade request bytes) (WriteLeft request bytes) path tab target old answer new
    → TableWorks old answer new
bytes_written_works request bytes path tab target old new answer h = grind arith

-- A fault that is not the bus's

pub other_works : (n : ℕ) (why : PipeFault) (old new : World)
    → ((fault : BusFault) → why ≡ pipe.Bus fault → ⊥) → FaultAfter n old why new
    → StillWorks old new
other_works n why old new other ends = grind arith

-- What a host tells of a call of its table

module _ {A : Type 0} (answer : Result A TableFault) {a b : HostState} {result : Result A HostFault}
    (going : a.stopped ≡ false) (told : result ≡ host_told answer)
    (ends : b.stopped ≡ is_final result) where
  pub transfer_tells : {n : ℕ} {Did : HostState → Result A HostFault → HostState → Type 0}
      → b.entries ≡ a.entries → HostSteps n a b
      → IfErr answer (λ fault. TableFaultAllowed fault b.world) → TableWorks a.world answer b.world
      → Did a result b → TransferKeeps a b → TransferTells n Did a result b
  transfer_tells same went allowed works did keeps = grind arith

  -- it went through the pipes at a path
  pub moved_tells : {n : ℕ} {path : List ℕ}
      {Moved : Pipes → World → Result A TableFault → Pipes → World → Type 0}
      → Agrees a.options a.entries a.addresses → b.options ≡ a.options
      → GoesThrough path (table_in a) (table_in b) → LeavesWorking Moved
      → Transferred n Moved path (table_in a) a.world a.trace answer (table_in b) b.world b.trace
      → TransferTells n (λ old result new. old.stopped ≡ false
      → MovesThrough path Moved old result new) a result b
  moved_tells agrees width through works x = search (transfer_kept, transfer_tells)

-- the host had stopped
pub had_stopped : {P : Type 0} {view now : HostState} → view ≡ now → view.stopped ≡ true
    → now.stopped ≡ false → P
had_stopped same stopped running = grind arith

pub stopped_tells : {A : Type 0} {most : ℕ}
    {Did : HostState → Result A HostFault → HostState → Type 0} {view now : HostState}
    → view ≡ now → view.stopped ≡ true → TransferTells {A = A} most (λ old result new.
    old.stopped ≡ false → Did old result new) now (Err host.Stopped) now
stopped_tells {most = most} {now = now} same stopped = record {
  stopped = grind arith;
  went = (host_goes_none {n = most} {h = now}).went;
  told = tt;
  works = λ sound none. none;
  did = had_stopped same stopped;
  keeps = transfer_none now;
}

-- Over any bus

-- where the pipes at the path of a call stay, all do
pipes_stay : (path : List ℕ) (old new : Table) → GoesThrough path old new
    → pipes_at path new ≡ pipes_at path old → (x : List ℕ) → pipes_at x new ≡ pipes_at x old
pipes_stay path old new goes same x = elim (decided (is_at (path_cmp path) x)) [
  | inl tie ↦ rw (path_tied path x tie) at same
  | inr apart ↦ goes.others x apart
]

pub stopped_any : {A : Type 0} {m : Bool} {most : ℕ} {h : HostState}
    → TransfersAnyBus {A = A} m most h (Err host.Stopped) h
stopped_any = grind arith

-- a host as it is seen, over a bus and a table of which nothing else changes
module _ {W : Type 0} {view now : HostState} (m : Bool) (world : W → World)
    (trace : W → Option (List ℕ)) (spent : W → ℕ) (failed : W → Option BusFault)
    (left : LeftStatuses) (same : view ≡ now) where
  abbrev over : W → Table → Bool → HostState
  over w t stopped = record view {
    world = world w;
    trace = trace w;
    counts = counts_of m (spent w) (failed w) left;
    entries = t.entries;
    pipes = t.pipes;
    stopped = stopped;
  }

  module _ {A : Type 0} (bus after : W) (answer : Result A TableFault)
      {result : Result A HostFault} {before ends : Bool} (is : result ≡ host_told answer)
      (going : before ≡ false) (final : ends ≡ is_final result) where
    -- what the bus counts and reports, the host does
    calls_any : {k : ℕ} (old new : Table) → new.entries ≡ old.entries
        → spent after ≤ spent bus + k → TransferTold answer (failed after)
        → TransfersAnyBus m k (over bus old before) result (over after new ends)
    calls_any old new kept most told = grind arith

    -- a control transfer without a target is not tried
    pub controls_any : {target : Result Target TransferFault} (request : Setup) (t : Table)
        → spent after ≤ spent bus + control_most request.length
        → TransferTold answer (failed after) → MadeOrRefused target bus answer after
        → ControlsAnyBus m target request (over bus t before) result (over after t ends)
    controls_any request t most told x = grind arith

    module _ {path : List ℕ} {old new : Table} (goes : GoesThrough path old new) where
      pub transfers_any : {k : ℕ} → spent after ≤ spent bus + k
          → TransferTold answer (failed after)
          → TransfersAnyBus m k (over bus old before) result (over after new ends)
      transfers_any most told = search calls_any

      -- where a call at a path is refused, nothing is tried
      pub refused : {fault : TransferFault} → answer ≡ Err (table.Transfer fault) → after ≡ bus
          → pipes_at path new ≡ pipes_at path old
          → (result ≡ Err (host.Transfer fault))
          × NothingTried (over bus old before) (over after new ends)
      refused said stays pipes = grind (arith, pipes_stay)

      pub moves_any : {k : ℕ} {asked : Result PipeState TransferFault}
          → spent after ≤ spent bus + k → TransferTold answer (failed after)
          → MovedOrRefused asked (pipes_at path old) bus answer (pipes_at path new) after
          → MovesAnyBus m k asked (over bus old before) result (over after new ends)
      moves_any most told x = grind (arith, refused)

-- so it is of an interface that is set
pub sets_or_refuses : {W : Type 0} (path : List ℕ) (interface setting : ℕ) {bus after : W}
    {a b : HostState} (answer : Result (Unit {0}) TableFault) {result : Result (Unit {0}) HostFault}
    → result ≡ host_told answer → ((fault : TransferFault) → answer ≡ Err (table.Transfer fault)
    → after ≡ bus → pipes_at path (table_in b) ≡ pipes_at path (table_in a)
    → (result ≡ Err (host.Transfer fault)) × NothingTried a b)
    → (asked : Result Target TransferFault)
    → SetOrRefused asked (pipes_set (accepted_device_at path a.entries) (is_below_hub path)
    interface setting) (pipes_at path (table_in a)) bus answer (pipes_at path (table_in b)) after
    → SetsOrRefuses path interface setting asked a result b
sets_or_refuses path interface setting answer is refuses asked x = grind arith

-- a packet that came is no longer than the maximum of its pipe
pub fits_told : (pipe : Option PipeState) (answer : Result (Option (ArrayVec ℕ)) TableFault)
    → IfOk answer (λ got. IfSome got (λ packet. IfSome pipe (λ p. length packet.items ≤ p.max)))
    → FitsPipe pipe (host_told answer)
fits_told pipe answer fits = grind arith
