-- What transfers to the device at a path leave of the devices (5.7, 5.8).
use Rattle.std.specs.Prelude.{◌≡◌, ◌≢◌, ◌⊎◌, ℕ, ◌==◌, List, [], ◌++◌}
use Rattle.std.specs.Prelude.{Bool, true, is_ok}
use Rattle.std.specs.Prelude.{false, Option, Some, None, Result, Ok, Err, IsSome}
use Rattle.std.specs.Global.{Vec}
use Rattle.arrayvec.specs.ArrayVec.{ArrayVec}
use Rattle.usb_device.specs.{EndpointState, rested, OnlySink, OnlySource, State, reach, Location}
use Rattle.usb_device.specs.{path_to, in_end, out_end, next_packet, NothingMoved}
use Rattle.usb_world.specs.{EachWas, World}
use Rattle.usb_transfer.specs.{PipeState, cleared, InPipeInSync, FrontTaken, GaveNext, GavePackets}
use Rattle.usb_transfer.specs.{needs_clear, report_in}
use Rattle.usb_enum.specs.{Accepted}
use Rattle.usb_table.specs.declared.choice.EndpointChoice.{EndpointChoice}
use Rattle.usb_table.specs.declared.fault.TableFault.{TableFault}
use Rattle.usb_table.specs.declared.function_pipes.FunctionPipes.{FunctionPipes}
use Rattle.usb_table.specs.declared.pipes.Pipes.{Pipes}
use Rattle.usb_table.specs.Findings.{accepted_device_at}
use Rattle.usb_table.specs.Levels.{FitsIn, PipesInSyncIf}
use Rattle.usb_table.specs.PipeRows.{first_pipe, polls_through, receives_through}
use Rattle.usb_table.specs.PipeRows.{sends_through, through, way_to}
use Rattle.usb_table.specs.Tables.{Table, pipes_at}

-- The device at the path

-- what the endpoint of a pipe has taken since the plug; nothing where there is no pipe
abbrev pub sink_of : Option PipeState → State → List ℕ
sink_of None s = []
sink_of (Some pipe) s = (out_end s pipe.ep).sink

-- these bytes joined what had been taken, each once and in order; where the transfer failed, a
-- front of them
abbrev pub JoinsSink : Bool → List ℕ → List ℕ → List ℕ → Type 0
JoinsSink true bytes before after = after ≡ before ++ bytes
JoinsSink false bytes before after = FrontTaken bytes before after

-- of a device nothing changed but the endpoint of a pipe
abbrev pub OnlySinkOf : Option PipeState → State → State → Type 0
OnlySinkOf None s v = v ≡ s
OnlySinkOf (Some pipe) s v = OnlySink pipe.ep s v

-- bytes joined what the endpoint of a pipe had taken, and nothing else of the device changed
pub record TookBytes (pipe : Option PipeState) (done : Bool) (bytes : List ℕ) (s v : State) : Type 0
  where
    pub joins : JoinsSink done bytes (sink_of pipe s) (sink_of pipe v)
    pub rest : OnlySinkOf pipe s v

-- through a pipe that had got what stands before some place these bytes came, which are the next
-- packets; the pipe that is left has got them too, and nothing else of the device changed
pub record GaveBytes (bytes : List ℕ) (pipe left : PipeState) (s v : State) : Type 0 where
  pub had : FitsIn (Some pipe) s
  pub next : (got : ℕ) → InPipeInSync pipe got s → GaveNext pipe got bytes left s v
  pub rest : OnlySource pipe.ep s v

-- the bytes that came with an answer
abbrev pub bytes_in : {E : Type 0} → Result (Vec ℕ) E → List ℕ
bytes_in (Ok bytes) = bytes.items
bytes_in (Err fault) = []

-- without a pipe it gave none
abbrev pub GaveBy : List ℕ → Option PipeState → Option PipeState → State → State → Type 0
GaveBy bytes None left s v = (bytes ≡ []) × (v ≡ s)
GaveBy bytes (Some pipe) None s v = ⊥
GaveBy bytes (Some pipe) (Some left) s v = GaveBytes bytes pipe left s v

-- the packet that a poll was told was given through a pipe that had got what stands before some
-- place, and is the next one; the pipe that is left has got it too, and nothing else of the device
-- changed. Where none was told of an endpoint that does not hesitate, it has none left
pub record GaveReport (result : Result (Option (ArrayVec ℕ)) TableFault) (pipe left : PipeState)
    (s v : State) : Type 0 where
  pub had : FitsIn (Some pipe) s
  pub next : (got : ℕ) → InPipeInSync pipe got s
      → GavePackets pipe got (report_in result) left s v
  pub none : (in_end s pipe.ep).pace.naks ≡ 0 → (in_end s pipe.ep).pace.each ≡ 0
      → result ≡ Ok None
      → next_packet v pipe.ep pipe.max (in_end v pipe.ep).place ≡ None
  pub rest : OnlySource pipe.ep s v

-- without a pipe none was told
abbrev pub ReportedBy : Result (Option (ArrayVec ℕ)) TableFault → Option PipeState
    → Option PipeState → State → State → Type 0
ReportedBy result None left s v = (report_in result ≡ []) × (v ≡ s)
ReportedBy result (Some pipe) None s v = ⊥
ReportedBy result (Some pipe) (Some left) s v = GaveReport result pipe left s v

-- the halt of a pipe was cleared: where no request is sent the pipe and its endpoint stay; where
-- one is done, both ends begin again together; where it failed, the endpoint is as it was or has
-- begun again
pub record HaltCleared (is_sent done : Bool) (pipe left : PipeState) (before after : EndpointState)
    : Type 0 where
  pub works : is_sent ≡ false → (left ≡ pipe) × (after ≡ before)
  pub begun : done ≡ true → is_sent ≡ true → (left ≡ cleared pipe (Ok tt)) × (after ≡ rested)
  pub either : (after ≡ before) ⊎ (after ≡ rested)

-- each other endpoint stays, and all where there is no pipe
abbrev pub HaltClearedBy : (PipeState → Bool) → Bool → Option PipeState → Option PipeState
    → (ℕ → EndpointState) → (ℕ → EndpointState) → Type 0
HaltClearedBy is_sent done None left before after = (e : ℕ) → after e ≡ before e
HaltClearedBy is_sent done (Some pipe) None before after = ⊥
HaltClearedBy is_sent done (Some pipe) (Some left) before after =
    HaltCleared (is_sent pipe) done pipe left (before pipe.ep) (after pipe.ep)
    × ((e : ℕ) → (e == pipe.ep) ≡ false → after e ≡ before e)

-- so it is of a pipe of each direction, and no byte moved; the pipes that are left, to the device
-- that was found, are as far as their endpoints
pub record EndsCleared (is_sent : PipeState → Bool) (done : Bool)
    (pick : Bool → FunctionPipes → Option PipeState) (found : Option Accepted)
    (pipes left : Pipes) (s v : State) : Type 0
  where
    pub moved : NothingMoved s v
    pub out : HaltClearedBy is_sent done (through (pick false) pipes) (through (pick false) left)
        (λ e. (out_end s e).state) (λ e. (out_end v e).state)
    pub into : HaltClearedBy is_sent done (through (pick true) pipes) (through (pick true) left)
        (λ e. (in_end s e).state) (λ e. (in_end v e).state)
    pub level : PipesInSyncIf found left v

-- of the pipes to both first bulk endpoints, where they do not work
abbrev pub HaltsCleared : Bool → Option Accepted → Pipes → Pipes → State → State → Type 0
HaltsCleared done = EndsCleared needs_clear done first_pipe

-- of the pipe to the endpoint with an address, whatever it saw
abbrev pub HaltClearedOf : ℕ → Bool → Option Accepted → Pipes → Pipes → State → State → Type 0
HaltClearedOf endpoint done = EndsCleared (λ pipe. true) done (λ is_in. way_to is_in endpoint)

-- All devices

-- so it is of the one at the path, and any other is as it was
pub record ChangesAt (path : List ℕ) (So : State → State → Type 0) (x : Location) (s v : State) :
    Type 0 where
  pub itself : path ≡ path_to x → So s v
  pub others : path ≢ path_to x → v ≡ s

-- each that is reached was reached before; a transfer did so much to the one at the path, and is
-- done only where a device is known there
pub record TransfersAt (path : List ℕ) (done : Bool) (So : State → State → Type 0) (old : Table)
    (before after : World) : Type 0 where
  pub each : EachWas (ChangesAt path So) before after
  pub known : done ≡ true → IsSome (accepted_device_at path old.entries)

-- bytes were sent to the path: the device there took them, and where some are told done, one is
-- reached there
pub record Delivered (path : List ℕ) (choice : EndpointChoice) (done : Bool) (bytes : List ℕ)
    (old : Table) (before : World) (new : Table) (after : World) : Type 0 where
  pub took : TransfersAt path done
      (TookBytes (through (sends_through choice) (pipes_at path old)) done bytes) old before after
  pub there : done ≡ true → bytes ≢ [] → reach after.roots path ≡ true

-- so many packets were asked for, and these bytes came: the device there gave them, and where some
-- packets are told done, one is reached there
pub record Collected (path : List ℕ) (choice : EndpointChoice) (done : Bool) (packets : ℕ)
    (bytes : List ℕ) (old : Table) (before : World) (new : Table) (after : World) : Type 0 where
  pub gave : TransfersAt path done
      (GaveBy bytes (through (receives_through choice) (pipes_at path old))
      (through (receives_through choice) (pipes_at path new))) old before after
  pub there : done ≡ true → packets ≢ 0 → reach after.roots path ≡ true

-- an endpoint was polled, by its address: the device there gave the packet that is told; where the
-- poll is done, one is reached there
pub record Reported (path : List ℕ) (endpoint : ℕ)
    (result : Result (Option (ArrayVec ℕ)) TableFault) (old : Table) (before : World) (new : Table)
    (after : World) : Type 0 where
  pub gave : TransfersAt path (is_ok result)
      (ReportedBy result (through (polls_through endpoint) (pipes_at path old))
      (through (polls_through endpoint) (pipes_at path new))) old before after
  pub there : is_ok result ≡ true → reach after.roots path ≡ true

-- the halts of the device there were cleared
abbrev pub Restarted : List ℕ → Bool → Table → World → Table → World → Type 0
Restarted path done old before new after =
    TransfersAt path done (HaltsCleared done (accepted_device_at path old.entries)
    (pipes_at path old) (pipes_at path new)) old before after

-- that of one endpoint was, by its address
abbrev pub RestartedOf : List ℕ → ℕ → Bool → Table → World → Table → World → Type 0
RestartedOf path endpoint done old before new after =
    TransfersAt path done (HaltClearedOf endpoint done (accepted_device_at path old.entries)
    (pipes_at path old) (pipes_at path new)) old before after
