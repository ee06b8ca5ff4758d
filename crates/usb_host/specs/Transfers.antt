-- What a transfer to the device at a path moved.
use Rattle.std.specs.Prelude.{◌≡◌, ℕ, ◌≤◌, List, length, false, Option, IfSome, Result, Ok, Err}
use Rattle.std.specs.Prelude.{IfOk}
use Rattle.std.specs.Global.{Vec}
use Rattle.arrayvec.specs.ArrayVec.{ArrayVec}
use Rattle.usb_world.specs.{World}
use Rattle.usb_transfer.specs.{PipeFault, PipeState}
use Rattle.usb_table.specs.{EndpointChoice, TableFault, TransferFault, FunctionPipes, Pipes, Table}
use Rattle.usb_table.specs.{GoesThrough, pipes_at, KeepsMoved, asked_through, table_answer}
use Rattle.usb_table.specs.{PipesSent, PipesReceived, PipesReported, PipesCleared, PipesClearedOf}
use Rattle.usb_host.specs.declared.fault.HostFault.{HostFault}
use Rattle.usb_host.specs.declared.fault.HostFault.TheVariants.{Transfer}
use Rattle.usb_host.specs.HostStates.{HostState}
use Rattle.usb_host.specs.ToldFaults.{host_told}

-- what the host knows of the ports
abbrev pub table_in : HostState → Table
table_in h = record { entries = h.entries; pipes = h.pipes }

-- Over any bus

-- the pipe to the device at the path that a call goes through, or why there is none
abbrev pub pipe_for : (FunctionPipes → Option PipeState) → (FunctionPipes → TransferFault) → List ℕ
    → HostState → Result PipeState TransferFault
pipe_for pick miss path h = asked_through pick miss (pipes_at path (table_in h))

-- nothing was attempted, and each pipe is as it was
pub record NothingTried (old new : HostState) : Type 0 where
  pub others : new ≡ record old { pipes = new.pipes }
  pub pipes : (path : List ℕ) → pipes_at path (table_in new) ≡ pipes_at path (table_in old)

-- where no pipe takes the call, this is told, and nothing is tried; else the answer is the pipe's
-- own
abbrev pub MovesOrRefuses : {A : Type 0} → Result PipeState TransferFault → HostState
    → Result A HostFault → HostState → Type 0
MovesOrRefuses {A} (Ok pipe) old result new =
    (answer : Result A PipeFault) × (result ≡ host_told (table_answer answer))
MovesOrRefuses (Err fault) old result new =
    (result ≡ Err (Transfer fault)) × NothingTried old new

-- a packet that came is no longer than the maximum of the pipe that it came through
abbrev pub FitsPipe : Option PipeState → Result (Option (ArrayVec ℕ)) HostFault → Type 0
FitsPipe through result = IfOk result (λ got. IfSome got (λ packet.
    IfSome through (λ pipe. length packet.items ≤ pipe.max)))

-- Over a bus that does what its world does

-- bytes moved through the pipes at the path, as the table says, and its answer is the host's
pub record MovesThrough {A : Type 0} (path : List ℕ) (moved : Pipes → World → Result A TableFault
    → Pipes → World → Type 0) (old : HostState) (result : Result A HostFault) (new : HostState) :
    Type 0 where
  pub answer : Result A TableFault
  pub told : result ≡ host_told answer
  pub through : GoesThrough path (table_in old) (table_in new)
  pub moves : moved (pipes_at path (table_in old)) old.world answer (pipes_at path (table_in new))
      new.world
  pub keeps : KeepsMoved path (table_in old) old.world (table_in new) new.world

-- these bytes were sent to an endpoint of the device at the path, unless the host had stopped
abbrev pub SentAt : List ℕ → EndpointChoice → List ℕ → HostState → Result (Unit {0}) HostFault
    → HostState → Type 0
SentAt path choice bytes old result new = old.stopped ≡ false
    → MovesThrough path (λ pipes. PipesSent choice pipes bytes) old result new

-- so many packets were received from one
abbrev pub ReceivedAt : List ℕ → EndpointChoice → ℕ → HostState → Result (Vec ℕ) HostFault
    → HostState → Type 0
ReceivedAt path choice packets old result new = old.stopped ≡ false
    → MovesThrough path (λ pipes. PipesReceived choice pipes packets) old result new

-- the interrupt IN endpoint of this address was asked once
abbrev pub ReportedAt : List ℕ → ℕ → HostState → Result (Option (ArrayVec ℕ)) HostFault → HostState
    → Type 0
ReportedAt path endpoint old result new = old.stopped ≡ false
    → MovesThrough path (PipesReported endpoint) old result new

-- the halts of its first bulk endpoints were cleared
abbrev pub ClearedAt : List ℕ → HostState → Result (Unit {0}) HostFault → HostState → Type 0
ClearedAt path old result new = old.stopped ≡ false → MovesThrough path PipesCleared old result new

-- the halt of the endpoint of this address was cleared
abbrev pub ClearedOfAt : List ℕ → ℕ → HostState → Result (Unit {0}) HostFault → HostState → Type 0
ClearedOfAt path endpoint old result new = old.stopped ≡ false
    → MovesThrough path (PipesClearedOf endpoint) old result new
