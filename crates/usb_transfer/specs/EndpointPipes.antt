-- Pipes to endpoints besides endpoint 0 (5.7, 5.8).
use Rattle.std.specs.Prelude.{◌≡◌, ◌≢◌, ℕ, ◌+◌, ◌*◌, ◌/◌, ◌<◌, ◌≤◌, min, List, [], length, Bool}
use Rattle.std.specs.Prelude.{true, false, not, if◌then◌else◌, Option, Result, Ok, Err, OnOk, IfOk}
use Rattle.std.specs.Prelude.{MatchResult}
use Rattle.arrayvec.specs.ArrayVec.{ArrayVec}
use Rattle.std.specs.Global.{Vec}
use Rattle.std.specs.Int.{div_ceil}
use Rattle.usb_packet.specs.{Toggle, Zero, flips}
use Rattle.usb_descriptor.specs.{EndpointKind}
use Rattle.usb_world.specs.{World, IsSettled}
use Rattle.usb_transfer.specs.declared.target.Target.{Target}
use Rattle.usb_transfer.specs.Transactions.{AttemptsMade}
use Rattle.usb_transfer.specs.declared.condition.Condition.{Condition}
use Rattle.usb_transfer.specs.declared.condition.Condition.TheVariants.{Ready, Halted, Broken}
use Rattle.usb_transfer.specs.declared.fault.PipeFault.{PipeFault}
use Rattle.usb_transfer.specs.declared.fault.PipeFault.TheVariants.{Stalled, Busy, NoAnswer, Bus}
use Rattle.usb_transfer.specs.declared.fault.PipeFault.TheVariants.{Memory}
use Rattle.usb_transfer.specs.declared.fault.PipeFault.TheVariants as fault
use Rattle.usb_request.specs.{DIRECTION_IN, clear_endpoint_halt}
use Rattle.usb_transfer.specs.Control.{FaultAfter}
use Rattle.usb_transfer.specs.Stages.{Writes}
use Rattle.usb_transfer.specs.End.{packet_target}
use Rattle.usb_transfer.specs.InterruptPipes.{Interrupt, Polls}
use Rattle.usb_transfer.specs.Moves.{SendEnds, packets_gone, ReceiveEnds, packets_came}

pub record PipeState : Type 0 where
  pub target : Target  -- with the maximum of endpoint 0
  pub ep : ℕ
  pub kind : EndpointKind
  pub max : ℕ
  pub is_in : Bool
  pub toggle : Toggle  -- of the next packet
  pub condition : Condition

-- the pipe as it was made
abbrev pub pipe_made : PipeState → PipeState
pipe_made pipe = record pipe { toggle = Zero; condition = Ready }

abbrev pub is_ready : Condition → Bool
is_ready Ready = true
is_ready Halted = false
is_ready Broken = false

abbrev pub is_broken : Condition → Bool
is_broken Ready = false
is_broken Halted = false
is_broken Broken = true

-- the address of an endpoint: IN 2 is 82 hex
abbrev pub halt_address : ℕ → Bool → ℕ
halt_address ep is_in = if is_in then DIRECTION_IN + ep else ep

-- the condition that a transfer leaves
abbrev pub after_fault : Condition → PipeFault → Condition
after_fault before Stalled = Halted
after_fault before Busy = Broken
after_fault before NoAnswer = Broken
after_fault before fault.Broken = before
after_fault before (Bus why) = before
after_fault before Memory = Broken

abbrev pub after_transfer : {A : Type 0} → Condition → Result A PipeFault → Condition
after_transfer before (Ok moved) = Ready
after_transfer before (Err why) = after_fault before why

-- the condition that a clear leaves where it fails: a stalled one changes nothing
abbrev pub after_failed_clear : Condition → PipeFault → Condition
after_failed_clear before Stalled = before
after_failed_clear before Busy = Broken
after_failed_clear before NoAnswer = Broken
after_failed_clear before fault.Broken = before
after_failed_clear before (Bus why) = before
after_failed_clear before Memory = Broken

-- the toggle is the one behind fewer than n packets
pub record Turned (n : ℕ) (first toggle : Toggle) : Type 0 where
  pub packets : ℕ
  pub few : packets < n
  pub turned : toggle ≡ flips packets first

-- in how many packets so many bytes came, where at most `wanted` were taken and a short one was the
-- last
abbrev pub packets_of : ℕ → ℕ → ℕ → ℕ
packets_of bytes max wanted = min wanted (bytes / max + 1)

-- a call that makes no attempt: the answer is given, and nothing changes
pub record Idle {A : Type 0} (given : Result A PipeFault) (pipe : PipeState) (old : World)
    (result : Result A PipeFault) (left : PipeState) (new : World) : Type 0 where
  pub answer : result ≡ given
  pub pipe_kept : left ≡ pipe
  pub world_kept : new ≡ old

-- these bytes were sent, in n packets; the toggle is the one behind those that were acknowledged,
-- however the transfer ended
pub record MovedOut (n : ℕ) (bytes : List ℕ) (pipe : PipeState) (old : World)
    (result : Result (Unit {0}) PipeFault) (left : PipeState) (new : World) : Type 0 where
  pub ends : MatchResult result (λ _. AttemptsMade n old new) (λ why. FaultAfter 0 old why new)
  pub went : SendEnds (packet_target pipe.target pipe.max) pipe.ep pipe.toggle bytes old result new
  pub behind : left.toggle ≡ flips (packets_gone (packet_target pipe.target pipe.max) pipe.ep
      pipe.toggle bytes old result new went) pipe.toggle
  pub settled : IsSettled old.roots
  pub room : result ≢ Err Memory
  pub pipe_left : left ≡ record pipe {
    toggle = left.toggle;
    condition =
        after_transfer pipe.condition result;
  }
  pub toggle : OnOk result (left.toggle ≡ flips n pipe.toggle)
  pub halted : result ≡ Err Stalled → Turned n pipe.toggle left.toggle

-- what sending answers and leaves
pub record Sends (bytes : List ℕ) (pipe : PipeState) (old : World)
    (result : Result (Unit {0}) PipeFault) (left : PipeState) (new : World) : Type 0 where
  pub broken : pipe.condition ≡ Broken → Idle (Err fault.Broken) pipe old result left new
  pub nothing : pipe.condition ≢ Broken → bytes ≡ [] → Idle (Ok tt) pipe old result left new
  pub moved : pipe.condition ≢ Broken → bytes ≢ []
      → MovedOut (div_ceil (length bytes) pipe.max) bytes pipe old result left new

-- at most `wanted` packets were received; the toggle is the one behind those that came, however the
-- transfer ended
pub record MovedIn (wanted : ℕ) (pipe : PipeState) (old : World) (result : Result (Vec ℕ) PipeFault)
    (left : PipeState) (new : World) : Type 0 where
  pub ends : MatchResult result (λ bytes. AttemptsMade
      (packets_of (length bytes.items) pipe.max wanted) old new) (λ why. FaultAfter 0 old why new)
  pub came : ReceiveEnds (packet_target pipe.target pipe.max) pipe.ep pipe.toggle wanted old result
      new
  pub behind : left.toggle ≡ flips (packets_came (packet_target pipe.target pipe.max) pipe.ep
      pipe.toggle wanted old result new came) pipe.toggle
  pub settled : IsSettled old.roots
  pub most : IfOk result (λ bytes. length bytes.items ≤ wanted * pipe.max)
  pub pipe_left : left ≡ record pipe {
    toggle = left.toggle;
    condition =
        after_transfer pipe.condition result;
  }
  pub toggle : IfOk result (λ bytes. left.toggle
      ≡ flips (packets_of (length bytes.items) pipe.max wanted) pipe.toggle)
  pub halted : result ≡ Err Stalled → Turned wanted pipe.toggle left.toggle

-- what receiving answers and leaves
pub record Receives (wanted : ℕ) (pipe : PipeState) (old : World)
    (result : Result (Vec ℕ) PipeFault) (left : PipeState) (new : World) : Type 0 where
  pub broken : pipe.condition ≡ Broken → (result ≡ Err fault.Broken) × (left ≡ pipe) × (new ≡ old)
  pub nothing : pipe.condition ≢ Broken → wanted ≡ 0
      → MatchResult result (λ bytes. bytes.items ≡ []) (λ _. ⊥) × (left ≡ pipe) × (new ≡ old)
  pub moved : pipe.condition ≢ Broken → wanted ≢ 0 → MovedIn wanted pipe old result left new

-- what a clear leaves of a pipe
abbrev pub cleared : PipeState → Result (Unit {0}) PipeFault → PipeState
cleared pipe (Ok done) = record pipe { toggle = Zero; condition = Ready }
cleared pipe (Err why) = record pipe { condition = after_failed_clear pipe.condition why }

-- CLEAR_FEATURE(ENDPOINT_HALT) was sent
pub record Cleared (pipe : PipeState) (old : World) (result : Result (Unit {0}) PipeFault)
    (left : PipeState) (new : World) : Type 0 where
  pub ends : MatchResult result (λ _. AttemptsMade 2 old new) (λ why. FaultAfter 1 old why new)
  pub stages : Writes pipe.target (clear_endpoint_halt (halt_address pipe.ep pipe.is_in)) old result
      new
  pub settled : IsSettled old.roots
  pub room : result ≢ Err Memory
  pub pipe_left : left ≡ cleared pipe result

-- a pipe that works is not cleared where that is not asked for
abbrev pub needs_clear : PipeState → Bool
needs_clear pipe = not (is_ready pipe.condition)

-- what clearing answers and leaves, where the request was sent and where it was not
pub record Clears (is_sent : Bool) (pipe : PipeState) (old : World)
    (result : Result (Unit {0}) PipeFault) (left : PipeState) (new : World) : Type 0 where
  pub ready : is_sent ≡ false → Idle (Ok tt) pipe old result left new
  pub sent : is_sent ≡ true → Cleared pipe old result left new

-- the pipe as one that is polled, with the endpoint's own maximum
abbrev pub polled_pipe : PipeState → Interrupt
polled_pipe pipe = record {
  target = packet_target pipe.target pipe.max;
  ep = pipe.ep;
  toggle = pipe.toggle;
}

-- the endpoint was asked once; whatever the answer is, nothing of the pipe but its toggle changes
pub record PollsOnce (pipe : PipeState) (old : World)
    (result : Result (Option (ArrayVec ℕ)) PipeFault) (left : PipeState) (new : World) : Type 0
  where
    pub settled : IsSettled old.roots
    pub polls : Polls (polled_pipe pipe) old result (polled_pipe left) new
    pub pipe_left : left ≡ record pipe { toggle = left.toggle }

-- what polling answers and leaves
pub record PipePolls (pipe : PipeState) (old : World)
    (result : Result (Option (ArrayVec ℕ)) PipeFault) (left : PipeState) (new : World) : Type 0
  where
    pub broken : pipe.condition ≡ Broken → Idle (Err fault.Broken) pipe old result left new
    pub asked : pipe.condition ≢ Broken → PollsOnce pipe old result left new
