-- Interrupt pipes.
use Rattle.std.specs.Prelude.{◌≡◌, ◌≢◌, ℕ, ◌≤◌, length, Option, Some, None, Result, Ok, Err, IfOk}
use Rattle.std.specs.Prelude.{IfSome, MatchResult}
use Rattle.arrayvec.specs.ArrayVec.{ArrayVec}
use Rattle.usb_packet.specs.{Toggle, Zero}
use Rattle.usb_world.specs.{World}
use Rattle.usb_transfer.specs.declared.target.Target.{Target}
use Rattle.usb_transfer.specs.HeardOutcomes.{toggle_after}
use Rattle.usb_transfer.specs.Transactions.{AttemptsMade, in_attempt}
use Rattle.usb_transfer.specs.AttemptLogs.{Polled}
use Rattle.usb_transfer.specs.declared.trans_fault.TransFault.{TransFault}
use Rattle.usb_transfer.specs.declared.fault.PipeFault.{PipeFault}
use Rattle.usb_transfer.specs.declared.fault.PipeFault.TheVariants.{Memory}
use Rattle.usb_transfer.specs.Control.{FaultAfter, as_pipe_fault}

pub record Interrupt : Type 0 where
  pub target : Target  -- with the endpoint's maximum
  pub ep : ℕ
  pub toggle : Toggle  -- of the next packet

-- the pipe as it was made
abbrev pub interrupt_made : Interrupt → Interrupt
interrupt_made pipe = record pipe { toggle = Zero }

-- a poll failed, and the transaction of its IN with it
pub record NoPoll (pipe : Interrupt) (old : World) (why : PipeFault) (new : World) : Type 0 where
  pub fault : TransFault
  pub told : why ≡ as_pipe_fault fault
  pub polled : Polled pipe.toggle (in_attempt pipe.target pipe.ep) old (Err fault) new

-- what the attempts of a poll were, all INs of the endpoint, and what was heard of them
abbrev pub PollAsked : Interrupt → World → Result (Option (ArrayVec ℕ)) PipeFault → World → Type 0
PollAsked pipe old (Ok None) new = Polled pipe.toggle (in_attempt pipe.target pipe.ep) old (Ok None)
    new
PollAsked pipe old (Ok (Some packet)) new = Polled pipe.toggle (in_attempt pipe.target pipe.ep) old
    (Ok (Some packet.items)) new
PollAsked pipe old (Err why) new = NoPoll pipe old why new

-- what a poll answers and leaves
pub record Polls (pipe : Interrupt) (old : World) (result : Result (Option (ArrayVec ℕ)) PipeFault)
    (left : Interrupt) (new : World) : Type 0 where
  pub ends : MatchResult result (λ _. AttemptsMade 1 old new) (λ fault. FaultAfter 0 old fault new)
  pub asked : PollAsked pipe old result new
  pub room : result ≢ Err Memory
  pub most : IfOk result (λ got. IfSome got (λ packet. length packet.items ≤ pipe.target.max))
  pub pipe_left : left ≡ record pipe { toggle = toggle_after pipe.toggle result }
