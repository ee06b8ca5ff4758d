-- What the packets of a bulk transfer tell (5.8.3).
use Rattle.std.specs.Prelude.{◌≡◌, ◌≢◌, ℕ, ◌*◌, ◌≤◌, List, length, Result, Err, OnOk, IfOk}
use Rattle.std.specs.Prelude.{MatchResult}
use Rattle.std.specs.Global.{Vec}
use Rattle.std.specs.Int.{div_ceil}
use Rattle.usb_packet.specs.{Toggle, flips}
use Rattle.usb_world.specs.{World}
use Rattle.usb_transfer.specs.declared.target.Target.{Target}
use Rattle.usb_transfer.specs.Transactions.{AttemptsMade}
use Rattle.usb_transfer.specs.declared.fault.PipeFault.{PipeFault}
use Rattle.usb_transfer.specs.declared.fault.PipeFault.TheVariants.{Stalled, Memory}
use Rattle.usb_transfer.specs.EndpointPipes.{packets_of, Turned}
use Rattle.usb_transfer.specs.Control.{FaultAfter}
use Rattle.usb_transfer.specs.Moves.{SendEnds, packets_gone, ReceiveEnds, packets_came}

-- some bytes were sent, each packet but the last of the maximum
pub record PacketsSent (t : Target) (ep : ℕ) (first : Toggle) (bytes : List ℕ) (old : World)
    (result : Result (Unit {0}) PipeFault) (toggle : Toggle) (new : World) : Type 0 where
  pub ends : MatchResult result (λ _. AttemptsMade (div_ceil (length bytes) t.max) old new)
      (λ fault. FaultAfter 0 old fault new)
  pub moves : SendEnds t ep first bytes old result new
  pub behind : toggle ≡ flips (packets_gone t ep first bytes old result new moves) first
  pub room : result ≢ Err Memory
  pub turned : OnOk result (toggle ≡ flips (div_ceil (length bytes) t.max) first)
  pub halted : result ≡ Err Stalled → Turned (div_ceil (length bytes) t.max) first toggle

-- so many packets were received, or fewer up to a short one
pub record PacketsReceived (t : Target) (ep : ℕ) (first : Toggle) (wanted : ℕ) (old : World)
    (result : Result (Vec ℕ) PipeFault) (toggle : Toggle) (new : World) : Type 0 where
  pub ends : MatchResult result (λ bytes. AttemptsMade
      (packets_of (length bytes.items) t.max wanted) old new)
      (λ fault. FaultAfter 0 old fault new)
  pub moves : ReceiveEnds t ep first wanted old result new
  pub behind : toggle ≡ flips (packets_came t ep first wanted old result new moves) first
  pub most : IfOk result (λ bytes. length bytes.items ≤ wanted * t.max)
  pub turned : IfOk result (λ bytes. toggle ≡ flips (packets_of (length bytes.items) t.max wanted)
      first)
  pub halted : result ≡ Err Stalled → Turned wanted first toggle
