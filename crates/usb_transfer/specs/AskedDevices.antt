-- What an answer of a transaction says of the device that was asked: the one that holds the
-- target's address.
use Rattle.std.specs.Prelude.{◌≡◌, ◌≢◌, ◌⊎◌, ℕ, List, None, Some, true, false}
use Rattle.usb_packet.specs.{Toggle}
use Rattle.usb_request.specs.{setup_of}
use Rattle.usb_device.specs.{Answer, accepted, row_of, reach_on, state_on}
use Rattle.usb_world.specs.{Attempt, Outcome, HolderIn, hears_attempt, in_alone, out_alone, World}
use Rattle.usb_world.specs.{at_attempt, damage_in, Step, attempt, root_call, event, report, after}
use Rattle.usb_world.specs.{deep_at}
use Rattle.usb_transfer.specs.declared.target.Target.{Target}
use Rattle.usb_transfer.specs.AttemptLogs.{AttemptLog}
use Rattle.usb_transfer.specs.Transactions.{setup_attempt, in_attempt, out_attempt}

-- the last attempt of a transaction, and the one device that held its address then: it is not
-- silent
pub record AskedLast (a : Attempt) (old new : World) : Type 0 where
  pub outcomes : List Outcome
  pub mid : World
  pub before : AttemptLog a old outcomes mid
  pub last : new ≡ after (attempt a) mid
  pub holder : HolderIn a mid
  pub loud : holder.own.spec.silent ≡ false

-- the device accepted the setup data, and is still reachable
pub record SetupAccepted (t : Target) (bytes : List ℕ) (old new : World) : Type 0 where
  pub asked : AskedLast (setup_attempt t bytes) old new
  pub on : reach_on new.roots asked.holder.spot ≡ true
  pub state : state_on new.roots asked.holder.spot
      ≡ Some (accepted asked.holder.own (row_of asked.holder.below) (setup_of bytes))

-- the device gave this answer to IN, and is what its row says, still reachable
pub record Answered (t : Target) (ep : ℕ) (got : Answer) (old new : World) : Type 0 where
  pub asked : AskedLast (in_attempt t ep) old new
  pub gave : (in_alone (in_attempt t ep) (damage_in (at_attempt asked.mid))
      (at_attempt asked.mid).roots (deep_at false asked.holder.spot.rest) asked.holder.own
      (row_of asked.holder.below)).0 ≡ Some got
  pub on : reach_on new.roots asked.holder.spot ≡ true
  pub state : state_on new.roots asked.holder.spot
      ≡ Some (in_alone (in_attempt t ep) (damage_in (at_attempt asked.mid))
      (at_attempt asked.mid).roots (deep_at false asked.holder.spot.rest) asked.holder.own
      (row_of asked.holder.below)).1

-- the device gave this answer to OUT with these data, and is what its row says, still reachable
pub record Took (t : Target) (ep : ℕ) (toggle : Toggle) (bytes : List ℕ) (got : Answer)
    (old new : World) : Type 0 where
  pub asked : AskedLast (out_attempt t ep toggle bytes) old new
  pub gave : (out_alone (out_attempt t ep toggle bytes) (damage_in (at_attempt asked.mid))
      (at_attempt asked.mid).roots (deep_at false asked.holder.spot.rest) asked.holder.own toggle
      bytes).0 ≡ Some got
  pub on : reach_on new.roots asked.holder.spot ≡ true
  pub state : state_on new.roots asked.holder.spot
      ≡ Some (out_alone (out_attempt t ep toggle bytes) (damage_in (at_attempt asked.mid))
      (at_attempt asked.mid).roots (deep_at false asked.holder.spot.rest) asked.holder.own toggle
      bytes).1

-- why an attempt of setup data is not answered by ACK: whoever holds its address is silent or does
-- not hear it, or the attempt is damaged
abbrev pub IsUnheard : Step → World → Type 0
IsUnheard (attempt a) w = (h : HolderIn a w) → (h.own.spec.silent ≡ true)
    ⊎ (hears_attempt a (deep_at false h.spot.rest) h.own ≡ false) ⊎ (damage_in w ≢ None)
IsUnheard (root_call c n) w = ⊥
IsUnheard event w = ⊥
IsUnheard (report line) w = ⊥
