-- Who answered.
use Rattle.std.specs.Prelude.{◌≡◌, Some, true, ⊤}
use Rattle.usb_device.specs.{State, Location, reach_on, state_on}
use Rattle.usb_world.specs.{World}
use Rattle.usb_transfer.specs.declared.target.Target.{Target}
use Rattle.usb_transfer.specs.declared.trans_fault.TransFault.{TransFault}
use Rattle.usb_transfer.specs.declared.trans_fault.TransFault.TheVariants.{Stalled, Busy, NoAnswer}
use Rattle.usb_transfer.specs.declared.trans_fault.TransFault.TheVariants.{Bus}
use Rattle.usb_transfer.specs.TransactionLeaves.{is_at}

-- a device that is reachable now, and was before: then the target's address was its own
pub record Answerer (t : Target) (old new : World) : Type 0 where
  pub spot : Location
  pub now : State
  pub on : reach_on new.roots spot ≡ true
  pub stands : state_on new.roots spot ≡ Some now
  pub before : State
  pub was_on : reach_on old.roots spot ≡ true
  pub stood : state_on old.roots spot ≡ Some before
  pub at : is_at before t ≡ true

-- some reachable device has the target's address
pub record HadOne (t : Target) (w : World) : Type 0 where
  pub spot : Location
  pub state : State
  pub on : reach_on w.roots spot ≡ true
  pub stands : state_on w.roots spot ≡ Some state
  pub at : is_at state t ≡ true

-- a fault that only the answers of a device make: STALL, or too many NAKs and repeats
abbrev pub IsAnswer : TransFault → Type 0
IsAnswer Stalled = ⊤
IsAnswer Busy = ⊤
IsAnswer NoAnswer = ⊥
IsAnswer (Bus fault) = ⊥
