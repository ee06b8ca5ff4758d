-- Address losses over a transaction: a device that was to take an address at the host's ACK of its
-- status stage did not see it (9.4.6).
use Rattle.usb_device.specs.{Location, Is, State, ending}
use Rattle.std.specs.Prelude.{◌≡◌, ◌≢◌, ◌==◌, ◌&&◌, not, ℕ, Bool, true, List, Some, Result, Ok, Err}
use Rattle.usb_request.specs.{PORT_OUT, CLEAR_FEATURE, C_PORT_CONNECTION, Setup}
pub use Rattle.usb_world.specs.Losses.{TookOrLost, took, lost}
use Rattle.usb_world.specs.{World}
use Rattle.usb_transfer.specs.declared.target.Target.{Target}
use Rattle.usb_transfer.specs.declared.trans_fault.TransFault.{TransFault}
use Rattle.usb_transfer.specs.TransactionLeaves.{is_at}

-- the request clears no change of connection (11.24.2.2), at which the losses of another stretch
-- begin
abbrev pub begins_no_stretch : Setup → Bool
begins_no_stretch r = not (Is r PORT_OUT CLEAR_FEATURE && r.value == C_PORT_CONNECTION)

-- IN of endpoint 0: a device that is to take no address loses none
abbrev pub LosesNone : Target → World → World → Location → State → State → Type 0
LosesNone t old new x s v = is_at s t ≡ true → ((a : ℕ) → s.stage ≢ ending (Some a))
    → new.losses ≡ old.losses

-- IN of endpoint 0, by a host that awaits a status stage: a loss is counted exactly where it is
-- done and the device has not taken its address
pub record LossesIn (t : Target) (result : Result (List ℕ) TransFault) (old new : World)
    (x : Location) (s v : State) : Type 0 where
  pub done : is_at s t ≡ true → (a : ℕ) → s.stage ≡ ending (Some a) → (bytes : List ℕ)
      → result ≡ Ok bytes → TookOrLost a old new s v
  pub failed : is_at s t ≡ true → (a : ℕ) → s.stage ≡ ending (Some a) → (fault : TransFault)
      → result ≡ Err fault → new.losses ≡ old.losses
  pub none : LosesNone t old new x s v
