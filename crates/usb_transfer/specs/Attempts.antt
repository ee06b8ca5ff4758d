-- Which attempts a transfer made, as a course of the world.
use Rattle.std.specs.Prelude.{◌≡◌, ◌⊎◌, Result, Err}
use Rattle.usb_request.specs.{Setup, bytes_of}
use Rattle.usb_world.specs.{BusFault, World, Step, attempt, Course}
use Rattle.usb_transfer.specs.declared.target.Target.{Target}
use Rattle.usb_transfer.specs.MadeAttempts.{GivenUp}
use Rattle.usb_transfer.specs.Transactions.{setup_attempt}
use Rattle.usb_transfer.specs.declared.fault.PipeFault.{PipeFault}
use Rattle.usb_transfer.specs.declared.fault.PipeFault.TheVariants.{Bus}
use Rattle.usb_transfer.specs.Leaves.{IsNoBusFault, IsBehind, IsBehindData}

-- an attempt of a control transfer: a SETUP of just the request's bytes, or one behind it
abbrev pub IsOfTransfer : Target → Setup → Step → World → Type 0
IsOfTransfer t request s w = (s ≡ attempt (setup_attempt t (bytes_of request))) ⊎ IsBehind t s w

-- an attempt of one with data to the device
abbrev pub IsOfDataWrite : Target → Setup → Step → World → Type 0
IsOfDataWrite t request s w = (s ≡ attempt (setup_attempt t (bytes_of request)))
    ⊎ IsBehindData t s w

-- each attempt of a transfer is of a kind; where the bus gave up, so is the one that it refused
pub record TransferAttempts {A : Type 0} (K : Step → World → Type 0) (old : World)
    (result : Result A PipeFault) (new : World) : Type 0 where
  pub whole : IsNoBusFault result → Course K old new
  pub cut : (fault : BusFault) → result ≡ Err (Bus fault) → GivenUp K old fault new
