-- Which attempts a transaction made, as a course of the world.
use Rattle.std.specs.Prelude.{◌≡◌, None, Result, Err}
use Rattle.usb_world.specs.{Attempt, BusFault, World, Attempted, IsAttempt, Step, attempt, Course}
use Rattle.usb_world.specs.{AttemptFails}
use Rattle.usb_transfer.specs.declared.trans_fault.TransFault.{TransFault}
use Rattle.usb_transfer.specs.declared.trans_fault.TransFault.TheVariants.{Bus}
use Rattle.usb_transfer.specs.TransactionLeaves.{IsNotOfBus}

-- just this attempt
abbrev pub IsOnly : Attempt → Step → World → Type 0
IsOnly a s w = s ≡ attempt a

-- steps of a kind, and then one more attempt of that kind, which the bus refused
pub record GivenUp (K : Step → World → Type 0) (old : World) (fault : BusFault) (new : World) :
    Type 0 where
  pub mid : World
  pub course : Course K old mid
  pub last : Attempt
  pub is : K (attempt last) mid
  pub fits : IsAttempt last
  pub refused : Attempted last mid (Err fault) new
  pub fails : mid.fault ≡ None → AttemptFails last mid (Err fault) new

-- each attempt of a transaction is of a kind; where the bus gave up, so is the one that it refused
pub record TransactionAttempts {A : Type 0} (K : Step → World → Type 0) (old : World)
    (result : Result A TransFault) (new : World) : Type 0 where
  pub whole : IsNotOfBus result → Course K old new
  pub cut : (fault : BusFault) → result ≡ Err (Bus fault) → GivenUp K old fault new
