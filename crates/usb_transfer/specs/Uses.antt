-- What a call makes of a bus.
use Rattle.std.specs.Prelude.{◌≡◌, ℕ, Bool, true, Option}
use Rattle.usb_world.specs.{BusFault}
use Rattle.usb_bus.specs.{Spends}

-- Over any bus at most n attempts were made, the root ports are as many, and this is so of the
-- fault that was reported last. Of one that does what its world does so it went, within n attempts.
pub record UsesBus {S : Type 0} (modelled : Bool) (Went : ℕ → S → S → Type 0)
    (spent ports : S → ℕ) (failed : S → Option BusFault) (n : ℕ) (Told : Option BusFault → Type 0)
    (old new : S) : Type 0 where
  pub spends : Spends spent ports n old new
  pub told : Told (failed new)
  pub steps : modelled ≡ true → Went n old new
