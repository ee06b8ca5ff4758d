-- What led to the last request of a part of an enumeration.
use Rattle.std.specs.Prelude.{◌≡◌, None}
use Rattle.usb_world.specs.{AnyStep, Course, World}

-- where the bus is at work in the end, it was at work before, and steps led there
pub record Leads (old new : World) : Type 0 where
  pub sound : new.fault ≡ None → old.fault ≡ None
  pub course : new.fault ≡ None → Course AnyStep old new
