-- One device over attempts: what it was before, seen from where it is reachable now.
use Rattle.std.specs.Prelude.{◌≡◌, ◌==◌, ℕ, List, true, false, None, Some}
use Rattle.usb_packet.specs.{Toggle}
use Rattle.usb_port.specs.{PortState}
use Rattle.usb_device.specs.{State, Way, setup_law, out_law, in_law, Ports, Location, full, row_of}
use Rattle.usb_device.specs.{reach_on, state_on, place_on}
use Rattle.usb_device.specs.Attempt.{whole}
use Rattle.usb_world.specs.PlainAttempts.{Attempt}
use Rattle.usb_world.specs.declared.types.Outcome.TheVariants.{Nothing}
use Rattle.usb_world.specs.Paths.{address_of}
use Rattle.usb_world.specs.AttemptPackets.{deep_at}
use Rattle.usb_world.specs.OneHolder.{got, hears_attempt}
use Rattle.usb_world.specs.Worlds.{World}
use Rattle.usb_world.specs.Steps.{at_attempt, damage_in, outcome_in}

-- a relation of the device on a spot before and after
abbrev pub Relation : Type 1
Relation = Location → State → State → Type 0

-- the device that is there now was there before, and reachable, and the two are related
pub record Was (R : Relation) (w : World) (x : Location) (now : State) : Type 0 where
  pub before : State
  pub on : reach_on w.roots x ≡ true
  pub stands : state_on w.roots x ≡ Some before
  pub so : R x before now

-- so it is of each device that is reachable in the new world
abbrev pub EachWas : Relation → World → World → Type 0
EachWas R old new = (x : Location) (s : State) → reach_on new.roots x ≡ true
    → state_on new.roots x ≡ Some s → Was R old x s

-- how the packets of an attempt came: where it is not damaged and the device hears it, each came
-- whole
pub record Ways (a : Attempt) (w : World) (x : Location) (s : State) : Type 0 where
  pub first : Way
  pub second : Way
  pub third : Way
  pub heard : damage_in w ≡ None → hears_attempt a (deep_at false x.rest) s ≡ true → (first ≡ whole)
      × (second ≡ whole) × (third ≡ whole)

-- An attempt is for another address; or the device is silent; or the host got what it answers, and
-- it is what its law says.

pub data DidIn (a : Attempt) (w : World) (x : Location) (s v : State) : Type 0 where
  other : (address_of s == a.addr) ≡ false → v ≡ s → DidIn a w x s v
  silent : (address_of s == a.addr) ≡ true → s.spec.silent ≡ true → outcome_in a w ≡ Nothing → v ≡ s
      → DidIn a w x s v
  asked : (address_of s == a.addr) ≡ true → s.spec.silent ≡ false
      → (b : PortState) (below : Ports) → place_on (at_attempt w).roots x ≡ Some (full b s below)
      → (by : Ways a w x s)
      → outcome_in a w ≡ got a.max (in_law s (row_of below) a.ep a.max by.first by.second
      by.third).0
      → v ≡ (in_law s (row_of below) a.ep a.max by.first by.second by.third).1 → DidIn a w x s v

pub data DidOut (a : Attempt) (t : Toggle) (bytes : List ℕ) (w : World) (x : Location)
    (s v : State) : Type 0 where
  other : (address_of s == a.addr) ≡ false → v ≡ s → DidOut a t bytes w x s v
  silent : (address_of s == a.addr) ≡ true → s.spec.silent ≡ true → outcome_in a w ≡ Nothing → v ≡ s
      → DidOut a t bytes w x s v
  asked : (address_of s == a.addr) ≡ true → s.spec.silent ≡ false → (by : Ways a w x s)
      → outcome_in a w ≡ got a.max (out_law s a.ep t bytes by.first by.second by.third).0
      → v ≡ (out_law s a.ep t bytes by.first by.second by.third).1 → DidOut a t bytes w x s v

pub data DidSetup (a : Attempt) (bytes : List ℕ) (w : World) (x : Location) (s v : State) : Type 0
  where
    other : (address_of s == a.addr) ≡ false → v ≡ s → DidSetup a bytes w x s v
    silent : (address_of s == a.addr) ≡ true → s.spec.silent ≡ true → outcome_in a w ≡ Nothing
        → v ≡ s
        → DidSetup a bytes w x s v
    asked : (address_of s == a.addr) ≡ true → s.spec.silent ≡ false
        → (b : PortState) (below : Ports) → place_on (at_attempt w).roots x ≡ Some (full b s below)
        → (by : Ways a w x s)
        → outcome_in a w ≡ got a.max (setup_law s (row_of below) bytes by.first by.second
        by.third).0
        → v ≡ (setup_law s (row_of below) bytes by.first by.second by.third).1
        → DidSetup a bytes w x s v
