-- A port of which nothing is asked, and on whose way nothing is plugged or unplugged.
use Rattle.std.specs.Prelude.{◌≡◌, ◌⊎◌, List, ℕ, true, option_map}
use Rattle.usb_device.specs.{Ports, reach, state_there, port_there}
use Rattle.usb_world.specs.Paths.{has_power, pending}
use Rattle.usb_world.specs.PlanCourses.{spec_of}
use Rattle.usb_world.specs.Worlds.{World}
use Rattle.usb_world.specs.Steps.{Step}
use Rattle.usb_world.specs.PortRequests.{AsksNothing}

-- the port at a path is as it was, with the same device or none, reached as it was
pub record SameAt (k v : Ports) (p : List ℕ) : Type 0 where
  pub port : port_there v p ≡ port_there k p
  pub on : reach v p ≡ reach k p
  pub what : option_map spec_of (state_there v p) ≡ option_map spec_of (state_there k p)

abbrev pub LeavesPortAlone : List ℕ → Step → World → Type 0
LeavesPortAlone p s w = AsksNothing s w p

-- powered on its whole way, and as it was; or pending
abbrev pub UnchangedOrPending : World → World → List ℕ → Type 0
UnchangedOrPending w v p = ((has_power v.roots p ≡ true) × SameAt w.roots v.roots p)
    ⊎ (pending v.roots p ≡ true)

-- powered on its whole way, with the same device or none; or pending
abbrev pub SameDeviceOrPending : World → World → List ℕ → Type 0
SameDeviceOrPending w v p = ((has_power v.roots p ≡ true)
    × (option_map spec_of (state_there v.roots p) ≡ option_map spec_of (state_there w.roots p)))
    ⊎ (pending v.roots p ≡ true)
