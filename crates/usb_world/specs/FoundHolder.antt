-- A reachable device that holds an address.
use Rattle.std.specs.Prelude.{◌≡◌, ℕ, true, Some}
use Rattle.usb_device.specs.{PortState}
use Rattle.usb_device.specs.{State, Ports, Location, full, reach_on, place_on}
use Rattle.usb_world.specs.Paths.{address_of}

pub record Found (n : ℕ) (k : Ports) : Type 0 where
  pub spot : Location
  pub port : PortState
  pub own : State
  pub below : Ports
  pub on : reach_on k spot ≡ true
  pub stands : place_on k spot ≡ Some (full port own below)
  pub at : address_of own ≡ n
