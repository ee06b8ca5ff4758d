-- The way to a device, port by port.
use Rattle.std.specs.Prelude.{ℕ, List, [], ◌∷◌, Bool, true, false, ◌&&◌, Option, None, Some}
use Rattle.usb_port.specs.{PortState}
use Rattle.usb_device.specs.{Plugged, Ports, reach}

-- there is such a port, and it is enabled
abbrev pub is_enabled : Option PortState → Bool
is_enabled None = false
is_enabled (Some b) = b.enable

-- each port on the way from these on is enabled
abbrev pub reach_from : Ports → List ℕ → Bool
reach_from k [] = true
reach_from k (n ∷ p) = reach k (n ∷ p)

-- so is the first port, and each one from the device on it on
abbrev pub reach_through : Option PortState → Option Plugged → List ℕ → Bool
reach_through b None p = false
reach_through b (Some t) p = is_enabled b && reach_from t.ports p
