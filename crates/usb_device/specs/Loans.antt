-- A device on a port, to write to.
use Rattle.std.specs.Prelude.{ℕ, [], ◌∷◌, Option}
use Rattle.usb_device.specs.Tree.{Ports, Place, port_of, Plugged, changed_at, changed}
use Rattle.usb_device.specs.Places.{standing}

-- another device on a port, or none; the port keeps its bits
abbrev pub holding : Option Plugged → Place → Place
holding d q = standing (port_of q) d

-- the same, at a port counted from 0
abbrev pub with_device : Ports → ℕ → Option Plugged → Ports
with_device k i d = changed_at (holding d) k i []

-- the same, at a port of a device, by its number, counted from 1
abbrev pub with_device_on : Plugged → ℕ → Option Plugged → Plugged
with_device_on t n d = record t { ports = changed (holding d) t.ports (n ∷ []) }
