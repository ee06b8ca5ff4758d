-- How the places that the code keeps are a row of ports.
use Rattle.std.specs.Prelude.{Option, None, Some}
use Rattle.usb_port.specs.{PortState}
use Rattle.usb_device.specs.Tree.{Plugged, Place, empty, full}

abbrev pub standing : PortState → Option Plugged → Place
standing b None = empty b
standing b (Some t) = full b t.own t.ports
