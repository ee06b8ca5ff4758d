-- A packet of an attempt that was refused memory on its way.
use Rattle.std.specs.Prelude.{◌≡◌, false, Option, Some}
use Rattle.usb_device.specs.{Sent, Ports, Stopped}

-- it went out, and some of the devices had it
pub record IsStopped (out : Option Sent) (old new : Ports) : Type 0 where
  pub sent : Sent
  pub went : out ≡ Some sent
  pub stopped : Stopped sent false old new
