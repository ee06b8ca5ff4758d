use Rattle.std.proofs.Common.{◌≡◌, take}
use Rattle.usb_places.proofs.known.device_copies.Given as goal

abbrev pub invariant-devices : goal.invariant-devices
invariant-devices l = l.done ≡ take l.device-index l.devices
