use Rattle.std.proofs.Common.{◌≡◌, take}
use Rattle.usb_host.proofs.reported.Reported.duplicate.Given as goal

abbrev pub invariant-devices : goal.invariant-devices
invariant-devices l = l.devices.items ≡ take l.device-index l.device-items
