use Rattle.std.proofs.Common.{◌≡◌, take}
use Rattle.usb_bus.specs.{shown_names}
use Rattle.usb_sim.proofs.shown.shown_names.Given as goal

abbrev pub invariant-devices : goal.invariant-devices
invariant-devices l = l.names.items ≡ shown_names (take l.device-index l.devices)
