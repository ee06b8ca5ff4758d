use Rattle.std.proofs.Common.{◌≡◌}
use Rattle.usb_device.specs.{new_ports}
use Rattle.usb_function.specs.{ports_kept}
use Rattle.usb_function.proofs.ports.empty_places.Given as goal

abbrev pub invariant-places : goal.invariant-places
invariant-places l = ports_kept l.places.items ≡ new_ports l.counter
