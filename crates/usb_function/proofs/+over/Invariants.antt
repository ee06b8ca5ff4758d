use Rattle.std.proofs.Common.{◌+◌, ◌*◌}
use Rattle.usb_function.specs.{ports_kept}
use Rattle.usb_device.proofs.places.Nodes.{nodes}
use Rattle.usb_function.proofs.+over.Given as goal

abbrev pub decreases-between::forget_all : goal.decreases-between::forget_all
decreases-between::forget_all l = 3 * nodes (ports_kept l.places.now)

abbrev pub decreases-ports::Ports::attempt_over : goal.decreases-ports::Ports::attempt_over
decreases-ports::Ports::attempt_over l = 3 * nodes l.self.now + 1

abbrev pub decreases-device::Device::attempt_over : goal.decreases-device::Device::attempt_over
decreases-device::Device::attempt_over l = 3 * nodes l.self.now.ports + 2
