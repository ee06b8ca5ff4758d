use Rattle.std.proofs.Common.{◌+◌, ◌*◌}
use Rattle.usb_function.specs.{ports_kept}
use Rattle.usb_device.proofs.places.Nodes.{nodes, nodes_in}
use Rattle.usb_function.proofs.+clearing.Given as goal

abbrev pub decreases-clearing::any_clears : goal.decreases-clearing::any_clears
decreases-clearing::any_clears l = 4 * nodes (ports_kept l.places.now)

abbrev pub decreases-ports::Ports::clears : goal.decreases-ports::Ports::clears
decreases-ports::Ports::clears l = 4 * nodes l.self.now + 1

abbrev pub decreases-device::Device::clears : goal.decreases-device::Device::clears
decreases-device::Device::clears l = 4 * nodes l.self.now.ports + 2

abbrev pub decreases-ports::Place::clears : goal.decreases-ports::Place::clears
decreases-ports::Place::clears l = 4 * nodes_in l.self.now.device + 3
