use Rattle.std.proofs.Common.{◌+◌, ◌*◌}
use Rattle.usb_function.specs.{ports_kept}
use Rattle.usb_device.proofs.places.Nodes.{nodes, nodes_in}
use Rattle.usb_function.proofs.+deliver.Given as goal

abbrev pub decreases-delivery::deliver_all : goal.decreases-delivery::deliver_all
decreases-delivery::deliver_all l = 4 * nodes (ports_kept l.places.now)

abbrev pub decreases-ports::Ports::pass : goal.decreases-ports::Ports::pass
decreases-ports::Ports::pass l = 4 * nodes l.self.now + 1

abbrev pub decreases-device::Device::deliver : goal.decreases-device::Device::deliver
decreases-device::Device::deliver l = 4 * nodes l.self.now.ports + 2

abbrev pub decreases-ports::Place::deliver : goal.decreases-ports::Place::deliver
decreases-ports::Place::deliver l = 4 * nodes_in l.self.now.device + 3
