use Rattle.std.proofs.Common.{◌+◌, ◌*◌}
use Rattle.usb_function.specs.{ports_kept}
use Rattle.usb_device.proofs.places.Nodes.{nodes, nodes_in}
use Rattle.usb_function.proofs.+releasing.Given as goal

abbrev pub decreases-holders::release_row : goal.decreases-holders::release_row
decreases-holders::release_row l = 4 * nodes (ports_kept l.places.now)

abbrev pub decreases-ports::Ports::release : goal.decreases-ports::Ports::release
decreases-ports::Ports::release l = 4 * nodes l.self.now + 1

abbrev pub decreases-holders::release_device : goal.decreases-holders::release_device
decreases-holders::release_device l = 4 * nodes l.device.now.ports + 2

abbrev pub decreases-holders::release_place : goal.decreases-holders::release_place
decreases-holders::release_place l = 4 * nodes_in l.place.now.device + 3
