use Rattle.std.proofs.Common.{◌+◌, ◌*◌}
use Rattle.usb_function.specs.{ports_kept}
use Rattle.usb_device.proofs.places.Nodes.{nodes, nodes_in}
use Rattle.usb_function.proofs.+noting.Given as goal

abbrev pub decreases-holders::note_row : goal.decreases-holders::note_row
decreases-holders::note_row l = 4 * nodes (ports_kept l.places.now)

abbrev pub decreases-ports::Ports::note : goal.decreases-ports::Ports::note
decreases-ports::Ports::note l = 4 * nodes l.self.now + 1

abbrev pub decreases-holders::note_device : goal.decreases-holders::note_device
decreases-holders::note_device l = 4 * nodes l.device.now.ports + 2

abbrev pub decreases-holders::note_at : goal.decreases-holders::note_at
decreases-holders::note_at l = 4 * nodes_in l.place.now.device + 3
