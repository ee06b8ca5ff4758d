use Rattle.std.proofs.Common.{◌+◌, ◌*◌}
use Rattle.usb_function.specs.{ports_kept}
use Rattle.usb_device.proofs.places.Nodes.{nodes, nodes_in}
use Rattle.usb_function.proofs.+losing.Given as goal

abbrev pub decreases-between::any_loses : goal.decreases-between::any_loses
decreases-between::any_loses l = 3 * nodes (ports_kept l.places.now)

abbrev pub decreases-ports::Ports::has_address_loss : goal.decreases-ports::Ports::has_address_loss
decreases-ports::Ports::has_address_loss l = 3 * nodes l.self.now + 1

abbrev pub decreases-between::loses_at : goal.decreases-between::loses_at
decreases-between::loses_at l = 3 * nodes_in l.place.now.device + 2
