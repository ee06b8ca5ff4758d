use Rattle.std.proofs.Common.{◌≡◌, take, map}
use Rattle.usb_port.specs.{status_of}
use Rattle.usb_world.specs.{root_row}
use Rattle.usb_sim.specs.{world_of}
use Rattle.usb_far.proofs.far_end.statuses.Given as goal

-- those so far
abbrev pub invariant-ports : goal.invariant-ports
invariant-ports g l = l.all.items ≡ map status_of (take l.before (root_row (world_of l.bus)))
