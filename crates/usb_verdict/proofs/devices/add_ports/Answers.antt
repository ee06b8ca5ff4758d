use Rattle.std.proofs.Common.{◌+◌}
use Rattle.usb_verdict.specs.{numbers_on}
use Rattle.usb_verdict.proofs.Found.{ports_next, ports_none}
use Rattle.usb_verdict.proofs.devices.add_ports.Goals as goal

pub ports-init : goal.ports-init
ports-init c = ports_none c.args.roots.now (numbers_on c.args.above.now) c.args.found.now.items

pub ports-preserved : goal.ports-preserved
ports-preserved c = ports_next c.args.roots.now (numbers_on c.args.above.now) (c.ports.before + 1)
    c.args.found.now.items c.ports.found.items c.add_port.new.found.items c.ports.invariant
    c.in_ok-add_port.ensures
