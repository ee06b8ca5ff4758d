use Rattle.std.proofs.Common.{◌+◌}
use Rattle.usb_verdict.specs.{AddsPorts, numbers_on}
use Rattle.usb_verdict.proofs.devices.add_ports.Given as goal

-- the first ports were looked at
abbrev pub invariant-ports : goal.invariant-ports
invariant-ports l = AddsPorts l.roots (numbers_on l.above) (l.before + 1) l.fn.found.items
    l.found.items
