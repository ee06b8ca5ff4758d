use Rattle.usb_verdict.proofs.Once.{WalkedOnce}
use Rattle.usb_verdict.proofs.devices.all_on.Given as goal

-- the ports of the first devices were looked at
abbrev pub invariant-devices : goal.invariant-devices
invariant-devices l = WalkedOnce l.roots l.i l.found.items
