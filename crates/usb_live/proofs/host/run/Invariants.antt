use Rattle.std.proofs.Common.{◌≡◌}
use Rattle.usb_run.specs.{usual_options}
use Rattle.usb_live.proofs.host.run.Given as goal

-- the host has the options that it is to have
abbrev pub invariant-turns : goal.invariant-turns
invariant-turns g l = l.host.options ≡ usual_options g.B.Begun.host.wide
