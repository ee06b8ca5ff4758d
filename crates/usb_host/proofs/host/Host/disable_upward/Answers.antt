use Rattle.usb_host.proofs.PartCalls.{call_fails, call_leaves}
use Rattle.std.proofs.Common.{arith}
use Rattle.usb_host.proofs.BusCounts.{leaves_rests}
use Rattle.usb_host.proofs.StepSums.{host_rests_then}
use Rattle.usb_host.proofs.host.Host.disable_upward.Goals as goal

pub returns-clause-rests : goal.returns-clause-rests
returns-clause-rests g c =
    host_rests_then c.args.self.now _ c.in_ok-lost.ensures.rests (leaves_rests c.stay_left.ensures)

pub returns-clause-climbs : goal.returns-clause-climbs
returns-clause-climbs g c known =
    rw (c.stay_left.ensures.none known) (c.in_ok-lost.ensures.climbs known)

pub returns-in_err-lost-clause-call : goal.returns-in_err-lost-clause-call
returns-in_err-lost-clause-call g c =
    call_fails c.from_residual.ensures.1 c.in_err-lost.ensures.call (omega arith)

pub returns-clause-call : goal.returns-clause-call
returns-clause-call g c =
    call_leaves c.in_ok-lost.ensures.call c.stay_left.ensures
