use Rattle.usb_host.proofs.StepSums.{handed_is}
use Rattle.usb_host.proofs.PortRequests.{port_settled, settled_fails}
use Rattle.usb_host.proofs.host.Host.settle.Goals as goal

pub returns-in_err-clear_other_changes-clause-settles :
    goal.returns-in_err-clear_other_changes-clause-settles
returns-in_err-clear_other_changes-clause-settles g c known =
    rw (handed_is c.from_residual.ensures.1) (settled_fails
    (c.in_err-clear_other_changes.ensures.tidies known))

pub returns-clause-settles : goal.returns-clause-settles
returns-clause-settles g c known =
    port_settled c.args.port c.args.status (c.in_ok-clear_other_changes.ensures.tidies known)
    (c.clear_others.ensures.clears known)
    c.clear_others.ensures.none
