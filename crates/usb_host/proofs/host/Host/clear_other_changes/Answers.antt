use Rattle.usb_host.proofs.StepSums.{handed_is}
use Rattle.usb_host.proofs.PortRequests.{tidied, tidied_fails}
use Rattle.usb_host.proofs.host.Host.clear_other_changes.Goals as goal

pub returns-in_err-clear_where-clause-tidies : goal.returns-in_err-clear_where-clause-tidies
returns-in_err-clear_where-clause-tidies g c known =
    rw (handed_is c.from_residual.ensures.1) (tidied_fails c.args.status
    (c.in_err-clear_where.ensures.clears known))

pub returns-clause-tidies : goal.returns-clause-tidies
returns-clause-tidies g c known =
    tidied c.args.status
    c.clear_where-2.new.self (c.in_ok-clear_where.ensures.clears known)
    (c.clear_where-2.ensures.clears known)
