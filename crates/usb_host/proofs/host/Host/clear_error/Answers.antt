use Rattle.usb_host.proofs.StepSums.{handed_is}
use Rattle.usb_host.proofs.PortRequests.{error_cleared, error_fails, error_kept}
use Rattle.usb_host.proofs.host.Host.clear_error.Goals as goal

pub returns-in_err-clear-clause-clears : goal.returns-in_err-clear-clause-clears
returns-in_err-clear-clause-clears g c known =
    rw (handed_is c.from_residual.ensures.1) (error_fails (c.in_err-clear.ensures.clears known))

pub returns-in_err-clear-2-clause-clears : goal.returns-in_err-clear-2-clause-clears
returns-in_err-clear-2-clause-clears g c known =
    rw (handed_is c.from_residual-in_err-clear-2.ensures.1) (error_kept
    (c.in_ok-clear.ensures.clears known)
    (c.in_err-clear-2.ensures.clears known))

pub returns-clause-clears : goal.returns-clause-clears
returns-clause-clears g c known =
    error_cleared (c.in_ok-clear.ensures.clears known) c.status.new.self
    (c.in_ok-clear-2.ensures.clears known) (c.status.ensures.shows known)
