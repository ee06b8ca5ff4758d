use Rattle.usb_host.proofs.StepSums.{handed_is}
use Rattle.std.proofs.Common.{◌∙◌, sym}
use Rattle.usb_host.proofs.PortRequests.{change_cleared, change_fails, change_stays, change_untold}
use Rattle.usb_host.proofs.host.Host.clear_change.Goals as goal

pub returns-in_err-clear-clause-clears : goal.returns-in_err-clear-clause-clears
returns-in_err-clear-clause-clears g c known =
    rw (handed_is c.from_residual.ensures.1) (change_fails (c.in_err-clear.ensures.clears known))

pub returns-in_err-status-clause-clears : goal.returns-in_err-status-clause-clears
returns-in_err-status-clause-clears g c known =
    rw (handed_is c.from_residual-in_err-status.ensures.1) (change_untold
    (c.in_ok-clear.ensures.clears known)
    (c.in_err-status.ensures.shows known))

pub returns-then-is_stuck-clause-clears : goal.returns-then-is_stuck-clause-clears
returns-then-is_stuck-clause-clears g c known =
    change_stays (c.in_ok-clear.ensures.clears known) c.status.new.self
    (c.in_ok-status.ensures.shows known) (sym c.is_stuck.ensures ∙ c.if-is_stuck.true)

pub returns-in_err-clear_where-clause-clears : goal.returns-in_err-clear_where-clause-clears
returns-in_err-clear_where-clause-clears g c known =
    rw (handed_is c.from_residual-in_err-clear_where.ensures.1) (change_cleared
    (c.in_ok-clear.ensures.clears known) c.clear_where.new.self
    (c.in_ok-status.ensures.shows known) (sym c.is_stuck.ensures ∙ c.if-is_stuck.false)
    (c.in_err-clear_where.ensures.clears known))

pub returns-clause-clears : goal.returns-clause-clears
returns-clause-clears g c known =
    change_cleared (c.in_ok-clear.ensures.clears known) c.clear_where.new.self
    (c.in_ok-status.ensures.shows known) (sym c.is_stuck.ensures ∙ c.if-is_stuck.false)
    (c.in_ok-clear_where.ensures.clears known)
