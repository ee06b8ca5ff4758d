use Rattle.usb_host.proofs.StepSums.{handed_is}
use Rattle.std.proofs.Common.{◌∙◌, ◌*◌, arith}
use Rattle.usb_transfer.specs.{write_bound}
use Rattle.usb_host.proofs.PortRequests.{others_fail, others_then}
use Rattle.usb_host.proofs.host.Host.clear_others.Goals as goal

pub returns-in_err-clear_other-clause-clears : goal.returns-in_err-clear_other-clause-clears
returns-in_err-clear_other-clause-clears g c known =
    rw (handed_is c.from_residual.ensures.1) (others_fail c.args.status (2 * write_bound)
    (c.in_err-clear_other.ensures.clears known) (omega arith))

pub returns-clause-clears : goal.returns-clause-clears
returns-clause-clears g c known =
    others_then c.args.status (2 * write_bound) (c.in_ok-clear_other.ensures.clears known)
    (c.clear_other-2.ensures.clears known) (omega arith)

pub returns-in_err-clear_other-clause-none : goal.returns-in_err-clear_other-clause-none
returns-in_err-clear_other-clause-none g c plain =
    absurd (cc ((c.in_err-clear_other.ensures.none plain.0).0))

pub returns-clause-none : goal.returns-clause-none
returns-clause-none g c plain =
    let last = c.clear_other-2.ensures.none plain.1 in
    (last.0, last.1 ∙ (c.in_ok-clear_other.ensures.none plain.0).1)
