use Rattle.std.proofs.Common.{Err}
use Rattle.usb_transfer.specs.{Bus}
use Rattle.usb_transfer.proofs.Calls.{sends_out}
use Rattle.usb_transfer.proofs.TransactionTries.{cut_at_once, went_once}
use Rattle.usb_transfer.proofs.write.data_out.Goals as goal

pub returns-in-Err-clause-steps : goal.returns-in-Err-clause-steps
returns-in-Err-clause-steps g c known =
    went_once c.attempt_of_out-attempt.ensures.fits c.attempt_of_out-attempt.ensures.fits
    (c.in-Err.ensures.attempts known)

pub returns-in-Err-clause-sends : goal.returns-in-Err-clause-sends
returns-in-Err-clause-sends g c known =
    sends_out c.args.target c.args.ep c.args.toggle.now c.args.bytes.now _ _
    (g.met.B.Bus.settled known c.args.bus.now) (Err (Bus c.in-Err.fault)) (cut_at_once
    (rw c.attempt_of_out-attempt.ensures.value at c.attempt_of_out-attempt.ensures.fits)
    (rw c.attempt_of_out-attempt.ensures.value at (c.in-Err.ensures.attempts known)))

pub returns-in-Ok-clause-sends : goal.returns-in-Ok-clause-sends
returns-in-Ok-clause-sends g c known =
    let settled = g.met.B.Bus.settled known c.args.bus.now in
    sends_out c.args.target c.args.ep c.args.toggle.now c.args.bytes.now _ _ settled
    c.send_on.result (rw c.attempt_of_out-attempt.ensures.value at
    (c.send_on.ensures.sends known _ _ settled (c.in-Ok.ensures.attempts known)).1)
