use Rattle.std.proofs.Common.{Err, refl}
use Rattle.usb_transfer.specs.{Bus}
use Rattle.usb_transfer.proofs.Calls.{asks_in}
use Rattle.usb_transfer.proofs.TransactionTries.{cut_at_once, went_once}
use Rattle.usb_transfer.proofs.read.data_in.Goals as goal

pub returns-in-Err-clause-steps : goal.returns-in-Err-clause-steps
returns-in-Err-clause-steps g c known =
    went_once c.attempt_of_in.ensures.fits c.attempt_of_in.ensures.fits
    (c.in-Err.ensures.attempts known)

pub returns-in-Err-clause-asks : goal.returns-in-Err-clause-asks
returns-in-Err-clause-asks g c known =
    asks_in c.args.target c.args.ep c.args.toggle.now _ _ (g.met.B.Bus.settled known c.args.bus.now)
    refl (Err (Bus c.in-Err.fault)) (cut_at_once
    (rw c.attempt_of_in.ensures.value at c.attempt_of_in.ensures.fits)
    (rw c.attempt_of_in.ensures.value at (c.in-Err.ensures.attempts known))) tt
