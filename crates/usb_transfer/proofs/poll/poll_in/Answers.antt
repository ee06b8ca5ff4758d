use Rattle.std.proofs.Common.{None, Some, Ok, Err, refl, sym, ap, rules}
use Rattle.std.proofs.lemmas.Result.{err_from_is_err_and}
use Rattle.usb_transfer.specs.{polled, Stalled, Busy, NoAnswer, Bus}
use Rattle.usb_transfer.proofs.Calls.{polls_in}
use Rattle.usb_transfer.proofs.LastOutcomes.{heard_as-nak, heard_stall}
use Rattle.usb_transfer.proofs.TransactionTries.{read_fits, stands_error, stands_new, stands_waited}
use Rattle.usb_transfer.proofs.TransactionTries.{told_busy, told_cut, told_moved, told_silent}
use Rattle.usb_transfer.proofs.TransactionTries.{told_stalled, told_waiting, went_last}
use Rattle.usb_transfer.proofs.poll.poll_in.Goals as goal

pub tries-init : goal.tries-init
tries-init g c = (
  refl,
  (search rules, search rules),
  λ known. stands_new c.new-tries.result _ (rw c.attempt_of_in-attempt.ensures.value at
      c.attempt_of_in-attempt.ensures.fits) c.new-tries.ensures,
  search rules,
)

pub tries-preserved-in-Continue-1 : goal.tries-preserved-in-Continue-1
tries-preserved-in-Continue-1 g c = (
  c.tries.invariant.0,
  (search rules, search rules),
  λ known. stands_waited (c.tries.invariant.2 known) (rw c.attempt_of_in-attempt.ensures.value at
      (c.in-Ok.ensures.attempts known)) _ (ap polled c.in-Repeat.ensures)
      c.wait.ensures.count c.in_ok-wait-in-Repeat.ensures.end,
  search rules,
)

pub tries-preserved : goal.tries-preserved
tries-preserved g c = (
  c.tries.invariant.0,
  (search rules, search rules),
  λ known. stands_error (c.tries.invariant.2 known) (rw c.attempt_of_in-attempt.ensures.value at
      (c.in-Ok.ensures.attempts known)) _ (ap polled c.in-Lost.ensures) c.error.ensures.count
      c.in_ok-error-in-Lost.ensures.end,
  search rules,
)

pub returns-in-Moved-clause-polls : goal.returns-in-Moved-clause-polls
returns-in-Moved-clause-polls g c known =
    let made = rw c.attempt_of_in-attempt.ensures.value at (c.in-Ok.ensures.attempts known) in
    rw c.data.ensures (polls_in c.args.target c.args.ep c.args.toggle.now _ _
    (g.met.B.Bus.settled known c.args.bus.now) c.tries.invariant.0 (Ok
    (Some c.attempt_into.new.room.items)) (told_moved (c.tries.invariant.2 known) made
    c.attempt_into.new.room
    (sym (ap polled c.in-Moved.ensures))) (read_fits c.tries.toggle _ c.attempt_into.new.room
    c.in-Moved.ensures made))

pub returns-in-NotReady-clause-polls : goal.returns-in-NotReady-clause-polls
returns-in-NotReady-clause-polls g c known = polls_in c.args.target c.args.ep c.args.toggle.now _ _
    (g.met.B.Bus.settled known c.args.bus.now) c.tries.invariant.0 (Ok
    None) (told_waiting (c.tries.invariant.2 known) (rw c.attempt_of_in-attempt.ensures.value at
    (c.in-Ok.ensures.attempts known)) (heard_as-nak _ _ c.in-NotReady.ensures)) tt

pub returns-in_err-wait-in-Repeat-clause-polls : goal.returns-in_err-wait-in-Repeat-clause-polls
returns-in_err-wait-in-Repeat-clause-polls g c known =
    let end = c.in_err-wait-in-Repeat.ensures.end in
    let told = err_from_is_err_and c.from_residual.result c.from_residual.ensures.1 in
    rw (told.1, told.2, end.0) (polls_in c.args.target c.args.ep c.args.toggle.now _ _
    (g.met.B.Bus.settled known c.args.bus.now) c.tries.invariant.0 (Err
    Busy) (told_busy (c.tries.invariant.2 known) (rw c.attempt_of_in-attempt.ensures.value at
    (c.in-Ok.ensures.attempts known)) _ (ap polled c.in-Repeat.ensures)
    c.wait.ensures.count end.1) tt)

pub returns-in-Refused-clause-polls : goal.returns-in-Refused-clause-polls
returns-in-Refused-clause-polls g c known = polls_in c.args.target c.args.ep c.args.toggle.now _ _
    (g.met.B.Bus.settled known c.args.bus.now) c.tries.invariant.0 (Err
    Stalled) (told_stalled (c.tries.invariant.2 known) (rw c.attempt_of_in-attempt.ensures.value at
    (c.in-Ok.ensures.attempts known)) (heard_stall _ _ c.in-Refused.ensures)) tt

pub returns-in_err-error-in-Lost-clause-polls : goal.returns-in_err-error-in-Lost-clause-polls
returns-in_err-error-in-Lost-clause-polls g c known =
    let end = c.in_err-error-in-Lost.ensures.end in
    let told = err_from_is_err_and c.from_residual-in_err-error-in-Lost.result
    c.from_residual-in_err-error-in-Lost.ensures.1 in
    rw (told.1, told.2, end.0) (polls_in c.args.target c.args.ep c.args.toggle.now _ _
    (g.met.B.Bus.settled known c.args.bus.now) c.tries.invariant.0 (Err
    NoAnswer) (told_silent (c.tries.invariant.2 known) (rw c.attempt_of_in-attempt.ensures.value at
    (c.in-Ok.ensures.attempts known)) _ (ap polled c.in-Lost.ensures) c.error.ensures.count end.1)
    tt)

pub returns-in-Err-clause-polls : goal.returns-in-Err-clause-polls
returns-in-Err-clause-polls g c known = polls_in c.args.target c.args.ep c.args.toggle.now _ _
    (g.met.B.Bus.settled known c.args.bus.now) c.tries.invariant.0 (Err
    (Bus c.in-Err.fault)) (told_cut (c.tries.invariant.2 known) (rw
    c.attempt_of_in-attempt.ensures.value at (c.in-Err.ensures.attempts known))) tt

pub returns-in-Moved-clause-steps : goal.returns-in-Moved-clause-steps
returns-in-Moved-clause-steps g c known =
    went_last (c.tries.invariant.2 known) c.attempt_of_in-attempt.ensures.fits
    (c.in-Ok.ensures.attempts known)

pub returns-in-NotReady-clause-steps : goal.returns-in-NotReady-clause-steps
returns-in-NotReady-clause-steps g c known =
    went_last (c.tries.invariant.2 known) c.attempt_of_in-attempt.ensures.fits
    (c.in-Ok.ensures.attempts known)

pub returns-in_err-wait-in-Repeat-clause-steps : goal.returns-in_err-wait-in-Repeat-clause-steps
returns-in_err-wait-in-Repeat-clause-steps g c known =
    went_last (c.tries.invariant.2 known) c.attempt_of_in-attempt.ensures.fits
    (c.in-Ok.ensures.attempts known)

pub returns-in-Refused-clause-steps : goal.returns-in-Refused-clause-steps
returns-in-Refused-clause-steps g c known =
    went_last (c.tries.invariant.2 known) c.attempt_of_in-attempt.ensures.fits
    (c.in-Ok.ensures.attempts known)

pub returns-in_err-error-in-Lost-clause-steps : goal.returns-in_err-error-in-Lost-clause-steps
returns-in_err-error-in-Lost-clause-steps g c known =
    went_last (c.tries.invariant.2 known) c.attempt_of_in-attempt.ensures.fits
    (c.in-Ok.ensures.attempts known)

pub returns-in-Err-clause-steps : goal.returns-in-Err-clause-steps
returns-in-Err-clause-steps g c known =
    went_last (c.tries.invariant.2 known) c.attempt_of_in-attempt.ensures.fits
    (c.in-Err.ensures.attempts known)
