use Rattle.std.proofs.Common.{◌≡◌, Err, Ok, [], sym, ◌∙◌, arith, rules}
use Rattle.usb_transfer.specs.{Bus, NoAnswer}
use Rattle.usb_transfer.proofs.Calls.{sets_up}
use Rattle.usb_transfer.proofs.TransactionTries.{set_up_again, set_up_cut, set_up_new, set_up_spent}
use Rattle.usb_transfer.proofs.TransactionTries.{set_up_told, set_up_went}
use Rattle.usb_transfer.proofs.set_up.setup.Goals as goal

pub loop-error-init : goal.loop-error-init
loop-error-init g c = (
  search rules,
  λ known. set_up_new _ (rw
      c.attempt_of_setup-attempt.ensures.value at c.attempt_of_setup-attempt.ensures.fits),
)

pub loop-error-preserved : goal.loop-error-preserved
loop-error-preserved g c = (
  search rules,
  λ known. set_up_again c.loop-error-test.true
      (c.loop-error.invariant.1 known) (rw c.attempt_of_setup-attempt.ensures.value at
      (c.in-Ok.ensures.attempts known)) (sym c.is_ack.ensures ∙ c.if-is_ack.false),
)

pub returns-then-is_ack-clause-sets_up : goal.returns-then-is_ack-clause-sets_up
returns-then-is_ack-clause-sets_up g c known =
    rw c.nothing.ensures (sets_up c.args.target c.args.bytes _ _ (search rules) (g.met.B.Bus.settled
    known c.args.bus.now) (Ok []) (set_up_told c.loop-error-test.true (c.loop-error.invariant.1
    known)
    (rw c.attempt_of_setup-attempt.ensures.value at (c.in-Ok.ensures.attempts known)) (sym
    c.is_ack.ensures ∙ c.if-is_ack.true)) (λ e. e))

pub returns-clause-sets_up : goal.returns-clause-sets_up
returns-clause-sets_up g c known =
    let all : c.loop-error._error ≡ 3 = omega (
      arith,
      c.loop-error-test.false,
      c.loop-error.auto._error-end,
    ) in
    sets_up c.args.target c.args.bytes _ _ (search rules) (g.met.B.Bus.settled known c.args.bus.now)
    (Err NoAnswer) ((c.loop-error.invariant.1 known).ended all) (λ e. e)

pub returns-in-Err-clause-sets_up : goal.returns-in-Err-clause-sets_up
returns-in-Err-clause-sets_up g c known =
    sets_up c.args.target c.args.bytes _ _ (search rules) (g.met.B.Bus.settled known c.args.bus.now)
    (Err (Bus c.in-Err.fault)) (set_up_cut c.loop-error-test.true (c.loop-error.invariant.1 known)
    (rw
    c.attempt_of_setup-attempt.ensures.value at (c.in-Err.ensures.attempts known))) (λ e. e)

pub returns-then-is_ack-clause-steps : goal.returns-then-is_ack-clause-steps
returns-then-is_ack-clause-steps g c known =
    set_up_went c.loop-error-test.true (c.loop-error.invariant.1 known)
    c.attempt_of_setup-attempt.ensures.fits (c.in-Ok.ensures.attempts known)

pub returns-in-Err-clause-steps : goal.returns-in-Err-clause-steps
returns-in-Err-clause-steps g c known = set_up_went c.loop-error-test.true (c.loop-error.invariant.1
    known) c.attempt_of_setup-attempt.ensures.fits (c.in-Err.ensures.attempts known)

pub returns-clause-steps : goal.returns-clause-steps
returns-clause-steps g c known =
    set_up_spent (omega (arith, c.loop-error.auto._error-end)) (c.loop-error.invariant.1 known)
