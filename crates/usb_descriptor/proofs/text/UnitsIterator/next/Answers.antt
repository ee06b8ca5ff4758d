use Rattle.std.proofs.Common.{◌∙◌, sym, ap, length, arith}
use Rattle.usb_descriptor.proofs.Pairs.{words_of-short, words_of-two}
use Rattle.usb_descriptor.proofs.text.UnitsIterator.next.Goals as goal

pub returns-in_err-unit-clause-steps : goal.returns-in_err-unit-clause-steps
returns-in_err-unit-clause-steps c =
    let none = sym c.self.view_is ∙ words_of-short c.self.inside.rest.now
    c.in_err-unit.ensures.cases in
    rw c.from_residual.ensures (none, none)

pub returns-clause-steps : goal.returns-clause-steps
returns-clause-steps c =
    let e = c.in_ok-unit.ensures.cases in
    sym c.self.view_is ∙ (words_of-two c.self.inside.rest.now (omega (arith, e.2))
    ∙ rw (c.from_le_bytes.ensures, e.0, e.1))

pub returns-clause-goes : goal.returns-clause-goes
returns-clause-goes c = let e = returns-clause-steps c in
    record { on = λ _. (tt, tt, omega (arith, ap length e)); keeps = tt; rests = λ _. tt }
