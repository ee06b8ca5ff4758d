use Rattle.std.proofs.Common.{◌≡◌, ℕ, ◌+◌, ◌<◌, List, [], ◌∷◌, ◌++◌, ◌∙◌, sym, ap, subst, arith}
use Rattle.std.proofs.Common.{take, get_or, length, refl, add-one}
use Rattle.std.proofs.lemmas.List.{take_all, take_more, length-take-le}
use Rattle.usb_port.specs.{IsPortNumber}
use Rattle.usb_dialogue.proofs.place.path_from.Goals as goal

-- an element of the rest is one of the whole
behind : (xs rest : List ℕ) (x i : ℕ) → xs ≡ x ∷ rest → get_or rest i 0 ≡ get_or xs (i + 1) 0
behind xs rest x i e = sym (ap (λ ys. get_or ys (i + 1) 0) e ∙ rw (add-one i) refl)

pub rest-init : goal.rest-init
rest-init c =
    c.in_ok-path.ensures.some.0 ∙ sym (ap (take 1) c.in_ok-first.ensures.cases.0)

pub rest-preserved : goal.rest-preserved
rest-preserved c =
    let numbers = c.args.numbers.now in
    let whole = c.in_ok-first.ensures.cases.0 in
    let size = c.in_ok-first.ensures.cases.1 in
    let i = c.rest.number-index in
    let at = behind numbers c.in_ok-first.rest.now c.in_ok-first.first.now i whole in
    c.push.ensures.yes c.if-not-push.false
    ∙ ap (λ (ys : List ℕ). ys ++ get_or c.in_ok-first.rest.now i 0 ∷ []) c.rest.invariant
    ∙ ap (λ (y : ℕ). take (i + 1) numbers ++ y ∷ []) at
    ∙ sym (take_more numbers (i + 1) 0 (omega (arith, size, c.rest-test.true)))

pub returns-clause-some : goal.returns-clause-some
returns-clause-some c =
    let size = c.in_ok-first.ensures.cases.1 in
    c.rest.invariant ∙ take_all (c.rest.number-index + 1) c.args.numbers.now
    (omega (arith, size, c.rest-test.false))

pub returns-then-not-push-clause-none : goal.returns-then-not-push-clause-none
returns-then-not-push-clause-none c = λ is.
    let numbers = c.args.numbers.now in
    let whole = c.in_ok-first.ensures.cases.0 in
    let size = c.in_ok-first.ensures.cases.1 in
    let i = c.rest.number-index in
    let less : i + 1 < length numbers = omega (arith, size, c.rest-test.true) in
    let at = behind numbers c.in_ok-first.rest.now c.in_ok-first.first.now i whole in
    let number = subst IsPortNumber (sym at) (is.2 (i + 1) 0 less) in
    let long = ap length c.rest.invariant ∙ length-take-le (i + 1) numbers (omega arith) in
    let few : length c.rest.path < 7 = omega (arith, long, less, is.1) in
    let yes = c.push.ensures.pushed.1 (number, few) in
    let no = c.if-not-push.true in
    cc
