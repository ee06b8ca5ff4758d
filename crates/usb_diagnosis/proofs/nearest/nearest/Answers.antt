use Rattle.std.proofs.Common.{◌≡◌, ℕ, ◌+◌, ◌<◌, ◌≤◌, Option, Some, map, get_or, length, List, Bor}
use Rattle.std.proofs.Common.{sym, subst, ◌∙◌, arith}
use Rattle.std.proofs.lemmas.List.{get_or-map, length-map}
use Rattle.usb_diagnosis.specs.{edits_between}
use Rattle.usb_diagnosis.proofs.BestSoFar.{BestSoFar, best_kept, best_found, best_of_all}
use Rattle.usb_diagnosis.proofs.nearest.nearest.Goals.{then-edits-fewest, else-edits-fewest}
use Rattle.usb_diagnosis.proofs.nearest.nearest.Goals as goal

pub names-preserved : goal.names-preserved
names-preserved c =
    let one : Bor (List ℕ) → ℕ = λ n. edits_between c.args.word.now n.now in
    let f : ℕ → ℕ = λ j. get_or (map one c.args.names.now) j 0 in
    let i = c.names.i in
    let here : f i ≡ c.in_ok-edits.edits = get_or-map one c.args.names.now i _ 0 c.names-test.true
    ∙ sym c.in_ok-edits.ensures in
    let best : Option ℕ → ℕ → Type 0 = λ o n. BestSoFar f (i + 1) o n in
    elim c.if-edits-fewest.branch [
      | then-edits-fewest w ↦ (
          let nearer : f i < c.names.fewest = subst (λ (n : ℕ). n < c.names.fewest) (sym here)
          w.if-edits-fewest.true in
          let found = best_found f i c.names.found c.names.fewest c.names.invariant nearer in
          subst (λ (o : Option ℕ). best o c.if-edits-fewest.fewest) (sym w.found-is)
          (subst (λ (n : ℕ). best (Some i) n) (here ∙ sym w.fewest-is) found))
      | else-edits-fewest w ↦ (
          let farther : c.names.fewest ≤ f i =
          subst (λ (n : ℕ). c.names.fewest ≤ n) (sym here) w.if-edits-fewest.false in
          let kept = best_kept f i c.names.found c.names.fewest c.names.invariant farther in
          subst (λ (o : Option ℕ). best o c.if-edits-fewest.fewest) (sym w.found-is)
          (subst (λ (n : ℕ). best c.names.found n) (sym w.fewest-is) kept))
    ]

pub returns : goal.returns
returns c =
    let one : Bor (List ℕ) → ℕ = λ n. edits_between c.args.word.now n.now in
    let edits = map one c.args.names.now in
    let same : length edits ≡ length c.args.names.now = length-map c.args.names.now one in
    let all : c.names.i ≡ length edits = omega arith in
    best_of_all edits c.names.found c.names.fewest
    (subst (λ (k : ℕ). BestSoFar (λ j. get_or edits j 0) k c.names.found c.names.fewest) all
    c.names.invariant)
