use Rattle.std.proofs.Common.{◌≡◌, ◌≢◌, ◌<◌, ℕ, Bool, true, false, ◌&&◌, ◌==◌, ap, arith, drop}
use Rattle.std.proofs.Common.{length}
use Rattle.std.proofs.Common.{get_or, take, ◌-◌, length-drop, refl, sym, ◌∙◌}
use Rattle.std.proofs.lemmas.Bool.{le-ltb}
use Rattle.std.proofs.lemmas.Bool.Decides.{nat_tests}
use Rattle.std.proofs.lemmas.List.{take_rest}
use Rattle.usb_request.specs.{ENDPOINT}
use Rattle.usb_remarks.proofs.Endpoints.{endpoints_found, endpoints_next, endpoints_none}
use Rattle.usb_remarks.proofs.text.first_endpoint.Goals as goal
use Rattle.usb_remarks.proofs.text.first_endpoint.Goals.{else-counts-via-else-counts}

counts_here : (counts : Bool) (kind : ℕ) → counts ≡ true → kind ≡ 5
    → (counts && kind == ENDPOINT) ≡ true
counts_here counts kind h k = rw (h, k) refl

other_kind : (kind : ℕ) → kind ≢ 5 → (kind == ENDPOINT) ≡ false
other_kind kind h = grind (arith, nat_tests, h)

no_endpoint : (counts : Bool) (kind : ℕ) → kind ≢ 5 → (counts && kind == ENDPOINT) ≡ false
no_endpoint true kind h = other_kind kind h
no_endpoint false kind h = refl

counts_not : (counts : Bool) (kind : ℕ) → counts ≡ false → (counts && kind == ENDPOINT) ≡ false
counts_not counts kind h = rw h refl

pub returns-then-byte_at-eq-ENDPOINT-clause-value :
    goal.returns-then-byte_at-eq-ENDPOINT-clause-value
returns-then-byte_at-eq-ENDPOINT-clause-value c =
    let rest = take_rest c.args.text.now c.items.at in
    let some : 0 < length (drop c.items.at c.args.text.now) =
    omega (arith, length-drop c.items.at c.args.text.now, c.items-test.true) in
    endpoints_found c.args.text.now _ c.items.at c.items.counts rest
    (omega (arith, ap length rest, some)) (le-ltb _ 2 c.if-rest-lt2.false)
    (counts_here c.items.counts _ c.if-counts.true
    (sym c.byte_at.ensures ∙ c.if-byte_at-eq-ENDPOINT.true)) c.items.invariant

pub items-preserved : goal.items-preserved
items-preserved c =
    let rest = take_rest c.args.text.now c.items.at in
    let some : 0 < length (drop c.items.at c.args.text.now) =
    omega (arith, length-drop c.items.at c.args.text.now, c.items-test.true) in
    let item = take (length c.args.text.now - c.items.at) (drop c.items.at c.args.text.now) in
    let other : (c.items.counts && get_or item 1 0 == ENDPOINT) ≡ false =
    elim c.else-counts.branch [
      | goal.else-counts-via-then-counts+else-byte_at-eq-ENDPOINT w ↦ no_endpoint c.items.counts _
          (λ is. w.if-byte_at-eq-ENDPOINT.false (w.byte_at.ensures ∙ is))
      | else-counts-via-else-counts w ↦ counts_not c.items.counts _ w.if-counts.false
    ] in
    rw (c.from-at.ensures, c.counts_behind-counts.ensures)
    (endpoints_next c.args.text.now _ c.items.at c.items.counts rest
    (omega (arith, ap length rest, some)) (le-ltb _ 2 c.if-rest-lt2.false) other
    c.items.invariant)

pub returns-clause-value : goal.returns-clause-value
returns-clause-value c = endpoints_none c.args.text.now c.items.at c.items.counts
    c.items-test.false c.items.invariant
