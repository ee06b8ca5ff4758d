-- The totals of a plan's devices, one event more at a time.
use Rattle.std.proofs.Common.{◌≡◌, ℕ, ◌+◌, ◌<◌, List, [], ◌∷◌, ◌++◌, length, get_or, take, refl}
use Rattle.std.proofs.Common.{◌∙◌, ap, sym, max, min, ◌*◌, Bool, true, false, nat_le, arith}
use Rattle.std.proofs.Math.Nat.{min-eq_left, min-eq_right}
use Rattle.std.proofs.lemmas.Bool.{leb-true, leb-false}
use Rattle.std.proofs.lemmas.List.{take_more}
use Rattle.std.proofs.lemmas.List.Recursion.{max_push}
use Rattle.usb_device.specs.{Spec}
use Rattle.usb_world.specs.{Event}
use Rattle.usb_plan.specs.{plugged_total, greatest_total}

pub greatest_total-more : (devices : List Spec) (events : List Event) (i : ℕ) (e : Event)
    → i < length events → e ≡ get_or events i e → greatest_total devices (take (i + 1) events)
    ≡ max (greatest_total devices (take i events)) (plugged_total devices e)
unfolding greatest_total
greatest_total-more devices events i e lt is =
    ap (greatest_total devices) (take_more events i e lt)
    ∙ (ap (λ x. greatest_total devices (take i events ++ x ∷ [])) (sym is)
    ∙ max_push (greatest_total devices) (plugged_total devices) refl (λ _ _. refl)
    (take i events) e)

saturated-add_by : (s x top : ℕ) (b : Bool) → nat_le s top ≡ b
    → min (min s top + x) top ≡ min (s + x) top
saturated-add_by s x top true h = rw (min-eq_left (leb-true s top h))
saturated-add_by s x top false h =
    let more = leb-false s top h in
    rw (
      min-eq_right {n = top} {m = s} (omega (arith, more)),
      min-eq_right {n = top} {m = top + x} (omega arith),
      min-eq_right {n = top} {m = s + x} (omega (arith, more)),
    )

-- a sum that stays at the greatest number is the sum, and at most that number
pub saturated-add : (s x top : ℕ) → min (min s top + x) top ≡ min (s + x) top
saturated-add s x top = saturated-add_by s x top (nat_le s top) refl

saturated-times_by : (m top : ℕ) (b : Bool) → nat_le m top ≡ b
    → min (min m top * 1000) top ≡ min (m * 1000) top
saturated-times_by m top true h = rw (min-eq_left (leb-true m top h))
saturated-times_by m top false h =
    let more = leb-false m top h in
    rw (
      min-eq_right {n = top} {m = m} (omega (arith, more)),
      min-eq_right {n = top} {m = top * 1000} (omega arith),
      min-eq_right {n = top} {m = m * 1000} (omega (arith, more)),
    )

min-add_by : (a s top : ℕ) (b : Bool) → nat_le s top ≡ b → min (a + min s top) top ≡ min (a + s) top
min-add_by a s top true h = rw (min-eq_left (leb-true s top h))
min-add_by a s top false h =
    let more = leb-false s top h in
    rw (
      min-eq_right {n = top} {m = s} (omega (arith, more)),
      min-eq_right {n = top} {m = a + top} (omega arith),
      min-eq_right {n = top} {m = a + s} (omega (arith, more)),
    )

-- a thousand times a sum that stays at the greatest number, and more
pub saturated : (a m top : ℕ) → min (a + min (min m top * 1000) top) top ≡ min (a + m * 1000) top
saturated a m top = ap (λ x. min (a + x) top) (saturated-times_by m top (nat_le m top) refl)
    ∙ min-add_by a (m * 1000) top (nat_le (m * 1000) top) refl
