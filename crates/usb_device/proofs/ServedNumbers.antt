-- Which endpoints are served, by their numbers.
use Rattle.std.proofs.Common.{◌≡◌, ◌≤◌, ◌+◌, ◌-◌, ◌==◌, ◌&&◌, nat_le, ℕ, Bool, true, false}
use Rattle.std.proofs.Common.{List}
use Rattle.std.proofs.Common.{if◌then◌else◌, Option, None, Some, is_some, refl, ap, subst, arith}
use Rattle.std.proofs.lemmas.Bool.Decides.{nat_tests}
use Rattle.usb_request.specs.{DIRECTION_IN}
use Rattle.usb_descriptor.specs.{UsableEndpoint}
use Rattle.usb_descriptor.specs.{max_of_usable, status_endpoint_of, usable_under}
use Rattle.usb_descriptor.proofs.Interface.{usable_under-small, status_endpoint-usable}
use Rattle.usb_device.specs.{Registers, Spec, State, out_max, served, served_at}
use Rattle.usb_device.specs.{text_of, IsSink, IsSource, BulkIn, BulkOut, number_or_one}
use Rattle.usb_device.specs.{status_number}

-- numbers and maximums
small_at : (e most : ℕ) (settings : List ℕ) (low is_in none : Bool) (text : List ℕ)
    → max_of_usable (if none then None else usable_under settings low is_in e text) ≡ Some most
    → (1 ≤ e) × (e ≤ 15) × (1 ≤ most) × (most ≤ 64)
small_at e most settings low is_in true text h = cc h
small_at e most settings low is_in false text h =
    by_end (usable_under settings low is_in e text) refl h
  where
    max_or : Option ℕ → ℕ
    max_or None = 0
    max_or (Some n) = n

    by_end : (o : Option UsableEndpoint) → usable_under settings low is_in e text ≡ o
        → max_of_usable o ≡ Some most → (1 ≤ e) × (e ≤ 15) × (1 ≤ most) × (most ≤ 64)
    by_end None is g = cc g
    by_end (Some end) is g = subst (λ m. (1 ≤ e) × (e ≤ 15) × (1 ≤ m) × (m ≤ 64)) (ap max_or g)
        (usable_under-small settings low is_in e text end is)

pub out_max-small : (e most : ℕ) (s : State) → out_max s e ≡ Some most
    → (1 ≤ e) × (e ≤ 15) × (1 ≤ most) × (most ≤ 64)
out_max-small e most s h = small_at e most s.registers.settings s.spec.low false
    (s.registers.configuration == 0) (text_of s.spec s.registers) h

-- it is there where it has a maximum, and not where its number is too large
is_some-max : (o : Option UsableEndpoint) (most : ℕ) → max_of_usable o ≡ Some most
    → is_some o ≡ true
is_some-max None most h = cc h
is_some-max (Some end) most h = refl

none_above : (s : Spec) (g : Registers) (is_in : Bool) (n : ℕ) → 16 ≤ n
    → is_some (served_at s g is_in n) ≡ false
none_above s g is_in n large = by_end (served_at s g is_in n) refl
  where
    by_end : (o : Option UsableEndpoint) → served_at s g is_in n ≡ o → is_some o ≡ false
    by_end None is = refl
    by_end (Some end) is =
        let small = small_at n end.max g.settings s.low is_in (g.configuration == 0) (text_of s g)
        (ap max_of_usable is) in
        absurd (omega (arith, large, small.1))

-- the number of a status endpoint
pub status_number-small : (s : Spec) (g : Registers) → (1 ≤ status_number s g)
    × (status_number s g ≤ 15)
status_number-small s g = by_end (status_endpoint_of true (text_of s g)) refl
  where
    by_end : (o : Option (ℕ × ℕ)) → status_endpoint_of true (text_of s g) ≡ o
        → (1 ≤ number_or_one o) × (number_or_one o ≤ 15)
    by_end None is = (omega arith, omega arith)
    by_end (Some e) is =
        let usable = status_endpoint-usable true (text_of s g) is in (usable.0, usable.1)

-- no endpoint has a wIndex of more than a byte
pub served-above : (s : Spec) (g : Registers) (index : ℕ) → 256 ≤ index → served s g index ≡ None
served-above s g index large =
    let small = status_number-small s g in
    let other : (index == DIRECTION_IN + status_number s g) ≡ false =
    grind (arith, nat_tests, large, small.0, small.1) in
    rw (
      other,
      none_above s g false index (omega (arith, large)),
      none_above s g true (index - DIRECTION_IN) (omega (arith, large)),
    )
    (by_bit (nat_le DIRECTION_IN index))
  where
    by_bit : (b : Bool) → (if b && false then Some (BulkIn (index - DIRECTION_IN)) else None) ≡ None
    by_bit true = refl
    by_bit false = refl

pub ruleset far = (served-above)

-- a request names it by its number, and an IN endpoint with the bit of the direction
pub served-out : (e most : ℕ) (s : State) → IsSink e most s
    → served s.spec s.registers e ≡ Some (BulkOut e)
served-out e most s i =
    let small = out_max-small e most s i.endpoint in
    let other : (e == DIRECTION_IN + status_number s.spec s.registers) ≡ false =
    grind (arith, nat_tests, small.1) in
    rw (other, is_some-max (served_at s.spec s.registers false e) most i.endpoint) refl

pub served-in : (e most : ℕ) (s : State) → IsSource e most s
    → served s.spec s.registers (DIRECTION_IN + e) ≡ Some (BulkIn e)
served-in e most s i =
    let same : (DIRECTION_IN + e == DIRECTION_IN + number) ≡ (e == number) =
    by_number (e == number) refl in
    let in_bit : nat_le DIRECTION_IN (DIRECTION_IN + e) ≡ true = grind (arith, nat_tests) in
    let back : DIRECTION_IN + e - DIRECTION_IN ≡ e = omega arith in
    rw (
      same,
      i.alone,
      none_above s.spec s.registers false (DIRECTION_IN + e) (omega arith),
      in_bit,
      back,
      is_some-max (served_at s.spec s.registers true e) most i.endpoint,
    ) refl
  where
    number : ℕ
    number = status_number s.spec s.registers

    by_number : (b : Bool) → (e == number) ≡ b → (DIRECTION_IN + e == DIRECTION_IN + number) ≡ b
    by_number true at = grind (arith, nat_tests, at)
    by_number false at = grind (arith, nat_tests, at)
