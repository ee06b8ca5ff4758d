-- The bits by which a hub tells its changes (11.12.4), as words of two bytes.
use Rattle.std.proofs.Common.{◌≡◌, ◌≢◌, ◌≤◌, ◌<◌, ◌⊎◌, ◌∙◌, ◌/◌, ◌%◌, ◌^◌, ◌||◌, inl, inr, sym, ap}
use Rattle.std.proofs.Common.{subst, arith, if◌then◌else◌, ℕ, zero, suc, ◌+◌, ◌-◌, ◌*◌, Bool, true}
use Rattle.std.proofs.Common.{false, List, Option, None, Some, slice_get, nat_lt}
use Rattle.std.proofs.lemmas.Bool.{cases_lt, eq-eqb, eqb-true}
use Rattle.usb_port.specs.{PortState, has_bit, has_change}
use Rattle.usb_device.specs.{change_bits, changed_bit, high_changes, low_changes}

-- Words

-- eight bits as a byte, and sixteen as two
abbrev pub byte_of : (ℕ → ℕ) → ℕ
byte_of t = t 0 + 2 * t 1 + 4 * t 2 + 8 * t 3 + 16 * t 4 + 32 * t 5 + 64 * t 6 + 128 * t 7

abbrev pub word_of : (ℕ → ℕ) → ℕ
word_of t = byte_of t + 256 * byte_of (λ k. t (8 + k))

abbrev pub AreBits : (ℕ → ℕ) → Type 0
AreBits t = (k : ℕ) → t k ≤ 1

record EightBits (t : ℕ → ℕ) : Type 0 where
  a : t 0 ≤ 1
  b : t 1 ≤ 1
  c : t 2 ≤ 1
  d : t 3 ≤ 1
  e : t 4 ≤ 1
  f : t 5 ≤ 1
  g : t 6 ≤ 1
  h : t 7 ≤ 1

eight : (t : ℕ → ℕ) → AreBits t → EightBits t
eight t few = grind arith

-- a bit of a byte
byte_bit : (t : ℕ → ℕ) → EightBits t → (k : ℕ) → k < 8 → byte_of t / 2 ^ k % 2 ≡ t k
byte_bit t x zero less = omega arith
byte_bit t x (suc zero) less = omega arith
byte_bit t x (suc (suc zero)) less = omega arith
byte_bit t x (suc (suc (suc zero))) less = omega arith
byte_bit t x (suc (suc (suc (suc zero)))) less = omega arith
byte_bit t x (suc (suc (suc (suc (suc zero))))) less = omega arith
byte_bit t x (suc (suc (suc (suc (suc (suc zero)))))) less = omega arith
byte_bit t x (suc (suc (suc (suc (suc (suc (suc zero))))))) less = omega arith
byte_bit t x (suc (suc (suc (suc (suc (suc (suc (suc k)))))))) less = absurd (omega arith)

byte_most : (t : ℕ → ℕ) → EightBits t → byte_of t ≤ 255
byte_most t x = omega arith

-- of the low byte, and of the high one
low_bit : (low high k : ℕ) → k < 8 → (low + 256 * high) / 2 ^ k % 2 ≡ low / 2 ^ k % 2
low_bit low high zero less = omega arith
low_bit low high (suc zero) less = omega arith
low_bit low high (suc (suc zero)) less = omega arith
low_bit low high (suc (suc (suc zero))) less = omega arith
low_bit low high (suc (suc (suc (suc zero)))) less = omega arith
low_bit low high (suc (suc (suc (suc (suc zero))))) less = omega arith
low_bit low high (suc (suc (suc (suc (suc (suc zero)))))) less = omega arith
low_bit low high (suc (suc (suc (suc (suc (suc (suc zero))))))) less = omega arith
low_bit low high (suc (suc (suc (suc (suc (suc (suc (suc k)))))))) less = absurd (omega arith)

high_bit : (low high k : ℕ) → low ≤ 255 → k < 8
    → (low + 256 * high) / 2 ^ (8 + k) % 2 ≡ high / 2 ^ k % 2
high_bit low high zero small less = omega arith
high_bit low high (suc zero) small less = omega arith
high_bit low high (suc (suc zero)) small less = omega arith
high_bit low high (suc (suc (suc zero))) small less = omega arith
high_bit low high (suc (suc (suc (suc zero)))) small less = omega arith
high_bit low high (suc (suc (suc (suc (suc zero))))) small less = omega arith
high_bit low high (suc (suc (suc (suc (suc (suc zero)))))) small less = omega arith
high_bit low high (suc (suc (suc (suc (suc (suc (suc zero))))))) small less = omega arith
high_bit low high (suc (suc (suc (suc (suc (suc (suc (suc k)))))))) small less =
    absurd (omega arith)

-- a bit of a word
pub word_bit : (t : ℕ → ℕ) → AreBits t → (n : ℕ) → n < 16 → word_of t / 2 ^ n % 2 ≡ t n
word_bit t few n less = pick (cases_lt n 8)
  where
    low : EightBits t
    low = eight t few

    at_high : (k : ℕ) → k < 8 → word_of t / 2 ^ (8 + k) % 2 ≡ t (8 + k)
    at_high k small = search (byte_bit, byte_most, high_bit)

    pick : (n < 8) ⊎ (8 ≤ n) → word_of t / 2 ^ n % 2 ≡ t n
    pick (inl small) = grind (arith, byte_bit, low_bit)
    pick (inr most) =
        let is : 8 + (n - 8) ≡ n = omega arith in
        subst (λ m. word_of t / 2 ^ m % 2 ≡ t m) is (at_high (n - 8) (omega arith))

-- one of its bits is set, where it is not 0
abbrev SomeBit : (ℕ → ℕ) → ℕ → Type 0
SomeBit t n = (k : ℕ) × (k < n) × (1 ≤ t k)

first_bit : (t : ℕ → ℕ) (n : ℕ) → SomeBit t n ⊎ ((k : ℕ) → k < n → t k ≡ 0)
first_bit t zero = inr (λ k less. absurd (omega arith))
first_bit t (suc n) = before (first_bit t n)
  where
    before : SomeBit t n ⊎ ((k : ℕ) → k < n → t k ≡ 0)
        → SomeBit t (suc n) ⊎ ((k : ℕ) → k < suc n → t k ≡ 0)
    before (inl x) = inl (x.0, omega (arith, x.1), x.2)
    before (inr none) = here (cases_lt 0 (t n))
      where
        last : t n ≡ 0 → (k : ℕ) → k < suc n → (k < n) ⊎ (n ≤ k) → t k ≡ 0
        last is k less (inl small) = none k small
        last is k less (inr most) = let same : k ≡ n = omega arith in ap t same ∙ is

        here : (0 < t n) ⊎ (t n ≤ 0) → SomeBit t (suc n) ⊎ ((k : ℕ) → k < suc n → t k ≡ 0)
        here (inl some) = inl (n, omega arith, omega arith)
        here (inr zeros) = inr (λ k less. last (omega arith) k less (cases_lt k n))

pub word_some : (t : ℕ → ℕ) → word_of t ≢ 0 → (n : ℕ) × (n < 16) × (1 ≤ t n)
word_some t some = elim (first_bit t 16) [
  | inl x ↦ x
  | inr none ↦ absurd (grind arith)
]

-- none is set, where it is 0
pub word_none : (t : ℕ → ℕ) → word_of t ≡ 0 → (n : ℕ) → n < 16 → t n ≡ 0
word_none t is n less = grind arith

-- A port

-- a port that has a change
abbrev pub HasChange : List PortState → ℕ → Type 0
HasChange row i = (p : PortState) × (slice_get row i ≡ Some p) × (has_change p ≡ true)

abbrev pub weight_of : Option PortState → ℕ → ℕ
weight_of o weight = elim o [ None ↦ 0 | Some p ↦ if has_change p then weight else 0 ]

scaled_by : (o : Option PortState) (weight : ℕ) → weight_of o weight ≡ weight * weight_of o 1
scaled_by o weight = grind arith

few_by : (o : Option PortState) → weight_of o 1 ≤ 1
few_by o = grind arith

-- it counts once, where it has a change
scaled : (row : List PortState) (i weight : ℕ)
    → changed_bit row i weight ≡ weight * changed_bit row i 1
scaled row i weight = scaled_by (slice_get row i) weight

once : (row : List PortState) (i : ℕ) → changed_bit row i 1 ≤ 1
once row i = few_by (slice_get row i)

-- What a hub tells

of_bit : (bits n : ℕ) → has_bit bits n ≡ true → bits / 2 ^ n % 2 ≡ 1
unfolding has_bit
of_bit bits n set = eqb-true (bits / 2 ^ n % 2) 1 set

to_bit : (bits n : ℕ) → bits / 2 ^ n % 2 ≡ 1 → has_bit bits n ≡ true
unfolding has_bit
to_bit bits n is = eq-eqb (bits / 2 ^ n % 2) 1 is

-- bit 0 is the hub's own, and never set; behind it there is one for each port that is told of
abbrev pub told_at : Bool → List PortState → ℕ → ℕ
told_at wide row zero = 0
told_at wide row (suc i) = if nat_lt i 7 || wide then changed_bit row i 1 else 0

pub told_few : (wide : Bool) (row : List PortState) → AreBits (told_at wide row)
told_few wide row = grind arith

low_is : (wide : Bool) (row : List PortState) → low_changes row ≡ byte_of (told_at wide row)
low_is wide row = grind (arith, scaled)

high_is : (row : List PortState) → high_changes row ≡ byte_of (λ k. told_at true row (8 + k))
high_is row = grind (arith, scaled)

both_are : (wide : Bool) (row : List PortState)
    → low_changes row + (if wide then 256 * high_changes row else 0) ≡ word_of (told_at wide row)
both_are true row = omega (arith, low_is true row, high_is row)
both_are false row = omega (arith, low_is false row)

abbrev pub told_of : ℕ → List PortState → ℕ → ℕ
told_of ports row = told_at (nat_lt 7 ports) row

told_word : (ports : ℕ) (row : List PortState) → change_bits ports row ≡ word_of (told_of ports row)
unfolding change_bits
told_word ports row = both_are (nat_lt 7 ports) row

module _ (ports : ℕ) (row : List PortState) where
  word_at : (n : ℕ) → n < 16 → change_bits ports row / 2 ^ n % 2 ≡ told_of ports row n
  word_at n less = search (told_few, told_word, word_bit)

  -- the hub itself has none
  pub none_own : change_bits ports row ≢ 1
  none_own is =
      let bit : 1 / 2 ^ 0 % 2 ≡ 0 = rw is at (word_at 0 (omega arith)) in
      absurd (omega (arith, bit))

  of_if : (b : Bool) (i : ℕ) → (if b then changed_bit row i 1 else 0) ≡ 1 → HasChange row i
  of_if b i is = grind arith

  -- a bit that is set is that of a port with a change
  pub bit_changed : (i : ℕ) → i < 15 → has_bit (change_bits ports row) (suc i) ≡ true
      → HasChange row i
  bit_changed i less set = of_if (nat_lt i 7 || nat_lt 7 ports) i
      (sym (word_at (suc i) (omega arith)) ∙ of_bit (change_bits ports row) (suc i) set)

  -- and one is, where not all are 0
  set_by : (n : ℕ) → n < 16 → 1 ≤ told_of ports row n
      → (i : ℕ) × (i < 15) × (has_bit (change_bits ports row) (suc i) ≡ true)
  set_by zero less h = absurd (omega arith)
  set_by (suc i) less h =
      let one : told_of ports row (suc i) ≡ 1 =
      omega (arith, told_few (nat_lt 7 ports) row (suc i)) in
      (i, omega arith, to_bit (change_bits ports row) (suc i) (word_at (suc i) less ∙ one))

  pub bit_some : change_bits ports row ≢ 0
      → (i : ℕ) × (i < 15) × (has_bit (change_bits ports row) (suc i) ≡ true)
  bit_some some =
      let set = word_some (told_of ports row) (search told_word) in
      set_by set.0 set.1 set.2

  if_none : (b : Bool) (n : ℕ) → b ≡ true → (if b then n else 0) ≡ 0 → n ≡ 0
  if_none b n is h = grind arith

  is_told : (i : ℕ) → i < ports → (i < 7) ⊎ (7 ≤ i) → (nat_lt i 7 || nat_lt 7 ports) ≡ true
  is_told i less h = grind arith

  -- where all are 0, no port of the hub counts
  pub none_counts : ports ≤ 15 → change_bits ports row ≡ 0 → (i : ℕ) → i < ports
      → changed_bit row i 1 ≡ 0
  none_counts few is i less =
      if_none (nat_lt i 7 || nat_lt 7 ports) (changed_bit row i 1)
      (is_told i less (cases_lt i 7))
      (word_none (told_of ports row) (sym (told_word ports row) ∙ is) (suc i) (omega arith))
