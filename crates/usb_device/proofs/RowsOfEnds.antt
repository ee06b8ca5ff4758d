-- Rows of endpoints: what stands at a number after another one was put there.
use Rattle.std.proofs.Common.{◌≡◌, ℕ, zero, suc, ◌+◌, ◌<◌, ◌==◌, ◌||◌, true, false, List, []}
use Rattle.std.proofs.Common.{◌∷◌, length, map}
use Rattle.std.proofs.Common.{get_or, slice_set, refl, ap, ap₂, sym, ◌∙◌, arith}
use Rattle.std.proofs.Common.{Bool, eqb-true}
use Rattle.std.proofs.lemmas.Bool.Decides.{nat_tests}
use Rattle.usb_device.specs.{begun_if, numbered_from, with_at}

pub none_less : {P : Type 0} (n : ℕ) → n < 0 → P
none_less n h = absurd (lt_zero n h)
  where
    lt_zero : (n : ℕ) → n < 0 → ⊥
    lt_zero n h = omega (arith, h)

module _ {A : Type 0} (none : A) where
  pub at_same : (n : ℕ) (x : A) (row : List A) → get_or (with_at none n x row) n none ≡ x
  unfolding with_at
  at_same zero x [] = refl
  at_same zero x (y ∷ row) = refl
  at_same (suc n) x [] = at_same n x []
  at_same (suc n) x (y ∷ row) = at_same n x row

  pub at_other : (n m : ℕ) (x : A) (row : List A) → (m == n) ≡ false
      → get_or (with_at none n x row) m none ≡ get_or row m none
  unfolding with_at
  at_other zero zero x row h = cc h
  at_other zero (suc m) x [] h = refl
  at_other zero (suc m) x (y ∷ row) h = refl
  at_other (suc n) zero x [] h = refl
  at_other (suc n) zero x (y ∷ row) h = refl
  at_other (suc n) (suc m) x [] h = at_other n m x [] (grind (arith, nat_tests, h))
  at_other (suc n) (suc m) x (y ∷ row) h = at_other n m x row (grind (arith, nat_tests, h))

  pub slice_set-row : (n : ℕ) (x : A) (row : List A) → n < length row
      → slice_set row n x ≡ with_at none n x row
  unfolding with_at
  slice_set-row n x [] h = none_less n h
  slice_set-row zero x (y ∷ row) h = refl
  slice_set-row (suc n) x (y ∷ row) h =
      ap (λ more. y ∷ more) (slice_set-row n x row (omega (arith, h)))

  get_or-any : (n : ℕ) (x : A) (row : List A) → n < length row → get_or row n x ≡ get_or row n none
  get_or-any n x [] h = none_less n h
  get_or-any zero x (y ∷ row) h = refl
  get_or-any (suc n) x (y ∷ row) h = get_or-any n x row (omega (arith, h))

  -- the one that was read there is changed
  pub slice_set-changed : (f : A → A) (n i : ℕ) (x read : A) (row : List A) → i ≡ n
      → n < length row → x ≡ read → read ≡ get_or row i read
      → slice_set row i (f x) ≡ with_at none n (f (get_or row n none)) row
  slice_set-changed f n i x read row at h is found =
      ap (λ k. slice_set row k (f x)) at
      ∙ slice_set-row n (f x) row h
      ∙ ap (λ z. with_at none n (f z) row)
      (is ∙ found ∙ ap (λ k. get_or row k read) at ∙ get_or-any n read row h)

  -- each of a row is changed, as the one is that stands for those beyond it
  pub at_mapped : (f : A → A) → f none ≡ none → (n : ℕ) (row : List A)
      → get_or (map f row) n none ≡ f (get_or row n none)
  at_mapped f e n [] = sym e
  at_mapped f e zero (y ∷ row) = refl
  at_mapped f e (suc n) (y ∷ row) = at_mapped f e n row

  -- each is changed by its number, as those beyond the row are
  numbered-at : (change : ℕ → A → A) → ((e : ℕ) → change e none ≡ none) → (first e : ℕ)
      (row : List A) → get_or (numbered_from change first row) e none
      ≡ change (first + e) (get_or row e none)
  unfolding numbered_from
  numbered-at change same first e [] = sym (same (first + e))
  numbered-at change same first zero (y ∷ row) = ap (λ k. change k y) (omega arith)
  numbered-at change same first (suc e) (y ∷ row) = numbered-at change same (first + 1) e row
      ∙ ap (λ k. change k (get_or row e none)) (omega arith)

  pub at_numbered : (change : ℕ → A → A) → ((e : ℕ) → change e none ≡ none) → (e : ℕ)
      (row : List A) → get_or (numbered_from change 0 row) e none ≡ change e (get_or row e none)
  at_numbered change same e row = numbered-at change same 0 e row
      ∙ ap (λ k. change k (get_or row e none)) (omega arith)

-- each of a row, changed by its number: by what does the same, and again
module _ {A : Type 0} where
  pub numbered_from-same : (f g : ℕ → A → A) → ((e : ℕ) (x : A) → f e x ≡ g e x) → (first : ℕ)
      (row : List A) → numbered_from f first row ≡ numbered_from g first row
  unfolding numbered_from
  numbered_from-same f g same first [] = refl
  numbered_from-same f g same first (y ∷ row) = ap₂ (λ x more. x ∷ more) (same first y)
      (numbered_from-same f g same (first + 1) row)

  pub numbered_from-twice : (f g : ℕ → A → A) → ((e : ℕ) (x : A) → g e (f e x) ≡ f e x)
      → (first : ℕ) (row : List A)
      → numbered_from g first (numbered_from f first row) ≡ numbered_from f first row
  unfolding numbered_from
  numbered_from-twice f g same first [] = refl
  numbered_from-twice f g same first (y ∷ row) = ap₂ (λ x more. x ∷ more) (same first y)
      (numbered_from-twice f g same (first + 1) row)

  -- what begins again is as if it began once
  pub begun_if-twice : (rested : A → A) → ((x : A) → rested (rested x) ≡ rested x)
      → (before after : Bool) (x : A)
      → begun_if (after || after) rested (begun_if (before || after) rested x)
      ≡ begun_if (before || after) rested x
  begun_if-twice rested same true true x = same x
  begun_if-twice rested same false true x = same x
  begun_if-twice rested same before false x = refl

  pub begun_if-none : (rested : A → A) (none : A) → rested none ≡ none → (b : Bool)
      → begun_if b rested none ≡ none
  begun_if-none rested none same true = same
  begun_if-none rested none same false = refl

-- what is so of the end at one number is so of each, where it is so of any that stays
pub at_each : {A : Type 0} (none : A) (R : A → A → Type 0) → ((y : A) → R y y) → (n : ℕ) (x : A)
    (row : List A) → R (get_or row n none) x → (m : ℕ)
    → R (get_or row m none) (get_or (with_at none n x row) m none)
at_each {A} none R same n x row put m = by_test (m == n) refl
  where
    by_test : (b : Bool) → (m == n) ≡ b
        → R (get_or row m none) (get_or (with_at none n x row) m none)
    by_test true e = rw (eqb-true m n e, at_same none n x row) put
    by_test false e = rw (at_other none n m x row e) (same (get_or row m none))
