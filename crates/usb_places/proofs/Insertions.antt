-- Where a damage is inserted, and that the damages stay in their order.
use Rattle.std.proofs.Common.{◌≡◌, ◌+◌, ◌<◌, ℕ, List, [], ◌∷◌, insert, ap, refl}
use Rattle.std.proofs.Common.{Bool, true, false, nat_lt, ◌==◌, slice_get, arith, ◌∙◌}
use Rattle.std.proofs.Common.{if◌then◌else◌, suc}
use Rattle.std.proofs.lemmas.Bool.{ltb-true}
use Rattle.usb_world.specs.{Damage}
use Rattle.usb_places.specs.{inserted, is_to, spot}

-- the list with it, or as it is
abbrev inserted_at : Damage → List Damage → ℕ → List Damage
inserted_at d xs i = if is_to d.attempt (slice_get xs i) then xs else insert xs i d

one_more : (b : Bool) (x : Damage) (xs ys : List Damage) → (if b then x ∷ xs else x ∷ ys)
    ≡ x ∷ (if b then xs else ys)
one_more true x xs ys = refl
one_more false x xs ys = refl

further : (d x : Damage) (xs : List Damage) (n : ℕ) → inserted_at d (x ∷ xs) (1 + n)
    ≡ x ∷ inserted_at d xs n
further d x xs n = let e : 1 + n ≡ suc n = omega arith in
    rw e (one_more (is_to d.attempt (slice_get xs n)) x xs (insert xs n d))

apart : (m n : ℕ) → m < n → (n == m) ≡ false
apart m n lt = grind (arith, lt)

alike : (m n : ℕ) → nat_lt n m ≡ false → nat_lt m n ≡ false → (n == m) ≡ true
alike m n e f = grind (arith, e, f)

step : (d x : Damage) (xs : List Damage) (b c : Bool) → nat_lt x.attempt d.attempt ≡ b
    → nat_lt d.attempt x.attempt ≡ c → inserted_at d xs (spot d.attempt xs) ≡ inserted d xs
    → inserted_at d (x ∷ xs) (if b then 1 + spot d.attempt xs else 0)
    ≡ (if c then d ∷ x ∷ xs else if b then x ∷ inserted d xs else x ∷ xs)
step d x xs true true e f ih =
    absurd (omega (arith, ltb-true x.attempt d.attempt e, ltb-true d.attempt x.attempt f))
step d x xs true false e f ih = further d x xs (spot d.attempt xs) ∙ ap (λ ys. x ∷ ys) ih
step d x xs false true e f ih = rw (apart d.attempt x.attempt (ltb-true d.attempt x.attempt f)) refl
step d x xs false false e f ih = rw (alike d.attempt x.attempt e f) refl

pub inserted_spot : (d : Damage) (xs : List Damage) → inserted_at d xs (spot d.attempt xs)
    ≡ inserted d xs
unfolding inserted spot
inserted_spot d [] = refl
inserted_spot d (x ∷ xs) = step d x xs (nat_lt x.attempt d.attempt) (nat_lt d.attempt x.attempt)
    refl refl (inserted_spot d xs)

pick_second : (b : Bool) (xs ys : List Damage) → b ≡ false → ys ≡ (if b then xs else ys)
pick_second true xs ys e = absurd (cc e)
pick_second false xs ys e = refl

pick_first : (b : Bool) (xs ys : List Damage) → b ≡ true → xs ≡ (if b then xs else ys)
pick_first true xs ys e = refl
pick_first false xs ys e = absurd (cc e)

-- what is left where the attempt has no damage, and where it has one
pub inserted_new : (d : Damage) (xs ys : List Damage) (i : ℕ) → i ≡ spot d.attempt xs
    → is_to d.attempt (slice_get xs i) ≡ false → ys ≡ insert xs i d → ys ≡ inserted d xs
inserted_new d xs ys i at free is = is ∙ (pick_second (is_to d.attempt (slice_get xs i)) xs
    (insert xs i d) free ∙ (ap (inserted_at d xs) at ∙ inserted_spot d xs))

pub inserted_old : (d : Damage) (xs : List Damage) (i : ℕ) → i ≡ spot d.attempt xs
    → is_to d.attempt (slice_get xs i) ≡ true → xs ≡ inserted d xs
inserted_old d xs i at there = pick_first (is_to d.attempt (slice_get xs i)) xs
    (insert xs i d) there ∙ (ap (inserted_at d xs) at ∙ inserted_spot d xs)
