-- The damages to the attempts that were made stay.
use Rattle.std.proofs.Common.{◌≡◌, ◌≤◌, ◌<◌, ◌+◌, ◌⊎◌, inl, inr, ℕ, zero, suc, true, false, List}
use Rattle.std.proofs.Common.{[], ◌∷◌, Option, None, Some, if◌then◌else◌, take, refl, arith, nat_le}
use Rattle.std.proofs.Common.{nat_lt}
use Rattle.std.proofs.Common.{sym, ap, ◌∙◌, ◌==◌, ◌&&◌}
use Rattle.std.proofs.lemmas.Bool.{and_parts, leb-true, le-leb, ltb-true}
use Rattle.std.specs.Prelude.{⊤}
use Rattle.usb_world.proofs.Interface.{decided}
use Rattle.usb_places.specs.declared.seen.Seen.{Seen}
use Rattle.usb_places.specs.declared.sought.Sought.{Sought}
use Rattle.usb_places.specs.declared.sought.Whose.{Whose}
use Rattle.usb_places.specs.declared.sought.Whose.TheVariants as whose
use Rattle.usb_places.specs.{damage_found, damages_known, inserted, inserted_some, number_at}
use Rattle.usb_places.specs.{to_attempt}
use Rattle.usb_world.specs.{Damage, damage_fits, damage_of, damages_fit, harm_fits}
use Rattle.usb_bench_laws.proofs.Seen.{AreSeen, IsSeen}

-- attempts rise, and none is before that one
abbrev IsRising : ℕ → List Damage → Type 0
IsRising last [] = ⊤
IsRising last (x ∷ xs) = (last ≤ x.attempt) × IsRising x.attempt xs

-- the first damages, up to one to a later attempt
abbrev early : ℕ → List Damage → List Damage
early a [] = []
early a (x ∷ xs) = if nat_le x.attempt a then x ∷ early a xs else []

not_le : (m n : ℕ) → n < m → nat_le m n ≡ false
not_le m n lt = grind (arith, lt)

not_same : (m n : ℕ) → n < m → (m == n) ≡ false
not_same m n lt = grind (arith, lt)

-- an attempt before them all has no damage
none_of : (m last n : ℕ) (xs : List Damage) → n < last → IsRising last xs
    → damage_of (take m xs) n ≡ None
unfolding damage_of
none_of zero last n xs lt up = refl
none_of (suc m) last n [] lt up = refl
none_of (suc m) last n (x ∷ xs) lt up =
    let more : n < x.attempt = omega (arith, lt, up.0) in
    rw (not_same x.attempt n more) (none_of m x.attempt n xs more up.1)

early_of : (a m last n : ℕ) (xs : List Damage) → n ≤ a → IsRising last xs
    → damage_of (take m xs) n ≡ damage_of (take m (early a xs)) n
unfolding damage_of
early_of a zero last n xs le up = refl
early_of a (suc m) last n [] le up = refl
early_of a (suc m) last n (x ∷ xs) le up =
    split (early_of a m x.attempt n xs le up.1) (decided (nat_le x.attempt a))
  where
    split : damage_of (take m xs) n ≡ damage_of (take m (early a xs)) n
        → (nat_le x.attempt a ≡ true) ⊎ (nat_le x.attempt a ≡ false)
        → damage_of (take (suc m) (x ∷ xs)) n
        ≡ damage_of (take (suc m) (if nat_le x.attempt a then x ∷ early a xs else [])) n
    split rest (inl e) = rw e (ap (λ o. if x.attempt == n then Some x else o) rest)
    split rest (inr e) =
        let late : a < x.attempt = grind (arith, e) in
        rw e (none_of (suc m) x.attempt n (x ∷ xs) (omega (arith, late, le)) (omega arith, up.1))

-- what is inserted to a later attempt changes no early damage
late_insert : (a : ℕ) (d : Damage) (xs : List Damage) → a < d.attempt
    → early a (inserted d xs) ≡ early a xs
unfolding inserted
late_insert a d [] lt = rw (not_le d.attempt a lt) refl
late_insert a d (x ∷ xs) lt =
    split (late_insert a d xs lt) (decided (nat_lt d.attempt x.attempt))
    (decided (nat_lt x.attempt d.attempt))
  where
    split : early a (inserted d xs) ≡ early a xs
        → (nat_lt d.attempt x.attempt ≡ true) ⊎ (nat_lt d.attempt x.attempt ≡ false)
        → (nat_lt x.attempt d.attempt ≡ true) ⊎ (nat_lt x.attempt d.attempt ≡ false)
        → early a (if nat_lt d.attempt x.attempt then d ∷ x ∷ xs
        else if nat_lt x.attempt d.attempt then x ∷ inserted d xs else x ∷ xs)
        ≡ early a (x ∷ xs)
    split rest (inl e) _ =
        let late : a < x.attempt = omega (arith, lt, ltb-true d.attempt x.attempt e) in
        rw (e, not_le d.attempt a lt, not_le x.attempt a late) refl
    split rest (inr e) (inl f) = rw (e, f, rest) refl
    split rest (inr e) (inr f) = rw (e, f) refl

-- what is inserted to an early attempt is inserted in the early damages
early_insert : (a : ℕ) (d : Damage) (xs : List Damage) → d.attempt ≤ a
    → early a (inserted d xs) ≡ inserted d (early a xs)
unfolding inserted
early_insert a d [] le = rw (le-leb d.attempt a le) refl
early_insert a d (x ∷ xs) le =
    split (early_insert a d xs le) (decided (nat_lt d.attempt x.attempt))
    (decided (nat_lt x.attempt d.attempt)) (decided (nat_le x.attempt a))
  where
    split : early a (inserted d xs) ≡ inserted d (early a xs)
        → (nat_lt d.attempt x.attempt ≡ true) ⊎ (nat_lt d.attempt x.attempt ≡ false)
        → (nat_lt x.attempt d.attempt ≡ true) ⊎ (nat_lt x.attempt d.attempt ≡ false)
        → (nat_le x.attempt a ≡ true) ⊎ (nat_le x.attempt a ≡ false)
        → early a (if nat_lt d.attempt x.attempt then d ∷ x ∷ xs
        else if nat_lt x.attempt d.attempt then x ∷ inserted d xs else x ∷ xs)
        ≡ inserted d (if nat_le x.attempt a then x ∷ early a xs else [])
    split rest (inl e) _ (inl g) = simp (e, g, le-leb d.attempt a le)
    split rest (inl e) _ (inr g) = simp (e, g, le-leb d.attempt a le)
    split rest (inr e) (inl f) (inl g) = simp (e, f, g) (ap (λ l. x ∷ l) rest)
    split rest (inr e) (inr f) (inl g) = simp (e, f, g)
    split rest (inr e) _ (inr g) = absurd (grind (arith, e, g, le))

-- the same, of what may be inserted

late_some : (a : ℕ) (o : Option Damage) (xs : List Damage)
    → ((d : Damage) → o ≡ Some d → a < d.attempt) → early a (inserted_some o xs) ≡ early a xs
late_some a None xs late = refl
late_some a (Some d) xs late = late_insert a d xs (late d refl)

same_some : (a : ℕ) (o : Option Damage) (xs ys : List Damage) → early a xs ≡ early a ys
    → early a (inserted_some o xs) ≡ early a (inserted_some o ys)
same_some a None xs ys same = same
same_some a (Some d) xs ys same = split (decided (nat_le d.attempt a))
  where
    split : (nat_le d.attempt a ≡ true) ⊎ (nat_le d.attempt a ≡ false)
        → early a (inserted d xs) ≡ early a (inserted d ys)
    split (inl e) =
        let le : d.attempt ≤ a = leb-true d.attempt a e in
        early_insert a d xs le ∙ ap (inserted d) same ∙ sym (early_insert a d ys le)
    split (inr e) =
        let late : a < d.attempt = grind (arith, e) in
        late_insert a d xs late ∙ same ∙ sym (late_insert a d ys late)

none_found : (w : Whose) → to_attempt w None ≡ None
none_found (whose.Event k) = refl
none_found (whose.Damage d) = refl

found_late : (w : Whose) (x : Seen) (d : Damage) → to_attempt w (Some (number_at w x)) ≡ Some d
    → x.attempts < d.attempt
unfolding number_at
found_late (whose.Event k) x d e = absurd (cc)
found_late (whose.Damage c) x d e =
    let same : record c { attempt = x.attempts + 1 } ≡ d = cc in
    omega (arith, ap (λ (y : Damage). y.attempt) same)

one_seen : (x : Seen) (s t : Sought) (xs ys : List Damage) → IsSeen x s t
    → early x.attempts xs ≡ early x.attempts ys
    → early x.attempts (inserted_some (damage_found s) xs)
    ≡ early x.attempts (inserted_some (damage_found t) ys)
one_seen x s t xs ys is same = split is.found
  where
    split : (t.found ≡ s.found) ⊎ ((s.found ≡ None) × (t.found ≡ Some (number_at s.whose x)))
        → early x.attempts (inserted_some (to_attempt s.whose s.found) xs)
        ≡ early x.attempts (inserted_some (to_attempt t.whose t.found) ys)
    split (inl h) = rw (is.whose, h) (same_some x.attempts (damage_found s) xs ys same)
    split (inr h) = rw (is.whose, h.0, h.1, none_found s.whose)
        (same ∙ sym (late_some x.attempts (to_attempt s.whose (Some (number_at s.whose x))) ys
        (found_late s.whose x)))

early_known : (x : Seen) (ss ts : List Sought) (xs ys : List Damage) → AreSeen x ss ts
    → early x.attempts xs ≡ early x.attempts ys
    → early x.attempts (damages_known xs ss) ≡ early x.attempts (damages_known ys ts)
unfolding damages_known
early_known x [] [] xs ys are same = same
early_known x (s ∷ ss) (t ∷ ts) xs ys are same =
    early_known x ss ts (inserted_some (damage_found s) xs)
    (inserted_some (damage_found t) ys) are.1 (one_seen x s t xs ys are.0 same)
early_known x [] (t ∷ ts) xs ys are same = absurd are
early_known x (s ∷ ss) [] xs ys are same = absurd are

-- attempts rise in all that are known

rising_insert : (last : ℕ) (d : Damage) (xs : List Damage) → last ≤ d.attempt → IsRising last xs
    → IsRising last (inserted d xs)
unfolding inserted
rising_insert last d [] le up = (le, tt)
rising_insert last d (x ∷ xs) le up =
    split (λ more. rising_insert x.attempt d xs more up.1) (decided (nat_lt d.attempt x.attempt))
    (decided (nat_lt x.attempt d.attempt))
  where
    split : (x.attempt ≤ d.attempt → IsRising x.attempt (inserted d xs))
        → (nat_lt d.attempt x.attempt ≡ true) ⊎ (nat_lt d.attempt x.attempt ≡ false)
        → (nat_lt x.attempt d.attempt ≡ true) ⊎ (nat_lt x.attempt d.attempt ≡ false)
        → IsRising last (if nat_lt d.attempt x.attempt then d ∷ x ∷ xs
        else if nat_lt x.attempt d.attempt then x ∷ inserted d xs else x ∷ xs)
    split rest (inl e) _ = rw e (le, (omega (arith, ltb-true d.attempt x.attempt e), up.1))
    split rest (inr e) (inl f) = rw (e, f)
        (up.0, rest (omega (arith, ltb-true x.attempt d.attempt f)))
    split rest (inr e) (inr f) = rw (e, f) up

rising_some : (o : Option Damage) (xs : List Damage) → IsRising 0 xs
    → IsRising 0 (inserted_some o xs)
rising_some None xs up = up
rising_some (Some d) xs up = rising_insert 0 d xs (omega arith) up

rising_known : (xs : List Damage) (ss : List Sought) → IsRising 0 xs
    → IsRising 0 (damages_known xs ss)
unfolding damages_known
rising_known xs [] up = up
rising_known xs (s ∷ ss) up =
    rising_known (inserted_some (damage_found s) xs) ss (rising_some (damage_found s) xs up)

rising_fit : (last : ℕ) (xs : List Damage) → damages_fit last xs ≡ true → IsRising last xs
rising_fit last [] fits = tt
rising_fit last (x ∷ xs) fits =
    let parts = and_parts (damage_fits last x) (damages_fit x.attempt xs) fits in
    let harm = and_parts (nat_lt last x.attempt && nat_le 1 x.packet && nat_le x.packet 3)
    (harm_fits x.harm) parts.0 in
    let most = and_parts (nat_lt last x.attempt && nat_le 1 x.packet) (nat_le x.packet 3) harm.0 in
    let least = and_parts (nat_lt last x.attempt) (nat_le 1 x.packet) most.0 in
    (omega (arith, ltb-true last x.attempt least.0), rising_fit x.attempt xs parts.1)

pub damages_stay : (x : Seen) (ss ts : List Sought) (damages : List Damage) (m n : ℕ)
    → damages_fit 0 damages ≡ true → AreSeen x ss ts → n ≤ x.attempts
    → damage_of (take m (damages_known damages ss)) n
    ≡ damage_of (take m (damages_known damages ts)) n
damages_stay x ss ts damages m n fits are le =
    let up = rising_fit 0 damages fits in
    early_of x.attempts m 0 n (damages_known damages ss) le (rising_known damages ss up)
    ∙ ap (λ l. damage_of (take m l) n) (early_known x ss ts damages damages are refl)
    ∙ sym (early_of x.attempts m 0 n (damages_known damages ts) le (rising_known damages ts up))
