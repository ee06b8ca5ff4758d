-- Lists that begin alike.
use Rattle.std.proofs.Common.{◌≡◌, ◌<◌, ◌+◌, ℕ, zero, suc, List, [], ◌∷◌, take, drop}
use Rattle.std.proofs.Common.{arith, add-one}

behind_first : {X : Type 0} (t : ℕ) (xs : List X) (y : X) (ys : List X) → drop t xs ≡ y ∷ ys
    → ys ≡ drop (suc t) xs
behind_first zero (x ∷ xs) y ys h = cc
behind_first (suc t) (x ∷ xs) y ys h = behind_first t xs y ys h
behind_first zero [] y ys h = absurd (cc)
behind_first (suc t) [] y ys h = absurd (cc)

-- what is behind the first of what is left
pub drop_next : {X : Type 0} (t : ℕ) (xs : List X) (y : X) (ys : List X) → drop t xs ≡ y ∷ ys
    → ys ≡ drop (t + 1) xs
drop_next t xs y ys h = rw add-one (behind_first t xs y ys h)

first_alike : {X : Type 0} (n t : ℕ) (xs zs : List X) (y : X) (ys : List X)
    → take n xs ≡ take n zs → t < n → drop t xs ≡ y ∷ ys → drop t zs ≡ y ∷ drop (suc t) zs
first_alike zero t xs zs y ys e l h = absurd (omega (arith, l))
first_alike (suc n) zero (x ∷ xs) (z ∷ zs) y ys e l h = cc
first_alike (suc n) (suc t) (x ∷ xs) (z ∷ zs) y ys e l h =
    let rest : take n xs ≡ take n zs = cc in
    first_alike n t xs zs y ys rest (omega (arith, l)) h
first_alike (suc n) zero [] zs y ys e l h = absurd (cc)
first_alike (suc n) (suc t) [] zs y ys e l h = absurd (cc)
first_alike (suc n) t (x ∷ xs) [] y ys e l h = absurd (cc)

-- a list that begins alike goes on alike
pub same_next : {X : Type 0} (n t : ℕ) (xs zs : List X) (y : X) (ys : List X)
    → take n xs ≡ take n zs → t < n → drop t xs ≡ y ∷ ys → drop t zs ≡ y ∷ drop (t + 1) zs
same_next n t xs zs y ys e l h = rw add-one (first_alike n t xs zs y ys e l h)
