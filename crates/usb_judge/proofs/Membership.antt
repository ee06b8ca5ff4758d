-- What a list has, by cases on the list.
use Rattle.std.proofs.Common.{◌≡◌, ◌⊎◌, inl, inr, ◌≤◌, ◌+◌, ℕ, List, [], ◌∷◌, ◌++◌}
use Rattle.std.proofs.Common.{◌<◌, length, take, get_or, refl, sym, ap, ◌∙◌, subst, arith, Bool}
use Rattle.std.proofs.Common.{true, false, cond}
use Rattle.std.specs.Prelude.{Contains, count_by, flat_map, filter}
use Rattle.std.proofs.lemmas.List.{take_more, flat_map_more}
use Rattle.std.proofs.lemmas.List.Elements.{Contains-append_cases, Contains-append_left}
use Rattle.std.proofs.lemmas.List.Elements.{Contains-append_right, Contains-push}
use Rattle.std.proofs.lemmas.List.Elements.{Contains-push_cases}
use Rattle.std.proofs.lemmas.List.Sums.{length-filter}

abbrev pub Has : {X : Type 0} → List X → X → Type 0
Has [] x = ⊥
Has (y ∷ ys) x = (y ≡ x) ⊎ Has ys x

pub none_in : {X : Type 0} (x : X) → Contains [] x → ⊥
none_in x c = absurd (omega (arith, c.1))

single : {X : Type 0} (y x : X) → Contains [] x ⊎ (y ≡ x) → y ≡ x
single y x (inl c) = absurd (none_in x c)
single y x (inr e) = e

first_or_rest : {X : Type 0} (y : X) (ys : List X) (x : X) → (Contains ys x → Has ys x)
    → Contains (y ∷ []) x ⊎ Contains ys x → Has (y ∷ ys) x
first_or_rest y ys x more (inl c) = inl (single y x (Contains-push_cases [] y x c))
first_or_rest y ys x more (inr c) = inr (more c)

pub has_from : {X : Type 0} (xs : List X) (x : X) → Contains xs x → Has xs x
has_from [] x c = none_in x c
has_from (y ∷ ys) x c =
    first_or_rest y ys x (has_from ys x) (Contains-append_cases (y ∷ []) ys x c)

pub front_of : {X : Type 0} (y : X) (ys : List X) → Contains (y ∷ ys) y
front_of y ys = Contains-append_left (y ∷ []) ys y (Contains-push [] y)

pub contains_from : {X : Type 0} (xs : List X) (x : X) → Has xs x → Contains xs x
contains_from [] x h = absurd h
contains_from {X} (y ∷ ys) x (inl e) = subst (λ (z : X). Contains (y ∷ ys) z) e (front_of y ys)
contains_from (y ∷ ys) x (inr h) =
    Contains-append_right (y ∷ []) ys x (contains_from ys x h)

-- Two lists

pub has_left : {X : Type 0} (xs ys : List X) (x : X) → Has xs x → Has (xs ++ ys) x
has_left [] ys x h = absurd h
has_left (a ∷ xs) ys x (inl e) = inl e
has_left (a ∷ xs) ys x (inr h) = inr (has_left xs ys x h)

pub has_right : {X : Type 0} (xs ys : List X) (x : X) → Has ys x → Has (xs ++ ys) x
has_right [] ys x h = h
has_right (a ∷ xs) ys x h = inr (has_right xs ys x h)

behind_first : {X : Type 0} (a : X) (xs ys : List X) (x : X) → Has xs x ⊎ Has ys x
    → Has (a ∷ xs) x ⊎ Has ys x
behind_first a xs ys x (inl h) = inl (inr h)
behind_first a xs ys x (inr h) = inr h

pub has_cases : {X : Type 0} (xs ys : List X) (x : X) → Has (xs ++ ys) x → Has xs x ⊎ Has ys x
has_cases [] ys x h = inr h
has_cases (a ∷ xs) ys x (inl e) = inl (inl e)
has_cases (a ∷ xs) ys x (inr h) = behind_first a xs ys x (has_cases xs ys x h)

-- The lists of each element, joined

pub record IsOf {X A : Type 0} (f : X → List A) (xs : List X) (a : A) : Type 0 where
  pub element : X
  pub has : Has xs element
  pub gives : Has (f element) a

of_either : {X A : Type 0} (f : X → List A) (x : X) (xs : List X) (a : A)
    → (Has (flat_map f xs) a → IsOf f xs a) → Has (f x) a ⊎ Has (flat_map f xs) a
    → IsOf f (x ∷ xs) a
of_either f x xs a more (inl h) = record { element = x; has = inl refl; gives = h }
of_either f x xs a more (inr h) = record {
  element = (more h).element;
  has = inr (more h).has;
  gives = (more h).gives;
}

pub of_flat : {X A : Type 0} (f : X → List A) (xs : List X) (a : A) → Has (flat_map f xs) a
    → IsOf f xs a
of_flat f [] a h = absurd h
of_flat f (x ∷ xs) a h =
    of_either f x xs a (of_flat f xs a) (has_cases (f x) (flat_map f xs) a h)

pub into_flat : {X A : Type 0} (f : X → List A) (xs : List X) (x : X) (a : A) → Has xs x
    → Has (f x) a → Has (flat_map f xs) a
into_flat f [] x a h g = absurd h
into_flat {X} f (y ∷ ys) x a (inl e) g =
    has_left (f y) (flat_map f ys) a (subst (λ (z : X). Has (f z) a) (sym e) g)
into_flat f (y ∷ ys) x a (inr h) g =
    has_right (f y) (flat_map f ys) a (into_flat f ys x a h g)

-- one element more, as at a step of a loop
pub flat_step : {X A : Type 0} (f : X → List A) (xs : List X) (i : ℕ) (x : X)
    (old before after : List A) → i < length xs → x ≡ get_or xs i x
    → before ≡ old ++ flat_map f (take i xs) → after ≡ before ++ f x
    → after ≡ old ++ flat_map f (take (i + 1) xs)
flat_step {X} {A} f xs i x old before after inside is kept more =
    let taken : take (i + 1) xs ≡ take i xs ++ x ∷ [] =
    take_more xs i x inside ∙ ap (λ (y : X). take i xs ++ y ∷ []) (sym is) in
    more ∙ ap (λ (zs : List A). zs ++ f x) kept ∙ flat_map_more f old (take i xs) x
    ∙ ap (λ (ys : List X). old ++ flat_map f ys) (sym taken)

-- What is counted is there

pub record Passes {X : Type 0} (p : X → Bool) (xs : List X) : Type 0 where
  pub element : X
  pub has : Has xs element
  pub yes : p element ≡ true

passes_first : {X : Type 0} (p : X → Bool) (x : X) (xs : List X) (b : Bool) → p x ≡ b
    → (1 ≤ length (filter p xs) → Passes p xs)
    → 1 ≤ length (cond b (x ∷ filter p xs) (filter p xs)) → Passes p (x ∷ xs)
passes_first p x xs true e more h = record { element = x; has = inl refl; yes = e }
passes_first p x xs false e more h = record {
  element = (more h).element;
  has = inr (more h).has;
  yes = (more h).yes;
}

passes : {X : Type 0} (p : X → Bool) (xs : List X) → 1 ≤ length (filter p xs) → Passes p xs
passes p [] h = absurd (omega (arith, h))
passes p (x ∷ xs) h = passes_first p x xs (p x) refl (passes p xs) h

pub counted : {X : Type 0} (p : X → Bool) (xs : List X) → 1 ≤ count_by p xs → Passes p xs
counted p xs h = passes p xs (subst (λ (n : ℕ). 1 ≤ n) (sym (length-filter p xs)) h)
