-- The places at a path and below it stand together, from the path on.
use Rattle.std.proofs.Common.{◌≡◌, ℕ, ◌<◌, Bool, true, false, cond, List, [], ◌∷◌, Option, Some}
use Rattle.std.proofs.Common.{None, nat_eq, refl, sym, ap, ◌∙◌, inl, inr, ◌⊎◌, is_some}
use Rattle.std.proofs.lemmas.Bool.{and_parts, and_from, eqb-true, eq-eqb, cases_order, cases_Bool}
use Rattle.std.specs.List.{starts_with, AllByRecursion}
use Rattle.std.specs.List.Sorted.{IsStrictlySortedBy}
use Rattle.std.specs.Map.{keys_of, remove_entry, lookup}
use Rattle.std.specs.BTreeMap.{is_at}
use Rattle.std.specs.BTreeMap.Range.{entries_between}
use Rattle.std.specs.declared.ops.Bound.TheVariants.{Included, Unbounded}
use Rattle.std.specs.declared.cmp.Ordering.{Ordering}
use Rattle.std.specs.declared.cmp.Ordering.TheVariants.{Less, Equal, Greater}
use Rattle.std.specs.Ordering.{nat_cmp, ordering_then, is_le, is_eq}
use Rattle.std.specs.Cmp.{nat_cmp_is}
use Rattle.usb_port.specs.{path_cmp}
use Rattle.usb_world.specs.{PluggedMap, plugged_without}
use Rattle.usb_plan.specs.{first_through}
use Rattle.usb_world.proofs.Interface.{found_same, self_found}

abbrev through : List ℕ → List ℕ → Bool
through path place = starts_with nat_eq place path

-- a place below a path comes after it
through_after : (path place : List ℕ) → through path place ≡ true → is_le (path_cmp path place)
    ≡ true
through_after [] [] h = refl
through_after [] (b ∷ place) h = refl
through_after (a ∷ path) [] h = cc
through_after (a ∷ path) (b ∷ place) h =
    let parts = and_parts (nat_eq a b) (through path place) h in
    rw (sym (nat_cmp_is a b Equal (eqb-true a b parts.0))) (through_after path place parts.1)

ordering_then-same : (a b : ℕ) (r s : Ordering) → is_le (ordering_then (nat_cmp a b) r) ≡ true
    → ordering_then (nat_cmp b a) s ≡ Less → a ≡ b
ordering_then-same a b r s le lt = by (cases_order a b)
  where
    by : (a ≡ b) ⊎ ((a < b) ⊎ (b < a)) → a ≡ b
    by (inl e) = e
    by (inr (inl h)) = let bad = rw (sym (nat_cmp_is b a Greater h)) at lt in cc
    by (inr (inr h)) = let bad = rw (sym (nat_cmp_is a b Greater h)) at le in cc

-- what lies between a path and a place below it is below it, too
through-middle : (path middle place : List ℕ) → is_le (path_cmp path middle) ≡ true
    → path_cmp middle place ≡ Less → through path place ≡ true → through path middle ≡ true
through-middle [] middle place le lt h = refl
through-middle (a ∷ path) (b ∷ middle) (c ∷ place) le lt h =
    let parts = and_parts (nat_eq a c) (through path place) h in
    let ac : a ≡ c = eqb-true a c parts.0 in
    let ba : ordering_then (nat_cmp b a) (path_cmp middle place) ≡ Less =
    ap (λ n. ordering_then (nat_cmp b n) (path_cmp middle place)) ac ∙ lt in
    let ab : a ≡ b = ordering_then-same a b (path_cmp path middle) (path_cmp middle place) le ba in
    let le2 : is_le (path_cmp path middle) ≡ true =
    ap (λ o. is_le (ordering_then o (path_cmp path middle))) (nat_cmp_is a b Equal ab) ∙ le in
    let lt2 : path_cmp middle place ≡ Less = ap (λ o. ordering_then o (path_cmp middle place))
    (nat_cmp_is b c Equal (sym ab ∙ ac)) ∙ lt in
    and_from (nat_eq a b) (through path middle) (eq-eqb a b ab)
    (through-middle path middle place le2 lt2 parts.1)
through-middle (a ∷ path) _ _ le lt h = cc

abbrev AllAfter : List ℕ → List (List ℕ) → Type 0
AllAfter middle = AllByRecursion (λ place. path_cmp middle place ≡ Less)

-- after a place that is not below the path, none is
none_after : (path middle : List ℕ) (tree : PluggedMap) → is_le (path_cmp path middle) ≡ true
    → through path middle ≡ false → AllAfter middle (keys_of tree) → first_through path tree ≡ None
unfolding first_through
none_after path middle [] le off all = refl
none_after path middle (place ∷ tree) le off all =
    by (cases_Bool (through path place.0)) (none_after path middle tree le off all.1)
  where
    by : (through path place.0 ≡ true) ⊎ (through path place.0 ≡ false)
        → first_through path tree ≡ None → first_through path (place ∷ tree) ≡ None
    by (inl h) rest = let bad = sym (through-middle path middle place.0 le all.0 h) ∙ off in cc
    by (inr h) rest = rw h rest

-- the first of the places from the path on, where that is at the path or below it
abbrev pub first_through_range : List ℕ → PluggedMap → Option (List ℕ)
first_through_range path [] = None
first_through_range path (place ∷ tree) = cond (through path place.0) (Some place.0) None

abbrev from_on : List ℕ → PluggedMap → PluggedMap
from_on path tree = entries_between path_cmp (Included path) Unbounded tree

first_in_range : (path : List ℕ) (tree : PluggedMap) → IsStrictlySortedBy path_cmp (keys_of tree)
    → first_through_range path (from_on path tree) ≡ first_through path tree
unfolding first_through IsStrictlySortedBy
first_in_range path [] sorted = refl
first_in_range path (place ∷ tree) sorted =
    by (cases_Bool (is_le (path_cmp path place.0))) (cases_Bool (through path place.0))
    (first_in_range path tree sorted.1)
  where
    by : (is_le (path_cmp path place.0) ≡ true) ⊎ (is_le (path_cmp path place.0) ≡ false)
        → (through path place.0 ≡ true) ⊎ (through path place.0 ≡ false)
        → first_through_range path (from_on path tree) ≡ first_through path tree
        → first_through_range path (from_on path (place ∷ tree))
        ≡ first_through path (place ∷ tree)
    by (inl le) (inl h) rest = rw (le, h) refl
    by (inl le) (inr h) rest = rw (le, h) (sym (none_after path place.0 tree le h sorted.0))
    by (inr gt) (inl h) rest = let bad = sym (through_after path place.0 h) ∙ gt in cc
    by (inr gt) (inr h) rest = rw (gt, h) rest

-- the first place through a path is looked for from the path on alone
pub first_of-found : (path start : List ℕ) (places tree range : PluggedMap) → start ≡ path
    → places ≡ tree → IsStrictlySortedBy path_cmp (keys_of places)
    → range ≡ entries_between path_cmp (Included start) Unbounded places
    → first_through_range path range ≡ first_through path tree
first_of-found path start places tree range same is sorted r =
    rw (r, same) (first_in_range path places sorted ∙ ap (first_through path) is)

-- where no place goes through the path, nothing is unplugged
pub none_unplugged : (path : List ℕ) (tree : PluggedMap) → first_through path tree ≡ None
    → plugged_without path tree ≡ tree
unfolding first_through plugged_without
none_unplugged path [] h = refl
none_unplugged path (place ∷ tree) h = by (cases_Bool (through path place.0))
    (none_unplugged path tree)
  where
    by : (through path place.0 ≡ true) ⊎ (through path place.0 ≡ false)
        → (first_through path tree ≡ None → plugged_without path tree ≡ tree)
        → plugged_without path (place ∷ tree) ≡ place ∷ tree
    by (inl below) rest = let bad = rw below at h in cc
    by (inr off) rest = let none = rw off at h in rw off (ap (λ places. place ∷ places) (rest none))

found_through : (path place : List ℕ) (tree : PluggedMap) → first_through path tree ≡ Some place
    → through path place ≡ true
unfolding first_through
found_through path place [] h = cc
found_through path place (first ∷ tree) h =
    by (cases_Bool (through path first.0)) (found_through path place tree)
  where
    by : (through path first.0 ≡ true) ⊎ (through path first.0 ≡ false)
        → (first_through path tree ≡ Some place → through path place ≡ true)
        → through path place ≡ true
    by (inl below) rest = let some = rw below at h in let same : first.0 ≡ place = cc some in
        rw (← same) below
    by (inr off) rest = rest (rw off at h)

-- a place through the path may go first
through_removed : (path place : List ℕ) (tree : PluggedMap) → through path place ≡ true
    → plugged_without path (remove_entry (is_at (path_cmp place)) tree) ≡ plugged_without path tree
unfolding plugged_without
through_removed path place [] h = refl
through_removed path place (first ∷ tree) h =
    by (cases_Bool (is_eq (path_cmp place first.0))) (cases_Bool (through path first.0))
    (through_removed path place tree h)
  where
    by : (is_eq (path_cmp place first.0) ≡ true) ⊎ (is_eq (path_cmp place first.0) ≡ false)
        → (through path first.0 ≡ true) ⊎ (through path first.0 ≡ false)
        → plugged_without path (remove_entry (is_at (path_cmp place)) tree)
        ≡ plugged_without path tree
        → plugged_without path (remove_entry (is_at (path_cmp place)) (first ∷ tree))
        ≡ plugged_without path (first ∷ tree)
    by (inl at) (inl below) rest = rw (at, below) refl
    by (inl at) (inr off) rest = let bad = sym h ∙ (ap (through path) (found_same place first.0 at)
        ∙ off) in cc
    by (inr apart) (inl below) rest = rw (apart, below) rest
    by (inr apart) (inr off) rest = rw (apart, off) (ap (λ places. first ∷ places) rest)

pub one_unplugged : (path place : List ℕ) (tree : PluggedMap) → Some place ≡ first_through path tree
    → plugged_without path (remove_entry (is_at (path_cmp place)) tree) ≡ plugged_without path tree
one_unplugged path place tree h = through_removed path place tree
    (found_through path place tree (sym h))

-- a place that is found is there
pub one_there : (path place : List ℕ) (tree : PluggedMap) → Some place ≡ first_through path tree
    → is_some (lookup (is_at (path_cmp place)) tree) ≡ true
unfolding first_through
one_there path place [] h = cc
one_there path place (first ∷ tree) h =
    by (cases_Bool (through path first.0)) (cases_Bool (is_eq (path_cmp place first.0)))
    (one_there path place tree)
  where
    by : (through path first.0 ≡ true) ⊎ (through path first.0 ≡ false)
        → (is_eq (path_cmp place first.0) ≡ true) ⊎ (is_eq (path_cmp place first.0) ≡ false)
        → (Some place ≡ first_through path tree → is_some (lookup (is_at (path_cmp place)) tree)
        ≡ true) → is_some (lookup (is_at (path_cmp place)) (first ∷ tree)) ≡ true
    by below (inl at) rest = rw at refl
    by (inl below) (inr apart) rest =
        let some = rw below at h in
        let same : place ≡ first.0 = cc some in
        let bad = sym (self_found place) ∙ (ap (λ p. is_eq (path_cmp place p)) same ∙ apart) in cc
    by (inr off) (inr apart) rest = rw apart (rest (rw off at h))
