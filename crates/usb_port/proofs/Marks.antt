-- The set that marks stand for.
use Rattle.std.proofs.Common.{◌≡◌, ◌≢◌, ℕ, zero, suc, ◌+◌, ◌<◌, Bool, true, false, ◌||◌, ◌&&◌, not}
use Rattle.std.proofs.Common.{List, [], ◌∷◌, Option, Some, None, is_some, length, replicate, get_or}
use Rattle.std.proofs.Common.{set, refl, sym, ap, ◌∙◌, arith, inl, inr, true≢false, get_or-set_same}
use Rattle.std.proofs.Common.{get_or-set_other, length-set, ◌↔◌, IfSome, IfNone, IsTrue}
use Rattle.std.specs.Ordering.{nat_cmp, eq_by_cmp}
use Rattle.std.specs.Cmp.{nat_cmp_total, unsigned_tied}
use Rattle.std.specs.FinSet.{empty, contains, insert, remove, contains-empty, contains-insert}
use Rattle.std.specs.FinSet.{contains-remove, same_set, nat_cmp-IsAntisymmetric}
use Rattle.std.proofs.lemmas.Bool.{eq-eqb, ne_eqb, cases_lt, cases_order}
use Rattle.std.proofs.lemmas.List.{get_or_past, get_or-replicate, length-replicate}
use Rattle.usb_port.specs.{IsAddress, IsFull, HasAddresses, Takes, Releases, IsLeastUnset}
use Rattle.usb_port.specs.{marked_from, addresses_marked}

tied : (a b : ℕ) → a ≡ b → eq_by_cmp nat_cmp a b ≡ true
tied a b e = unsigned_tied a b ∙ eq-eqb a b e

eq_by_cmp-apart : (a b : ℕ) → a ≢ b → eq_by_cmp nat_cmp a b ≡ false
eq_by_cmp-apart a b ne = unsigned_tied a b ∙ ne_eqb a b ne

-- nothing below the first number
unmarked : (i : ℕ) (marks : List Bool) (q : ℕ) → q < i → contains (marked_from i marks) q ≡ false
unfolding marked_from
unmarked i [] q lt = contains-empty nat_cmp q
unmarked i (true ∷ marks) q lt =
    contains-insert nat_cmp_total (marked_from (i + 1) marks) i q
    ∙ rw (eq_by_cmp-apart q i (omega (arith, lt))) (unmarked (i + 1) marks q (omega (arith, lt)))
unmarked i (false ∷ marks) q lt = unmarked (i + 1) marks q (omega (arith, lt))

contains_from : (i : ℕ) (marks : List Bool) (k : ℕ) → contains (marked_from i marks) (i + k)
    ≡ get_or marks k false
unfolding marked_from
contains_from i [] k = contains-empty nat_cmp (i + k)
contains_from i (true ∷ marks) zero = contains-insert nat_cmp_total (marked_from (i + 1) marks) i
    (i + 0) ∙ rw (tied (i + 0) i (omega arith)) refl
contains_from i (false ∷ marks) zero = unmarked (i + 1) marks (i + 0) (omega arith)
contains_from i (true ∷ marks) (suc k) =
    let next : i + suc k ≡ i + 1 + k = omega arith in
    contains-insert nat_cmp_total (marked_from (i + 1) marks) i (i + suc k)
    ∙ rw (eq_by_cmp-apart (i + suc k) i (omega arith))
    (ap (contains (marked_from (i + 1) marks)) next ∙ contains_from (i + 1) marks k)
contains_from i (false ∷ marks) (suc k) =
    let next : i + suc k ≡ i + 1 + k = omega arith in
    ap (contains (marked_from (i + 1) marks)) next ∙ contains_from (i + 1) marks k

pub contains_marked : (marks : List Bool) (q : ℕ) → contains (addresses_marked marks) q
    ≡ get_or marks q false
contains_marked marks q = let same : 0 + q ≡ q = omega arith in
    ap (contains (addresses_marked marks)) (sym same) ∙ contains_from 0 marks q

pub has_addresses : (marks : List Bool) → length marks ≡ 128 → get_or marks 0 false ≡ false
    → HasAddresses (addresses_marked marks)
has_addresses marks size first a taken =
    let set : get_or marks a false ≡ true = sym (contains_marked marks a) ∙ taken in (
      elim (cases_lt 0 a) [
        | inl positive ↦ omega (arith, positive)
        | inr none ↦ let is : a ≡ 0 = omega (arith, none) in
            absurd (true≢false (sym set ∙ ap (λ n. get_or marks n false) is ∙ first))
      ],
      elim (cases_lt a 128) [
        | inl below ↦ below
        | inr past ↦ absurd (true≢false (sym set
            ∙ get_or_past marks a false (omega (arith, size, past))))
      ],
    )

-- one mark is set
marks_insert : (marks : List Bool) (a q : ℕ) → a < length marks → get_or (set marks a true) q false
    ≡ (eq_by_cmp nat_cmp q a || get_or marks q false)
marks_insert marks a q lt =
    elim (cases_order q a) [
      | inl same ↦ ap (λ n. get_or (set marks a true) n false) same
          ∙ get_or-set_same marks a true false lt ∙ rw (tied q a same) refl
      | inr other ↦ let ne : q ≢ a = λ e. elim other [
        | inl less ↦ omega (arith, less, e)
        | inr more ↦ omega (arith, more, e)
      ] in
          get_or-set_other marks a q true false ne ∙ rw (eq_by_cmp-apart q a ne) refl
    ]

-- one mark is taken off
marks_remove : (marks : List Bool) (a q : ℕ) → a < length marks → get_or (set marks a false) q false
    ≡ (not (eq_by_cmp nat_cmp q a) && get_or marks q false)
marks_remove marks a q lt =
    elim (cases_order q a) [
      | inl same ↦ ap (λ n. get_or (set marks a false) n false) same
          ∙ get_or-set_same marks a false false lt ∙ rw (tied q a same) refl
      | inr other ↦ let ne : q ≢ a = λ e. elim other [
        | inl less ↦ omega (arith, less, e)
        | inr more ↦ omega (arith, more, e)
      ] in
          get_or-set_other marks a q false false ne ∙ rw (eq_by_cmp-apart q a ne) refl
    ]

addresses_marked-insert : (marks : List Bool) (a : ℕ) → a < length marks
    → addresses_marked (set marks a true) ≡ insert (addresses_marked marks) a
addresses_marked-insert marks a lt =
    same_set nat_cmp_total nat_cmp-IsAntisymmetric _ _
    (λ q. contains_marked (set marks a true) q ∙ marks_insert marks a q lt
    ∙ ap (λ b. eq_by_cmp nat_cmp q a || b) (sym (contains_marked marks q))
    ∙ sym (contains-insert nat_cmp_total (addresses_marked marks) a q))

addresses_marked-remove : (marks : List Bool) (a : ℕ) → a < length marks
    → addresses_marked (set marks a false) ≡ remove (addresses_marked marks) a
addresses_marked-remove marks a lt =
    same_set nat_cmp_total nat_cmp-IsAntisymmetric _ _
    (λ q. contains_marked (set marks a false) q ∙ marks_remove marks a q lt
    ∙ ap (λ b. not (eq_by_cmp nat_cmp q a) && b) (sym (contains_marked marks q))
    ∙ sym (contains-remove nat_cmp_total (addresses_marked marks) a q))

-- a set mark that is taken off again
set_back : (marks : List Bool) (a : ℕ) → get_or marks a false ≡ false
    → set (set marks a true) a false ≡ marks
set_back [] a free = refl
set_back (m ∷ marks) zero free = ap (λ b. b ∷ marks) (sym free)
set_back (m ∷ marks) (suc a) free = ap (λ l. m ∷ l) (set_back marks a free)

pub marks_take : (marks : List Bool) (a : ℕ) → length marks ≡ 128 → IsLeastUnset marks a
    → Takes (addresses_marked marks) a (addresses_marked (set marks a true))
marks_take marks a size is =
    let most = is.range.1 in
    let lt : a < length marks = omega (arith, size, most) in
    record {
      free = (is.range, contains_marked marks a ∙ is.unset);
      least = λ b from below. contains_marked marks b ∙ is.below b from below;
      taken = contains_marked (set marks a true) a ∙ get_or-set_same marks a true false lt;
      others = λ b ne. contains_marked (set marks a true) b
          ∙ get_or-set_other marks a b true false ne ∙ sym (contains_marked marks b);
      added = addresses_marked-insert marks a lt;
      back =
          sym (addresses_marked-remove (set marks a true) a
          (omega (arith, lt, length-set marks a true)))
          ∙ ap addresses_marked (set_back marks a is.unset);
    }

pub releases : (marks : List Bool) (a : ℕ) → length marks ≡ 128 → IsAddress a
    → Releases (addresses_marked marks) a (addresses_marked (set marks a false))
releases marks a size is =
    let most = is.1 in
    let lt : a < length marks = omega (arith, size, most) in
    record {
      free = (is, contains_marked (set marks a false) a ∙ get_or-set_same marks a false false lt);
      others = λ b ne. contains_marked (set marks a false) b
          ∙ get_or-set_other marks a b false false ne ∙ sym (contains_marked marks b);
      removed = addresses_marked-remove marks a lt;
    }

pub full : (marks : List Bool) → ((a : ℕ) → IsAddress a → get_or marks a false ≡ true)
    → IsFull (addresses_marked marks)
full marks each a is = contains_marked marks a ∙ each a is

pub none_marked : (n : ℕ) → addresses_marked (replicate n false) ≡ empty
none_marked n =
    same_set nat_cmp_total nat_cmp-IsAntisymmetric _ _
    (λ q. contains_marked (replicate n false) q ∙ none_set n q ∙ sym (contains-empty nat_cmp q))
  where
    none_set : (n q : ℕ) → get_or (replicate n false) q false ≡ false
    none_set n q = elim (cases_lt q n) [
      | inl lt ↦ get_or-replicate n q false false lt
      | inr past ↦ get_or_past (replicate n false) q false
          (omega (arith, past, length-replicate n false))
    ]

not_full : (marks : List Bool) (a : ℕ) → IsLeastUnset marks a → IsFull (addresses_marked marks) → ⊥
not_full marks a least full =
    let taken = full a least.range in
    let free = contains_marked marks a ∙ least.unset in
    cc (taken, free)

-- all are taken just where there is no least unset mark
pub none_unset : (marks : List Bool) (least : Option ℕ) (none : Bool) → is_some least ≡ not none
    → IfSome least (IsLeastUnset marks) → IfNone least ((a : ℕ) → IsAddress a
    → get_or marks a false ≡ true) → IsTrue none ↔ IsFull (addresses_marked marks)
none_unset marks None true e least all = (λ _. full marks all, λ _. refl)
none_unset marks (Some a) false e least all =
    (λ no. absurd cc, λ is. absurd (not_full marks a least is))
none_unset marks o none e least all = absurd cc
