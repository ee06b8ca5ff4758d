-- The places from which a source goes on with some bytes.
use Rattle.std.proofs.Common.{◌≡◌, ◌≤◌, ◌<◌, ◌+◌, ℕ, List, ◌++◌, length, take, drop, refl, sym}
use Rattle.std.proofs.Common.{ap, ◌∙◌, subst, arith, ◌⊎◌, inl, inr, true, false, Option, None, Some}
use Rattle.std.specs.Prelude.{IfNone, IfSome, min, nat_eq}
use Rattle.std.specs.List.{starts_with}
use Rattle.std.proofs.lemmas.Bool.{and_from, and_parts, both_ways, cases_lt, le-leb, leb-true}
use Rattle.std.proofs.lemmas.Bool.Decides.{Decides-eqb}
use Rattle.std.proofs.lemmas.List.{append_assoc, drop_at, length-append, length-take-le}
use Rattle.std.proofs.lemmas.List.{take-append-drop}
use Rattle.std.proofs.lemmas.Slice.Eq.{starts_is}
use Rattle.usb_judge.specs.declared.window.Window.{Window}
use Rattle.usb_judge.specs.{GoesOn, HasNoPlace, IsPlace, Narrows, goes_on, with_place}

-- One place

pub within : (source bytes : List ℕ) (place : ℕ) → GoesOn source bytes place
    → place ≤ length source
within source bytes place g = omega (
  arith,
  g.at,
  ap (λ (s : List ℕ). length s) g.text,
  length-append (g.before ++ bytes) g.after,
  length-append g.before bytes,
)

goes_from : (source bytes : List ℕ) (place : ℕ) → place ≤ length source
    → starts_with nat_eq (drop place source) bytes ≡ true → GoesOn source bytes place
goes_from source bytes place inside h = record {
  before = take place source;
  after = drop (length bytes) (drop place source);
  text = sym (take-append-drop place source) ∙ ap (λ (s : List ℕ). take place source ++ s)
      ((starts_is Decides-eqb (drop place source) bytes _ refl).0 h)
      ∙ sym (append_assoc (take place source) bytes (drop (length bytes) (drop place source)));
  at = length-take-le place source inside;
}

goes_into : (source bytes : List ℕ) (place : ℕ) → GoesOn source bytes place
    → starts_with nat_eq (drop place source) bytes ≡ true
goes_into source bytes place g = (starts_is Decides-eqb (drop place source) bytes _ refl).1 g.after
    (ap (λ (s : List ℕ). drop place s) (g.text ∙ append_assoc g.before bytes g.after)
    ∙ drop_at g.before (bytes ++ g.after) place g.at)

pub goes_yes : (source bytes : List ℕ) (place : ℕ) → goes_on source bytes place ≡ true
    → GoesOn source bytes place
goes_yes source bytes place h =
    let both : (_ ≡ true) × (_ ≡ true) = and_parts _ _ h in
    goes_from source bytes place (leb-true _ _ both.0) both.1

pub goes_no : (source bytes : List ℕ) (place : ℕ) → goes_on source bytes place ≡ false
    → GoesOn source bytes place → ⊥
goes_no source bytes place h g = both_ways _ h
    (and_from _ _ (le-leb _ _ (within source bytes place g)) (goes_into source bytes place g))

-- The places below a number

-- these are the first one and the last one
pub record Found (source bytes : List ℕ) (w : Window) (n : ℕ) (narrow : Window) : Type 0 where
  pub first : IsPlace source bytes w narrow.least
  pub last : IsPlace source bytes w narrow.most
  pub below : narrow.least < n
  pub each : (place : ℕ) → IsPlace source bytes w place → place < n
      → (narrow.least ≤ place) × (place ≤ narrow.most)

abbrev pub Upto : List ℕ → List ℕ → Window → ℕ → Option Window → Type 0
Upto source bytes w n None = (place : ℕ) → IsPlace source bytes w place → n ≤ place
Upto source bytes w n (Some narrow) = Found source bytes w n narrow

pub upto_start : (source bytes : List ℕ) (w : Window) → Upto source bytes w w.least None
upto_start source bytes w place p = p.least

-- a place more, from which the source goes on so

here : (source bytes : List ℕ) (w : Window) (n : ℕ) → w.least ≤ n
    → n < min w.most (length source) + 1 → goes_on source bytes n ≡ true → IsPlace source bytes w n
here source bytes w n least most g = record {
  least = least;
  most = omega (arith, most);
  goes_on = goes_yes source bytes n g;
}

only_one : (n place : ℕ) → n ≤ place → place < n + 1 → (n ≤ place) × (place ≤ n)
only_one n place least below = (least, omega (arith, below))

later : (source bytes : List ℕ) (w narrow : Window) (n place : ℕ) → Found source bytes w n narrow
    → IsPlace source bytes w place → (place < n) ⊎ (n ≤ place) → place < n + 1
    → (narrow.least ≤ place) × (place ≤ n)
later source bytes w narrow n place f p (inl below) h =
    ((f.each place p below).0, omega (arith, below))
later source bytes w narrow n place f p (inr at) h =
    (omega (arith, f.below, at), omega (arith, h))

pub upto_yes : (source bytes : List ℕ) (w : Window) (n : ℕ) (found : Option Window)
    → Upto source bytes w n found → w.least ≤ n → n < min w.most (length source) + 1
    → goes_on source bytes n ≡ true → Upto source bytes w (n + 1) (Some (with_place found n))
upto_yes source bytes w n None u least most g = record {
  first = here source bytes w n least most g;
  last = here source bytes w n least most g;
  below = omega arith;
  each = λ place p below. only_one n place (u place p) below;
}
upto_yes source bytes w n (Some narrow) u least most g = record {
  first = u.first;
  last = here source bytes w n least most g;
  below = omega (arith, u.below);
  each = λ place p below. later source bytes w narrow n place u p (cases_lt place n) below;
}

-- a place more, from which it does not

past : (source bytes : List ℕ) (n place : ℕ) → (GoesOn source bytes n → ⊥)
    → GoesOn source bytes place → (place < n) ⊎ (n ≤ place) → place < n + 1 → place < n
past source bytes n place stops g (inl below) h = below
past source bytes n place stops g (inr at) h =
    let same : place ≡ n = omega (arith, at, h) in
    absurd (stops (subst (λ (i : ℕ). GoesOn source bytes i) same g))

above : (source bytes : List ℕ) (n place : ℕ) → (GoesOn source bytes n → ⊥)
    → GoesOn source bytes place → (place < n + 1) ⊎ (n + 1 ≤ place) → n ≤ place → n + 1 ≤ place
above source bytes n place stops g (inr at) h = at
above source bytes n place stops g (inl below) h =
    let same : place ≡ n = omega (arith, below, h) in
    absurd (stops (subst (λ (i : ℕ). GoesOn source bytes i) same g))

pub upto_no : (source bytes : List ℕ) (w : Window) (n : ℕ) (found : Option Window)
    → Upto source bytes w n found → goes_on source bytes n ≡ false
    → Upto source bytes w (n + 1) found
upto_no source bytes w n None u h = λ place p.
    above source bytes n place (goes_no source bytes n h) p.goes_on (cases_lt place (n + 1))
    (u place p)
upto_no source bytes w n (Some narrow) u h = record {
  first = u.first;
  last = u.last;
  below = omega (arith, u.below);
  each = λ place p below. u.each place p
      (past source bytes n place (goes_no source bytes n h) p.goes_on (cases_lt place n) below);
}

-- all of them

inside : (source bytes : List ℕ) (w : Window) (n place : ℕ) → min w.most (length source) + 1 ≤ n
    → IsPlace source bytes w place → place < n
inside source bytes w n place all p =
    omega (arith, all, p.most, within source bytes place p.goes_on)

pub upto_some_in : (source bytes : List ℕ) (w : Window) (n : ℕ) (found : Option Window)
    → Upto source bytes w n found → min w.most (length source) + 1 ≤ n
    → IfSome found (Narrows source bytes w)
upto_some_in source bytes w n None u all = tt
upto_some_in source bytes w n (Some narrow) u all = record {
  first = u.first;
  last = u.last;
  each = λ place p. u.each place p (inside source bytes w n place all p);
}

none_at : (source bytes : List ℕ) (w : Window) (n place : ℕ) → n ≤ place
    → IsPlace source bytes w place → min w.most (length source) + 1 ≤ n → ⊥
none_at source bytes w n place least p all =
    omega (arith, least, inside source bytes w n place all p)

pub upto_none_in : (source bytes : List ℕ) (w : Window) (n : ℕ) (found : Option Window)
    → Upto source bytes w n found → min w.most (length source) + 1 ≤ n
    → IfNone found (HasNoPlace source bytes w)
upto_none_in source bytes w n None u all =
    λ place p. none_at source bytes w n place (u place p) p all
upto_none_in source bytes w n (Some narrow) u all = tt
