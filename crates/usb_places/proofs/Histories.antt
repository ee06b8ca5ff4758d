-- One more of what a host does.
use Rattle.std.proofs.Common.{◌≡◌, ℕ, List, [], ◌∷◌, ◌++◌, Bool, true, false, ◌&&◌, ◌||◌, ◌==◌}
use Rattle.std.proofs.Common.{Option, ◌+◌, arith, None, Some, is_none, All, map, refl, sym, IfSome}
use Rattle.std.proofs.Common.{◌≤◌, if◌then◌else◌, nat_le}
use Rattle.std.proofs.lemmas.Bool.{leb-true}
use Rattle.std.proofs.lemmas.List.Elements.{All-map}
use Rattle.usb_places.specs.declared.seen.Seen.{Seen}
use Rattle.usb_places.specs.declared.sought.Sought.{Sought}
use Rattle.usb_places.specs.declared.sought.Whose.{Whose}
use Rattle.usb_places.specs.declared.transfer.Transfer.{Transfer}
use Rattle.usb_places.specs.declared.when.Sign.{Sign}
use Rattle.usb_places.specs.{IsKnown, IsSoughtAfter, PlacesData, after_seen, left_after, left_from}
use Rattle.usb_places.specs.{number_at, place_from, place_of, seen_by, stands, transfer_after}
use Rattle.usb_places.specs.{transfer_from, IsGood, IsGoodFor, is_attempt, is_wait}
use Rattle.usb_places.specs.declared.sought.Whose.TheVariants as whose
use Rattle.usb_world.specs.{after_most}

pub transfer_from-next : (t : Option Transfer) (h : List Seen) (x : Seen)
    → transfer_from t (h ++ x ∷ []) ≡ transfer_after (transfer_from t h) x.deed
unfolding transfer_from
transfer_from-next t [] x = refl
transfer_from-next t (y ∷ h) x = transfer_from-next (transfer_after t y.deed) h x

pub left_from-next : (sign : Sign) (left : ℕ) (t : Option Transfer) (h : List Seen) (x : Seen)
    → left_from sign left t (h ++ x ∷ [])
    ≡ left_after sign (left_from sign left t h) (transfer_from t h) x.deed
unfolding left_from transfer_from
left_from-next sign left t [] x = refl
left_from-next sign left t (y ∷ h) x = left_from-next sign (left_after sign left t y.deed)
    (transfer_after t y.deed) h x

-- what is found already, or there
abbrev found_or : Option ℕ → Bool → ℕ → Option ℕ
found_or found here n = if is_none found && here then Some n else found

found_first : (b here : Bool) (m n : ℕ) (rest next : Option ℕ) → next ≡ found_or rest here n
    → (if b then Some m else next) ≡ found_or (if b then Some m else rest) here n
found_first true here m n rest next e = refl
found_first false here m n rest next e = e

pub place_from-next : (whose : Whose) (sign : Sign) (left : ℕ) (t : Option Transfer)
    (h : List Seen) (x : Seen) → place_from whose sign left t (h ++ x ∷ [])
    ≡ found_or (place_from whose sign left t h)
    (stands whose (left_after sign (left_from sign left t h) (transfer_from t h) x.deed == 0) x)
    (number_at whose x)
unfolding place_from left_from transfer_from
place_from-next whose sign left t [] x = refl
place_from-next whose sign left t (y ∷ h) x =
    found_first (stands whose (left_after sign left t y.deed == 0) y) _ (number_at whose y)
    (number_at whose x) _ _
    (place_from-next whose sign (left_after sign left t y.deed) (transfer_after t y.deed) h x)

sought_next : (h : List Seen) (x : Seen) (s : Sought) → IsSoughtAfter h s
    → IsSoughtAfter (h ++ x ∷ []) (seen_by (transfer_from None h) x s)
unfolding seen_by place_of
sought_next h x s is =
    let next = left_from-next s.when.sign s.when.nth None h x in
    let place = place_from-next s.whose s.when.sign s.when.nth None h x in
    record {
      left = rw is.left (sym next);
      found = rw (is.left, is.found) (sym place);
    }

-- what is known stays what the history says
pub known_next : (h : List Seen) (x : Seen) (p : PlacesData) → IsKnown h p
    → IsKnown (h ++ x ∷ []) (after_seen x p)
unfolding after_seen
known_next h x p is = record {
  transfer = rw is.transfer (sym (transfer_from-next None h x));
  places = rw is.transfer (All-map (IsSoughtAfter (h ++ x ∷ []))
      (seen_by (transfer_from None h) x) p.sought (λ k d lt. sought_next h x _ (is.places k d lt)));
}

some_if : (a b c : Bool) (n most : ℕ) → nat_le n most ≡ b
    → IfSome (if a && b && c then Some n else None) (λ m. m ≤ most)
some_if true true true n most e = leb-true n most e
some_if true true false n most e = tt
some_if true false c n most e = tt
some_if false b c n most e = tt

from_one : (b : Bool) (n : ℕ) → IfSome (if b then Some (n + 1) else None) (λ m. 1 ≤ m)
from_one true n = omega arith
from_one false n = tt

good_for : (w : Whose) (reached : Bool) (x : Seen) (found : Option ℕ) → IsGoodFor w found
    → IsGoodFor w (found_or found (stands w reached x) (number_at w x))
unfolding stands number_at
good_for (whose.Damage d) reached x (Some n) is = is
good_for (whose.Damage d) reached x None is =
    (is.0, from_one (reached && is_attempt x.deed) x.attempts)
good_for (whose.Event before) reached x (Some n) is = is
good_for (whose.Event before) reached x None is =
    some_if (x.taken == before) (nat_le x.since after_most)
    (is_wait x.deed || (reached && is_attempt x.deed)) x.since after_most refl

-- what can stand in a plan still can
pub good_next : (t : Option Transfer) (x : Seen) (sought : List Sought) → All IsGood sought
    → All IsGood (map (seen_by t x) sought)
unfolding seen_by
good_next t x sought is = All-map IsGood (seen_by t x) sought (λ k d lt.
    good_for _ _ x _ (is k d lt))
