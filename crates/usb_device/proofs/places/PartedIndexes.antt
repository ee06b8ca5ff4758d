-- An index without what stands at one path, and with it again.
use Rattle.std.proofs.Common.{◌≡◌, ◌+◌, ◌<◌, ℕ, zero, suc, ◌==◌, ◌&&◌, ◌||◌, if◌then◌else◌, Bool}
use Rattle.std.proofs.Common.{true, false, List, [], ◌∷◌, ◌++◌, Option, None, Some, length}
use Rattle.std.proofs.Common.{slice_index_or, slice_set, append_assoc, refl, ap, sym, subst, ◌∙◌}
use Rattle.std.proofs.Common.{arith, rules}
use Rattle.std.proofs.lemmas.Bool.{or_parts}
use Rattle.arrayvec.specs.ArrayVec.{ArrayVec}
use Rattle.usb_device.specs.{Holder, Ports, ended, vacant, taken, Plugged, put, changed, changed_at}
use Rattle.usb_device.specs.{plugged_at, reach_at, held_addresses, has, repeats, AreBytes}
use Rattle.usb_device.specs.{path_below, path_further, reached, reached_from, reached_there}
use Rattle.usb_device.specs.{reached_at_path, all_reached, paths_at, holder_among, IsIndex}
use Rattle.usb_device.specs.{is_known, joined_holder, noted, meets_again, held_from, released}
use Rattle.usb_device.specs.declared.holders.Holder.TheVariants.{Nobody, Several}
use Rattle.usb_device.proofs.MarkedAddresses.{share, Marks, meets-is, twice-middle}
use Rattle.usb_device.proofs.MarkedAddresses.{unshared, nat_eq-sym}
use Rattle.usb_device.proofs.places.HolderIndexes.{length-put, length-noted, length-released}
use Rattle.usb_device.proofs.places.HolderIndexes.{slice_set-at, all_joined, all_among, noted_at}
use Rattle.usb_device.proofs.places.HolderIndexes.{way_addresses, addresses-append, held-reached}
use Rattle.usb_device.proofs.places.HolderIndexes.{marks_of, known_at, length-marks, met_marks}

abbrev PlacedWay : Type 0
PlacedWay = Option (ArrayVec ℕ)

abbrev PlacedWays : Type 0
PlacedWays = List (ℕ × PlacedWay)

-- ---- what is reached is what stands at a path, in the middle of what is reached without it

record Parted (whole there without : PlacedWays) : Type 0 where
  front : PlacedWays
  behind : PlacedWays
  whole_is : whole ≡ front ++ (there ++ behind)
  without_is : without ≡ front ++ behind

-- what stands at a path, where its way is enabled
abbrev from : Bool → PlacedWay → Option Plugged → PlacedWays
from r w o = reached_from w (if r then o else None)

parted_as : (xs there other ys : PlacedWays) → there ≡ other → Parted xs there ys
    → Parted xs other ys
parted_as xs there other ys e h = subst (λ t. Parted xs t ys) e h

parted_none : (xs there : PlacedWays) → there ≡ [] → Parted xs there xs
parted_none xs there e =
    parted_as xs [] there xs (sym e)
    (record { front = []; behind = xs; whole_is = refl; without_is = refl })

parted_here : (e : Bool) (w : PlacedWay) (t : Plugged) (xs : PlacedWays)
    → Parted (if e then (t.own.registers.address, w) ∷ (reached w 1 t.ports ++ xs) else xs)
    (from e w (Some t)) xs
parted_here true w t xs = record { front = []; behind = xs; whole_is = refl; without_is = refl }
parted_here false w t xs = record { front = []; behind = xs; whole_is = refl; without_is = refl }

parted_below : (e r : Bool) (x : ℕ × PlacedWay) (v : PlacedWay) (o : Option Plugged)
    (below left xs : PlacedWays) → Parted below (from r v o) left
    → Parted (if e then x ∷ (below ++ xs) else xs) (from (e && r) v o)
    (if e then x ∷ (left ++ xs) else xs)
parted_below true r x v o below left xs h = record {
  front = x ∷ h.front;
  behind = h.behind ++ xs;
  whole_is =
      ap (λ l. x ∷ l)
      (ap (λ l. l ++ xs) h.whole_is ∙ append_assoc h.front (from r v o ++ h.behind) xs
      ∙ ap (λ l. h.front ++ l) (append_assoc (from r v o) h.behind xs));
  without_is = ap (λ l. x ∷ l) (ap (λ l. l ++ xs) h.without_is ∙ append_assoc h.front h.behind xs);
}
parted_below false r x v o below left xs h = parted_none xs [] refl

parted_later : (e : Bool) (x : ℕ × PlacedWay) (below xs there ys : PlacedWays) → Parted xs there ys
    → Parted (if e then x ∷ (below ++ xs) else xs) there (if e then x ∷ (below ++ ys) else ys)
parted_later true x below xs there ys h = record {
  front = x ∷ (below ++ h.front);
  behind = h.behind;
  whole_is =
      ap (λ l. x ∷ l)
      (ap (λ l. below ++ l) h.whole_is ∙ sym (append_assoc below h.front (there ++ h.behind)));
  without_is =
      ap (λ l. x ∷ l)
      (ap (λ l. below ++ l) h.without_is ∙ sym (append_assoc below h.front h.behind));
}
parted_later false x below xs there ys h = h

plus_zero_is : (n m : ℕ) → m ≡ n + 0 → m ≡ n
plus_zero_is n m e = omega (arith, e)

-- the number at the head of the path is m
parted_at : (w : PlacedWay) (n : ℕ) (k : Ports) (i : ℕ) (p : List ℕ) (m : ℕ) → m ≡ n + i
    → Parted (reached w n k)
    (from (reach_at k i p) (path_further (path_below w m) p) (plugged_at k i p))
    (reached w n (changed_at (put None) k i p))
unfolding reached reach_at plugged_at changed_at
parted_at w n ended i p m e = parted_none [] [] refl
parted_at w n (vacant b k) zero [] m e = parted_none (reached w (n + 1) k) [] refl
parted_at w n (vacant b k) zero (j ∷ p) m e = parted_none (reached w (n + 1) k) [] refl
parted_at w n (vacant b k) (suc i) p m e = parted_at w (n + 1) k i p m (omega (arith, e))
parted_at w n (taken b s a k) zero [] m e =
    parted_as _ _ _ _
    (ap (λ x. from b.enable (path_below w x) (Some (record { own = s; ports = a })))
    (sym (plus_zero_is n m e)))
    (parted_here b.enable (path_below w n) (record { own = s; ports = a }) (reached w (n + 1) k))
parted_at w n (taken b s a k) zero (zero ∷ p) m e = parted_none (reached w n (taken b s a k)) _ refl
parted_at w n (taken b s a k) zero (suc j ∷ p) m e =
    parted_as _ _ _ _
    (ap (λ x. from (b.enable && reach_at a j p)
    (path_further (path_below (path_below w x) (suc j)) p) (plugged_at a j p)) (sym
    (plus_zero_is n m e)))
    (parted_below b.enable (reach_at a j p) (s.registers.address, path_below w n)
    (path_further (path_below (path_below w n) (suc j)) p) (plugged_at a j p)
    (reached (path_below w n) 1 a) (reached (path_below w n) 1 (changed_at (put None) a j p))
    (reached w (n + 1) k)
    (parted_at (path_below w n) 1 a j p (suc j) (omega arith)))
parted_at w n (taken b s a k) (suc i) p m e =
    parted_later b.enable (s.registers.address, path_below w n) (reached (path_below w n) 1 a)
    (reached w (n + 1) k) _ (reached w (n + 1) (changed_at (put None) k i p))
    (parted_at w (n + 1) k i p m (omega (arith, e)))

parted_at_path : (k : Ports) (p : List ℕ)
    → Parted (all_reached k) (reached_at_path k p) (all_reached (changed (put None) k p))
parted_at_path k (suc i ∷ p) = parted_at (Some (record { items = [] })) 1 k i p (suc i)
    (omega arith)
parted_at_path k p = parted_none (all_reached k) [] refl

-- ---- who holds an address, along a list with another one in its middle

joined_twice : (x : Holder) (v w : PlacedWay) → joined_holder (joined_holder x v) w ≡ Several
joined_twice Nobody None w = refl
joined_twice x v w = refl

joined-one : (x : Holder) (w : PlacedWay) (ws : List PlacedWay)
    → all_joined (joined_holder x w) ws ≡ joined_holder (all_joined x ws) w
joined-one x w [] = refl
joined-one x w (v ∷ ws) =
    ap (λ y. all_joined y ws) (joined_twice x w v ∙ sym (joined_twice x v w))
    ∙ joined-one (joined_holder x v) w ws

joined-turned : (x : Holder) (vs ws : List PlacedWay)
    → all_joined (all_joined x vs) ws ≡ all_joined (all_joined x ws) vs
joined-turned x [] ws = refl
joined-turned x (v ∷ vs) ws =
    joined-turned (joined_holder x v) vs ws ∙ ap (λ y. all_joined y vs) (joined-one x v ws)

joined-append : (x : Holder) (vs ws : List PlacedWay)
    → all_joined x (vs ++ ws) ≡ all_joined (all_joined x vs) ws
joined-append x [] ws = refl
joined-append x (v ∷ vs) ws = joined-append (joined_holder x v) vs ws

-- those in the middle join the others
among-middle : (us vs ws : List PlacedWay)
    → all_joined (holder_among (us ++ ws)) vs ≡ holder_among (us ++ (vs ++ ws))
among-middle us vs ws =
    ap (λ x. all_joined x vs) (sym (all_among (us ++ ws)) ∙ joined-append Nobody us ws)
    ∙ joined-turned (all_joined Nobody us) ws vs
    ∙ sym (joined-append (all_joined Nobody us) vs ws)
    ∙ sym (joined-append Nobody us (vs ++ ws))
    ∙ all_among (us ++ (vs ++ ws))

paths-append : (n : ℕ) (xs ys : PlacedWays) → paths_at n (xs ++ ys) ≡ paths_at n xs ++ paths_at n ys
paths-append n [] ys = refl
paths-append n (x ∷ xs) ys = split (x.0 == n) (paths-append n xs ys)
  where
    split : (b : Bool) → paths_at n (xs ++ ys) ≡ paths_at n xs ++ paths_at n ys
        → (if b then x.1 ∷ paths_at n (xs ++ ys) else paths_at n (xs ++ ys))
        ≡ (if b then x.1 ∷ paths_at n xs else paths_at n xs) ++ paths_at n ys
    split true e = ap (λ l. x.1 ∷ l) e
    split false e = e

paths-middle : (n : ℕ) (xs ys zs : PlacedWays)
    → paths_at n (xs ++ (ys ++ zs)) ≡ paths_at n xs ++ (paths_at n ys ++ paths_at n zs)
paths-middle n xs ys zs =
    paths-append n xs (ys ++ zs) ∙ ap (λ l. paths_at n xs ++ l) (paths-append n ys zs)

paths-none : (n : ℕ) (xs : PlacedWays) → has n (way_addresses xs) ≡ false → paths_at n xs ≡ []
paths-none n [] e = refl
paths-none n (x ∷ xs) e =
    let f : _ = or_parts (n == x.0) (has n (way_addresses xs)) e in
    ap (λ b. if b then x.1 ∷ paths_at n xs else paths_at n xs) (nat_eq-sym x.0 n ∙ f.0)
    ∙ paths-none n xs f.1

addresses-middle : (xs ys zs : PlacedWays)
    → way_addresses (xs ++ (ys ++ zs)) ≡ way_addresses xs ++ (way_addresses ys ++ way_addresses zs)
addresses-middle xs ys zs =
    addresses-append xs (ys ++ zs) ∙ ap (λ l. way_addresses xs ++ l) (addresses-append ys zs)

-- ---- an index of a list

-- each byte leads to who holds it
abbrev IndexesList : List Holder → PlacedWays → Type 0
IndexesList h xs = (n : ℕ) → n < 256 → slice_index_or h n Nobody ≡ holder_among (paths_at n xs)

-- with those in the middle
noted_middle : (h : List Holder) (xs ys zs : PlacedWays) → length h ≡ 256 → IndexesList h (xs ++ zs)
    → IndexesList (noted ys h) (xs ++ (ys ++ zs))
noted_middle h xs ys zs all is n small =
    noted_at ys h n (subst (λ m. n < m) (sym all) small)
    ∙ ap (λ x. all_joined x (paths_at n ys)) (is n small ∙ ap holder_among (paths-append n xs zs))
    ∙ among-middle (paths_at n xs) (paths_at n ys) (paths_at n zs)
    ∙ ap holder_among (sym (paths-middle n xs ys zs))

released_at : (ns : List ℕ) (h : List Holder) (n : ℕ) → n < length h
    → slice_index_or (released ns h) n Nobody
    ≡ (if has n ns then Nobody else slice_index_or h n Nobody)
released_at [] h n small = refl
released_at (m ∷ ns) h n small =
    released_at ns (slice_set h m Nobody) n (subst (λ l. n < l) (sym (length-put h m Nobody)) small)
    ∙ ap (λ x. if has n ns then Nobody else x) (slice_set-at h m n Nobody small)
    ∙ ap (λ b. if has n ns then Nobody else (if b then Nobody else slice_index_or h n Nobody))
    (nat_eq-sym m n)
    ∙ split (n == m) (has n ns)
  where
    split : (b c : Bool) → (if c then Nobody else (if b then Nobody else slice_index_or h n Nobody))
        ≡ (if b || c then Nobody else slice_index_or h n Nobody)
    split true true = refl
    split b c = refl

-- without those in the middle, where no address stands twice
released_middle : (h : List Holder) (xs ys zs : PlacedWays) → length h ≡ 256
    → share (way_addresses ys) (way_addresses xs ++ way_addresses zs) ≡ false
    → IndexesList h (xs ++ (ys ++ zs)) → IndexesList (released (way_addresses ys) h) (xs ++ zs)
released_middle h xs ys zs all apart is n small =
    released_at (way_addresses ys) h n (subst (λ m. n < m) (sym all) small)
    ∙ split (has n (way_addresses ys)) refl
  where
    split : (b : Bool) → has n (way_addresses ys) ≡ b
        → (if b then Nobody else slice_index_or h n Nobody) ≡ holder_among (paths_at n (xs ++ zs))
    split true e =
        ap holder_among
        (sym (paths-none n (xs ++ zs)
        (ap (has n) (addresses-append xs zs)
        ∙ unshared n (way_addresses ys) (way_addresses xs ++ way_addresses zs) apart e)))
    split false e =
        is n small
        ∙ ap holder_among
        (paths-middle n xs ys zs
        ∙ ap (λ l. paths_at n xs ++ (l ++ paths_at n zs)) (paths-none n ys e)
        ∙ sym (paths-append n xs zs))

abbrev has_ways : List PlacedWay → Bool
has_ways [] = false
has_ways (w ∷ ws) = true

-- the marks of an index are of the addresses
known_among : (ws : List PlacedWay) → is_known (holder_among ws) ≡ has_ways ws
known_among (None ∷ []) = refl
known_among (Some p ∷ []) = refl
known_among ws = refl

has-paths : (n : ℕ) (xs : PlacedWays) → has_ways (paths_at n xs) ≡ has n (way_addresses xs)
has-paths n [] = refl
has-paths n (x ∷ xs) =
    split (x.0 == n) (has-paths n xs) ∙ ap (λ b. b || has n (way_addresses xs)) (nat_eq-sym x.0 n)
  where
    split : (b : Bool) → has_ways (paths_at n xs) ≡ has n (way_addresses xs)
        → has_ways (if b then x.1 ∷ paths_at n xs else paths_at n xs)
        ≡ (b || has n (way_addresses xs))
    split true e = refl
    split false e = e

marks_index : (h : List Holder) (xs : PlacedWays) → IndexesList h xs
    → Marks (marks_of h) (way_addresses xs)
marks_index h xs is n small =
    known_at h n ∙ ap is_known (is n small) ∙ known_among (paths_at n xs) ∙ has-paths n xs

last_first : (a b c : Bool) → (a || (b || c)) ≡ (b || (c || a))
last_first a b c = search rules

met_middle : (h : List Holder) (xs ys zs : PlacedWays) → length h ≡ 256
    → AreBytes (way_addresses ys) → IndexesList h (xs ++ zs)
    → (repeats (way_addresses (xs ++ zs)) || meets_again ys h)
    ≡ repeats (way_addresses (xs ++ (ys ++ zs)))
met_middle h xs ys zs all bytes is =
    ap (λ b. repeats (way_addresses (xs ++ zs)) || b)
    (met_marks ys h
    ∙ meets-is (way_addresses ys) (way_addresses (xs ++ zs)) (marks_of h) (length-marks h ∙ all)
    bytes
    (marks_index h (xs ++ zs) is)
    ∙ ap (λ l. share (way_addresses ys) l || repeats (way_addresses ys)) (addresses-append xs zs))
    ∙ ap (λ l. repeats l
    || (share (way_addresses ys) (way_addresses xs ++ way_addresses zs)
    || repeats (way_addresses ys))) (addresses-append xs zs)
    ∙ last_first (repeats (way_addresses xs ++ way_addresses zs))
    (share (way_addresses ys) (way_addresses xs ++ way_addresses zs)) (repeats (way_addresses ys))
    ∙ sym (twice-middle (way_addresses xs) (way_addresses ys) (way_addresses zs))
    ∙ ap repeats (sym (addresses-middle xs ys zs))

-- ---- the index of a tree

addresses_from : (w : PlacedWay) (o : Option Plugged) → way_addresses (reached_from w o)
    ≡ held_from o
addresses_from w None = refl
addresses_from w (Some t) = ap (λ l. t.own.registers.address ∷ l) (held-reached w 1 t.ports)

addresses_path : (k : Ports) (p : List ℕ)
    → way_addresses (reached_at_path k p) ≡ held_from (reached_there k p)
addresses_path k p =
    addresses_from (path_further (Some (record { items = [] })) p) (reached_there k p)

held_all : (k : Ports) → held_addresses k ≡ way_addresses (all_reached k)
held_all k = sym (held-reached _ 1 k)

held_without : (k : Ports) (p : List ℕ)
    (x : Parted (all_reached k) (reached_at_path k p) (all_reached (changed (put None) k p)))
    → held_addresses (changed (put None) k p) ≡ way_addresses x.front ++ way_addresses x.behind
held_without k p x =
    held_all (changed (put None) k p) ∙ ap way_addresses x.without_is
    ∙ addresses-append x.front x.behind

twice-parted : (k : Ports) (p : List ℕ)
    (x : Parted (all_reached k) (reached_at_path k p) (all_reached (changed (put None) k p)))
    → repeats (held_addresses k)
    ≡ (share (way_addresses (reached_at_path k p)) (way_addresses x.front ++ way_addresses x.behind)
    || (repeats (way_addresses (reached_at_path k p))
    || repeats (way_addresses x.front ++ way_addresses x.behind)))
twice-parted k p x =
    ap repeats (held_all k ∙ ap way_addresses x.whole_is
    ∙ addresses-middle x.front (reached_at_path k p) x.behind)
    ∙ twice-middle (way_addresses x.front) (way_addresses (reached_at_path k p))
    (way_addresses x.behind)

module _ (k : Ports) (p : List ℕ) (single : repeats (held_addresses k) ≡ false) where
  abbrev part : Parted (all_reached k) (reached_at_path k p) (all_reached (changed (put None) k p))
  part = parted_at_path k p

  abbrev there : PlacedWays
  there = reached_at_path k p

  apart : (share (way_addresses there) (way_addresses part.front ++ way_addresses part.behind)
      ≡ false) ×
      ((repeats (way_addresses there) || repeats
      (way_addresses part.front ++ way_addresses part.behind))
      ≡ false)
  apart = or_parts _ _ (sym (twice-parted k p part) ∙ single)

  pub single_without : repeats (held_addresses (changed (put None) k p)) ≡ false
  single_without =
      ap repeats (held_without k p part)
      ∙ (or_parts (repeats (way_addresses there))
      (repeats (way_addresses part.front ++ way_addresses part.behind)) apart.1).1

  pub released_index : (h m : List Holder) → length h ≡ 256 → IsIndex h k
      → m ≡ released (held_from (reached_there k p)) h → IsIndex m (changed (put None) k p)
  released_index h m all is e =
      subst (λ l. IndexesList l (all_reached (changed (put None) k p)))
      (ap (λ l. released l h) (addresses_path k p) ∙ sym e)
      (subst (λ l. IndexesList (released (way_addresses there) h) l) (sym part.without_is)
      (released_middle h part.front there part.behind all apart.0
      (subst (λ l. IndexesList h l) part.whole_is is)))

module _ (k : Ports) (p : List ℕ) (h : List Holder) (all : length h ≡ 256)
    (is : IsIndex h (changed (put None) k p)) where
  abbrev with_part : Parted (all_reached k) (reached_at_path k p)
      (all_reached (changed (put None) k p))
  with_part = parted_at_path k p

  abbrev noted_there : PlacedWays
  noted_there = reached_at_path k p

  others : IndexesList h (with_part.front ++ with_part.behind)
  others = subst (λ l. IndexesList h l) with_part.without_is is

  pub noted_index : (m : List Holder) → m ≡ noted noted_there h → IsIndex m k
  noted_index m e =
      subst (λ l. IndexesList l (all_reached k)) (sym e)
      (subst (λ l. IndexesList (noted noted_there h) l) (sym with_part.whole_is)
      (noted_middle h with_part.front noted_there with_part.behind all others))

  pub noted_shared : AreBytes (held_from (reached_there k p))
      → (repeats (held_addresses (changed (put None) k p)) || meets_again noted_there h)
      ≡ repeats (held_addresses k)
  noted_shared bytes =
      ap (λ l. repeats l || meets_again noted_there h)
      (held_all (changed (put None) k p) ∙ ap way_addresses with_part.without_is)
      ∙ met_middle h with_part.front noted_there with_part.behind all
      (subst AreBytes (sym (addresses_path k p)) bytes) others
      ∙ ap repeats (ap way_addresses (sym with_part.whole_is) ∙ sym (held_all k))

pub ruleset parting = (
  length-released,
  length-noted,
  single_without,
  released_index,
  noted_index,
  noted_shared,
)
