-- The one holder that an index names is reached, and holds the address.
use Rattle.std.proofs.Common.{◌≡◌, ◌+◌, ℕ, zero, suc, ◌==◌, ◌&&◌, ◌||◌, ◌⊎◌, inl, inr}
use Rattle.std.proofs.Common.{if◌then◌else◌, Bool, true, false, List, [], ◌∷◌, ◌++◌, Option, None}
use Rattle.std.proofs.Common.{Some, length, nat_le, refl, ap, ap₂, sym, subst, ◌∙◌, arith}
use Rattle.std.proofs.Common.{append_assoc}
use Rattle.std.proofs.lemmas.Bool.Decides.{nat_tests}
use Rattle.std.proofs.lemmas.Option.{same_Some}
use Rattle.arrayvec.specs.ArrayVec.{ArrayVec}
use Rattle.usb_port.specs.{PortState}
use Rattle.usb_device.specs.declared.holders.Holder.TheVariants.{One}
use Rattle.usb_device.specs.{State, Ports, ended, vacant, taken, empty, full, before, reach_at}
use Rattle.usb_device.specs.{state_at, holds_by, is_held_at, path_below, reached, all_reached}
use Rattle.usb_device.specs.{paths_at, holder_among, holder_of, Place}
use Rattle.usb_device.proofs.places.NumberedPlaces.{reach_at-tail}
use Rattle.usb_device.proofs.Attempts.{same_number}

abbrev HolderWay : Type 0
HolderWay = Option (ArrayVec ℕ)

abbrev In : ℕ × HolderWay → List (ℕ × HolderWay) → Type 0
In x [] = ⊥
In x (y ∷ ys) = (x ≡ y) ⊎ In x ys

-- by where it is among what is at an enabled port, below it and behind it
in_if : (P : Type 0) (e : Bool) (x y : ℕ × HolderWay) (ys zs : List (ℕ × HolderWay))
    → (e ≡ true → x ≡ y → P) → (e ≡ true → In x ys → P) → (In x zs → P)
    → In x (if e then y ∷ (ys ++ zs) else zs) → P
in_if P true x y ys zs here below behind (inl is) = here refl is
in_if P true x y ys zs here below behind (inr h) = split ys (below refl) h
  where
    split : (ys : List (ℕ × HolderWay)) → (In x ys → P) → In x (ys ++ zs) → P
    split [] below h = behind h
    split (z ∷ ys) below (inl is) = below (inl is)
    split (z ∷ ys) below (inr h) = split ys (λ g. below (inr g)) h
in_if P false x y ys zs here below behind h = behind h

-- a device that holds an address, by its path from a row of ports, whose first one has a number,
-- below another path
record HolderAmong (n first : ℕ) (k : Ports) (above path : List ℕ) : Type 0 where
  row : ℕ
  rest : List ℕ
  joined : path ≡ above ++ (first + row) ∷ rest
  held : (reach_at k row rest && holds_by n (state_at k row rest)) ≡ true

state_at-tail : (q : Place) (k : Ports) (i : ℕ) (p : List ℕ) → state_at (before q k) (suc i) p
    ≡ state_at k i p
unfolding state_at
state_at-tail (empty b) k i p = refl
state_at-tail (full b s a) k i p = refl

holder_later : (n first : ℕ) (q : Place) (k : Ports) (above path : List ℕ)
    → HolderAmong n (first + 1) k above path → HolderAmong n first (before q k) above path
holder_later n first q k above path h = record {
  row = suc h.row;
  rest = h.rest;
  joined = h.joined ∙ ap (λ m. above ++ m ∷ h.rest) (omega arith);
  held = ap₂ (λ r s. r && holds_by n s) (reach_at-tail q k h.row h.rest)
      (state_at-tail q k h.row h.rest) ∙ h.held;
}

-- a path below another one
record Below (w : HolderWay) (f : ℕ) (q : ArrayVec ℕ) : Type 0 where
  above : ArrayVec ℕ
  is : w ≡ Some above
  longer : q.items ≡ above.items ++ f ∷ []

path_below-found : (w : HolderWay) (f : ℕ) (q : ArrayVec ℕ) → path_below w f ≡ Some q → Below w f q
path_below-found None f q e = cc
path_below-found (Some p) f q e = split (nat_le 8 (length p.items) || nat_le 256 f) e
  where
    split : (b : Bool) → (if b then None else Some (record { items = p.items ++ f ∷ [] })) ≡ Some q
        → Below (Some p) f q
    split true e = cc
    split false e = record {
      above = p;
      is = refl;
      longer =
          sym (ap (λ (x : ArrayVec ℕ). x.items) (same_Some (record { items = p.items ++ f ∷ [] }) q
          e));
    }

-- a device with an address, by its path
record StandsBelow (w : HolderWay) (f : ℕ) (k : Ports) (a : ℕ) (q : ArrayVec ℕ) : Type 0 where
  above : ArrayVec ℕ
  is : w ≡ Some above
  among : HolderAmong a f k above.items q.items

later : (w : HolderWay) (f : ℕ) (x : Place) (k : Ports) (a : ℕ) (q : ArrayVec ℕ)
    → StandsBelow w (f + 1) k a q → StandsBelow w f (before x k) a q
later w f x k a q h = record {
  above = h.above;
  is = h.is;
  among = holder_later a f x k h.above.items q.items h.among;
}

stands_below-here : (w : HolderWay) (f : ℕ) (b : PortState) (s : State) (below k : Ports) (a : ℕ)
    (q : ArrayVec ℕ) → b.enable ≡ true → a ≡ s.registers.address → path_below w f ≡ Some q
    → StandsBelow w f (taken b s below k) a q
unfolding reach_at state_at
stands_below-here w f b s below k a q on e is =
    let x : Below w f q = path_below-found w f q is in
    record {
      above = x.above;
      is = x.is;
      among = record {
        row = 0;
        rest = [];
        joined = x.longer ∙ ap (λ n. x.above.items ++ n ∷ []) (omega arith);
        held = ap₂ (λ r n. r && (s.registers.address == n)) on e ∙ same_number s.registers.address;
      };
    }

deeper : (w : HolderWay) (f : ℕ) (b : PortState) (s : State) (below k : Ports) (a : ℕ)
    (q : ArrayVec ℕ) → b.enable ≡ true → StandsBelow (path_below w f) 1 below a q
    → StandsBelow w f (taken b s below k) a q
unfolding reach_at state_at
deeper w f b s below k a q on h =
    let x : Below w f h.above = path_below-found w f h.above h.is in
    let y : _ = h.among in
    record {
      above = x.above;
      is = x.is;
      among = record {
        row = 0;
        rest = suc y.row ∷ y.rest;
        joined = y.joined ∙ ap (λ l. l ++ (1 + y.row) ∷ y.rest) x.longer
            ∙ append_assoc x.above.items (f ∷ []) ((1 + y.row) ∷ y.rest)
            ∙ ap₂ (λ m n. x.above.items ++ m ∷ n ∷ y.rest) (omega arith) (omega arith);
        held = ap (λ e. (e && reach_at below y.row y.rest) &&
            holds_by a (state_at below y.row y.rest)) on ∙ y.held;
      };
    }

stands_below : (w : HolderWay) (f : ℕ) (k : Ports) (a : ℕ) (q : ArrayVec ℕ)
    → In (a, Some q) (reached w f k) → StandsBelow w f k a q
unfolding reached
stands_below w f ended a q h = absurd h
stands_below w f (vacant b k) a q h = later w f (empty b) k a q (stands_below w (f + 1) k a q h)
stands_below w f (taken b s below k) a q h =
    in_if (StandsBelow w f (taken b s below k) a q) b.enable (a, Some q)
    (s.registers.address, path_below w f) (reached (path_below w f) 1 below) (reached w (f + 1) k)
    (λ on e. stands_below-here w f b s below k a q on (ap (λ (x : ℕ × HolderWay). x.0) e)
    (sym (ap (λ (x : ℕ × HolderWay). x.1) e)))
    (λ on g. deeper w f b s below k a q on (stands_below (path_below w f) 1 below a q g))
    (λ g. later w f (full b s below) k a q (stands_below w (f + 1) k a q g)) h

-- ---- the one at an address

pub nat_eq-true_sym : (m n : ℕ) → (m == n) ≡ true → n ≡ m
nat_eq-true_sym m n h = grind (arith, nat_tests, h)

paths_at-in : (n : ℕ) (w : HolderWay) (ws : List HolderWay) (xs : List (ℕ × HolderWay))
    → paths_at n xs ≡ w ∷ ws → In (n, w) xs
paths_at-in n w ws [] e = cc
paths_at-in n w ws (x ∷ xs) e = split (x.0 == n) refl (paths_at-in n w ws xs) e
  where
    split : (b : Bool) → (x.0 == n) ≡ b → (paths_at n xs ≡ w ∷ ws → In (n, w) xs)
        → (if b then x.1 ∷ paths_at n xs else paths_at n xs) ≡ w ∷ ws → ((n, w) ≡ x) ⊎ In (n, w) xs
    split true is behind e = let f : x.1 ≡ w = cc e in
        inl (ap₂ (λ m v. (m, v)) (nat_eq-true_sym x.0 n is) (sym f))
    split false is behind e = inr (behind e)

holder_among-one : (ws : List HolderWay) (p : ArrayVec ℕ) → holder_among ws ≡ One p
    → ws ≡ Some p ∷ []
holder_among-one (None ∷ []) p e = cc
holder_among-one (Some q ∷ []) p e = let f : q ≡ p = cc e in ap (λ x. Some x ∷ []) f
holder_among-one ws p e = cc

held_by_path : (n : ℕ) (k : Ports) (p : List ℕ) → HolderAmong n 1 k [] p → is_held_at n k p ≡ true
held_by_path n k [] h = cc h.joined
held_by_path n k (zero ∷ p) h = let e : zero ≡ 1 + h.row = cc h.joined in absurd (omega (arith, e))
held_by_path n k (suc j ∷ p) h =
    let e : suc j ≡ 1 + h.row = cc h.joined in
    let f : p ≡ h.rest = cc h.joined in
    let g : j ≡ h.row = omega (arith, e) in
    ap₂ (λ i q. reach_at k i q && holds_by n (state_at k i q)) g f ∙ h.held

pub one_is_held : (n : ℕ) (k : Ports) (p : ArrayVec ℕ) → holder_of n k ≡ One p
    → is_held_at n k p.items ≡ true
one_is_held n k p e =
    let x : StandsBelow (Some (record { items = [] })) 1 k n p =
    stands_below (Some (record { items = [] })) 1 k n p
    (paths_at-in n (Some p) [] (all_reached k)
    (holder_among-one (paths_at n (all_reached k)) p e)) in
    held_by_path n k p.items (subst (λ (v : ArrayVec ℕ). HolderAmong n 1 k v.items p.items)
    (sym (same_Some (record { items = [] }) x.above x.is)) x.among)
