-- What changes at one place, and keeps which devices are reached.
use Rattle.std.proofs.Common.{◌≡◌, ℕ, zero, suc, ◌+◌, ◌-◌, ◌==◌, ◌&&◌, not, ◌⊎◌, inl, inr, arith}
use Rattle.std.proofs.Common.{◌||◌, if◌then◌else◌, Bool, true, false, List, [], ◌∷◌, ◌++◌, Option}
use Rattle.std.proofs.Common.{None, Some, append-nil, refl, ap, sym, ◌∙◌}
use Rattle.std.proofs.lemmas.Bool.Decides.{nat_tests}
use Rattle.arrayvec.specs.ArrayVec.{ArrayVec}
use Rattle.usb_port.specs.{PortState, is_attached, powered_on, unplugged, PortCall, SetPower}
use Rattle.usb_port.specs.{SetReset, ClearEnable, ClearPower}
use Rattle.usb_device.specs.{Ports, ended, vacant, taken, Plugged, empty, full, port_of, before}
use Rattle.usb_device.specs.{acted, called, put, changed, changed_at, place_at, Effect, Leaves}
use Rattle.usb_device.specs.{Calls, PortsOff, path_below, reached}
use Rattle.usb_device.specs.{all_reached, ReachedSame, keeps_enable, keeps_others, Place}
use Rattle.usb_device.proofs.places.FirstPlaces.{changed_at-head, changed_at-tail, changed_at-same}
use Rattle.usb_device.proofs.places.FirstPlaces.{changed_at-twice}

place_if_enabled : (x : ℕ × Option (ArrayVec ℕ)) (a k : List (ℕ × Option (ArrayVec ℕ))) (e : Bool)
    → (if e then x ∷ (a ++ k) else k) ≡ (if e then x ∷ (a ++ []) else []) ++ k
place_if_enabled x a k true = ap (λ l. x ∷ (l ++ k)) (sym (append-nil a))
place_if_enabled x a k false = refl

reached-head : (w : Option (ArrayVec ℕ)) (n : ℕ) (q : Place) (k : Ports)
    → reached w n (before q k) ≡ reached w n (before q ended) ++ reached w (n + 1) k
unfolding reached
reached-head w n (empty b) k = refl
reached-head w n (full b s a) k = place_if_enabled (s.registers.address, path_below w n)
    (reached (path_below w n) 1 a) (reached w (n + 1) k) b.enable

reached-same_head : (w : Option (ArrayVec ℕ)) (n : ℕ) (q r : Place) (k : Ports) → ReachedSame q r
    → reached w n (before q k) ≡ reached w n (before r k)
reached-same_head w n q r k h = reached-head w n q k ∙ ap (λ l. l ++ reached w (n + 1) k) (h w n)
    ∙ sym (reached-head w n r k)

-- two changes of one place
pub reached-both : (f g : Place → Place) (w : Option (ArrayVec ℕ)) (n : ℕ) (k : Ports) (j : ℕ)
    (p : List ℕ) → ((q : Place) → place_at k j p ≡ Some q → ReachedSame (f q) (g q))
    → reached w n (changed_at f k j p) ≡ reached w n (changed_at g k j p)
unfolding reached place_at changed_at
reached-both f g w n (vacant b k) zero [] h =
    reached-same_head w n (f (empty b)) (g (empty b)) k (h (empty b) refl)
reached-both f g w n (vacant b k) (suc j) p h = reached-both f g w (n + 1) k j p h
reached-both f g w n (taken b s a k) zero [] h =
    reached-same_head w n (f (full b s a)) (g (full b s a)) k (h (full b s a) refl)
reached-both f g w n (taken b s a k) zero (suc j ∷ p) h =
    ap (λ y. if b.enable then (s.registers.address, path_below w n) ∷ (y ++ reached w (n + 1) k)
    else reached w (n + 1) k) (reached-both f g (path_below w n) 1 a j p h)
reached-both f g w n (taken b s a k) (suc j) p h =
    ap (λ y. if b.enable
    then (s.registers.address, path_below w n) ∷ (reached (path_below w n) 1 a ++ y)
    else y) (reached-both f g w (n + 1) k j p h)
reached-both f g w n k j p h = refl

pub reached-changed : (f : Place → Place) (w : Option (ArrayVec ℕ)) (n : ℕ) (k : Ports) (j : ℕ)
    (p : List ℕ) → ((q : Place) → place_at k j p ≡ Some q → ReachedSame (f q) q)
    → reached w n (changed_at f k j p) ≡ reached w n k
reached-changed f w n k j p h =
    reached-both f (λ x. x) w n k j p h ∙ ap (reached w n) (changed_at-same k j p)

-- ---- calls at ports that leave each port enabled or not, and reset none
pub power_enable : (b : PortState) → (powered_on b).enable ≡ b.enable
power_enable b = split b.power
  where
    split : (x : Bool) → (if x then b else record b {
      power = true;
      connection_changed = is_attached b.attached || b.connection_changed;
    }).enable ≡ b.enable
    split true = refl
    split false = refl

called-same : (c : PortCall) (q : Place) → keeps_enable c ≡ true → ReachedSame (called c q) q
unfolding reached
called-same c (empty b) h w n = refl
called-same SetPower (full b s a) h w n =
    ap (λ e. if e then (s.registers.address, path_below w n) ∷ (reached (path_below w n) 1 a ++ [])
    else []) (power_enable b)
called-same SetReset (full b s a) h w n = cc
called-same ClearEnable (full b s a) h w n = cc
called-same ClearPower (full b s a) h w n = cc
called-same c q h w n = refl

-- without what is on a port, another change at that port is not seen, and at another one none that
-- leaves the same devices reached
abbrev SeenNot : (Place → Place) → ℕ → ℕ → Type 0
SeenNot f i j = (i ≡ j) ⊎ ((q : Place) → ReachedSame (f q) q)

seen_not_later : (f : Place → Place) (i j : ℕ) → SeenNot f (suc i) (suc j) → SeenNot f i j
seen_not_later f i j (inl e) = inl (omega (arith, e))
seen_not_later f i j (inr same) = inr same

head_without : (q : Place) (k : Ports)
    → changed_at (put None) (before q k) 0 [] ≡ vacant (unplugged (port_of q)) k
head_without q k = changed_at-head (put None) q k []

other_at : (f : Place → Place) (w : Option (ArrayVec ℕ)) (n : ℕ) (q : Place) (k : Ports) (i j : ℕ)
    → SeenNot f i j → ((i j : ℕ) → SeenNot f i j
    → reached w (n + 1) (changed_at (put None) (changed_at f k j []) i [])
    ≡ reached w (n + 1) (changed_at (put None) k i []))
    → reached w n (changed_at (put None) (changed_at f (before q k) j []) i [])
    ≡ reached w n (changed_at (put None) (before q k) i [])
unfolding reached
other_at f w n q k zero zero h behind =
    ap (reached w n)
    (ap (λ x. changed_at (put None) x 0 []) (changed_at-head f q k []) ∙ head_without (f q) k)
    ∙ sym (ap (reached w n) (head_without q k))
other_at f w n q k zero (suc j) (inr same) behind =
    ap (reached w n)
    (ap (λ x. changed_at (put None) x 0 []) (changed_at-tail f q k j [])
    ∙ head_without q (changed_at f k j []))
    ∙ reached-changed f w (n + 1) k j [] (λ r at. same r)
    ∙ sym (ap (reached w n) (head_without q k))
other_at f w n q k (suc i) zero (inr same) behind =
    ap (reached w n)
    (ap (λ x. changed_at (put None) x (suc i) []) (changed_at-head f q k [])
    ∙ changed_at-tail (put None) (f q) k i [])
    ∙ reached-same_head w n (f q) q (changed_at (put None) k i []) (same q)
    ∙ sym (ap (reached w n) (changed_at-tail (put None) q k i []))
other_at f w n q k (suc i) (suc j) h behind =
    ap (reached w n)
    (ap (λ x. changed_at (put None) x (suc i) []) (changed_at-tail f q k j [])
    ∙ changed_at-tail (put None) q (changed_at f k j []) i [])
    ∙ reached-head w n q (changed_at (put None) (changed_at f k j []) i [])
    ∙ ap (λ l. reached w n (before q ended) ++ l) (behind i j (seen_not_later f i j h))
    ∙ sym (reached-head w n q (changed_at (put None) k i []))
    ∙ sym (ap (reached w n) (changed_at-tail (put None) q k i []))
other_at f w n q k _ _ (inl e) behind = absurd (omega (arith, e))

reached-other : (f : Place → Place) (w : Option (ArrayVec ℕ)) (n : ℕ) (k : Ports) (i j : ℕ)
    → SeenNot f i j → reached w n (changed_at (put None) (changed_at f k j []) i [])
    ≡ reached w n (changed_at (put None) k i [])
unfolding changed_at
reached-other f w n ended i j h = refl
reached-other f w n (vacant b k) i j h =
    other_at f w n (empty b) k i j h (λ x y g. reached-other f w (n + 1) k x y g)
reached-other f w n (taken b s a k) i j h =
    other_at f w n (full b s a) k i j h (λ x y g. reached-other f w (n + 1) k x y g)

one_port : (n i : ℕ) → (not (suc n == 0) && suc n - 1 == i) ≡ true → n ≡ i
one_port n i e = grind (arith, nat_tests, e)

-- what a device asks of its ports, without what is on the port of a number
pub reached-acted : (e : Effect) (port : ℕ) (a : Ports) → keeps_others port e ≡ true
    → (w : Option (ArrayVec ℕ)) (n : ℕ) → reached w n (changed (put None) (acted e a) (port ∷ []))
    ≡ reached w n (changed (put None) a (port ∷ []))
reached-acted Leaves port a h w n = refl
reached-acted (Calls c i) zero a h w n =
    reached-changed (called c) w n a i [] (λ q at. called-same c q (kept (keeps_enable c) h))
  where
    kept : (b : Bool) → (b || false) ≡ true → b ≡ true
    kept true e = refl
    kept false e = e
reached-acted (Calls c i) (suc m) a h w n =
    reached-other (called c) w n a m i (split (keeps_enable c) refl h)
  where
    split : (b : Bool) → keeps_enable c ≡ b → (b || (not (suc m == 0) && suc m - 1 == i)) ≡ true
        → SeenNot (called c) m i
    split true e h = inr (λ q. called-same c q e)
    split false e h = inl (one_port m i h)
reached-acted PortsOff port a h w n = cc

pub reached-called : (c : PortCall) (k : Ports) (port : ℕ) → keeps_enable c ≡ true
    → all_reached (changed (called c) k (port ∷ [])) ≡ all_reached k
reached-called c k zero h = refl
reached-called c k (suc i) h = reached-changed (called c) _ 1 k i [] (λ q at. called-same c q h)

-- ---- the index without what stands at a path
pub without-changed : (f : Place → Place) (k : Ports) (p : List ℕ)
    → all_reached (changed (put None) (changed f k p) p) ≡ all_reached (changed (put None) k p)
unfolding reached
without-changed f k (suc i ∷ p) =
    ap all_reached (changed_at-twice (put None) f k i p)
    ∙ reached-both (λ x. put None (f x)) (put None) _ 1 k i p (λ q at w n. refl)
without-changed f k p = refl

pub plugged-same : (t : Plugged) (k : Ports) (p : List ℕ)
    → all_reached (changed (put (Some t)) k p) ≡ all_reached (changed (put None) k p)
unfolding reached
plugged-same t k (suc i ∷ p) = reached-both (put (Some t)) (put None) _ 1 k i p (λ q at w n. refl)
plugged-same t k p = refl
