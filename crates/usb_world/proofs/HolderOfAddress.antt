-- Either a reachable device holds an address, or none does.
use Rattle.std.proofs.Common.{◌≡◌, ℕ, zero, suc, Bool, true, false, ◌&&◌, ◌==◌, [], ◌∷◌, None, Some}
use Rattle.std.proofs.Common.{◌⊎◌, inl, inr, refl, sym, ap, ◌∙◌}
use Rattle.std.proofs.lemmas.Option.{same_Some}
use Rattle.usb_device.specs.{PortState}
use Rattle.usb_device.specs.{State, Ports, ended, vacant, taken, reach_at, state_at, place_at}
use Rattle.usb_device.specs.{path_to}
use Rattle.usb_world.specs.{address_of, NobodyHolds, Found}
use Rattle.usb_world.proofs.Booleans.{false_true}
use Rattle.usb_device.proofs.Interface.{nat_eq-true_sym}

none_not_state : {A : Type 0} (t : State) → None ≡ Some t → A
none_not_state t h = cc

found_next : (n : ℕ) (b : PortState) (k : Ports) → Found n k → Found n (vacant b k)
unfolding reach_at place_at
found_next n b k f = record {
  spot = record { row = suc f.spot.row; rest = f.spot.rest };
  port = f.port;
  own = f.own;
  below = f.below;
  on = f.on;
  stands = f.stands;
  at = f.at;
}

found_after : (n : ℕ) (b : PortState) (s : State) (a k : Ports) → Found n k
    → Found n (taken b s a k)
unfolding reach_at place_at
found_after n b s a k f = record {
  spot = record { row = suc f.spot.row; rest = f.spot.rest };
  port = f.port;
  own = f.own;
  below = f.below;
  on = f.on;
  stands = f.stands;
  at = f.at;
}

found_below : (n : ℕ) (b : PortState) (s : State) (a k : Ports) → b.enable ≡ true → Found n a
    → Found n (taken b s a k)
unfolding reach_at place_at
found_below n b s a k e f = record {
  spot = record { row = 0; rest = path_to f.spot };
  port = f.port;
  own = f.own;
  below = f.below;
  on = rw e f.on;
  stands = f.stands;
  at = f.at;
}

found_here : (n : ℕ) (b : PortState) (s : State) (a k : Ports) → b.enable ≡ true
    → (n == address_of s) ≡ true → Found n (taken b s a k)
unfolding reach_at place_at
found_here n b s a k e is = record {
  spot = record { row = 0; rest = [] };
  port = b;
  own = s;
  below = a;
  on = e;
  stands = refl;
  at = nat_eq-true_sym n (address_of s) is;
}

nobody_next : (n : ℕ) (b : PortState) (k : Ports) → NobodyHolds n k → NobodyHolds n (vacant b k)
unfolding reach_at state_at
nobody_next n b k f zero e t h on = none_not_state t h
nobody_next n b k f (suc i) e t h on = f i e t h on

nobody_off : (n : ℕ) (b : PortState) (s : State) (a k : Ports) → b.enable ≡ false → NobodyHolds n k
    → NobodyHolds n (taken b s a k)
unfolding reach_at state_at
nobody_off n b s a k off f zero [] t h on = false_true (sym off ∙ on)
nobody_off n b s a k off f zero (zero ∷ e) t h on = none_not_state t h
nobody_off n b s a k off f zero (suc j ∷ e) t h on = false_true (rw off at on)
nobody_off n b s a k off f (suc i) e t h on = f i e t h on

and_right : (x y : Bool) → x && y ≡ true → y ≡ true
and_right true y h = h
and_right false y h = cc

nobody_on : (n : ℕ) (b : PortState) (s : State) (a k : Ports) → (n == address_of s) ≡ false
    → NobodyHolds n a → NobodyHolds n k → NobodyHolds n (taken b s a k)
unfolding reach_at state_at
nobody_on n b s a k other below f zero [] t h on =
    ap (λ u. n == address_of u) (sym (same_Some s t h)) ∙ other
nobody_on n b s a k other below f zero (zero ∷ e) t h on = none_not_state t h
nobody_on n b s a k other below f zero (suc j ∷ e) t h on =
    below j e t h (and_right b.enable (reach_at a j e) on)
nobody_on n b s a k other below f (suc i) e t h on = f i e t h on

nobody_ended : (n : ℕ) → NobodyHolds n ended
unfolding reach_at state_at
nobody_ended n i e t h on = none_not_state t h

pub who_holds : (n : ℕ) (k : Ports) → Found n k ⊎ NobodyHolds n k
who_holds n ended = inr (nobody_ended n)
who_holds n (vacant b k) = go (who_holds n k)
  where
    go : Found n k ⊎ NobodyHolds n k → Found n (vacant b k) ⊎ NobodyHolds n (vacant b k)
    go (inl f) = inl (found_next n b k f)
    go (inr f) = inr (nobody_next n b k f)
who_holds n (taken b s a k) = by_enable b.enable refl (who_holds n a) (who_holds n k)
  where
    after : (other : (n == address_of s) ≡ false) → NobodyHolds n a → Found n k ⊎ NobodyHolds n k
        → Found n (taken b s a k) ⊎ NobodyHolds n (taken b s a k)
    after other below (inl f) = inl (found_after n b s a k f)
    after other below (inr f) = inr (nobody_on n b s a k other below f)

    by_below : (e : b.enable ≡ true) (other : (n == address_of s) ≡ false) → Found n a
        ⊎ NobodyHolds n a → Found n k ⊎ NobodyHolds n k → Found n (taken b s a k)
        ⊎ NobodyHolds n (taken b s a k)
    by_below e other (inl f) y = inl (found_below n b s a k e f)
    by_below e other (inr f) y = after other f y

    by_address : (e : b.enable ≡ true) (x : Bool) → (n == address_of s) ≡ x → Found n a
        ⊎ NobodyHolds n a → Found n k ⊎ NobodyHolds n k → Found n (taken b s a k)
        ⊎ NobodyHolds n (taken b s a k)
    by_address e true is x y = inl (found_here n b s a k e is)
    by_address e false other x y = by_below e other x y

    off : b.enable ≡ false → Found n k ⊎ NobodyHolds n k → Found n (taken b s a k)
        ⊎ NobodyHolds n (taken b s a k)
    off e (inl f) = inl (found_after n b s a k f)
    off e (inr f) = inr (nobody_off n b s a k e f)

    by_enable : (x : Bool) → b.enable ≡ x → Found n a ⊎ NobodyHolds n a → Found n k
        ⊎ NobodyHolds n k → Found n (taken b s a k) ⊎ NobodyHolds n (taken b s a k)
    by_enable true e x y = by_address e (n == address_of s) refl x y
    by_enable false e x y = off e y
