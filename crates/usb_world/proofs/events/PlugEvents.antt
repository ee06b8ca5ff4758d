-- What a plug or an unplug does to reachable, live and pending.
use Rattle.std.proofs.Common.{arith, ◌≡◌, ◌∙◌, ℕ, zero, suc, ◌&&◌, ◌⊎◌, inl, inr, Bool, true, false}
use Rattle.std.proofs.Common.{List, [], ◌∷◌, slice_get, is_some, Option, None, Some, refl, sym}
use Rattle.usb_device.specs.{Spec, Ports, ended, vacant, taken, before, port_of, replaced, changed}
use Rattle.usb_device.specs.{changed_at, reach, reach_at, Place}
use Rattle.usb_world.specs.{Action, Plug, Unplug, with_plugged, after_change, way_of, names_path}
use Rattle.usb_world.specs.{has_power, has_power_at, pending, pending_at, is_way, on_way}
use Rattle.usb_world.specs.declared.event.Action.TheVariants.{Change, Ask}
use Rattle.usb_world.proofs.Booleans.{decided, false_true}
use Rattle.usb_world.proofs.ports.PortCalls.{changed_apart, SameThere, changed_there}

-- A path to which the changed place is on the way

-- it is not reached, and where it was live or pending it is pending
abbrev Struck : Ports → Ports → ℕ → List ℕ → Type 0
Struck k m j p =
    (reach_at m j p ≡ false) × (has_power_at k j p ≡ true → pending_at m j p ≡ true)
    × (pending_at k j p ≡ true → pending_at m j p ≡ true)

live_has_power : (x : Place) (k : Ports) (p : List ℕ)
    → (has_power_at (before x k) zero p ≡ true → (port_of x).power ≡ true)
    × (pending_at (before x k) zero p ≡ true → (port_of x).power ≡ true)
unfolding has_power_at pending_at
live_has_power x k p = grind arith

risen : (o : Option Spec) (x : Place) (k : Ports) (p : List ℕ)
    → (reach_at (before (replaced o x) k) zero p ≡ false)
    × ((port_of x).power ≡ true → pending_at (before (replaced o x) k) zero p ≡ true)
unfolding reach_at pending_at
risen o x k p = grind arith

struck_place : (o : Option Spec) (x : Place) (k : Ports) (p : List ℕ)
    → Struck (before x k) (before (replaced o x) k) zero p
struck_place o x k p =
    let on : _ = live_has_power x k p in
    let up : _ = risen o x k p in
    (up.0, λ h. up.1 (on.0 h), λ h. up.1 (on.1 h))

struck : (o : Option Spec) (k : Ports) (i : ℕ) (e : List ℕ) (j : ℕ) (p : List ℕ)
    → on_way i e j p ≡ true → Struck k (changed_at (replaced o) k i e) j p
unfolding changed_at reach_at has_power_at pending_at is_way
struck o ended i e j p w = (refl, λ h. h, λ h. h)
struck o (vacant b k) zero e zero p w = grind (arith, struck_place)
struck o (vacant b k) (suc i) e (suc j) p w = struck o k i e j p w
struck o (taken b s a k) zero (suc i ∷ e) zero (suc j ∷ p) w =
    grind (arith, struck o a i e j p w)
struck o (taken b s a k) zero e zero p w = grind (arith, struck_place)
struck o (taken b s a k) (suc i) e (suc j) p w = struck o k i e j p w
struck o k i e j p w = false_true w

-- What an event does to what is asked of a path, where its place is on the way or not: who is
-- reachable after it was so before, and it is not on the way; what is pending stays so; what is
-- live
-- stays so where the event is not on the way, and else it is pending.
abbrev pub EventWay : Ports → Ports → List ℕ → Bool → Type 0
EventWay k m p named =
    (reach m p ≡ true → (reach k p ≡ true) × (named ≡ false))
    × (pending k p ≡ true → pending m p ≡ true)
    × (has_power k p ≡ true → ((has_power m p ≡ true) × (named ≡ false)) ⊎ (pending m p ≡ true))

no_event : (k : Ports) (p : List ℕ) → EventWay k k p false
no_event k p = (λ h. (h, refl), λ h. h, λ h. inl (h, refl))

replaced_way : (o : Option Spec) (k : Ports) (x p : List ℕ)
    → EventWay k (changed (replaced o) k x) p (way_of x p)
unfolding is_way
replaced_way o k [] (suc j ∷ p) = no_event k (suc j ∷ p)
replaced_way o k (zero ∷ x) (suc j ∷ p) = no_event k (suc j ∷ p)
replaced_way o k (suc i ∷ x) (suc j ∷ p) = elim (decided (on_way i x j p)) [
  | inl w ↦
      let y : _ = struck o k i x j p w in
      (λ h. false_true (sym y.0 ∙ h), y.2, λ h. inr (y.1 h))
  | inr w ↦
      let y : _ = (changed_apart (replaced o) k i x j p w).0 in
      (λ h. (sym y.0 ∙ h, w), λ h. y.2 ∙ h, λ h. inl (y.1 ∙ h, w))
]
replaced_way o k x p = (λ h. false_true h, λ h. false_true h, λ h. false_true h)

plugged_way : (o : Option Spec) (k : Ports) (x p : List ℕ)
    → EventWay k (with_plugged o x k) p (is_some o && way_of x p)
plugged_way None k x p = no_event k p
plugged_way (Some s) k x p = replaced_way (Some s) k x p

pub happened_way : (a : Action) (d : List Spec) (k : Ports) (p : List ℕ)
    → EventWay k (after_change a d k) p (names_path d a p)
happened_way (Change (Plug x i)) d k p = plugged_way (slice_get d i) k x p
happened_way (Change (Unplug x)) d k p = replaced_way None k x p
happened_way (Ask ask) d k p = no_event k p

-- an event that is not on the way leaves it as it was
with_plugged-elsewhere : (o : Option Spec) (k : Ports) (x p : List ℕ)
    → (is_some o && way_of x p) ≡ false → SameThere k (with_plugged o x k) p
with_plugged-elsewhere None k x p h = (refl, refl, refl)
with_plugged-elsewhere (Some s) k x p h = changed_there _ k x p h

pub happened_there : (a : Action) (d : List Spec) (k : Ports) (p : List ℕ)
    → names_path d a p ≡ false → SameThere k (after_change a d k) p
happened_there (Change (Plug x i)) d k p h = with_plugged-elsewhere (slice_get d i) k x p h
happened_there (Change (Unplug x)) d k p h = changed_there (replaced None) k x p h
happened_there (Ask ask) d k p h = (refl, refl, refl)
