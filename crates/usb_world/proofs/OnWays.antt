-- A packet spares what is pending, leaves a port, resets none, by what each device on the way asks.
use Rattle.std.proofs.Common.{◌≡◌, ℕ, zero, suc, ◌||◌, not, Bool, true, false, List, [], ◌∷◌, ◌++◌}
use Rattle.std.proofs.Common.{Some, refl, ap}
use Rattle.usb_device.specs.{Sent, State, Ports, vacant, taken, state_at, effect_of}
use Rattle.usb_world.specs.{effect_resets, resets_at, effect_keeps_pending, packet_keeps_pending}
use Rattle.usb_world.specs.{leaves_port, way_leaves}
use Rattle.usb_world.proofs.Booleans.{and_of, or_right, neither_of, and_none}

-- so of each device on the way to a path, with its port there and the rest of the path
abbrev pub OnWay : (State → ℕ → List ℕ → Type 0) → Ports → ℕ → List ℕ → Type 0
OnWay P k j p = (e : List ℕ) (m : ℕ) (r : List ℕ) (t : State) → p ≡ e ++ (suc m ∷ r)
    → state_at k j e ≡ Some t → P t m r

or_off : (x y : Bool) → y ≡ true → (not x || y) ≡ true
or_off x y h = or_right (not x) y h

pub spares_if : (q : Sent) (deep : Bool) (k : Ports) (j : ℕ) (p : List ℕ)
    → OnWay (λ t m r. (dp : Bool) → effect_keeps_pending (effect_of q dp t) m r ≡ true) k j p
    → packet_keeps_pending q deep k j p ≡ true
unfolding packet_keeps_pending state_at
spares_if q deep (vacant b k) (suc j) p c = spares_if q deep k j p c
spares_if q deep (taken b s a k) zero (suc j ∷ p) c =
    or_off b.enable _ (and_of (effect_keeps_pending (effect_of q deep s) j p) _
    (c [] j p s refl refl deep)
    (spares_if q true a j p (λ e m r t z at. c (suc j ∷ e) m r t (ap (λ x. suc j ∷ x) z) at)))
spares_if q deep (taken b s a k) (suc j) p c = spares_if q deep k j p c
spares_if q deep k j p c = refl

pub way_leaves-on_way : (q : Sent) (deep : Bool) (k : Ports) (j : ℕ) (p : List ℕ)
    → OnWay (λ t m r. (dp : Bool) → leaves_port (effect_of q dp t) m ≡ true) k j p
    → way_leaves q deep k j p ≡ true
unfolding way_leaves state_at
way_leaves-on_way q deep (vacant b k) (suc j) p c = way_leaves-on_way q deep k j p c
way_leaves-on_way q deep (taken b s a k) zero (suc j ∷ p) c =
    or_off b.enable _ (and_of (leaves_port (effect_of q deep s) j) _ (c [] j p s refl refl deep)
    (way_leaves-on_way q true a j p (λ e m r t z at. c (suc j ∷ e) m r t (ap (λ x. suc j ∷ x) z)
    at)))
way_leaves-on_way q deep (taken b s a k) (suc j) p c = way_leaves-on_way q deep k j p c
way_leaves-on_way q deep k j p c = refl

pub resets_if : (q : Sent) (deep : Bool) (k : Ports) (j : ℕ) (p : List ℕ)
    → OnWay (λ t m r. (dp : Bool) (a : Ports) → effect_resets (effect_of q dp t) a m r ≡ false)
    k j p → resets_at q deep k j p ≡ false
unfolding resets_at state_at
resets_if q deep (vacant b k) (suc j) p c = resets_if q deep k j p c
resets_if q deep (taken b s a k) zero (suc j ∷ p) c =
    and_none b.enable _ (neither_of (effect_resets (effect_of q deep s) a j p) _
    (c [] j p s refl refl deep a)
    (resets_if q true a j p (λ e m r t z at. c (suc j ∷ e) m r t (ap (λ x. suc j ∷ x) z) at)))
resets_if q deep (taken b s a k) (suc j) p c = resets_if q deep k j p c
resets_if q deep k j p c = refl
