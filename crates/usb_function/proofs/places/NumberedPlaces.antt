-- The place of a number, in a row of ports.
use Rattle.std.proofs.Common.{◌≡◌, ℕ, zero, suc, ◌<◌, ◌≤◌, ◌-◌, if◌then◌else◌, Bool}
use Rattle.std.proofs.Common.{List, [], ◌∷◌, Option, None, length, slice_get, slice_index_or}
use Rattle.std.proofs.Common.{slice_set, Some, refl, ap, ap₂, sym, ◌∙◌, arith}
use Rattle.usb_function.specs.declared.ports.Place.{Place as Kept}
use Rattle.usb_device.specs.{Plugged, before, changed_at, changed_in, changed}
use Rattle.usb_device.specs.{plugged_at, plugged_in, device_there, row_of, reach_at, reach}
use Rattle.usb_device.specs.{reach_in, reached_below, reached_there, Place}
use Rattle.usb_function.specs.{stood, ports_kept}
use Rattle.usb_device.proofs.places.FirstPlaces.{one_less, changed-path, changed_at-head}
use Rattle.usb_device.proofs.places.FirstPlaces.{changed_at-tail, device-path, plugged_at-head}
use Rattle.usb_device.proofs.places.FirstPlaces.{plugged_at-tail}
use Rattle.usb_device.proofs.packets.Rows.{row_of-before}
use Rattle.usb_device.proofs.Deliveries.{both-none}
use Rattle.usb_device.proofs.places.NumberedPlaces.{if_vacant, reach_at-head, reach_at-tail}

-- ---- a number counted from 0
pub changed_at-index : (f : Place → Place) (ps : List Kept) (i : ℕ) (p : List ℕ) (x y : Kept)
    → i < length ps → x ≡ slice_index_or ps i x → stood y ≡ changed_in f (stood x) p
    → ports_kept (slice_set ps i y) ≡ changed_at f (ports_kept ps) i p
changed_at-index f [] i p x y h e w = absurd (omega (arith, h))
changed_at-index f (q ∷ ps) zero p x y h e w =
    ap (λ z. before z (ports_kept ps)) (w ∙ ap (λ (z : Kept). changed_in f (stood z) p) e)
    ∙ sym (changed_at-head f (stood q) (ports_kept ps) p)
changed_at-index f (q ∷ ps) (suc i) p x y h e w =
    ap (before (stood q)) (changed_at-index f ps i p x y (omega (arith, h)) e w)
    ∙ sym (changed_at-tail f (stood q) (ports_kept ps) i p)

pub changed_at-out : (f : Place → Place) (ps : List Kept) (i : ℕ) (p : List ℕ) → length ps ≤ i
    → changed_at f (ports_kept ps) i p ≡ ports_kept ps
unfolding changed_at
changed_at-out f [] i p h = refl
changed_at-out f (q ∷ ps) zero p h = absurd (omega (arith, h))
changed_at-out f (q ∷ ps) (suc i) p h = changed_at-tail f (stood q) (ports_kept ps) i p
    ∙ ap (before (stood q)) (changed_at-out f ps i p (omega (arith, h)))

plugged_at-index : (ps : List Kept) (i : ℕ) (p : List ℕ) (x : Kept) → i < length ps
    → x ≡ slice_index_or ps i x → plugged_at (ports_kept ps) i p ≡ plugged_in (stood x) p
plugged_at-index [] i p x h e = absurd (omega (arith, h))
plugged_at-index (q ∷ ps) zero p x h e = plugged_at-head (stood q) (ports_kept ps) p
    ∙ sym (ap (λ (z : Kept). plugged_in (stood z) p) e)
plugged_at-index (q ∷ ps) (suc i) p x h e = plugged_at-tail (stood q) (ports_kept ps) i p
    ∙ plugged_at-index ps i p x (omega (arith, h)) e

plugged_at-out : (ps : List Kept) (i : ℕ) (p : List ℕ) → length ps ≤ i
    → plugged_at (ports_kept ps) i p ≡ None
unfolding plugged_at
plugged_at-out [] i p h = refl
plugged_at-out (q ∷ ps) zero p h = absurd (omega (arith, h))
plugged_at-out (q ∷ ps) (suc i) p h = plugged_at-tail (stood q) (ports_kept ps) i p
    ∙ plugged_at-out ps i p (omega (arith, h))

pub port_at-index : (ps : List Kept) (i : ℕ) (x : Kept) → i < length ps → x ≡ slice_index_or ps i x
    → slice_get (row_of (ports_kept ps)) i ≡ Some x.port
port_at-index [] i x h e = absurd (omega (arith, h))
port_at-index (q ∷ ps) zero x h e = ap (λ r. slice_get r 0)
    (row_of-before q.port q.device (ports_kept ps)) ∙ sym (ap (λ (z : Kept). Some z.port) e)
port_at-index (q ∷ ps) (suc i) x h e =
    ap (λ r. slice_get r (suc i)) (row_of-before q.port q.device (ports_kept ps))
    ∙ port_at-index ps i x (omega (arith, h)) e

pub port_at-out : (ps : List Kept) (i : ℕ) → length ps ≤ i → slice_get (row_of (ports_kept ps)) i
    ≡ None
unfolding row_of
port_at-out [] i h = refl
port_at-out (q ∷ ps) zero h = absurd (omega (arith, h))
port_at-out (q ∷ ps) (suc i) h = ap (λ r. slice_get r (suc i))
    (row_of-before q.port q.device (ports_kept ps)) ∙ port_at-out ps i (omega (arith, h))

pub ruleset indexing = (changed_at-index, changed_at-out, port_at-index, port_at-out)

-- ---- a number counted from 1
pub changed-number : (f : Place → Place) (ps : List Kept) (n : ℕ) (p : List ℕ) (x y : Kept)
    → (n ≡ 0 → ⊥) → n ≤ length ps → x ≡ slice_index_or ps (n - 1) x
    → stood y ≡ changed_in f (stood x) p
    → ports_kept (slice_set ps (n - 1) y) ≡ changed f (ports_kept ps) (n ∷ p)
changed-number f ps n p x y pos h e w = changed_at-index f ps (n - 1) p x y (omega (arith, pos, h))
    e w ∙ sym (changed-path f (ports_kept ps) n p pos)

pub changed-beyond : (f : Place → Place) (ps : List Kept) (n : ℕ) (p : List ℕ) → (n ≡ 0 → ⊥)
    → length ps < n → changed f (ports_kept ps) (n ∷ p) ≡ ports_kept ps
changed-beyond f ps n p pos h = changed-path f (ports_kept ps) n p pos
    ∙ changed_at-out f ps (n - 1) p (omega (arith, h))

pub device-number : (ps : List Kept) (n : ℕ) (p : List ℕ) (x : Kept) → (n ≡ 0 → ⊥) → n ≤ length ps
    → x ≡ slice_index_or ps (n - 1) x → device_there (ports_kept ps) (n ∷ p)
    ≡ plugged_in (stood x) p
device-number ps n p x pos h e = device-path (ports_kept ps) n p pos
    ∙ plugged_at-index ps (n - 1) p x (omega (arith, pos, h)) e

pub device-beyond : (ps : List Kept) (n : ℕ) (p : List ℕ) → (n ≡ 0 → ⊥) → length ps < n
    → device_there (ports_kept ps) (n ∷ p) ≡ None
device-beyond ps n p pos h = device-path (ports_kept ps) n p pos
    ∙ plugged_at-out ps (n - 1) p (omega (arith, h))

reach_at-index : (ps : List Kept) (i : ℕ) (p : List ℕ) (x : Kept) → i < length ps
    → x ≡ slice_index_or ps i x → reach_at (ports_kept ps) i p ≡ reach_in (stood x) p
reach_at-index [] i p x h e = absurd (omega (arith, h))
reach_at-index (q ∷ ps) zero p x h e =
    reach_at-head (stood q) (ports_kept ps) p ∙ sym (ap (λ (z : Kept). reach_in (stood z) p) e)
reach_at-index (q ∷ ps) (suc i) p x h e =
    reach_at-tail (stood q) (ports_kept ps) i p ∙ reach_at-index ps i p x (omega (arith, h)) e

pub reached-number : (ps : List Kept) (n : ℕ) (p : List ℕ) (x : Kept) → (n ≡ 0 → ⊥) → n ≤ length ps
    → x ≡ slice_index_or ps (n - 1) x
    → reached_there (ports_kept ps) (n ∷ p) ≡ reached_below (stood x) p
reached-number ps n p x pos h e =
    ap₂ (λ (r : Bool) (t : Option Plugged). if r then t else None)
    (ap (λ m. reach (ports_kept ps) (m ∷ p)) (one_less n pos)
    ∙ reach_at-index ps (n - 1) p x (omega (arith, pos, h)) e)
    (device-number ps n p x pos h e)

pub reached-beyond : (ps : List Kept) (n : ℕ) (p : List ℕ) → (n ≡ 0 → ⊥) → length ps < n
    → reached_there (ports_kept ps) (n ∷ p) ≡ None
reached-beyond ps n p pos h =
    ap (λ t. if reach (ports_kept ps) (n ∷ p) then t else None) (device-beyond ps n p pos h)
    ∙ if_vacant (reach (ports_kept ps) (n ∷ p))

pub ruleset routing = (both-none, changed-number, changed-beyond, device-number, device-beyond)

pub ruleset reaching = (reached-number, reached-beyond)
