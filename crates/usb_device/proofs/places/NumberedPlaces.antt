-- The place of a number, in a row of ports.
use Rattle.std.proofs.Common.{◌≡◌, ℕ, zero, suc, ◌&&◌, if◌then◌else◌, Bool, true}
use Rattle.std.proofs.Common.{false, List, ◌∷◌, Option, None}
use Rattle.std.proofs.Common.{refl}
use Rattle.usb_device.specs.{Ports, Plugged, empty, full, before}
use Rattle.usb_device.specs.{reach_at}
use Rattle.usb_device.specs.{reach_in, Place}

-- ---- where each port on the way is enabled
pub reach_at-head : (q : Place) (k : Ports) (p : List ℕ) → reach_at (before q k) 0 p ≡ reach_in q p
unfolding reach_at
reach_at-head (full b s a) k (zero ∷ p) = no_way b.enable
  where
    no_way : (e : Bool) → false ≡ (e && false)
    no_way true = refl
    no_way false = refl
reach_at-head q k p = refl

pub reach_at-tail : (q : Place) (k : Ports) (i : ℕ) (p : List ℕ)
    → reach_at (before q k) (suc i) p ≡ reach_at k i p
unfolding reach_at
reach_at-tail (empty b) k i p = refl
reach_at-tail (full b s a) k i p = refl

abbrev vacant_place : Option Plugged
vacant_place = None

pub if_vacant : (b : Bool) → (if b then vacant_place else vacant_place) ≡ vacant_place
if_vacant true = refl
if_vacant false = refl
