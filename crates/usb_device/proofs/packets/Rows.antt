-- The ports of a row, without what is on them, after what happens on them and below.
use Rattle.std.proofs.Common.{◌≡◌, Bool, true, false, if◌then◌else◌, ◌∷◌, Option, None, Some, refl}
use Rattle.std.proofs.Common.{ap}
use Rattle.usb_port.specs.{PortState}
use Rattle.usb_device.specs.{Sent, standing, Ports, ended, vacant, taken, Plugged, before, row_of}
use Rattle.usb_device.specs.{after_packet, all_forgotten}

pub row_of-before : (b : PortState) (d : Option Plugged) (k : Ports)
    → row_of (before (standing b d) k) ≡ b ∷ row_of k
unfolding row_of
row_of-before b None k = refl
row_of-before b (Some t) k = refl

-- ---- a packet, and the end of an attempt, leave the row

either-enable : (b : PortState) (x y k : Ports) (e : Bool) → row_of x ≡ b ∷ row_of k
    → row_of y ≡ b ∷ row_of k → row_of (if e then x else y) ≡ b ∷ row_of k
either-enable b x y k true h g = h
either-enable b x y k false h g = g

pub row_of-after : (q : Sent) (deep : Bool) (k : Ports) → row_of (after_packet q deep k) ≡ row_of k
unfolding row_of after_packet
row_of-after q deep ended = refl
row_of-after q deep (vacant b k) = ap (λ r. b ∷ r) (row_of-after q deep k)
row_of-after q deep (taken b s a k) =
    either-enable b _ _ k b.enable (ap (λ r. b ∷ r) (row_of-after q deep k))
    (ap (λ r. b ∷ r) (row_of-after q deep k))

pub row_of-forgotten : (k : Ports) → row_of (all_forgotten k) ≡ row_of k
unfolding row_of all_forgotten
row_of-forgotten ended = refl
row_of-forgotten (vacant b k) = ap (λ r. b ∷ r) (row_of-forgotten k)
row_of-forgotten (taken b s a k) = ap (λ r. b ∷ r) (row_of-forgotten k)

pub ruleset rows = (row_of-before)
