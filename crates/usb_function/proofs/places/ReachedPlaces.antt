-- What changes at one place, and keeps which devices are reached.
use Rattle.std.proofs.Common.{◌≡◌, ℕ, ◌-◌}
use Rattle.std.proofs.Common.{true, List, [], ◌∷◌}
use Rattle.std.proofs.Common.{None, Some, ap, ◌∙◌}
use Rattle.usb_port.specs.{PortCall}
use Rattle.usb_device.specs.{Ports, Plugged}
use Rattle.usb_device.specs.{called, put, changed}
use Rattle.usb_function.specs.{IsIndexOf, IsIndexWithout}
use Rattle.usb_device.specs.{all_reached, keeps_enable, Place}
use Rattle.usb_function.specs.declared.holders.Holders.{Holders}
use Rattle.usb_function.proofs.places.HolderIndexes.{same_index}
use Rattle.usb_device.proofs.places.ReachedPlaces.{plugged-same, reached-called, without-changed}

-- ---- the index then
pub index_called : (h : Holders) (c : PortCall) (k m : Ports) (port : ℕ) → keeps_enable c ≡ true
    → m ≡ changed (called c) k (port ∷ []) → IsIndexOf h k → IsIndexOf h m
index_called h c k m port e is x = same_index h k m (ap all_reached is ∙ reached-called c k port e)
    x

-- is that of the tree with whatever stands there then
pub index_around : (h : Holders) (f : Place → Place) (k m : Ports) (p : List ℕ) → m ≡ changed f k p
    → IsIndexWithout h k p → IsIndexWithout h m p
index_around h f k m p e is =
    same_index h (changed (put None) k p) (changed (put None) m p)
    (ap (λ x. all_reached (changed (put None) x p)) e ∙ without-changed f k p) is

-- where a device is plugged, its port is not enabled
pub index_plugged : (h : Holders) (t : Plugged) (k m : Ports) (p : List ℕ)
    → m ≡ changed (put (Some t)) k p → IsIndexWithout h k p → IsIndexOf h m
index_plugged h t k m p e is =
    same_index h (changed (put None) k p) m (ap all_reached e ∙ plugged-same t k p) is
