-- An index of the holders of addresses, made device by device.
use Rattle.std.proofs.Common.{◌≡◌, ℕ}
use Rattle.std.proofs.Common.{false, List, [], ◌∷◌, length}
use Rattle.std.proofs.Common.{refl, ap, sym, ◌∙◌, arith}
use Rattle.usb_function.specs.declared.ports.Place.{Place as Kept}
use Rattle.usb_device.specs.{Holder, Ports}
use Rattle.usb_device.specs.{held_addresses, repeats}
use Rattle.usb_function.specs.{ports_kept}
use Rattle.usb_device.specs.{reached, all_reached, paths_at, holder_among}
use Rattle.usb_device.specs.{noted, meets_again, released}
use Rattle.usb_function.specs.{IsIndexOf}
use Rattle.usb_function.specs.declared.holders.Holders.{Holders}
use Rattle.usb_device.proofs.MarkedAddresses.{bytes-before}
use Rattle.usb_function.proofs.MarkedAddresses.{bytes-none}
use Rattle.usb_device.proofs.places.HolderIndexes.{IndexWay, held-reached, length-noted}
use Rattle.usb_device.proofs.places.HolderIndexes.{length-released, met-before, noted-before}
use Rattle.usb_device.proofs.places.HolderIndexes.{released-before, way_addresses}

pub noted-none : (w : IndexWay) (n : ℕ) (ps : List Kept) (h : List Holder) → length ps ≡ 0
    → noted (reached w n (ports_kept ps)) h ≡ h
unfolding reached
noted-none w n [] h e = refl
noted-none w n (p ∷ ps) h e = absurd (omega (arith, e))

pub met-none : (w : IndexWay) (n : ℕ) (ps : List Kept) (h : List Holder) → length ps ≡ 0
    → meets_again (reached w n (ports_kept ps)) h ≡ false
unfolding reached
met-none w n [] h e = refl
met-none w n (p ∷ ps) h e = absurd (omega (arith, e))

pub ruleset noting = (
  length-noted,
  noted-before,
  met-before,
  noted-none,
  met-none,
  bytes-before,
  bytes-none,
)

pub released-none : (ps : List Kept) (h : List Holder) → length ps ≡ 0
    → released (held_addresses (ports_kept ps)) h ≡ h
unfolding held_addresses
released-none [] h e = refl
released-none (p ∷ ps) h e = absurd (omega (arith, e))

pub ruleset releasing = (length-released, released-before, released-none)

-- where the same devices are reached, with the same addresses
pub same_index : (h : Holders) (k m : Ports) → all_reached m ≡ all_reached k → IsIndexOf h k
    → IsIndexOf h m
same_index h k m e x = (
  λ n small. x.0 n small ∙ ap (λ l. holder_among (paths_at n l)) (sym e),
  x.1 ∙ ap repeats (sym (held-reached _ 1 k) ∙ ap way_addresses (sym e) ∙ held-reached _ 1 m),
)
