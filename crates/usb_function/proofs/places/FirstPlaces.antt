-- A row of ports that begins with a place.
use Rattle.std.proofs.Common.{◌≡◌, ℕ, suc, ◌+◌, ◌-◌, List, [], ◌∷◌, ◌++◌, None}
use Rattle.std.proofs.Common.{length, slice_get, refl, ap, sym, ◌∙◌, add-one, arith}
use Rattle.usb_port.specs.{off}
use Rattle.usb_device.specs.{before, new_ports}
use Rattle.usb_device.specs.{all_off, row_of, changed_at, plugged_at}
use Rattle.usb_device.specs.{Place}
use Rattle.usb_function.specs.{stood, ports_kept}
use Rattle.usb_function.specs.declared.ports.Place.{Place as Kept}
use Rattle.usb_device.proofs.packets.Rows.{row_of-before}
use Rattle.usb_device.proofs.places.FirstPlaces.{all_off-before, changed_at-first}
use Rattle.usb_device.proofs.places.FirstPlaces.{changed_at-later, most_more-before, most_more-new}
use Rattle.usb_device.proofs.places.FirstPlaces.{new_ports-none, one_port_more, plugged_at-first}
use Rattle.usb_device.proofs.places.FirstPlaces.{plugged_at-later, port-first, port-later}

pub changed_at-none : (f : Place → Place) (ps : List Kept) (i : ℕ) (p : List ℕ) → length ps ≡ 0
    → changed_at f (ports_kept ps) i p ≡ ports_kept ps
unfolding changed_at
changed_at-none f [] i p h = refl
changed_at-none f (q ∷ ps) i p h = absurd (omega (arith, h))

pub plugged_at-none : (ps : List Kept) (i : ℕ) (p : List ℕ) → length ps ≡ 0
    → plugged_at (ports_kept ps) i p ≡ None
unfolding plugged_at
plugged_at-none [] i p h = refl
plugged_at-none (q ∷ ps) i p h = absurd (omega (arith, h))

pub port-none : (ps : List Kept) (i : ℕ) → length ps ≡ 0 → slice_get (row_of (ports_kept ps)) i
    ≡ None
unfolding row_of
port-none [] i h = refl
port-none (q ∷ ps) i h = absurd (omega (arith, h))

pub length-row : (ps : List Kept) → length (row_of (ports_kept ps)) ≡ length ps
unfolding row_of
length-row [] = refl
length-row (p ∷ ps) = ap length (row_of-before p.port p.device (ports_kept ps))
    ∙ ap suc (length-row ps)

pub all_off-none : (ps : List Kept) → length ps ≡ 0 → all_off (ports_kept ps) ≡ ports_kept ps
unfolding all_off
all_off-none [] h = refl
all_off-none (q ∷ ps) h = absurd (omega (arith, h))

pub ruleset placing = (
  changed_at-first,
  changed_at-later,
  changed_at-none,
  plugged_at-first,
  plugged_at-later,
  plugged_at-none,
  port-first,
  port-later,
  port-none,
  length-row,
  all_off-before,
  all_off-none,
)

abbrev empty_place : Kept
empty_place = record { port = off; device = None }

ports_kept-pushed : (ps : List Kept) → ports_kept (ps ++ empty_place ∷ [])
    ≡ one_port_more (ports_kept ps)
ports_kept-pushed [] = refl
ports_kept-pushed (p ∷ ps) = ap (before (stood p)) (ports_kept-pushed ps)
    ∙ sym (most_more-before (stood p) (ports_kept ps))

pub empty_pushed : (ps : List Kept) (n : ℕ) → ports_kept ps ≡ new_ports n
    → ports_kept (ps ++ empty_place ∷ []) ≡ new_ports (n + 1)
empty_pushed ps n h = rw add-one (ports_kept-pushed ps ∙ ap one_port_more h ∙ most_more-new n)

pub ruleset emptied = (empty_pushed, new_ports-none)
