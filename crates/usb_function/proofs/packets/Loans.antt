-- The place of a port, in a row of ports.
use Rattle.std.proofs.Common.{◌≡◌, ℕ, zero, suc, ◌<◌, ◌-◌, List, [], ◌∷◌, Option}
use Rattle.std.proofs.Common.{length, slice_index_or, slice_set, ap, sym, ◌∙◌, arith}
use Rattle.usb_function.specs.declared.ports.Place.{Place as Kept}
use Rattle.usb_device.specs.{Plugged, before, plugged_at}
use Rattle.usb_device.specs.{standing, holding}
use Rattle.usb_function.specs.{stood, ports_kept}
use Rattle.usb_device.specs.{with_device}
use Rattle.usb_device.proofs.places.FirstPlaces.{changed_at-head, changed_at-tail, plugged_at-head}
use Rattle.usb_device.proofs.places.FirstPlaces.{plugged_at-tail}
use Rattle.usb_device.proofs.packets.Loans.{device-standing, port_of-standing}

held-first : (q : Kept) (ps : List Kept) (w : Option Plugged)
    → before (standing q.port w) (ports_kept ps) ≡ with_device (ports_kept (q ∷ ps)) 0 w
held-first q ps w =
    ap (λ b. before (standing b w) (ports_kept ps)) (sym (port_of-standing q.port q.device))
    ∙ sym (changed_at-head (holding w) (stood q) (ports_kept ps) [])

pub written : (ps : List Kept) (i : ℕ) (p : Kept) (w : Option Plugged) → i < length ps
    → p ≡ slice_index_or ps i p → ports_kept (slice_set ps i (record { port = p.port; device = w }))
    ≡ with_device (ports_kept ps) i w
written [] i p w h e = absurd (omega (arith, h))
written (q ∷ ps) zero p w h e = ap (λ (x : Kept). before (standing x.port w) (ports_kept ps)) e
    ∙ held-first q ps w
written (q ∷ ps) (suc i) p w h e =
    ap (before (stood q)) (written ps i p w (omega (arith, h)) e)
    ∙ sym (changed_at-tail (holding w) (stood q) (ports_kept ps) i [])

pub loan_read : (ps : List Kept) (i : ℕ) (p : Kept) → i < length ps → p ≡ slice_index_or ps i p
    → p.device ≡ plugged_at (ports_kept ps) i []
loan_read [] i p h e = absurd (omega (arith, h))
loan_read (q ∷ ps) zero p h e =
    ap (λ (x : Kept). x.device) e ∙ sym (device-standing q.port q.device)
    ∙ sym (plugged_at-head (stood q) (ports_kept ps) [])
loan_read (q ∷ ps) (suc i) p h e = loan_read ps i p (omega (arith, h)) e
    ∙ sym (plugged_at-tail (stood q) (ports_kept ps) i [])
