-- How the places that the code keeps are a row of ports.
use Rattle.std.specs.Prelude.{ℕ, ◌+◌, ◌≤◌, max, List, [], ◌∷◌, Option, None, Some}
use Rattle.std.proofs.Common.{arith}
use denote.Param.Weighed.{most}
use Rattle.usb_port.specs.{PortState}
use Rattle.usb_device.specs.{Ports, ended, Plugged, Place, before, weight, plugged_weight, standing}
use Rattle.usb_function.specs.declared.ports.Place.{Place as Kept}

abbrev pub stood : Kept → Place
stood p = standing p.port p.device

abbrev pub ports_kept : List Kept → Ports
ports_kept [] = ended
ports_kept (p ∷ ps) = before (stood p) (ports_kept ps)

most_more : (w : Kept → ℕ) → ((b : PortState) → w (record { port = b; device = None }) ≤ 0)
    → ((b : PortState) (t : Plugged) → w (record { port = b; device = Some t })
    ≤ max (plugged_weight t + 1) 0)
    → (b : PortState) (d : Option Plugged) (ps : List Kept) → most w ps ≤ weight (ports_kept ps)
    → most w (record { port = b; device = d } ∷ ps)
    ≤ weight (before (standing b d) (ports_kept ps))
most_more w n s b None ps ih = omega (arith, n b, ih)
most_more w n s b (Some t) ps ih = omega (arith, s b t, ih)

-- no device on a port weighs as much as all the ports together
most_le-weight : (w : Kept → ℕ) → ((b : PortState) → w (record { port = b; device = None }) ≤ 0)
    → ((b : PortState) (t : Plugged) → w (record { port = b; device = Some t })
    ≤ max (plugged_weight t + 1) 0) → (ps : List Kept)
    → most w ps ≤ weight (ports_kept ps)
most_le-weight w n s [] = omega arith
most_le-weight w n s (p ∷ ps) = most_more w n s p.port p.device ps (most_le-weight w n s ps)

pub falls : (w : Kept → ℕ) → ((b : PortState) → w (record { port = b; device = None }) ≤ 0)
    → ((b : PortState) (t : Plugged) → w (record { port = b; device = Some t })
    ≤ max (plugged_weight t + 1) 0) → (ps : List Kept)
    → max (most w ps) 0 ≤ weight (ports_kept ps)
falls w n s ps = omega (arith, most_le-weight w n s ps)
