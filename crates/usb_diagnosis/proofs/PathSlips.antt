-- Places above a path.
use Rattle.std.proofs.Common.{◌≡◌, ◌∙◌, ap, Bool, List, ℕ, Some, sym}
use Rattle.usb_port.specs.{parent_of}
use Rattle.usb_diagnosis.specs.{IsAt, IsPathSlip, IsPortOf, path_in}
use Rattle.usb_diagnosis.specs.declared.path_slip.PathSlip.{PathSlip}
use Rattle.usb_diagnosis.specs.declared.path_slip.PathSlip.TheVariants.{NoHub, NoPath, NoPort}
use Rattle.usb_diagnosis.specs.declared.path_slip.PathSlip.TheVariants.{NoRoot, Nothing, TooDeep}

port_of : (wide : Bool) (text path parent at : List ℕ) → path_in wide text ≡ Some path
    → parent_of path ≡ Some parent → at ≡ parent → IsPortOf wide text at
port_of wide text path parent at spelled port same = record {
  path = path;
  spelled = spelled;
  port = port ∙ ap (λ p. Some p) (sym same);
}

-- a slip at the parent of the path that the text spells
pub slip_above : (wide : Bool) (text path parent : List ℕ) (slip : PathSlip)
    → path_in wide text ≡ Some path → parent_of path ≡ Some parent → IsAt parent slip
    → IsPathSlip wide text slip
slip_above wide text path parent (NoPath told) spelled port h = absurd h
slip_above wide text path parent TooDeep spelled port h = absurd h
slip_above wide text path parent (NoRoot roots) spelled port h = absurd h
slip_above wide text path parent (Nothing at) spelled port h =
    port_of wide text path parent at spelled port h
slip_above wide text path parent (NoHub at name) spelled port h =
    port_of wide text path parent at spelled port h
slip_above wide text path parent (NoPort at name count) spelled port h =
    port_of wide text path parent at spelled port h
