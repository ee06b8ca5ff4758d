use Rattle.std.proofs.Common.{◌≡◌, ◌∷◌, ◌++◌, [], take}
use Rattle.usb_dialogue.specs.{units_bytes}
use Rattle.usb_dialogue.proofs.told.units_body.Given as goal

-- the units so far
abbrev pub invariant-units : goal.invariant-units
invariant-units l = l.body.items ≡ (l.which ∷ []) ++ units_bytes (take l.unit-index l.units)
