use Rattle.std.proofs.Common.{◌≡◌, ◌++◌, flat_map, take}
use Rattle.usb_text.specs.{unit_text}
use Rattle.usb_text.proofs.text.push_units.Given as goal

-- the units so far are written
abbrev pub invariant-units : goal.invariant-units
invariant-units l = l.out.items ≡ l.fn.out.items ++ flat_map unit_text (take l.unit-index l.units)
