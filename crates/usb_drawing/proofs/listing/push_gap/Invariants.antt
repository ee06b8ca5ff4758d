use Rattle.std.proofs.Common.{◌≡◌, ◌++◌}
use Rattle.usb_drawing.specs.{gap}
use Rattle.usb_drawing.proofs.listing.push_gap.Given as goal

abbrev pub invariant-blanks : goal.invariant-blanks
invariant-blanks l = l.out.items ≡ l.fn.out.items ++ gap l.blank
