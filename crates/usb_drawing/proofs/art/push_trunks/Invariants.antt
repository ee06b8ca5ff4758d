use Rattle.std.proofs.Common.{◌≡◌, ◌++◌}
use Rattle.usb_drawing.specs.{trunks}
use Rattle.usb_drawing.proofs.art.push_trunks.Given as goal

-- the trunks of the levels so far are written
abbrev pub invariant-levels : goal.invariant-levels
invariant-levels l = l.out.items ≡ l.fn.out.items ++ trunks l.style l.path l.behind l.level
