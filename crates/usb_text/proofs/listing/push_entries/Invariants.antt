use Rattle.std.proofs.Common.{◌≡◌, ◌++◌, take}
use Rattle.usb_text.specs.{told_lines}
use Rattle.usb_text.proofs.listing.push_entries.Given as goal

-- the lines of the entries so far are written
abbrev pub invariant-entries : goal.invariant-entries
invariant-entries l = l.lines ≡ l.fn.lines ++ told_lines (take l.index l.entries) l.said
