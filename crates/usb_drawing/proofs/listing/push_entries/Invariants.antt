use Rattle.std.proofs.Common.{◌≡◌, ◌++◌, length}
use Rattle.usb_serve.specs.{tree_after}
use Rattle.usb_drawing.specs.{drawn_entries}
use Rattle.usb_drawing.proofs.listing.push_entries.Given as goal

-- the lines of all entries but the rest are written
abbrev pub invariant-entries : goal.invariant-entries
invariant-entries l =
    l.lines ++ drawn_entries l.style l.plan.wide (tree_after l.plan l.taken) l.entries l.rest
    ≡ l.fn.lines
    ++ drawn_entries l.style l.plan.wide (tree_after l.plan l.taken) l.entries l.entries

abbrev pub decreases-entries : goal.decreases-entries
decreases-entries l = length l.rest
