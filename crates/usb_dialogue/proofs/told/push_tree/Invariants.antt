use Rattle.std.proofs.Common.{◌≡◌, ◌++◌, take}
use Rattle.usb_dialogue.specs.{tree_records}
use Rattle.usb_dialogue.proofs.told.push_tree.Given as goal

-- the entries so far
abbrev pub invariant-entries : goal.invariant-entries
invariant-entries g l = l.told.items
    ≡ l.fn.told.items ++ tree_records l.host (take l.path-index l.entries)
