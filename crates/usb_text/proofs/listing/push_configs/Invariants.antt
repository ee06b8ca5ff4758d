use Rattle.std.proofs.Common.{◌≡◌, ◌++◌, take}
use Rattle.usb_text.specs.{config_lines}
use Rattle.usb_text.proofs.listing.push_configs.Given as goal

-- the lines of the texts so far are written
abbrev pub invariant-texts : goal.invariant-texts
invariant-texts l = l.lines ≡ l.fn.lines ++ config_lines l.path 0 l.chosen (take l.index l.texts)
