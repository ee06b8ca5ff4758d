use Rattle.std.proofs.Common.{◌≡◌, ◌++◌, flat_map, take}
use Rattle.usb_entry.specs.{char_text}
use Rattle.usb_entry.proofs.name.push_letters.Given as goal

-- the letters so far are written
abbrev pub invariant-letters : goal.invariant-letters
invariant-letters l = l.out.items ≡ l.fn.out.items ++ flat_map char_text
    (take l.letter-index l.letters)
