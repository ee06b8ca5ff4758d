use Rattle.std.proofs.Common.{◌≡◌, ◌++◌, flat_map, take, string_bytes}
use Rattle.usb_diagnosis.specs.{char_shown}
use Rattle.usb_diagnosis.proofs.shown.push_letters.Given as goal

-- the letters so far are written
abbrev pub invariant-letters : goal.invariant-letters
invariant-letters l = string_bytes l.out ≡ string_bytes l.fn.out ++ flat_map char_shown
    (take l.letter-index l.letters)
