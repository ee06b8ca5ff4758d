use Rattle.std.proofs.Common.{◌≡◌, ◌++◌, flat_map, take}
use Rattle.usb_watch.specs.{shown_char}
use Rattle.usb_sim.proofs.shown.push_letters.Given as goal

-- the letters so far are written
abbrev pub invariant-letters : goal.invariant-letters
invariant-letters l = l.out.items ≡ l.fn.out.items ++ flat_map shown_char
    (take l.letter-index l.letters)
