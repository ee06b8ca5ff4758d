use Rattle.std.proofs.Common.{◌≡◌, ◌+◌, take}
use Rattle.usb_dialogue.proofs.place.path_from.Given as goal

-- the numbers so far
abbrev pub invariant-rest : goal.invariant-rest
invariant-rest l = l.path ≡ take (l.number-index + 1) l.numbers
