use Rattle.std.proofs.Common.{◌≡◌, ◌++◌, length}
use Rattle.hex.specs.Hex.{encode_upper}
use Rattle.usb_text.proofs.text.push_hex.Given as goal

-- the digits so far and those of the rest are all
abbrev pub invariant-pieces : goal.invariant-pieces
invariant-pieces l = l.out.items ++ encode_upper l.rest ≡ l.fn.out.items ++ encode_upper l.bytes

abbrev pub decreases-pieces : goal.decreases-pieces
decreases-pieces l = length l.rest
