use Rattle.std.proofs.Common.{◌∷◌, [], sym, subst}
use Rattle.std.specs.Str.{IsAscii}
use Rattle.usb_packet.proofs.TextLemmas.{ascii_text}
use Rattle.usb_wire.proofs.answer.push_byte.Goals as goal

pub push_ascii-requires-clause-ascii : goal.push_ascii-requires-clause-ascii
push_ascii-requires-clause-ascii c = let ascii =
    subst IsAscii (sym c.hex_digits.ensures) (ascii_text (c.args.byte ∷ [])) in ascii 0

pub push_ascii-requires-2-clause-ascii : goal.push_ascii-requires-2-clause-ascii
push_ascii-requires-2-clause-ascii c = let ascii =
    subst IsAscii (sym c.hex_digits.ensures) (ascii_text (c.args.byte ∷ [])) in ascii 1
