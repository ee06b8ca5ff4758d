use Rattle.std.proofs.Common.{◌∙◌, [], ◌∷◌, ℕ, ap, arith}
use Rattle.hex.specs.Hex.{encode_upper}
use Rattle.usb_packet.proofs.TextLemmas.{pair_of_byte}
use Rattle.usb_packet.proofs.text.hex_digits.Goals as goal

pub returns : goal.returns
returns c = pair_of_byte c.from-at.result (omega (arith, c.from-at.ensures))
    ∙ ap (λ (b : ℕ). encode_upper (b ∷ [])) c.from-at.ensures
