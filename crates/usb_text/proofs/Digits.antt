-- Digits of bytes, piece by piece.
use Rattle.std.proofs.Common.{◌≡◌, ◌<◌, ◌∙◌, ℕ, List, [], ◌∷◌, ◌++◌, length}
use Rattle.std.proofs.Common.{refl, ap, sym, arith, append_assoc, append-nil}
use Rattle.hex.specs.Hex.{encode_with, encode_upper}
use Rattle.usb_packet.specs.{hex_text}
use Rattle.usb_packet.proofs.Interface.{encode_upper-append}

-- a piece more
pub encode_upper-piece : (rest piece behind line line' whole : List ℕ) → rest ≡ piece ++ behind
    → line' ≡ line ++ encode_upper piece
    → line ++ encode_upper rest ≡ whole → line' ++ encode_upper behind ≡ whole
encode_upper-piece rest piece behind line line' whole parts put e =
    ap (λ (l : List ℕ). l ++ encode_upper behind) put
    ∙ append_assoc line (encode_upper piece) (encode_upper behind)
    ∙ ap (λ (l : List ℕ). line ++ l) (sym (encode_upper-append piece behind))
    ∙ ap (λ (l : List ℕ). line ++ encode_upper l) (sym parts) ∙ e

-- nothing is left
pub digits_all : (rest line whole : List ℕ) → length rest ≡ 0 → line ++ encode_upper rest ≡ whole
    → line ≡ whole
unfolding encode_with
digits_all [] line whole none e = sym (append-nil line) ∙ e
digits_all (x ∷ rest) line whole none e = absurd (omega (arith, none))

pub hex_text_some : (bytes : List ℕ) → 0 < length bytes → hex_text bytes ≡ encode_upper bytes
hex_text_some [] some = absurd (omega (arith, some))
hex_text_some (x ∷ bytes) some = refl
