-- Bytes in hexadecimal digits, one after the other.
use Rattle.std.proofs.Common.{◌≡◌, ℕ, ◌+◌, List, [], ◌∷◌, ◌++◌, length, ap, ◌∙◌, length-append}
use Rattle.hex.specs.Hex.{encode_upper, encode_with}

pub length-encode_upper-more : (line line' : List ℕ) (byte : ℕ)
    → line' ≡ line ++ encode_upper (byte ∷ []) → length line' ≡ length line + 2
unfolding encode_with
length-encode_upper-more line line' byte written = ap length written
    ∙ length-append line (encode_upper (byte ∷ []))
