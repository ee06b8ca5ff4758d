-- Two bytes more of a string.
use Rattle.std.proofs.Common.{◌≡◌, ℕ, ◌+◌, ◌*◌, ◌%◌, ◌≤◌, ◌<◌, List, [], ◌∷◌, length, take, drop}
use Rattle.std.proofs.Common.{refl, arith}
use Rattle.std.proofs.lemmas.List.{length-drop}
use Rattle.std.specs.Int.{from_le_bytes, w16}
use Rattle.usb_descriptor.specs.{words_of}

pub words_of-short : (bytes : List ℕ) → length bytes < 2 → words_of bytes ≡ []
unfolding words_of
words_of-short (low ∷ high ∷ bytes) h = absurd (omega arith)
words_of-short _ h = refl

length-words_of : (bytes : List ℕ) → 2 * length (words_of bytes) + length bytes % 2 ≡ length bytes
unfolding words_of
length-words_of (low ∷ high ∷ bytes) = omega (arith, length-words_of bytes)
length-words_of _ = refl

pub words_of_drop : (bytes : List ℕ) → 2 ≤ length bytes → length bytes % 2 ≡ 0
    → 2 + 2 * length (words_of (drop 2 bytes)) ≡ length bytes
words_of_drop bytes long even = omega (
  arith,
  length-words_of (drop 2 bytes),
  length-drop 2 bytes,
  long,
  even,
)

pub words_of-two : (bytes : List ℕ) → 2 ≤ length bytes
    → words_of bytes ≡ from_le_bytes w16 (take 2 bytes) ∷ words_of (drop 2 bytes)
unfolding words_of
words_of-two (low ∷ high ∷ bytes) h = grind arith
words_of-two _ h = absurd (omega arith)
