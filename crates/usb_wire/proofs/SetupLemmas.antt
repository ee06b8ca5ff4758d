-- Setup data and their eight bytes, both ways.
use Rattle.std.proofs.Common.{◌≡◌, ℕ, ◌+◌, ◌*◌, ◌/◌, ◌%◌, ◌^◌, ◌<◌, ◌==◌, List, [], ◌∷◌, length}
use Rattle.std.proofs.Common.{Some, refl, subst, ap, arith}
use Rattle.std.proofs.lemmas.Bool.{eqb-true}
use Rattle.std.proofs.lemmas.Option.{cond_some}
use Rattle.hex.specs.Hex.{IsBytes, encode_with}
use Rattle.usb_packet.specs.{hex_text}
use Rattle.usb_packet.proofs.SpellingLemmas.{IsBytes-cons, IsBytes-none}
use Rattle.usb_request.specs.{Setup, bytes_of, setup_of}
use Rattle.usb_request.proofs.Interface.{same_setup, length-bytes_of}
use Rattle.usb_wire.specs.{IsSetupData, setup_in_bytes}

record WordParts (c d : ℕ) : Type 0 where
  low : (c + 256 * d) % 256 ≡ c
  high : (c + 256 * d) / 256 ≡ d
  few : c + 256 * d < 2 ^ 16

word_parts : (c d : ℕ) → c < 256 → d < 256 → WordParts c d
word_parts c d one two = record { low = omega arith; high = omega arith; few = omega arith }

-- the bytes have these fields
pub record HasFields (xs : List ℕ) (s : Setup) : Type 0 where
  pub bytes : bytes_of s ≡ xs
  pub fits : IsSetupData s

eight_bytes : (xs : List ℕ) → length xs ≡ 8 → IsBytes xs → HasFields xs (setup_of xs)
unfolding bytes_of setup_of
eight_bytes (a ∷ b ∷ c ∷ d ∷ e ∷ f ∷ g ∷ h ∷ []) size small =
    let value = word_parts c d (small 2) (small 3) in
    let index = word_parts e f (small 4) (small 5) in
    let count = word_parts g h (small 6) (small 7) in
    record {
      bytes = rw (value.low, value.high, index.low, index.high, count.low, count.high) refl;
      fits = (small 0, small 1, value.few, index.few, count.few);
    }
eight_bytes _ size small = absurd (omega arith)

pub setup_in_bytes-some : (xs : List ℕ) (s : Setup) → IsBytes xs → setup_in_bytes xs ≡ Some s
    → HasFields xs s
setup_in_bytes-some xs s small e =
    let found = cond_some (length xs == 8) (setup_of xs) s e in
    subst (HasFields xs) found.1 (eight_bytes xs (eqb-true (length xs) 8 found.0) small)

pub length-setup_text : (s : Setup) → length (hex_text (bytes_of s)) ≡ 16
unfolding bytes_of encode_with
length-setup_text s = refl

pub setup_in_bytes-bytes_of : (s : Setup) → setup_in_bytes (bytes_of s) ≡ Some s
setup_in_bytes-bytes_of s = rw (length-bytes_of s) (ap Some (same_setup s))

pub IsBytes-bytes_of : (s : Setup) → IsSetupData s → IsBytes (bytes_of s)
unfolding bytes_of
IsBytes-bytes_of s h =
    let l : List ℕ = (s.length % 256) ∷ (s.length / 256) ∷ [] in
    let i : List ℕ = (s.index % 256) ∷ (s.index / 256) ∷ l in
    let v : List ℕ = (s.value % 256) ∷ (s.value / 256) ∷ i in
    let small_l : IsBytes l = IsBytes-cons (s.length % 256) ((s.length / 256) ∷ []) (omega arith)
    (IsBytes-cons (s.length / 256) [] (omega (arith, h.4)) IsBytes-none) in
    let small_i : IsBytes i = IsBytes-cons (s.index % 256) ((s.index / 256) ∷ l) (omega arith)
    (IsBytes-cons (s.index / 256) l (omega (arith, h.3)) small_l) in
    let small_v : IsBytes v = IsBytes-cons (s.value % 256) ((s.value / 256) ∷ i) (omega arith)
    (IsBytes-cons (s.value / 256) i (omega (arith, h.2)) small_i) in
    IsBytes-cons s.request_type (s.request ∷ v) h.0 (IsBytes-cons s.request v h.1 small_v)
