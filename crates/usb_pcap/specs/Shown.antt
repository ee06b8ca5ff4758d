-- Names of devices, as a run shows them.
use Rattle.std.specs.Prelude.{◌≡◌, ◌≢◌, ◌⊎◌, ℕ, ◌+◌, ◌*◌, ◌==◌, ◌&&◌, Bool, false, List, []}
use Rattle.std.specs.Prelude.{◌∷◌, ◌++◌, All, length, flat_map, encode_utf8, Option, Some, None}
use Rattle.std.specs.Prelude.{if◌then◌else◌}
use Rattle.std.specs.Char.{IsScalar}
use Rattle.usb_watch.specs.{is_escaped, shown_char}
use Rattle.usb_pcap.specs.Text.{is_digit, value_of}

-- a character as a run shows it: in UTF-8; one that may end a line, and the backslash, as \u and
-- its four digits
abbrev pub IsShownChar : List ℕ → Type 0
IsShownChar text = (c : ℕ) × IsScalar c × (text ≡ shown_char c)

-- a text of such characters
abbrev pub IsShownText : List ℕ → Type 0
IsShownText text = (letters : List ℕ) × All IsScalar letters × (text ≡ flat_map shown_char letters)

-- ---- of the private functions

-- one that stands for itself
abbrev pub IsPlainChar : List ℕ → Type 0
IsPlainChar text = (c : ℕ) × IsScalar c × (is_escaped c ≡ false) × (text ≡ encode_utf8 c)

-- the number of two digits
abbrev pub pair_value : ℕ → ℕ → Option ℕ
pair_value h l = if is_digit h && is_digit l then Some (value_of h * 16 + value_of l) else None

abbrev pub is_escaped_pair : Option ℕ → Option ℕ → Bool
is_escaped_pair (Some high) (Some low) = is_escaped (high * 256 + low)
is_escaped_pair high low = false

-- \u and the four digits of a character that stands as them
unfoldable pub is_escape_of : List ℕ → Bool
is_escape_of (s ∷ u ∷ a ∷ b ∷ c ∷ d ∷ []) = s == 92 && u == 117
    && is_escaped_pair (pair_value a b) (pair_value c d)
is_escape_of other = false

-- a line is characters as a run shows them, and then these bytes, which begin with none of them;
-- behind six such bytes it may go on in any way
pub record Begins (line begun : List ℕ) : Type 0 where
  pub letters : List ℕ
  pub more : List ℕ
  pub scalar : All IsScalar letters
  pub split : line ≡ flat_map shown_char letters ++ (begun ++ more)
  pub none : (first rest : List ℕ) → IsShownChar first → begun ≢ first ++ rest
  pub stuck : (more ≡ []) ⊎ (length begun ≡ 6)
