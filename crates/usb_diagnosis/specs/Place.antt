-- Where in a file something stands.
use Rattle.std.specs.Prelude.{◌≡◌, ⊤, ℕ, ◌+◌, ◌≤◌, ◌==◌, length, take, codes, List, [], ◌++◌}
use Rattle.std.specs.Prelude.{decimal, Option, Some, None, fold, bit_and, if◌then◌else◌}
use Rattle.usb_diagnosis.specs.declared.place.Spot.{Spot}
use Rattle.usb_diagnosis.specs.declared.place.Spot.TheVariants as spot

-- the line and the column behind one more byte: a column is a character, whose bytes behind the
-- first begin with the bits 10
abbrev pub behind : ℕ × ℕ → ℕ → ℕ × ℕ
behind at byte =
    if byte == 10 then (at.0 + 1, 1)
    else if bit_and byte 192 == 128 then at
    else (at.0, at.1 + 1)

-- the line and the column behind a text, both counted from 1
abbrev pub behind_all : List ℕ → ℕ × ℕ
behind_all text = fold behind (1, 1) text

abbrev pub spot_behind : List ℕ → Spot
spot_behind text = spot.Column (behind_all text).0 (behind_all text).1

abbrev pub line_behind : List ℕ → ℕ
line_behind text = (behind_all text).0

-- the line behind a front of the text
pub record IsLineIn (text : List ℕ) (line : ℕ) : Type 0 where
  pub count : ℕ
  pub within : count ≤ length text
  pub is : line ≡ line_behind (take count text)

-- the line and the column behind a front of the text
pub record IsColumnIn (text : List ℕ) (at : Spot) : Type 0 where
  pub count : ℕ
  pub within : count ≤ length text
  pub is : at ≡ spot_behind (take count text)

-- a spot that is told is one of the text
abbrev pub IsSpotIn : List ℕ → Spot → Type 0
IsSpotIn text spot.Unknown = ⊤
IsSpotIn text (spot.Line line) = IsLineIn text line
IsSpotIn text (spot.Column line column) = IsColumnIn text (spot.Column line column)

-- a line, where one is known
abbrev pub spot_on : Option ℕ → Spot
spot_on None = spot.Unknown
spot_on (Some line) = spot.Line line

-- a colon and a number
abbrev pub colon_number : ℕ → List ℕ
colon_number n = codes ":" ++ decimal n

abbrev pub spot_text : Spot → List ℕ
spot_text spot.Unknown = []
spot_text (spot.Line line) = colon_number line
spot_text (spot.Column line column) = colon_number line ++ colon_number column
