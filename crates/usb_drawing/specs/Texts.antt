-- How the strings of a device are shown.
use Rattle.std.specs.Prelude.{ℕ, ◌/◌, ◌%◌, ◌==◌, ◌||◌, ◌&&◌, not, nat_le, Bool, List, [], ◌∷◌, ◌++◌}
use Rattle.std.specs.Prelude.{Option, None, Some, encode_utf8, flat_map, codes, if◌then◌else◌}
use Rattle.std.specs.Char.{is_control}
use Rattle.std.specs.Char.Utf16.{is_high_surrogate, is_low_surrogate, lone_unit_char}
use Rattle.std.specs.Char.Utf16.{surrogate_pair_char}
use Rattle.usb_text.specs.{escaped_text, unit_text}
use Rattle.usb_drawing.specs.declared.art.Style.{Style}
use Rattle.usb_drawing.specs.declared.art.Style.TheVariants.{Lines, Ascii}

-- what ends a line, or turns the direction of the text around it
abbrev pub is_layout : ℕ → Bool
is_layout c = (nat_le 0x200E c && nat_le c 0x200F) || (nat_le 0x2028 c && nat_le c 0x202E) ||
    (nat_le 0x2066 c && nat_le c 0x2069)

-- a character that stands for itself
abbrev pub is_shown : ℕ → Bool
is_shown c = not (is_control c || c == 34 || c == 92 || is_layout c)

abbrev pub shown_or_escaped : Option ℕ → ℕ → List ℕ
shown_or_escaped None u = escaped_text (u / 256) (u % 256)
shown_or_escaped (Some c) u = if is_shown c then encode_utf8 c else escaped_text (u / 256) (u % 256)

-- a unit that is in no pair, as its character or as \uXXXX
abbrev pub shown_unit : ℕ → List ℕ
shown_unit u = shown_or_escaped (lone_unit_char u) u

-- both units spell one character
abbrev pub is_pair : ℕ → ℕ → Bool
is_pair high low = is_high_surrogate high && is_low_surrogate low

-- the characters that units spell, and what spells none as \uXXXX
unfoldable pub shown_units : List ℕ → List ℕ
shown_units [] = []
shown_units (u ∷ []) = shown_unit u
shown_units (u ∷ v ∷ us) = if is_pair u v then encode_utf8 (surrogate_pair_char u v) ++ shown_units
    us else shown_unit u ++ shown_units (v ∷ us)

-- a string as text, or in plain letters
abbrev pub string_text : Style → List ℕ → List ℕ
string_text Lines units = shown_units units
string_text Ascii units = flat_map unit_text units

-- LABEL "TEXT", where there is a string
abbrev pub labelled_text : Style → List ℕ → Option (List ℕ) → List ℕ
labelled_text style label None = []
labelled_text style label (Some units) = label ++ codes "\"" ++ string_text style units ++
    codes "\""
