-- Names of devices, made fit for one line.
use Rattle.std.specs.Prelude.{ℕ, ◌/◌, ◌%◌, ◌==◌, ◌||◌, not, Bool, List, [], ◌∷◌, ◌++◌, codes}
use Rattle.std.specs.Prelude.{encode_utf8, flat_map, if◌then◌else◌}
use Rattle.std.specs.Char.{is_control}
use Rattle.std.specs.List.{list_all}
use Rattle.std.specs.Str.{chars}
use Rattle.hex.specs.Hex.{encode_upper}

-- a control character, or the separator of lines or of paragraphs
abbrev pub ends_line : ℕ → Bool
ends_line c = is_control c || c == 0x2028 || c == 0x2029

-- one of these, or the backslash, which begins what stands for them
abbrev pub is_escaped : ℕ → Bool
is_escaped c = ends_line c || c == 92

-- \u and four digits
abbrev pub escaped : ℕ → List ℕ
escaped c = codes "\\u" ++ encode_upper (c / 256 ∷ []) ++ encode_upper (c % 256 ∷ [])

abbrev pub shown_char : ℕ → List ℕ
shown_char c = if is_escaped c then escaped c else encode_utf8 c

abbrev pub shown_name : List ℕ → List ℕ
shown_name name = flat_map shown_char (chars name)

-- no newline
abbrev pub is_unbroken : List ℕ → Bool
is_unbroken bytes = list_all (λ byte. not (byte == 10)) bytes
