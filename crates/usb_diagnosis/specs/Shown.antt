-- Texts of a plan, made fit for one line.
use Rattle.std.specs.Prelude.{ℕ, nat_lt, codes, List, [], ◌++◌, length, take, flat_map, encode_utf8}
use Rattle.std.specs.Prelude.{if◌then◌else◌}
use Rattle.usb_watch.specs.{ends_line, escaped}

-- what may end a line as \u and four digits, any other character as it is
abbrev pub char_shown : ℕ → List ℕ
char_shown c = if ends_line c then escaped c else encode_utf8 c

-- three dots, where there are more than 60 characters
abbrev pub dots : List ℕ → List ℕ
dots cs = if nat_lt 60 (length cs) then codes "..." else []

-- the first 60 characters, and those dots
abbrev pub text_shown : List ℕ → List ℕ
text_shown cs = flat_map char_shown (take 60 cs) ++ dots cs
