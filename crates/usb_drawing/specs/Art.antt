-- The art in front of an entry, which shows what it stands below, and the texts of both styles.
use Rattle.std.specs.Prelude.{ℕ, zero, suc, ◌-◌, List, [], ◌∷◌, ◌++◌, length, take, Bool, true}
use Rattle.std.specs.Prelude.{false, ◌&&◌, ◌||◌, nat_lt, nat_eq, codes, slice_index}
use Rattle.std.specs.List.{starts_with}
use Rattle.usb_serve.specs.{Entries}
use Rattle.usb_drawing.specs.declared.art.Style.{Style}
use Rattle.usb_drawing.specs.declared.art.Style.TheVariants.{Lines, Ascii}

-- the style that is asked for, with the flag `--ascii` or without it
abbrev pub style_of : Bool → Style
style_of true = Ascii
style_of false = Lines

-- below a hub at a level: a line where the listing goes on at that level, else blanks; the line is
-- U+2502 in UTF-8
abbrev pub trunk : Style → Bool → List ℕ
trunk Lines true = 0xE2 ∷ 0x94 ∷ 0x82 ∷ codes "  "
trunk Lines false = codes "   "
trunk Ascii true = codes "|  "
trunk Ascii false = codes "   "

-- in front of an entry: a branch where the listing goes on at its level, else a corner; U+251C or
-- U+2514, and U+2500
abbrev pub branch : Style → Bool → List ℕ
branch Lines true = 0xE2 ∷ 0x94 ∷ 0x9C ∷ 0xE2 ∷ 0x94 ∷ 0x80 ∷ codes " "
branch Lines false = 0xE2 ∷ 0x94 ∷ 0x94 ∷ 0xE2 ∷ 0x94 ∷ 0x80 ∷ codes " "
branch Ascii true = codes "|- "
branch Ascii false = codes "`- "

-- the other path parts from this one at the level, to a later port of the same hub
abbrev pub is_beside : List ℕ → ℕ → List ℕ → Bool
is_beside path level other = nat_lt level (length other) && nat_lt (slice_index path level)
    (slice_index other level) && starts_with nat_eq other (take level path)

-- some entry behind stands beside the path at the level
abbrev pub goes_on : List ℕ → ℕ → Entries → Bool
goes_on path level [] = false
goes_on path level (entry ∷ behind) = is_beside path level entry.0 || goes_on path level behind

-- the trunks of the first so many levels
abbrev pub trunks : Style → List ℕ → Entries → ℕ → List ℕ
trunks style path behind zero = []
trunks style path behind (suc level) = trunks style path behind level ++ trunk style
    (goes_on path level behind)

-- a trunk for each hub above the entry at a path, and the entry's own branch; the entries behind it
-- are given
unfoldable pub art : Style → List ℕ → Entries → List ℕ
art style path behind = trunks style path behind (length path - 1) ++ branch style
    (goes_on path (length path - 1) behind)
