-- The lines of a drawn listing, one for each entry.
use Rattle.std.specs.Prelude.{ℕ, zero, suc, ◌+◌, ◌-◌, ◌*◌, Bool, true, false, not, ◌==◌, max, List}
use Rattle.std.specs.Prelude.{[], ◌∷◌, ◌++◌, length, Option, None, Some, codes, decimal, nat_eq}
use Rattle.std.specs.Prelude.{if◌then◌else◌}
use Rattle.std.specs.List.{list_all}
use Rattle.std.specs.Cmp.Lexicographic.{pointwise}
use Rattle.usb_port.specs.{parent_of, path_text, supply_of}
use Rattle.usb_enum.specs.{Finding, HubFacts}
use Rattle.usb_enum.specs.declared.finding.Finding.TheVariants.{Device, Refused}
use Rattle.usb_serve.specs.{Entries, SpecTree}
use Rattle.usb_drawing.specs.declared.art.Style.{Style}
use Rattle.usb_drawing.specs.Art.{art}
use Rattle.usb_drawing.specs.Devices.{finding_text}
use Rattle.usb_drawing.specs.Rules.{rule_text}

-- what each port of a hub gives, in mA
abbrev pub hub_supply : Option HubFacts → Option ℕ
hub_supply None = None
hub_supply (Some facts) = Some facts.supply

abbrev pub finding_supply : Finding → Option ℕ
finding_supply (Device device) = hub_supply device.hub
finding_supply (Refused cause) = None

-- what each port of the hub at a path gives
abbrev pub listed_supply : List ℕ → Entries → Option ℕ
listed_supply hub [] = None
listed_supply hub (entry ∷ entries) = if pointwise nat_eq entry.0 hub then finding_supply entry.1
    else listed_supply hub entries

abbrev pub supply_from : Option (List ℕ) → Entries → Option ℕ
supply_from None entries = Some (supply_of true false)
supply_from (Some hub) entries = listed_supply hub entries

-- what the port at a path gives: the root powers itself, and a hub's ports give what it says
abbrev pub granted_at : List ℕ → Entries → Option ℕ
granted_at path entries = supply_from (parent_of path) entries

-- the columns that art and path take: three of art for each number, and the path's text
abbrev pub columns : List ℕ → ℕ
columns path = 3 * length path + length (path_text path)

-- those of the widest path
abbrev pub widest : Entries → ℕ
widest [] = 0
widest (entry ∷ entries) = max (columns entry.0) (widest entries)

-- so many blanks
abbrev pub gap : ℕ → List ℕ
gap zero = []
gap (suc blanks) = gap blanks ++ codes " "

-- art, path, and what was found there; the entries behind it are given
unfoldable pub entry_line : Style → ℕ → Option ℕ → List ℕ × Finding → Entries → List ℕ
entry_line style most granted entry behind =
    art style entry.0 behind ++ path_text entry.0 ++ gap (most - columns entry.0) ++ codes "  " ++
    finding_text style granted entry.1

-- the line of an entry of a listing, with the rule that a refused device's bytes break; what is
-- plugged where is given, and whether the host takes wide hubs
abbrev pub ruled_line : Style → Bool → SpecTree → Entries → List ℕ × Finding → Entries → List ℕ
ruled_line style wide tree all entry behind =
    entry_line style (widest all) (granted_at entry.0 all) entry behind ++
    rule_text wide (tree entry.0) entry.1

-- a line for each of the entries, which are the last ones of a listing
abbrev pub drawn_entries : Style → Bool → SpecTree → Entries → Entries → List (List ℕ)
drawn_entries style wide tree all [] = []
drawn_entries style wide tree all (entry ∷ behind) = ruled_line style wide tree all entry behind
    ∷ drawn_entries style wide tree all behind

-- what stands behind the number of a listing
abbrev pub heading_end : Entries → List ℕ
heading_end [] = codes ": no devices"
heading_end (entry ∷ entries) = []

unfoldable pub heading : ℕ → Entries → List ℕ
heading number entries = codes "listing " ++ decimal number ++ heading_end entries

-- the heading, and a line for each entry by rising path
unfoldable pub drawing_lines : Style → ℕ → Bool → SpecTree → Entries → List (List ℕ)
drawing_lines style number wide tree entries = heading number entries
    ∷ drawn_entries style wide tree entries entries

-- bytes among which is no newline
abbrev pub is_unbroken : List ℕ → Bool
is_unbroken bytes = list_all (λ byte. not (byte == 10)) bytes
