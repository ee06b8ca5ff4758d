-- The printed lines of a listing and of a bound.
use Rattle.std.specs.Prelude.{ℕ, ◌+◌, ◌/◌, ◌%◌, ◌==◌, ◌&&◌, not, nat_le, Bool, List, [], ◌∷◌, ◌++◌}
use Rattle.std.specs.Prelude.{Option, None, Some, codes, decimal, flat_map, if◌then◌else◌}
use Rattle.std.specs.Global.{Vec}
use Rattle.hex.specs.Hex.{encode_upper}
use Rattle.usb_packet.specs.{hex_text}
use Rattle.usb_port.specs.{path_text}
use Rattle.usb_enum.specs.{Cause, Silent, Busy, Stalled, BadDevice, TooDeep, BadConfiguration}
use Rattle.usb_enum.specs.{TooLarge, NoPower, BadHub, Lost, NoAddress, Request, Accepted, Finding}
use Rattle.usb_enum.specs.{HubFacts}
use Rattle.usb_enum.specs.declared.cause.Request.TheVariants as request
use Rattle.usb_enum.specs.declared.finding.Finding.TheVariants.{Device, Refused}

-- lines as they are written, a newline behind each
abbrev pub lines_text : List (List ℕ) → List ℕ
lines_text lines = flat_map (λ line. line ++ 10 ∷ []) lines

-- the same of lines in memory
abbrev pub written_lines : List (Vec ℕ) → List ℕ
written_lines lines = flat_map (λ line. line.items ++ 10 ∷ []) lines

unfoldable pub speed_word : Bool → List ℕ
speed_word low = if low then codes "low" else codes "full"

-- printable ASCII but the quotation mark and the backslash
abbrev pub is_plain_unit : ℕ → Bool
is_plain_unit u = nat_le 32 u && nat_le u 126 && not (u == 34) && not (u == 92)

abbrev pub escaped_text : ℕ → ℕ → List ℕ
escaped_text high low = codes "\\u" ++ encode_upper (high ∷ []) ++ encode_upper (low ∷ [])

-- a unit as its character, or as \uXXXX
abbrev pub unit_text : ℕ → List ℕ
unit_text u = if is_plain_unit u then u ∷ [] else escaped_text (u / 256) (u % 256)

-- PATH address A full|low HEX
unfoldable pub address_line : List ℕ → ℕ → Bool → List ℕ → List ℕ
address_line path address low bytes = path_text path ++ codes " address " ++ decimal address ++
    codes " " ++ speed_word low ++ codes " " ++ hex_text bytes

abbrev pub star : Bool → List ℕ
star chosen = if chosen then codes " *" else []

-- PATH config I HEX, and a star behind the chosen one
unfoldable pub config_line : List ℕ → ℕ → List ℕ → Bool → List ℕ
config_line path index text chosen = path_text path ++ codes " config " ++ decimal index ++
    codes " " ++ hex_text text ++ star chosen

-- a line for each configuration, the first one of this index
unfoldable pub config_lines : List ℕ → ℕ → ℕ → List (List ℕ) → List (List ℕ)
config_lines path index chosen [] = []
config_lines path index chosen (text ∷ texts) = config_line path index text (index == chosen) ∷
    config_lines path (index + 1) chosen texts

-- PATH hub N ports S mA
unfoldable pub hub_line : List ℕ → ℕ → ℕ → List ℕ
hub_line path ports supply = path_text path ++ codes " hub " ++ decimal ports ++ codes " ports " ++
    decimal supply ++ codes " mA"

abbrev pub hub_lines : List ℕ → Option HubFacts → List (List ℕ)
hub_lines path None = []
hub_lines path (Some hub) = hub_line path hub.ports hub.supply ∷ []

-- PATH LABEL "TEXT"
unfoldable pub string_line : List ℕ → List ℕ → List ℕ → List ℕ
string_line path label units = path_text path ++ codes " " ++ label ++ codes " \"" ++ flat_map
    unit_text units ++ codes "\""

abbrev pub string_lines : List ℕ → List ℕ → Option (List ℕ) → List (List ℕ)
string_lines path label None = []
string_lines path label (Some units) = string_line path label units ∷ []

unfoldable pub device_lines : List ℕ → Accepted → List (List ℕ)
device_lines path d =
    address_line path d.address d.low d.bytes ∷ []
    ++ config_lines path 0 d.chosen d.configs
    ++ hub_lines path d.hub
    ++ string_lines path (codes "manufacturer") d.strings.manufacturer
    ++ string_lines path (codes "product") d.strings.product
    ++ string_lines path (codes "serial") d.strings.serial_number

abbrev pub request_word : Request → List ℕ
request_word request.Device = codes "stalled device"
request_word request.Address = codes "stalled address"
request_word request.Config = codes "stalled config"
request_word request.SetConfig = codes "stalled set config"

-- the words of a cause, and the index that one of them ends in
abbrev pub cause_word : Cause → List ℕ
cause_word Silent = codes "silent"
cause_word Busy = codes "busy"
cause_word (Stalled r) = request_word r
cause_word BadDevice = codes "bad device"
cause_word TooDeep = codes "too deep"
cause_word (BadConfiguration index) = codes "bad configuration "
cause_word TooLarge = codes "too large"
cause_word NoPower = codes "no power"
cause_word BadHub = codes "bad hub"
cause_word Lost = codes "lost"
cause_word NoAddress = codes "no address"

abbrev pub cause_index : Cause → List ℕ
cause_index (BadConfiguration index) = decimal index
cause_index cause = []

abbrev pub cause_text : Cause → List ℕ
cause_text cause = cause_word cause ++ cause_index cause

-- PATH refused CAUSE
unfoldable pub refused_line : List ℕ → Cause → List ℕ
refused_line path cause = path_text path ++ codes " refused " ++ cause_text cause

abbrev pub finding_lines : List ℕ → Finding → List (List ℕ)
finding_lines path (Device device) = device_lines path device
finding_lines path (Refused cause) = refused_line path cause ∷ []

abbrev pub entry_lines : List ℕ × Finding → List (List ℕ)
entry_lines entry = finding_lines entry.0 entry.1

-- PATH said HEX
unfoldable pub said_line : List ℕ → List ℕ → List ℕ
said_line path said = path_text path ++ codes " said " ++ hex_text said

-- left out where nothing was said
abbrev pub said_lines : List ℕ → List ℕ → List (List ℕ)
said_lines path [] = []
said_lines path (byte ∷ said) = said_line path (byte ∷ said) ∷ []

-- the lines of each entry, and behind them what its device said, as far as that is told
unfoldable pub told_lines : List (List ℕ × Finding) → List (List ℕ) → List (List ℕ)
told_lines [] said = []
told_lines (entry ∷ entries) [] = entry_lines entry ++ told_lines entries []
told_lines (entry ∷ entries) (first ∷ said) = (entry_lines entry ++ said_lines entry.0 first) ++
    told_lines entries said

unfoldable pub listing_line : ℕ → List ℕ
listing_line number = codes "listing " ++ decimal number

-- listing N, the lines of each entry and of what was said, end
unfoldable pub listing_lines : ℕ → List (List ℕ × Finding) → List (List ℕ) → List (List ℕ)
listing_lines number entries said = listing_line number ∷ [] ++ told_lines entries said ++
    codes "end" ∷ []

unfoldable pub bound_line : ℕ → List ℕ
bound_line bound = codes "bound " ++ decimal bound
