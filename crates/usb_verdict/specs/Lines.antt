-- What a line of a listing says.
use Rattle.std.specs.Prelude.{ℕ, ◌+◌, ◌-◌, ◌*◌, ◌%◌, ◌==◌, ◌&&◌, nat_le, nat_lt, Bool, true}
use Rattle.std.specs.Prelude.{false, List, [], ◌∷◌, length}
use Rattle.std.specs.Prelude.{codes, if◌then◌else◌, Option, None, Some, Result, Ok, Err, option_map}
use Rattle.std.specs.List.{list_all}
use Rattle.std.specs.Result.{result_ok}
use Rattle.std.specs.Str.{bytes_eq}
use Rattle.hex.specs.Hex.{decode_of, is_hex_digit}
use Rattle.usb_port.specs.{path_of}
use Rattle.usb_verdict.specs.declared.fault.ListingFault.{ListingFault}
use Rattle.usb_verdict.specs.declared.fault.ListingFault.TheVariants.{BadNumber, BadPath, BadSpeed}
use Rattle.usb_verdict.specs.declared.fault.ListingFault.TheVariants.{NoLine}
use Rattle.usb_verdict.specs.declared.line.ListingLine.{ListingLine}
use Rattle.usb_verdict.specs.declared.line.ListingLine.TheVariants as line

-- what was read, seen by a view
abbrev pub result_map : {A B : Type 0} → (A → B) → Result A ListingFault → Result B ListingFault
result_map view (Ok x) = Ok (view x)
result_map view (Err e) = Err e

-- Words

-- what is before the first space, and behind it
unfoldable pub cut_space : List ℕ → Option (List ℕ × List ℕ)
cut_space [] = None
cut_space (c ∷ text) = if c == 32 then Some ([], text)
    else option_map (λ cut. (c ∷ cut.0, cut.1)) (cut_space text)

abbrev last_word : List ℕ → List ℕ → List ℕ → Option (List ℕ × List ℕ)
    → Option (List ℕ × List ℕ × List ℕ)
last_word first second third None = Some (first, second, third)
last_word first second third (Some cut) = None

abbrev two_more : List ℕ → Option (List ℕ × List ℕ) → Option (List ℕ × List ℕ × List ℕ)
two_more first None = None
two_more first (Some cut) = last_word first cut.0 cut.1 (cut_space cut.1)

abbrev words_behind : Option (List ℕ × List ℕ) → Option (List ℕ × List ℕ × List ℕ)
words_behind None = None
words_behind (Some cut) = two_more cut.0 (cut_space cut.1)

-- the words of a text that has three
unfoldable pub three_words : List ℕ → Option (List ℕ × List ℕ × List ℕ)
three_words text = words_behind (cut_space text)

-- Numbers and bytes

abbrev pub is_digit : ℕ → Bool
is_digit c = nat_le 48 c && nat_le c 57

abbrev pub with_digit : ℕ → ℕ → ℕ
with_digit n c = 10 * n + (c - 48)

-- the number that goes on from one, digit by digit, if it is at most 255
unfoldable pub number_from : ℕ → List ℕ → Option ℕ
number_from n [] = Some n
number_from n (c ∷ word) = if is_digit c && nat_le (with_digit n c) 255
    then number_from (with_digit n c) word else None

-- the number that a word spells in decimal, with no zero before it
abbrev pub number_in : List ℕ → Option ℕ
number_in [] = None
number_in (c ∷ []) = number_from 0 (c ∷ [])
number_in (c ∷ d ∷ word) = if c == 48 then None else number_from 0 (c ∷ d ∷ word)

-- the bytes that a word spells in pairs of digits; a dash is none
abbrev pub bytes_in : List ℕ → Option (List ℕ)
bytes_in [] = None
bytes_in (c ∷ word) = if bytes_eq (c ∷ word) (codes "-") then Some []
    else result_ok (decode_of (c ∷ word))

-- pairs of digits of either case, at least one
abbrev pub are_digit_pairs : List ℕ → Bool
are_digit_pairs word =
    nat_lt 0 (length word) && (length word % 2 == 0) && list_all is_hex_digit word

-- whether a word is that of low speed
abbrev pub speed_named : List ℕ → Option Bool
speed_named word = if bytes_eq word (codes "full") then Some false
    else if bytes_eq word (codes "low") then Some true
    else None

-- Lines

-- what is said of the port at a path
pub data Line : Type 0 where
  device : List ℕ → ℕ → Bool → List ℕ → Line  -- its address, low speed, the digits of a descriptor
  refused : List ℕ → Line
  chosen : List ℕ → List ℕ → Line  -- the digits of a configuration
  hub : List ℕ → ℕ → Line  -- how many ports
  other : List ℕ → Line

abbrev pub said : ListingLine → Line
said (line.Device path address low descriptor) = device path address low descriptor.now
said (line.Refused path) = refused path
said (line.Chosen path configuration) = chosen path configuration.now
said (line.Hub path ports) = hub path ports
said (line.Other path) = other path

abbrev at_speed : List ℕ → ℕ → List ℕ → Option Bool → Result Line ListingFault
at_speed path address digits None = Err BadSpeed
at_speed path address digits (Some low) = Ok (device path address low digits)

abbrev at_address : List ℕ → List ℕ → List ℕ → Option ℕ → Result Line ListingFault
at_address path speed digits None = Err BadNumber
at_address path speed digits (Some address) = at_speed path address digits (speed_named speed)

abbrev by_device_words : List ℕ → Option (List ℕ × List ℕ × List ℕ) → Result Line ListingFault
by_device_words path None = Err NoLine
by_device_words path (Some words) = at_address path words.1 words.2 (number_in words.0)

-- `A SPEED HEX`
unfoldable pub device_said : List ℕ → List ℕ → Result Line ListingFault
device_said path text = by_device_words path (three_words text)

abbrev by_config_words : List ℕ → Option (List ℕ × List ℕ × List ℕ) → Result Line ListingFault
by_config_words path None = Ok (other path)
by_config_words path (Some words) =
    if bytes_eq words.2 (codes "*") then Ok (chosen path words.1) else Err NoLine

-- `I HEX`, and a star behind the one that was chosen
unfoldable pub config_said : List ℕ → List ℕ → Result Line ListingFault
config_said path text = by_config_words path (three_words text)

abbrev by_ports : List ℕ → Option ℕ → Result Line ListingFault
by_ports path None = Err BadNumber
by_ports path (Some ports) = Ok (hub path ports)

abbrev by_hub_words : List ℕ → Option (List ℕ × List ℕ) → Result Line ListingFault
by_hub_words path None = Err NoLine
by_hub_words path (Some cut) = by_ports path (number_in cut.0)

-- `N ports S mA`
unfoldable pub hub_said : List ℕ → List ℕ → Result Line ListingFault
hub_said path text = by_hub_words path (cut_space text)

-- what is said of a port, by the second word of the line
unfoldable pub port_said : List ℕ → List ℕ → List ℕ → Result Line ListingFault
port_said path word text =
    if bytes_eq word (codes "address") then device_said path text
    else if bytes_eq word (codes "refused") then Ok (refused path)
    else if bytes_eq word (codes "config") then config_said path text
    else if bytes_eq word (codes "hub") then hub_said path text
    else if bytes_eq word (codes "manufacturer") then Ok (other path)
    else if bytes_eq word (codes "product") then Ok (other path)
    else if bytes_eq word (codes "serial") then Ok (other path)
    else if bytes_eq word (codes "said") then Ok (other path)
    else Err NoLine

abbrev at_path : List ℕ → List ℕ → Option (List ℕ) → Result Line ListingFault
at_path word text None = Err BadPath
at_path word text (Some path) = port_said path word text

abbrev by_word : List ℕ → Option (List ℕ × List ℕ) → Result Line ListingFault
by_word path None = Err NoLine
by_word path (Some cut) = at_path cut.0 cut.1 (path_of path)

abbrev by_words : Option (List ℕ × List ℕ) → Result Line ListingFault
by_words None = Err NoLine
by_words (Some cut) = by_word cut.0 (cut_space cut.1)

unfoldable pub line_says : List ℕ → Result Line ListingFault
line_says line = by_words (cut_space line)
