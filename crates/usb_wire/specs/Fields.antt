-- What single words stand for: bytes, numbers and paths.
use Rattle.std.specs.Prelude.{ℕ, ◌/◌, ◌%◌, ◌==◌, ◌&&◌, ◌||◌, nat_le, nat_lt, Bool, true, false}
use Rattle.std.specs.Prelude.{not, List, [], ◌∷◌}
use Rattle.std.specs.Prelude.{length, codes, Option, Some, None, if◌then◌else◌, slice_index}
use Rattle.std.specs.Char.{is_ascii_digit}
use Rattle.std.specs.List.{list_all}
use Rattle.std.specs.Option.{option_and_then}
use Rattle.std.specs.Result.{result_ok}
use Rattle.std.specs.Str.{bytes_eq}
use Rattle.std.specs.Str.Parse.{digits_value}
use Rattle.hex.specs.Hex.{decode_of, is_hex_digit}
use Rattle.usb_packet.specs.{hex_text}
use Rattle.usb_request.specs.{DIRECTION_IN, Setup, is_endpoint_address}

-- a dash, or pairs of digits
abbrev pub is_dash : List ℕ → Bool
is_dash word = bytes_eq word (codes "-")

abbrev pub is_hex : List ℕ → Bool
is_hex word = nat_lt 0 (length word) && (length word % 2 == 0) && list_all is_hex_digit word

-- how many bytes that is
abbrev pub hex_length : List ℕ → ℕ
hex_length word = if is_dash word then 0 else length word / 2

-- the bytes that a word spells in digits of either case; a dash is none
abbrev pub hex_value : List ℕ → Option (List ℕ)
hex_value word = if is_dash word then Some [] else if is_hex word then result_ok (decode_of word)
    else None

-- a number has no zero before it
abbrev pub is_decimal : List ℕ → Bool
is_decimal word = nat_lt 0 (length word) && list_all is_ascii_digit word &&
    (length word == 1 || not (slice_index word 0 == 48))

-- the number that a word spells, if it is in a range
abbrev pub number_within : ℕ → ℕ → List ℕ → Option ℕ
number_within least most word =
    if is_decimal word && nat_le least (digits_value 10 word) && nat_le (digits_value 10 word) most
    then Some (digits_value 10 word) else None

-- an endpoint's address, in two upper-case digits (9.6.6)
abbrev pub address_text : ℕ → List ℕ
address_text address = hex_text (address ∷ [])

-- the endpoint's address that bytes are, if that is its text
abbrev pub address_spelled : List ℕ → List ℕ → Option ℕ
address_spelled word (byte ∷ []) =
    if bytes_eq word (address_text byte) && is_endpoint_address byte then Some byte else None
address_spelled word _ = None

-- the endpoint's address that a word spells
abbrev pub address_named : List ℕ → Option ℕ
address_named word = option_and_then (address_spelled word) (hex_value word)

-- bytes go with the request to the device (9.3.1)
abbrev pub has_bytes : Setup → Bool
has_bytes setup = nat_lt setup.request_type DIRECTION_IN && not (setup.length == 0)

-- they do not where they should, or do where they should not
abbrev pub is_other_request : Bool → Setup → Bool
is_other_request true setup = not (has_bytes setup)
is_other_request false setup = has_bytes setup
