-- What the words of a request are made of.
use Rattle.std.specs.Prelude.{ℕ, ◌*◌, ◌/◌, ◌%◌, ◌==◌, ◌&&◌, nat_lt, Bool, true, List, [], ◌∷◌}
use Rattle.std.specs.Prelude.{◌++◌, codes, decimal, flat_map, map, is_some, Option, Some, None}
use Rattle.std.specs.Prelude.{if◌then◌else◌}
use Rattle.std.specs.Borrow.{Bor}
use Rattle.hex.specs.Hex.{encode_upper}
use Rattle.usb_request.specs.{Setup}
use Rattle.usb_explain.specs.declared.field.SetupField.{SetupField}
use Rattle.usb_explain.specs.declared.field.SetupField.TheVariants as field
use Rattle.usb_explain.specs.declared.phrase.Phrase.{Phrase}
use Rattle.usb_explain.specs.declared.phrase.Phrase.TheVariants as phrase

-- a field of setup data, or a part of one: a word has a high byte and a low one, and bits 6 and 5
-- of bmRequestType are the kind of the request (9.3)
unfoldable pub field_value : SetupField → Setup → ℕ
field_value field.RequestType s = s.request_type
field_value field.Kind s = s.request_type / 32 % 4
field_value field.RequestCode s = s.request
field_value field.Value s = s.value
field_value field.ValueHigh s = s.value / 256
field_value field.ValueLow s = s.value % 256
field_value field.Index s = s.index
field_value field.IndexHigh s = s.index / 256
field_value field.IndexLow s = s.index % 256
field_value field.Length s = s.length

-- what is said of a request, or asked of it
pub data Said : Type 0 where
  -- these are bmRequestType and bRequest
  request : ℕ → ℕ → Said
  -- the field has this value
  fixed : SetupField → ℕ → Said
  -- these words
  word : List ℕ → Said
  -- a field in decimal digits; its low byte in two hexadecimal digits; the field in four
  number : SetupField → Said
  byte : SetupField → Said
  digits : SetupField → Said
  -- the name of a field's value
  name : SetupField → List (ℕ × List ℕ) → Said
  -- the endpoint that wIndex has: its number, and whether it is in or out
  endpoint : Said

-- the name of a value, where it has one
unfoldable pub word_for : List (ℕ × List ℕ) → ℕ → Option (List ℕ)
word_for [] value = None
word_for ((named, first) ∷ table) value = if named == value then Some first
    else word_for table value

abbrev pub word_or_none : Option (List ℕ) → List ℕ
word_or_none (Some found) = found
word_or_none None = []

-- the bits of wIndex that no endpoint uses are 0 (figure 9-2)
abbrev pub is_endpoint : Setup → Bool
is_endpoint s = nat_lt s.index 256 && nat_lt (s.index % 128) 16

abbrev pub way_word : ℕ → List ℕ
way_word address = if nat_lt address 128 then codes " out" else codes " in"

abbrev pub endpoint_text : Setup → List ℕ
endpoint_text s = decimal (s.index % 16) ++ way_word s.index

-- a request is as the phrase asks
unfoldable pub phrase_fits : Said → Setup → Bool
phrase_fits (Said.request kind code) s = s.request_type == kind && s.request == code
phrase_fits (Said.fixed field value) s = field_value field s == value
phrase_fits (Said.word text) s = true
phrase_fits (Said.number field) s = true
phrase_fits (Said.byte field) s = true
phrase_fits (Said.digits field) s = true
phrase_fits (Said.name field table) s = is_some (word_for table (field_value field s))
phrase_fits Said.endpoint s = is_endpoint s

-- the words of a phrase
unfoldable pub phrase_text : Said → Setup → List ℕ
phrase_text (Said.request kind code) s = []
phrase_text (Said.fixed field value) s = []
phrase_text (Said.word text) s = text
phrase_text (Said.number field) s = decimal (field_value field s)
phrase_text (Said.byte field) s = encode_upper (field_value field s % 256 ∷ [])
phrase_text (Said.digits field) s =
    encode_upper (field_value field s / 256 ∷ []) ++ encode_upper (field_value field s % 256 ∷ [])
phrase_text (Said.name field table) s = word_or_none (word_for table (field_value field s))
phrase_text Said.endpoint s = endpoint_text s

-- a row fits where each of its phrases does
unfoldable pub fits_row : List Said → Setup → Bool
fits_row [] s = true
fits_row (phrase ∷ row) s = phrase_fits phrase s && fits_row row s

-- the first row that fits, no phrases where there is none
unfoldable pub row_for : List (List Said) → Setup → List Said
row_for [] s = []
row_for (row ∷ rows) s = if fits_row row s then row else row_for rows s

abbrev pub row_text : List Said → Setup → List ℕ
row_text row s = flat_map (λ p. phrase_text p s) row

-- ---- of the code

-- values and their names
abbrev pub names : List (ℕ × Bor (List ℕ)) → List (ℕ × List ℕ)
names table = map (λ n. (n.0, n.1.now)) table

-- a phrase of the code
abbrev pub said_of : Phrase → Said
said_of (phrase.Request kind code) = Said.request kind code
said_of (phrase.Is field value) = Said.fixed field value
said_of (phrase.Word text) = Said.word text.now
said_of (phrase.Number field) = Said.number field
said_of (phrase.Byte field) = Said.byte field
said_of (phrase.Digits field) = Said.digits field
said_of (phrase.Name field table) = Said.name field (names table.now)
said_of phrase.Endpoint = Said.endpoint
