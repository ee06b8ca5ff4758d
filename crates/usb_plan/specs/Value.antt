-- What single values stand for.
use Rattle.std.specs.Prelude.{ℕ, ℤ, pos, negsuc, List, [], ◌∷◌, length, Bool, ◌&&◌, Option, Some}
use Rattle.std.specs.Prelude.{None, is_some, ok_or, Result, Ok, Err, nat_le, if◌then◌else◌}
use Rattle.std.specs.List.{list_all}
use Rattle.hex.specs.Hex.{decode_of}
use Rattle.hex.specs.declared.error.FromHexError.{FromHexError}
use Rattle.toml.specs.Data.{Data, Items, no_items, item, as_integer, as_str, as_array, as_table}
use Rattle.usb_plan.specs.declared.entry_fault.EntryFault.{EntryFault}
use Rattle.usb_plan.specs.declared.entry_fault.EntryFault.TheVariants.{MissingKey, BadValue, BadHex}
use Rattle.usb_plan.specs.EntryFault.{◌>>=◌}

-- items as a list
abbrev pub data_list : Items → List Data
data_list no_items = []
data_list (item d ds) = d ∷ data_list ds

-- the text that a value is
unfoldable pub text_in : Data → Result (List ℕ) EntryFault
text_in d = ok_or (as_str d) BadValue

-- a text that has to be there
unfoldable pub read_text : Option Data → Result (List ℕ) EntryFault
read_text d = ok_or d MissingKey >>= text_in

-- the values of the array that a value is
unfoldable pub read_items : Data → Result (List Data) EntryFault
read_items d = ok_or (as_array d) BadValue >>= λ items. Ok (data_list items)

abbrev pub is_table : Data → Bool
is_table d = is_some (as_table d)

-- the values of an array of at most so many tables
unfoldable pub tables_in : ℕ → Data → Result (List Data) EntryFault
tables_in most d =
    read_items d >>= λ ds. if nat_le (length ds) most && list_all is_table ds then Ok ds
    else Err BadValue

-- a number from low to high
unfoldable pub number_in : ℕ → ℕ → Option ℤ → Result ℕ EntryFault
number_in low high None = Err BadValue
number_in low high (Some (pos n)) = if nat_le low n && nat_le n high then Ok n else Err BadValue
number_in low high (Some (negsuc n)) = Err BadValue

-- a number that has to be there
unfoldable pub number_at : ℕ → ℕ → Option Data → Result ℕ EntryFault
number_at low high d = ok_or d MissingKey >>= λ x. number_in low high (as_integer x)

-- a byte that has to be there
unfoldable pub byte_at : Option Data → Result ℕ EntryFault
byte_at d = number_at 0 255 d

-- a number that may be absent
unfoldable pub number_or : ℕ → ℕ → ℕ → Option Data → Result ℕ EntryFault
number_or absent low high None = Ok absent
number_or absent low high (Some d) = number_in low high (as_integer d)

-- a text with anything but pairs of hex digits
abbrev pub hex_read : Result (List ℕ) FromHexError → Result (List ℕ) EntryFault
hex_read (Ok bytes) = Ok bytes
hex_read (Err e) = Err BadHex

-- the bytes of a hex text, however many
unfoldable pub hex_bytes : Data → Result (List ℕ) EntryFault
hex_bytes d = text_in d >>= λ text. hex_read (decode_of text)

-- the bytes of a hex text, at most so many
unfoldable pub hex_in : ℕ → Data → Result (List ℕ) EntryFault
hex_in most d = hex_bytes d >>= λ bytes. if nat_le (length bytes) most then Ok bytes else Err
    BadValue
