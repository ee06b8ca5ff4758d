-- What a device's configuration texts say together.
use Rattle.std.specs.Prelude.{◌≡◌, ⊤, position, nat_le, slice_get, ℕ, ◌*◌, List, [], ◌∷◌, map, Bool}
use Rattle.std.specs.Prelude.{false, ◌||◌, ◌==◌, Option, Some, None, Result, Ok, Err, is_ok}
use Rattle.std.specs.Prelude.{if◌then◌else◌, length}
use Rattle.std.specs.List.{sum_by}
use Rattle.usb_descriptor.specs.{DescriptorFault, string_of, config_of, configuration_value}
use Rattle.usb_descriptor.specs.{max_power_of}

-- the bytes, where they are a configuration text
abbrev pub config_text_of : List ℕ → Option (List ℕ)
config_text_of bytes = if is_ok (config_of bytes) then Some bytes else None

-- some text has this bConfigurationValue
abbrev pub any_has_value : ℕ → List (List ℕ) → Bool
any_has_value value [] = false
any_has_value value (text ∷ texts) = configuration_value text == value || any_has_value value texts

-- how many bytes the texts have together
abbrev pub texts_length : List (List ℕ) → ℕ
texts_length texts = sum_by length texts

-- bMaxPower counts 2 mA
abbrev pub need_of : List ℕ → ℕ
need_of text = 2 * max_power_of text

unfoldable pub needs_of : List (List ℕ) → List ℕ
needs_of texts = map need_of texts

-- the first configuration that needs no more than the supply
abbrev pub choice_of : ℕ → List (List ℕ) → Option ℕ
choice_of supply texts = position (λ need. nat_le need supply) (needs_of texts)

-- no two texts have the same bConfigurationValue
abbrev pub ValuesDiffer : List (List ℕ) → Type 0
ValuesDiffer [] = ⊤
ValuesDiffer (text ∷ texts) = (any_has_value (configuration_value text) texts ≡ false)
    × ValuesDiffer texts

abbrev pub if_read : Result (List ℕ) DescriptorFault → Option (List ℕ)
if_read (Ok units) = Some units
if_read (Err fault) = None

-- the units, where the bytes begin with a string descriptor
abbrev pub string_units : List ℕ → Option (List ℕ)
string_units bytes = if_read (string_of bytes)

abbrev pub first_unit : Result (List ℕ) DescriptorFault → Option ℕ
first_unit (Ok units) = slice_get units 0
first_unit (Err fault) = None

-- the first language, where the bytes begin with a string descriptor that has one
abbrev pub first_language_of : List ℕ → Option ℕ
first_language_of bytes = first_unit (string_of bytes)
