-- The interfaces of a configuration, their settings and the addresses that these name (9.2.3).
use Rattle.std.specs.Prelude.{ℕ, ◌==◌, not, ◌&&◌, ◌||◌, List, [], ◌∷◌, Bool, true, false}
use Rattle.std.specs.Prelude.{Result, Ok, Err}
use Rattle.std.specs.List.{list_any, list_all, range_with_len}
use Rattle.usb_descriptor.specs.declared.fault.DescriptorFault.{DescriptorFault}
use Rattle.usb_descriptor.specs.declared.item.Item.{Item}
use Rattle.usb_descriptor.specs.declared.item.Item.TheVariants.{Interface, Endpoint, Other}
use Rattle.usb_descriptor.specs.Item.{interface_number, alternate_setting, items_of}
use Rattle.usb_descriptor.specs.Config.{config_of}
use Rattle.usb_descriptor.specs.Usable.{has_number}

-- the item begins a setting of the interface with this number
abbrev pub is_interface : ℕ → Item → Bool
is_interface interface (Interface bytes) = interface_number bytes == interface
is_interface interface (Endpoint bytes) = false
is_interface interface (Other bytes) = false

-- the item begins this setting of it
abbrev pub is_setting : ℕ → ℕ → Item → Bool
is_setting interface setting (Interface bytes) =
    interface_number bytes == interface && alternate_setting bytes == setting
is_setting interface setting (Endpoint bytes) = false
is_setting interface setting (Other bytes) = false

abbrev pub has_interface : ℕ → List Item → Bool
has_interface interface items = list_any (is_interface interface) items

abbrev pub has_setting : ℕ → ℕ → List Item → Bool
has_setting interface setting items = list_any (is_setting interface setting) items

-- whether endpoints belong to an interface that the test takes, after one more item
abbrev pub taken_after : (ℕ → Bool) → Bool → Item → Bool
taken_after test taken (Interface bytes) = test (interface_number bytes)
taken_after test taken (Endpoint bytes) = taken
taken_after test taken (Other bytes) = taken

-- the item is an endpoint with this direction and number
abbrev pub is_named : Bool → ℕ → Item → Bool
is_named to_host e (Interface bytes) = false
is_named to_host e (Endpoint bytes) = has_number to_host e bytes
is_named to_host e (Other bytes) = false

-- an endpoint with them belongs to an interface that the test takes
abbrev pub named_after : (ℕ → Bool) → Bool → ℕ → Bool → List Item → Bool
named_after test to_host e taken [] = false
named_after test to_host e taken (item ∷ items) = (taken && is_named to_host e item)
    || named_after test to_host e (taken_after test taken item) items

-- some setting of the interface has an endpoint with this direction and number
unfoldable pub names : ℕ → Bool → ℕ → List Item → Bool
names interface to_host e items = named_after (λ other. other == interface) to_host e false items

-- some setting of another interface has
unfoldable pub names_elsewhere : ℕ → Bool → ℕ → List Item → Bool
names_elsewhere interface to_host e items =
    named_after (λ other. not (other == interface)) to_host e false items

-- both have
abbrev pub is_shared : ℕ → Bool → ℕ → List Item → Bool
is_shared interface to_host e items =
    names interface to_host e items && names_elsewhere interface to_host e items

abbrev pub is_apart_at : ℕ → List Item → ℕ → Bool
is_apart_at interface items e =
    not (is_shared interface false e items) && not (is_shared interface true e items)

-- the interface shares no endpoint with another one, as the standard wants it; the numbers of
-- endpoints are 0 to 15 (9.6.6)
unfoldable pub is_apart : ℕ → List Item → Bool
is_apart interface items = list_all (is_apart_at interface items) (range_with_len 0 16)

-- the interface can have the setting, and nothing of another interface depends on it
unfoldable pub is_settable : ℕ → ℕ → List Item → Bool
is_settable interface setting items =
    has_setting interface setting items && is_apart interface items

abbrev pub settable_if : ℕ → ℕ → Result (List ℕ) DescriptorFault → Bool
settable_if interface setting (Err fault) = false
settable_if interface setting (Ok text) = is_settable interface setting (items_of text)

-- in any bytes
unfoldable pub settable_in : ℕ → ℕ → List ℕ → Bool
settable_in interface setting bytes = settable_if interface setting (config_of bytes)

abbrev pub names_if : ℕ → Bool → ℕ → Result (List ℕ) DescriptorFault → Bool
names_if interface to_host e (Err fault) = false
names_if interface to_host e (Ok text) = names interface to_host e (items_of text)

unfoldable pub names_in : ℕ → Bool → ℕ → List ℕ → Bool
names_in interface to_host e bytes = names_if interface to_host e (config_of bytes)
