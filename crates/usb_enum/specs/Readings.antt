-- What was read of a device, said of its description (9.4, 9.6, 11.24.2).
use Rattle.std.specs.Prelude.{◌≡◌, ℕ, ◌==◌, Bool, true, false, if◌then◌else◌, List, take, Option}
use Rattle.std.specs.Prelude.{None, Some, option_map, option_and_then, Ok}
use Rattle.std.specs.Global.{Vec}
use Rattle.usb_port.specs.{supply_of}
use Rattle.usb_request.specs.{CONFIGURATION_LENGTH, HUB_LENGTH}
use Rattle.usb_descriptor.specs.{config_head_of, hub_spelled, port_count}
use Rattle.usb_device.specs.{Spec, IsSpec, max_packet, said_length}
use Rattle.usb_transfer.specs.{Target}
use Rattle.usb_hub.specs.{config_given, hub_given}
use Rattle.usb_enum.specs.declared.hub.HubFacts.{HubFacts}
use Rattle.usb_enum.specs.declared.strings.Strings.{Strings}
use Rattle.usb_enum.specs.Verdicts.{text_read, is_good_text, texts_below, first_fault, string_read}
use Rattle.usb_enum.specs.Verdicts.{is_good_hub, facts_of, is_over}
use Rattle.usb_enum.specs.Text.{string_units, first_language_of}

-- so it is of a description with the target's maximum packet
abbrev pub AtMaximum : Target → (Spec → Type 0) → Spec → Type 0
AtMaximum t So spec = max_packet spec ≡ t.max → So spec

-- Configurations

-- the head of the configuration of an index says this total length
pub record HasTotal (index total : ℕ) (spec : Spec) : Type 0 where
  pub text : List ℕ
  pub given : config_given index spec ≡ Some text
  pub head : config_head_of (take CONFIGURATION_LENGTH text) ≡ Ok total

-- the configuration of an index is good and says no more bytes than are left, and this is what is
-- read of it
pub record HasConfiguration (room : Option ℕ) (index : ℕ) (bytes : List ℕ) (spec : Spec) : Type 0
  where
    pub text : List ℕ
    pub given : config_given index spec ≡ Some text
    pub fits : is_over room (said_length text) ≡ false
    pub good : is_good_text text ≡ true
    pub read : bytes ≡ text_read text

-- the first so many configurations are good and within the budget, and these are their texts
pub record HasConfigurations (budget : Option ℕ) (count : ℕ) (texts : List (List ℕ)) (spec : Spec) :
    Type 0 where
  pub good : first_fault budget spec count ≡ None
  pub read : texts ≡ texts_below spec count

-- Strings

-- the bytes of a string, where it is given
abbrev pub bytes_given : Option (Vec ℕ) → Option (List ℕ)
bytes_given bytes = option_map (λ (text : Vec ℕ). text.items) bytes

-- these are the bytes of a string, or none where it is not given
abbrev pub HasString : ℕ → Option (Vec ℕ) → Spec → Type 0
HasString index bytes spec = bytes_given bytes ≡ string_read spec index

abbrev pub language_of : Spec → Option ℕ
language_of spec = option_and_then first_language_of (string_read spec 0)

-- the string of an index in a language that the device has
abbrev pub string_in : Spec → ℕ → Option (List ℕ)
string_in spec index = if index == 0 then None else option_and_then string_units
    (string_read spec index)

abbrev pub no_strings : Strings
no_strings = record { manufacturer = None; product = None; serial_number = None }

-- Hubs

-- its hub descriptor is good, and says so many ports
pub record HasPorts (wide : Bool) (ports : ℕ) (spec : Spec) : Type 0 where
  pub text : List ℕ
  pub given : hub_given spec ≡ Some text
  pub good : hub_spelled wide (take HUB_LENGTH text) ≡ Ok (take HUB_LENGTH text)
  pub said : ports ≡ port_count (take HUB_LENGTH text)

-- it gives its status, which says what its ports supply
pub record HasSupply (supply : ℕ) (spec : Spec) : Type 0 where
  pub given : spec.stalls.status ≡ false
  pub said : supply ≡ supply_of false spec.self_powered

-- it is a hub that a host can use with this configuration text, and tells these facts
pub record IsGoodHub (wide : Bool) (text : List ℕ) (facts : HubFacts) (spec : Spec) : Type 0 where
  pub good : is_good_hub wide spec text ≡ true
  pub told : facts_of spec ≡ Some facts

-- so it is of a description that keeps the rules of devices
abbrev pub Ruled : (Spec → Type 0) → Spec → Type 0
Ruled So spec = IsSpec spec → So spec
