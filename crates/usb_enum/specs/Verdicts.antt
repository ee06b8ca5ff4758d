-- What a host finds in a device of a description (9.1.2, 9.4, 9.6): the first row of a table that
-- holds.
use Rattle.std.specs.Prelude.{◌≡◌, ◌⊎◌, ℕ, zero, suc, ◌-◌, ◌==◌, ◌&&◌, ◌||◌, not, Bool, true, false}
use Rattle.std.specs.Prelude.{List, [], map, take, slice_get, slice_index_or, Option, None, Some}
use Rattle.std.specs.Prelude.{is_some, option_map, option_and_then, Result, Ok, Err, is_ok}
use Rattle.std.specs.Prelude.{if◌then◌else◌, nat_lt}
use Rattle.std.specs.List.{sum_by}
use Rattle.std.specs.Option.{option_or}
use Rattle.usb_port.specs.{supply_of}
use Rattle.usb_request.specs.{CONFIGURATION_LENGTH, DEVICE_HEAD_LENGTH, DEVICE_LENGTH, HUB_LENGTH}
use Rattle.usb_descriptor.specs.{device_head_of, configuration_count, config_head_of, config_of}
use Rattle.usb_descriptor.specs.{configuration_value, total_in, status_endpoint_of, hub_spelled}
use Rattle.usb_device.specs.{Spec, Hub, State, hub_ports, said_length}
use Rattle.usb_enum.specs.declared.cause.Cause.{Cause}
use Rattle.usb_enum.specs.declared.cause.Cause.TheVariants.{Silent, Busy, Stalled, BadDevice}
use Rattle.usb_enum.specs.declared.cause.Cause.TheVariants.{TooDeep, BadConfiguration, NoPower}
use Rattle.usb_enum.specs.declared.cause.Cause.TheVariants.{TooLarge, BadHub, NoAddress}
use Rattle.usb_enum.specs.declared.cause.Request.TheVariants as request
use Rattle.usb_enum.specs.declared.strings.StringIndexes.{StringIndexes}
use Rattle.usb_enum.specs.declared.strings.Strings.{Strings}
use Rattle.usb_enum.specs.declared.finding.Accepted.{Accepted}
use Rattle.usb_enum.specs.declared.finding.Finding.{Finding}
use Rattle.usb_enum.specs.declared.finding.Finding.TheVariants.{Device, Refused}
use Rattle.usb_enum.specs.declared.hub.HubFacts.{HubFacts}
use Rattle.usb_enum.specs.declared.options.HostOptions.{HostOptions}
use Rattle.usb_enum.specs.Device.{is_device, is_hub_device, string_indexes, configuration_of}
use Rattle.usb_enum.specs.Device.{LAST_TIER, holds_changes}
use Rattle.usb_enum.specs.Text.{any_has_value, choice_of, string_units, first_language_of}

-- Options

-- a host that takes wide hubs or does not, and as many bytes as a device says
abbrev pub usual_options : Bool → HostOptions
usual_options wide = record { wide_hubs = wide; device_bytes = None }

-- what so many bytes leave of a budget; without one, there is no end
abbrev pub left_of : Option ℕ → ℕ → Option ℕ
left_of budget bytes = option_map (λ most. most - bytes) budget

-- so many bytes are more than are left
abbrev pub is_over : Option ℕ → ℕ → Bool
is_over None bytes = false
is_over (Some most) bytes = nat_lt most bytes

-- Configurations

-- what a host reads of a text: as many bytes as its first nine say
unfoldable pub text_read : List ℕ → List ℕ
text_read text = take (total_in (config_head_of (take CONFIGURATION_LENGTH text))) text

-- the first nine bytes are a configuration descriptor, and what is read is a configuration text
abbrev pub is_good_text : List ℕ → Bool
is_good_text text = is_ok (config_head_of (take CONFIGURATION_LENGTH text)) &&
    is_ok (config_of (text_read text))

-- what is wrong with the text of an index: there is none, its head says more bytes than are left,
-- it is malformed, or its value is that of an earlier one. A head that is malformed says none
abbrev pub text_fault : Option ℕ → ℕ → List (List ℕ) → Option (List ℕ) → Option Cause
text_fault room index earlier None = Some (Stalled request.Config)
text_fault room index earlier (Some text) =
    if is_over room (said_length text) then Some TooLarge
    else if is_good_text text && not (any_has_value (configuration_value (text_read text)) earlier)
    then None else Some (BadConfiguration index)

-- what is read of the first so many configurations
abbrev pub texts_below : Spec → ℕ → List (List ℕ)
texts_below spec count = map text_read (take count spec.configs)

-- how many bytes the first so many configurations say that they have together
abbrev pub said_below : Spec → ℕ → ℕ
said_below spec count = sum_by said_length (take count spec.configs)

-- what is wrong with the configuration of an index, where so many bytes are left
unfoldable pub config_fault : Option ℕ → Spec → ℕ → Option Cause
config_fault room spec index = if spec.stalls.config then Some (Stalled request.Config)
    else text_fault room index (texts_below spec index) (slice_get spec.configs index)

-- what is wrong with the first bad one of so many configurations, which may have so many bytes
-- together
unfoldable pub first_fault : Option ℕ → Spec → ℕ → Option Cause
first_fault budget spec zero = None
first_fault budget spec (suc index) = option_or (first_fault budget spec index)
    (config_fault (left_of budget (said_below spec index)) spec index)

-- what is read of all configurations
abbrev pub texts_of : Spec → List (List ℕ)
texts_of spec = texts_below spec (configuration_count spec.descriptor)

-- Hubs

-- it has ports, gives its hub descriptor and its status, and its descriptor is one
abbrev pub gives_hub : Bool → Spec → Option Hub → Bool
gives_hub wide spec None = false
gives_hub wide spec (Some hub) = not spec.stalls.hub && not spec.stalls.status &&
    is_ok (hub_spelled wide (take HUB_LENGTH hub.descriptor))

-- a hub that a host can use, with this configuration text: one packet of its status endpoint holds
-- the changes of its ports (11.12.4)
abbrev pub is_good_hub : Bool → Spec → List ℕ → Bool
is_good_hub wide spec text =
    holds_changes (status_endpoint_of wide text) (hub_ports spec.hub) &&
    gives_hub wide spec spec.hub

-- what a hub says of its ports
abbrev pub facts_of : Spec → Option HubFacts
facts_of spec = if is_hub_device spec.descriptor then Some
    (record { ports = hub_ports spec.hub; supply = supply_of false spec.self_powered }) else None

-- The rows

-- of a device that is to be set to a configuration
abbrev pub set_verdict : Bool → Spec → List (List ℕ) → Option ℕ → Result ℕ Cause
set_verdict wide spec texts None = Err NoPower
set_verdict wide spec texts (Some chosen) =
    if spec.stalls.set_config then Err (Stalled request.SetConfig)
    else if is_hub_device spec.descriptor &&
    not (is_good_hub wide spec (slice_index_or texts chosen []))
    then Err BadHub
    else Ok chosen

-- of a device whose configurations are to be read
abbrev pub read_verdict : Bool → Spec → ℕ → Option Cause → Result ℕ Cause
read_verdict wide spec supply (Some cause) = Err cause
read_verdict wide spec supply None =
    set_verdict wide spec (texts_of spec) (choice_of supply (texts_of spec))

-- the index of the configuration that the device is set to, or why it is refused: by what the host
-- takes, in a tier, and at a port that gives so many mA
unfoldable pub verdict : Spec → HostOptions → ℕ → ℕ → Result ℕ Cause
verdict spec options tier supply =
    if spec.silent then Err Silent
    else if spec.busy then Err Busy
    else if spec.stalls.device then Err (Stalled request.Device)
    else if not (is_ok (device_head_of spec.low (take DEVICE_HEAD_LENGTH spec.descriptor))) then Err
    BadDevice
    else if spec.stalls.address then Err (Stalled request.Address)
    else if not (is_device spec.low (take DEVICE_LENGTH spec.descriptor)) then Err BadDevice
    else if is_hub_device spec.descriptor && tier == LAST_TIER then Err TooDeep
    else read_verdict options.wide_hubs spec supply
    (first_fault options.device_bytes spec (configuration_count spec.descriptor))

-- it answers with the head of a device descriptor: none of the rows before the address holds
abbrev pub gives_head : Spec → Bool
gives_head spec = not spec.silent && not spec.busy && not spec.stalls.device &&
    is_ok (device_head_of spec.low (take DEVICE_HEAD_LENGTH spec.descriptor))

-- Strings

-- what a host reads of a string's text: 255 bytes at most
abbrev pub string_read : Spec → ℕ → Option (List ℕ)
string_read spec index = if spec.stalls.string then None else option_map (take 255)
    (slice_get spec.strings index)

-- the string of an index: index 0 names none, and without a first language none is read
unfoldable pub string_at : Spec → ℕ → Option (List ℕ)
string_at spec index =
    if index == 0 || not (is_some (option_and_then first_language_of (string_read spec 0)))
    then None
    else option_and_then string_units (string_read spec index)

abbrev pub strings_by : Spec → StringIndexes → Strings
strings_by spec indexes = record {
  manufacturer = string_at spec indexes.manufacturer;
  product = string_at spec indexes.product;
  serial_number = string_at spec indexes.serial_number;
}

abbrev pub strings_of : Spec → Strings
strings_of spec = strings_by spec (string_indexes spec.descriptor)

-- The finding

-- a device is listed as its description has it
pub record IsAs (spec : Spec) (device : Accepted) : Type 0 where
  pub low : device.low ≡ spec.low
  pub bytes : device.bytes ≡ take DEVICE_LENGTH spec.descriptor
  pub configs : device.configs ≡ texts_of spec
  pub strings : device.strings ≡ strings_of spec
  pub hub : device.hub ≡ facts_of spec

-- what a host finds in a device: accepted as it is, set to the configuration that the rows say; or
-- refused with its cause
abbrev pub IsFindingOf : Spec → HostOptions → ℕ → ℕ → Finding → Type 0
IsFindingOf spec options tier supply (Device device) =
    (verdict spec options tier supply ≡ Ok device.chosen) × IsAs spec device
IsFindingOf spec options tier supply (Refused cause) = verdict spec options tier supply ≡ Err cause

-- a device that would have been given an address, where each is taken
pub record IsWithout (full : Type 0) (spec : Spec) (finding : Finding) : Type 0 where
  pub none : full
  pub head : gives_head spec ≡ true
  pub refused : finding ≡ Refused NoAddress

-- what is found in a device: what its description says, or that no address is free
abbrev pub IsRight : Type 0 → Spec → HostOptions → ℕ → ℕ → Finding → Type 0
IsRight full spec options tier supply finding = IsFindingOf spec options tier supply finding
    ⊎ IsWithout full spec finding

-- a device has the address and the configuration that are listed
pub record IsSet (device : Accepted) (s : State) : Type 0 where
  pub address : s.registers.address ≡ device.address
  pub configuration : s.registers.configuration ≡ configuration_value (configuration_of device)
