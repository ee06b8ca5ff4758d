-- A device as Linux hands it out: its device descriptor, then each configuration whole.
use Rattle.std.specs.Prelude.{◌≡◌, ◌≢◌, ℕ, ◌+◌, ◌<◌, ◌≤◌, List, [], ◌++◌, length, take, Ok, Err}
use Rattle.std.specs.Prelude.{false, MatchResult}
use Rattle.std.specs.List.{AllByRecursion}
use Rattle.usb_request.specs.{DEVICE_LENGTH}
use Rattle.usb_descriptor.specs.{DescriptorFault, config_head_of, config_of, joined, device_spelled}
use Rattle.usb_descriptor.specs.{configuration_count}
use Rattle.usb_entry.specs.declared.fault.EntryFault.{EntryFault}
use Rattle.usb_entry.specs.declared.fault.EntryFault.TheVariants.{NoName, Empty, Device, TooMany}
use Rattle.usb_entry.specs.declared.fault.EntryFault.TheVariants.{Configuration, Missing, LeftOver}
use Rattle.usb_entry.specs.declared.fault.EntryFault.TheVariants.{Write, Memory}

-- the device descriptor, and the configurations by their index
pub record EntryData : Type 0 where
  pub device : List ℕ
  pub configs : List (List ℕ)

-- a configuration text (9.6.3)
abbrev pub IsText : List ℕ → Type 0
IsText config = config_of config ≡ Ok config

-- the 18 bytes of a device descriptor (9.6.1)
pub record IsDescriptor (device : List ℕ) : Type 0 where
  pub spelled : device_spelled false device ≡ Ok device
  pub size : length device ≡ DEVICE_LENGTH

-- the bytes are a device descriptor, and as many configurations as it says, at most 8
pub record IsEntry (bytes : List ℕ) (e : EntryData) : Type 0 where
  pub device : IsDescriptor e.device
  pub few : configuration_count e.device ≤ 8
  pub each : AllByRecursion IsText e.configs
  pub count : length e.configs ≡ configuration_count e.device
  pub text : bytes ≡ e.device ++ joined e.configs

-- the bytes begin with this device descriptor, of at most 8 configurations
pub record BeginsWithDevice (bytes device : List ℕ) : Type 0 where
  pub is_device : IsDescriptor device
  pub few : configuration_count device ≤ 8
  pub rest : List ℕ
  pub text : bytes ≡ device ++ rest

-- the bytes begin with this configuration text
pub record FrontConfig (bytes config : List ℕ) : Type 0 where
  pub is_text : IsText config
  pub rest : List ℕ
  pub text : bytes ≡ config ++ rest

-- the bytes begin with a configuration that has this fault: of as many bytes as it says, or of all
-- that there are
abbrev pub HasFrontFault : List ℕ → DescriptorFault → Type 0
HasFrontFault bytes fault = MatchResult (config_head_of bytes)
    (λ total. config_of (take total bytes) ≡ Err fault) (λ f. fault ≡ f)

-- behind the device descriptor and some of its configurations, up to the offset, the rest does not
-- go on: so many
-- configurations are left to come
pub record BreaksAt (bytes : List ℕ) (offset : ℕ) (Why : ℕ → List ℕ → Type 0) : Type 0 where
  pub device : List ℕ
  pub configs : List (List ℕ)
  pub rest : List ℕ
  pub left : ℕ
  pub is_device : IsDescriptor device
  pub few : configuration_count device ≤ 8
  pub each : AllByRecursion IsText configs
  pub count : length configs + left ≡ configuration_count device
  pub text : bytes ≡ device ++ joined configs ++ rest
  pub place : offset ≡ length (device ++ joined configs)
  pub why : Why left rest

-- why the bytes are no device with its configurations: the first reason that holds
abbrev pub HasEntryFault : List ℕ → EntryFault → Type 0
HasEntryFault bytes NoName = ⊥
HasEntryFault bytes Empty = bytes ≡ []
HasEntryFault bytes (Device fault) = (bytes ≢ [])
    × (device_spelled false (take DEVICE_LENGTH bytes) ≡ Err fault)
HasEntryFault bytes TooMany = (device : List ℕ) × (rest : List ℕ) × (bytes ≡ device ++ rest)
    × IsDescriptor device × (8 < configuration_count device)
HasEntryFault bytes (Configuration offset fault) = BreaksAt bytes offset (λ left rest. (0 < left)
    × (rest ≢ []) × HasFrontFault rest fault)
HasEntryFault bytes (Missing offset) = BreaksAt bytes offset (λ left rest. (0 < left) × (rest ≡ []))
HasEntryFault bytes (LeftOver offset) = BreaksAt bytes offset (λ left rest. (left ≡ 0)
    × (rest ≢ []))
HasEntryFault bytes Write = ⊥
HasEntryFault bytes Memory = Unit {0}

-- why the bytes left at an offset do not begin with a configuration
abbrev pub NextFault : List ℕ → ℕ → EntryFault → Type 0
NextFault rest offset (Configuration at fault) = (at ≡ offset) × (rest ≢ [])
    × HasFrontFault rest fault
NextFault rest offset (Missing at) = (at ≡ offset) × (rest ≡ [])
NextFault rest offset NoName = ⊥
NextFault rest offset Empty = ⊥
NextFault rest offset (Device fault) = ⊥
NextFault rest offset TooMany = ⊥
NextFault rest offset (LeftOver at) = ⊥
NextFault rest offset Write = ⊥
NextFault rest offset Memory = ⊥
