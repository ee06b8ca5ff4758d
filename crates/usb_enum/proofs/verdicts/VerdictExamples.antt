-- The verdict on a device of each row, and a string, computed.
use Rattle.std.proofs.Common.{arith, ◌≡◌, ℕ, List, [], ◌∷◌, true, false, Some, None, Ok, Err, refl}
use Rattle.usb_descriptor.specs.Choice as choice
use Rattle.usb_descriptor.specs.Config as config
use Rattle.usb_descriptor.specs.Device as device
use Rattle.usb_descriptor.specs.Hub as hub
use Rattle.usb_descriptor.specs.Item as item
use Rattle.usb_descriptor.specs.Text as string
use Rattle.usb_descriptor.specs.Words as words
use Rattle.usb_device.specs.{Spec, function, usual_hub, no_stalls}
use Rattle.usb_device.specs.SaidLengths as lengths
use Rattle.usb_enum.specs.{Silent, Busy, Stalled, BadDevice, TooDeep, BadConfiguration, NoPower}
use Rattle.usb_enum.specs.{BadHub, TooLarge, HostOptions, usual_options, verdict, first_fault}
use Rattle.usb_enum.specs.{config_fault, text_read, string_at}
use Rattle.usb_enum.specs.declared.cause.Request.TheVariants as request
use Rattle.usb_enum.specs.Text as text

-- a device descriptor of a class, with its product string and so many configurations
abbrev pub device_bytes : ℕ → ℕ → ℕ → List ℕ
device_bytes class product count = 18 ∷ 1 ∷ 0 ∷ 2 ∷ class ∷ 0 ∷ 0 ∷ 64 ∷ 52 ∷ 18 ∷ 120 ∷ 86 ∷ 0 ∷
    1 ∷ 0 ∷ product ∷ 0 ∷ count ∷ []

-- a configuration of one interface, with its value and bMaxPower
abbrev pub config_bytes : ℕ → ℕ → List ℕ
config_bytes value power = 9 ∷ 2 ∷ 18 ∷ 0 ∷ 1 ∷ value ∷ 0 ∷ 128 ∷ power ∷ 9 ∷ 4 ∷ 0 ∷ 0 ∷ 0 ∷ 255 ∷
    0 ∷ 0 ∷ 0 ∷ []

-- a configuration of a hub, with the address and the maximum packet of its status endpoint
abbrev pub hub_bytes : ℕ → ℕ → List ℕ
hub_bytes address max = 9 ∷ 2 ∷ 25 ∷ 0 ∷ 1 ∷ 1 ∷ 0 ∷ 192 ∷ 0 ∷ 9 ∷ 4 ∷ 0 ∷ 0 ∷ 1 ∷ 9 ∷ 0 ∷ 0 ∷ 0 ∷
    7 ∷ 5 ∷ address ∷ 3 ∷ max ∷ 0 ∷ 255 ∷ []

-- needs 100 mA
abbrev pub small : Spec
small = function [] (device_bytes 0 0 1) (config_bytes 1 50 ∷ [])

-- needs 500 mA, or in its second configuration 100 mA
abbrev two : Spec
two = function [] (device_bytes 0 0 2) (config_bytes 1 250 ∷ config_bytes 2 50 ∷ [])

-- needs 500 mA
abbrev large : Spec
large = function [] (device_bytes 0 0 1) (config_bytes 1 250 ∷ [])

-- a hub of so many ports, with such a status endpoint
abbrev pub hub_of : ℕ → ℕ → ℕ → Spec
hub_of ports address max = record (function [] (device_bytes 9 0 1) (hub_bytes address max ∷ [])) {
  hub = Some (usual_hub ports);
  self_powered = true;
}

-- a hub of two ports
abbrev pub two_ports : Spec
two_ports = hub_of 2 129 1

-- an item of length 0, a value twice, a text that is cut, one that is missing, and no configuration
abbrev no_item : Spec
no_item = function [] (device_bytes 0 0 1)
    ((9 ∷ 2 ∷ 18 ∷ 0 ∷ 1 ∷ 1 ∷ 0 ∷ 128 ∷ 50 ∷ 0 ∷ 4 ∷ 0 ∷ 0 ∷ 0 ∷ 255 ∷ 0 ∷ 0 ∷ 0 ∷ []) ∷ [])

abbrev twice_configured : Spec
twice_configured = function [] (device_bytes 0 0 2) (config_bytes 1 50 ∷ config_bytes 1 50 ∷ [])

abbrev cut_device : Spec
cut_device = function [] (device_bytes 0 0 1) ((9 ∷ 2 ∷ 18 ∷ 0 ∷ 1 ∷ 1 ∷ 0 ∷ 128 ∷ 50 ∷ 9 ∷ []) ∷
    [])

abbrev missing : Spec
missing = function [] (device_bytes 0 0 2) (config_bytes 1 50 ∷ [])

abbrev unconfigured : Spec
unconfigured = function [] (device_bytes 0 0 0) (config_bytes 1 50 ∷ [])

-- the head of its configuration is malformed
abbrev no_head : Spec
no_head = function [] (device_bytes 0 0 1) ((9 ∷ 4 ∷ 18 ∷ 0 ∷ 1 ∷ 1 ∷ 0 ∷ 128 ∷ 50 ∷ []) ∷ [])

-- a host that takes so many bytes of configurations
abbrev at_most : ℕ → HostOptions
at_most bytes = record { wide_hubs = false; device_bytes = Some bytes }

-- what a host finds in them that takes wide hubs or not, or so many bytes, in a tier and at a port
-- of so many mA
pub record Examples : Type 0 where
  pub silent : verdict (record small { silent = true; busy = true }) (usual_options false) 2 500
      ≡ Err Silent
  pub busy : verdict (record small { busy = true }) (usual_options false) 2 500 ≡ Err Busy
  pub stalled_device : verdict (record small { stalls = record no_stalls { device = true } })
      (usual_options false)
      2 500 ≡ Err (Stalled request.Device)
  pub bad_head : verdict (record small { descriptor = 18 ∷ 1 ∷ [] }) (usual_options false) 2 500
      ≡ Err BadDevice
  pub stalled_address : verdict (record unconfigured {
    stalls = record no_stalls { address = true };
  }) (usual_options false) 2 500 ≡ Err (Stalled request.Address)
  pub bad_device : verdict unconfigured (usual_options false) 2 500 ≡ Err BadDevice
  pub too_deep : verdict two_ports (usual_options false) 7 500 ≡ Err TooDeep
  pub stalled_config : verdict (record small { stalls = record no_stalls { config = true } })
      (usual_options false)
      2 500 ≡ Err (Stalled request.Config)
  pub no_text : verdict missing (usual_options false) 2 500 ≡ Err (Stalled request.Config)
  pub bad_item : verdict no_item (usual_options false) 2 500 ≡ Err (BadConfiguration 0)
  pub bad_length : verdict cut_device (usual_options false) 2 500 ≡ Err (BadConfiguration 0)
  pub bad_value : verdict twice_configured (usual_options false) 2 500 ≡ Err (BadConfiguration 1)
  pub no_power : verdict large (usual_options false) 3 100 ≡ Err NoPower
  pub stalled_set : verdict (record small { stalls = record no_stalls { set_config = true } })
      (usual_options false)
      2 500 ≡ Err (Stalled request.SetConfig)
  pub bad_hub : verdict (record two_ports { hub = None }) (usual_options false) 2 500 ≡ Err BadHub
  pub accepted : verdict small (usual_options false) 2 500 ≡ Ok 0
  pub first : verdict two (usual_options false) 3 500 ≡ Ok 0
  pub second : verdict two (usual_options false) 3 100 ≡ Ok 1
  pub hub : verdict two_ports (usual_options false) 2 500 ≡ Ok 0
  pub narrow : verdict (hub_of 10 129 2) (usual_options false) 2 500 ≡ Err BadHub
  pub wide : verdict (hub_of 10 129 2) (usual_options true) 2 500 ≡ Ok 0
  pub small_endpoint : verdict (hub_of 10 129 1) (usual_options true) 2 500 ≡ Err BadHub
  pub one_endpoint : verdict (hub_of 2 130 1) (usual_options false) 2 500 ≡ Err BadHub
  pub any_endpoint : verdict (hub_of 2 130 1) (usual_options true) 2 500 ≡ Ok 0
  pub within : verdict two (at_most 36) 3 500 ≡ Ok 0
  pub over : verdict two (at_most 35) 3 500 ≡ Err TooLarge
  pub over_first : verdict two (at_most 17) 3 500 ≡ Err TooLarge
  pub over_before : verdict twice_configured (at_most 35) 2 500 ≡ Err TooLarge
  pub bad_before : verdict no_head (at_most 0) 2 500 ≡ Err (BadConfiguration 0)

pub examples : Examples
unfolding verdict first_fault config_fault text_read lengths.said_length text.needs_of
    device.device_head_of
    device.device_spelled config.config_head_of config.config_of config.items_fault config.pieces_of
    hub.hub_spelled choice.status_endpoint_of choice.first_counting choice.status_at
    choice.interrupt_in_at choice.interrupt_described item.items_in item.items_of
examples = grind arith

-- string 0 names a language, and string 1 is read; without string 0 it is not
product : string_at (record small {
  strings = (4 ∷ 3 ∷ 9 ∷ 4 ∷ []) ∷ (8 ∷ 3 ∷ 65 ∷ 0 ∷ 34 ∷ 0 ∷ 10 ∷ 0 ∷ []) ∷ [];
}) 1 ≡ Some (65 ∷ 34 ∷ 10 ∷ [])
unfolding string_at string.string_of words.words_of
product = refl

no_language : string_at (record small {
  strings = (2 ∷ 3 ∷ []) ∷ (8 ∷ 3 ∷ 65 ∷ 0 ∷ 34 ∷ 0 ∷ 10 ∷ 0 ∷ []) ∷ [];
}) 1 ≡ None
unfolding string_at string.string_of words.words_of
no_language = refl
