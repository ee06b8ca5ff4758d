-- What is plugged, as it is at a moment: plain data.
use Rattle.std.specs.Prelude.{ℕ, List, Bool, Option, option_map, take}
use Rattle.std.specs.List.{find}
use Rattle.std.specs.Str.{bytes_eq}
use Rattle.usb_request.specs.{DEVICE_LENGTH}
use Rattle.usb_judge.specs.declared.plugged.PluggedDevice.{PluggedDevice}

-- a device at a moment
pub record Seen : Type 0 where
  pub low : Bool  -- low speed, else full
  pub descriptor : List ℕ  -- as much of it as a host reads (9.6.1)
  pub configuration : Option (List ℕ)  -- the text of the configuration that it has
  pub ports : ℕ  -- 0 of a function
  pub supply : ℕ  -- what its port gives, in mA
  pub address : ℕ
  pub reached : Bool  -- its port and each on its way is enabled

-- the device at each path
abbrev pub Scene : Type 0
Scene = List ℕ → Option Seen

abbrev pub device_seen : PluggedDevice → Seen
device_seen d = record {
  low = d.low;
  descriptor = take DEVICE_LENGTH d.descriptor.now;
  configuration = option_map (λ text. text.now) d.configuration;
  ports = d.ports;
  supply = d.supply;
  address = d.address;
  reached = d.reached;
}

-- the first of these devices that has the path
abbrev pub device_row : List PluggedDevice → List ℕ → Option PluggedDevice
device_row plugged path = find (λ d. bytes_eq d.path path) plugged

abbrev pub scene_in : List PluggedDevice → Scene
scene_in plugged path = option_map device_seen (device_row plugged path)
