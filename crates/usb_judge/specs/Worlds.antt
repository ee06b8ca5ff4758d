-- What is plugged in a world, and when a listing of it is right.
use Rattle.std.specs.Prelude.{◌≡◌, ℕ, ◌==◌, List, take, Bool, true, false, Option, None, Some}
use Rattle.std.specs.Prelude.{option_map, if◌then◌else◌, ◌&&◌, length, nat_le}
use Rattle.std.specs.List.{list_all}
use Rattle.usb_port.specs.{parent_of, supply_of}
use Rattle.usb_request.specs.{DEVICE_LENGTH}
use Rattle.usb_device.specs.{Ports, State, hub_ports, reach, state_there, text_of}
use Rattle.usb_world.specs.{World}
use Rattle.usb_judge.specs.declared.listed.ListedPort.{ListedPort}
use Rattle.usb_judge.specs.declared.plugged.PluggedDevice.{PluggedDevice}
use Rattle.usb_judge.specs.Scenes.{Seen, Scene, scene_in}
use Rattle.usb_judge.specs.Judgements.{IsRight}

-- the text of the configuration that a device has, if it has one (9.4.7)
abbrev pub configuration_in : State → Option (List ℕ)
configuration_in s = if s.registers.configuration == 0 then None else Some
    (text_of s.spec s.registers)

-- a device, at a port that is reached or not, and that gives so many mA
abbrev pub state_seen : Bool → ℕ → State → Seen
state_seen reached supply s = record {
  low = s.spec.low;
  descriptor = take DEVICE_LENGTH s.spec.descriptor;
  configuration = configuration_in s;
  ports = hub_ports s.spec.hub;
  supply = supply;
  address = s.registers.address;
  reached = reached;
}

abbrev pub powers_itself : Option State → Bool
powers_itself None = false
powers_itself (Some s) = s.spec.self_powered

-- what a port of the root gives, or one of the hub at a path, in mA (7.2.1)
abbrev pub given_below : Ports → Option (List ℕ) → ℕ
given_below roots None = supply_of true false
given_below roots (Some hub) = supply_of false (powers_itself (state_there roots hub))

-- a port has such a number, and such numbers name a port: 1 to 7 of them
abbrev pub is_port_number : ℕ → Bool
is_port_number n = nat_le 1 n && nat_le n 15

abbrev pub names_port : List ℕ → Bool
names_port path =
    nat_le 1 (length path) && nat_le (length path) 7 && list_all is_port_number path

-- the device at each path of a tree: its own descriptor and speed, the address and the
-- configuration that it has, and whether it is reached
abbrev pub scene_on : Ports → Scene
scene_on roots path = if names_port path then option_map
    (state_seen (reach roots path) (given_below roots (parent_of path))) (state_there roots path)
    else None

-- the devices of a world
abbrev pub scene_of : World → Scene
scene_of w = scene_on w.roots

-- these devices are those that are plugged in the world
abbrev pub ArePlugged : List PluggedDevice → World → Type 0
ArePlugged plugged w = (path : List ℕ) → scene_in plugged path ≡ scene_of w path

abbrev pub IsRightIn : World → List ListedPort → Type 0
IsRightIn w listing = IsRight (scene_of w) listing
