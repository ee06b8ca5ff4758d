-- What an event meets.
use Rattle.std.specs.Prelude.{ℕ, codes, List, [], Bool, true, ◌&&◌, nat_le, Option, Some, None}
use Rattle.std.specs.Prelude.{Result, Ok, Err, slice_get}
use Rattle.toml.specs.Data.{Data, Members, as_table, get_member}
use Rattle.usb_device.specs.{Spec}
use Rattle.usb_plan.specs.declared.entry_fault.EntryFault.{EntryFault}
use Rattle.usb_plan.specs.Value.{number_or}
use Rattle.usb_port.specs.{parent_of, port_on_hub}
use Rattle.usb_world.specs.{Event, PluggedMap, has_port, index_at, plugged_by}

-- the number of root ports, whether hubs may be wide, the devices of the plan, how many ports the
-- key `ports` says of each, and which devices are plugged where
pub record SceneData : Type 0 where
  pub roots : ℕ
  pub wide : Bool
  pub devices : List Spec
  pub ports : List ℕ
  pub plugged : PluggedMap

-- after these events, with nothing plugged before them
abbrev pub scene_after : ℕ → Bool → List Spec → List ℕ → List Event → SceneData
scene_after roots wide devices ports events = record {
  roots = roots;
  wide = wide;
  devices = devices;
  ports = ports;
  plugged = plugged_by [] events;
}

abbrev pub read_count : Result ℕ EntryFault → ℕ
read_count (Ok count) = count
read_count (Err k) = 0

abbrev pub ports_in : Option Members → ℕ
ports_in None = 0
ports_in (Some ms) = read_count (number_or 0 1 15 (get_member (codes "ports") ms))

-- how many ports the key `ports` of a device's table says, 0 without it
unfoldable pub ports_said : Data → ℕ
ports_said d = ports_in (as_table d)

abbrev pub count_of : Option ℕ → ℕ
count_of None = 0
count_of (Some count) = count

-- how many ports are said of the device of an index
unfoldable pub ports_at : List ℕ → Option ℕ → ℕ
ports_at ports None = 0
ports_at ports (Some index) = count_of (slice_get ports index)

-- the device plugged at the parent's path is said to have the port; a root port has no parent
unfoldable pub says_port : List ℕ → PluggedMap → Option (List ℕ) → ℕ → Bool
says_port ports tree None port = true
says_port ports tree (Some parent) port = nat_le port (ports_at ports (index_at tree parent))

-- a root port, or a port that a plugged device has and is said to have
abbrev pub is_port : SceneData → List ℕ → Bool
is_port scene path = has_port scene.roots scene.devices scene.plugged path
    && says_port scene.ports scene.plugged (parent_of path) (port_on_hub path)
