-- What is plugged where, as the events of a plan have it.
use Rattle.std.specs.Prelude.{ℕ, List, [], ◌∷◌, length, Bool, true, ◌&&◌, ◌||◌, ◌==◌, not, filter}
use Rattle.std.specs.Prelude.{Option, None, Some, nat_eq, nat_le, slice_index, slice_get}
use Rattle.std.specs.List.{starts_with}
use Rattle.std.specs.Ordering.{is_eq}
use Rattle.std.specs.Map.{lookup}
use Rattle.std.specs.BTreeMap.{insert_entry}
use Rattle.usb_port.specs.{path_cmp, parent_of, port_on_hub}
use Rattle.usb_device.specs.{Spec}
pub use Rattle.usb_device.specs.{hub_ports}
use Rattle.usb_world.specs.declared.event.Event.{Event}
use Rattle.usb_world.specs.declared.event.Action.{Action}
use Rattle.usb_world.specs.declared.event.Action.TheVariants.{Change, Ask}
use Rattle.usb_world.specs.declared.event.Change.TheVariants.{Plug, Unplug}

-- a finite map: each path where a device is plugged, with the device's index, in the order of paths
abbrev pub PluggedMap : Type 0
PluggedMap = List (List ℕ × ℕ)

-- the device plugged at a path
abbrev pub index_at : PluggedMap → List ℕ → Option ℕ
index_at tree path = lookup (λ p. is_eq (path_cmp path p)) tree

-- without the device at a path and all below it
unfoldable pub plugged_without : List ℕ → PluggedMap → PluggedMap
plugged_without path tree = filter (λ place. not (starts_with nat_eq place.0 path)) tree

abbrev pub plugged_after : Action → PluggedMap → PluggedMap
plugged_after (Change (Plug path device)) tree = insert_entry path_cmp tree path device
plugged_after (Change (Unplug path)) tree = plugged_without path tree
plugged_after (Ask ask) tree = tree

-- what is plugged where after the events, where it was so before them
unfoldable pub plugged_by : PluggedMap → List Event → PluggedMap
plugged_by tree [] = tree
plugged_by tree (e ∷ events) = plugged_by (plugged_after e.action tree) events

-- how many ports a device has
unfoldable pub spec_port_count : Option Spec → ℕ
spec_port_count None = 0
spec_port_count (Some device) = hub_ports device.hub

abbrev pub device_indexed : List Spec → Option ℕ → Option Spec
device_indexed devices None = None
device_indexed devices (Some index) = slice_get devices index

-- the first number is a root port's
abbrev pub is_rooted : ℕ → List ℕ → Bool
is_rooted roots path = nat_le (slice_index path 0) roots

-- the device plugged at the parent's path has the port; a root port has no parent
unfoldable pub parent_has : List Spec → PluggedMap → Option (List ℕ) → ℕ → Bool
parent_has devices tree None port = true
parent_has devices tree (Some parent) port =
    nat_le port (spec_port_count (device_indexed devices (index_at tree parent)))

-- a root port, or a port of a plugged device
abbrev pub has_port : ℕ → List Spec → PluggedMap → List ℕ → Bool
has_port roots devices tree path = is_rooted roots path &&
    (length path == 1 || parent_has devices tree (parent_of path) (port_on_hub path))
