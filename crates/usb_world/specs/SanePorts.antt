-- What is so of every port, whatever came.
use Rattle.std.specs.Prelude.{◌≡◌, ◌&&◌, true, false, length, ⊤}
use Rattle.usb_port.specs.{PortState, nothing, is_attached, speed_of, has_change}
use Rattle.usb_device.specs.{Spec, IsSpec, Ports, ended, vacant, taken, empty, full, row_of, Place}
use Rattle.usb_world.specs.PluggedDevices.{hub_ports}

-- an enabled port is powered and sees something attached; only a powered port tells of a change,
-- and none of a change of its enable
pub record IsSanePort (b : PortState) : Type 0 where
  pub enabled : b.enable ≡ true → (b.power && is_attached b.attached) ≡ true
  pub changed : has_change b ≡ true → b.power ≡ true
  pub steady : b.enable_changed ≡ false

-- a device has as many ports as its description says: a function has none
abbrev pub HasItsPorts : Spec → Ports → Type 0
HasItsPorts spec below = length (row_of below) ≡ hub_ports spec.hub

-- besides, nothing is attached at an empty port, and at another the speed of its device, which is
-- as the rules say and has its ports
unfoldable pub Consistent : Ports → Type 0
Consistent ended = ⊤
Consistent (vacant b k) = IsSanePort b × (b.attached ≡ nothing) × Consistent k
Consistent (taken b s a k) = IsSanePort b × (b.attached ≡ speed_of s.spec.low) × Consistent a
    × Consistent k × IsSpec s.spec × HasItsPorts s.spec a

unfoldable pub ConsistentPlace : Place → Type 0
ConsistentPlace (empty b) = IsSanePort b × (b.attached ≡ nothing)
ConsistentPlace (full b s a) = IsSanePort b × (b.attached ≡ speed_of s.spec.low) × Consistent a
    × IsSpec s.spec × HasItsPorts s.spec a
