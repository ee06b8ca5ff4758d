-- Changes of a hub and of its ports that ask for nothing but their clearing.
use Rattle.std.specs.Prelude.{◌≡◌, ◌&&◌, ⊤, Bool, false, not, Option, is_some}
use Rattle.usb_port.specs.{PortStatus}
use Rattle.usb_world.specs.{World}
use Rattle.usb_hub.specs.{KeepsAddresses, HubPort, Root, External, KeepsDevices}
use Rattle.usb_enum.specs.{Accepted}

-- a status tells of no change of suspend nor of over-current, as that of a port of a world does
abbrev pub HasOnlyWorldChanges : PortStatus → Type 0
HasOnlyWorldChanges status = (status.suspend_changed ≡ false)
    × (status.over_current_changed ≡ false)

-- a hub has disabled the port of an accepted device on an error, with something still connected
-- (11.8.1); no hub of a world does
abbrev pub was_disabled : HubPort → PortStatus → Option Accepted → Bool
was_disabled (Root number) status device = false
was_disabled (External hub port) status device =
    status.enable_changed && (status.connected && (not status.enabled && is_some device))

-- a hub has not cleared a change of connection that its port tells right behind the clearing, where
-- that is enabled: whatever is plugged or unplugged between disables it; no hub of a world does
abbrev pub is_stuck : HubPort → PortStatus → Bool
is_stuck (Root number) status = false
is_stuck (External hub port) status = status.enabled && status.connection_changed

-- each reachable device keeps its address, and stays as it was
pub record KeepsEach (old new : World) : Type 0 where
  pub addresses : KeepsAddresses old new
  pub devices : KeepsDevices old new

-- a root port whose change of connection was cleared tells of none, as one of a world; of a port of
-- a hub nothing is said
abbrev pub IsCleared : HubPort → PortStatus → Type 0
IsCleared (Root number) status = status.connection_changed ≡ false
IsCleared (External hub port) status = ⊤
