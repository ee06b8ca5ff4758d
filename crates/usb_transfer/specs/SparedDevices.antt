-- Devices that a request leaves where they are: PORT_RESET of a hub's port gives the device there
-- address 0 (11.24.2.13), and no other request resets one.
use Rattle.std.specs.Prelude.{◌≡◌, ◌≢◌, Some, true, false}
use Rattle.usb_request.specs.{Setup}
use Rattle.usb_device.specs.{State, Location, reach_on, state_on}
use Rattle.usb_world.specs.{address_of, is_harmless, Relation, Was, World}
use Rattle.usb_transfer.specs.declared.target.Target.{Target}

-- after such a reset, asked of a device with an address, one that has an address was not reset
abbrev pub IsSpared : Target → Setup → State → Type 0
IsSpared t request s = is_harmless request ≡ false → (t.addr ≢ 0) × (address_of s ≢ 0)

-- so it is of each device that is reachable in the new world and was not reset
abbrev pub EachSpared : Target → Setup → Relation → World → World → Type 0
EachSpared t request R old new = (x : Location) (s : State) → reach_on new.roots x ≡ true
    → state_on new.roots x ≡ Some s → IsSpared t request s → Was R old x s
