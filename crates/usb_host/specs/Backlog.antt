-- What requests at a port do to what is left to do.
use Rattle.std.specs.Prelude.{◌≡◌, ◌≤◌, ◌⊎◌, ◌+◌, ◌*◌, ⊤, ℕ, List, true, false, None, Some, is_some}
use Rattle.std.specs.Prelude.{Result, Ok, Err}
use Rattle.std.specs.List.{count_by}
use Rattle.usb_port.specs.{PortState, is_attached, PortStatus}
use Rattle.usb_device.specs.{empty, place, port_there, state_there}
use Rattle.usb_world.specs.{AtPorts, World}
use Rattle.usb_hub.specs.{AddressMap, MapHolds, WhileBusWorks, KeepsAll, KeepsPlain, OwesAnew}
use Rattle.usb_hub.specs.{PaysBare, PaysLook, PaysStray, HubPort, IsAt, PortStatusAt}
use Rattle.usb_enum.specs.{EnumFault, ParentLost, Bus, Memory, read_bound, IsOrderly, HasPlanWithin}
use Rattle.usb_table.specs.{Entries, is_hub}
use Rattle.usb_host.specs.Bounds.{clearing_bound, deciding_bound}
use Rattle.usb_host.specs.HostStates.{HostState}
use Rattle.usb_host.specs.PortHandling.{LetsGoOn}
use Rattle.usb_host.specs.Progress.{HostSteps}
use Rattle.usb_host.specs.Soundness.{HostInvariant}

-- how many hubs are listed
abbrev pub hubs : Entries → ℕ
hubs entries = count_by (λ e. is_hub e.1) entries

-- the port's change of reset was cleared at a moment of the call
pub record ResetCleared (p : List ℕ) (old new : World) : Type 0 where
  pub mid : World
  pub acted : KeepsAll old mid
  pub cleared : (b : PortState) → port_there mid.roots p ≡ Some b → b.reset_changed ≡ false
  pub rested : KeepsAll mid new

abbrev pub ClearsReset : HubPort → World → World → Type 0
ClearsReset port old new = (f : AddressMap) (p : List ℕ) → IsAt f port p
    → WhileBusWorks (MapHolds f) old → ResetCleared p old new

-- the port's change of connection was cleared at a moment of the call, and at a later one it showed
-- this status
pub record ChangeCleared (p : List ℕ) (status : PortStatus) (old new : World) : Type 0 where
  pub mid : World
  pub acted : KeepsAll old mid
  pub cleared : (b : PortState) → port_there mid.roots p ≡ Some b → b.connection_changed ≡ false
  pub now : World
  pub between : KeepsAll mid now
  pub rested : KeepsAll now new
  -- where ports are in order, nothing is attached at an empty port, and a device stands at one that
  -- is connected
  pub bare : IsOrderly old → (b : PortState) → place mid.roots p ≡ Some (empty b)
      → is_attached b.attached ≡ false
  pub stood : IsOrderly old → status.connected ≡ true → is_some (state_there now.roots p) ≡ true

abbrev pub ClearsConnection : HubPort → PortStatus → World → World → Type 0
ClearsConnection port status old new = (f : AddressMap) (p : List ℕ) → IsAt f port p
    → WhileBusWorks (MapHolds f) old → ChangeCleared p status old new

-- where a status tells of no change but of the connection, nothing is done
abbrev pub RestsCalm : PortStatus → HostState → Result (Unit {0}) EnumFault → HostState → Type 0
RestsCalm status old result new = status.enable_changed ≡ false → status.reset_changed ≡ false
    → (result ≡ Ok tt) × (new ≡ old)

-- nothing is found: few attempts were made, and no more hubs are listed
pub record FindsNone (most : ℕ) (old new : HostState) : Type 0 where
  pub went : HostSteps most old new
  pub hubs : hubs new.entries ≤ hubs old.entries

-- Looks

-- a look at a port was paid, counted from where its change was told: a device was seen there; or
-- none was, and few attempts were made
pub data LookPaid (before : World) (old new : HostState) : Type 0 where
  seen : PaysLook before new.world → LookPaid before old new
  unseen : PaysBare before new.world → FindsNone clearing_bound old new → LookPaid before old new

-- a hub that is lost may be so before the change is cleared: few attempts were made, and no more is
-- left to do
abbrev pub LookPays : World → HostState → Result (Unit {0}) EnumFault → HostState → Type 0
LookPays before old (Ok done) new = LookPaid before old new
LookPays before old (Err ParentLost) new = LookPaid before old new
    ⊎ (KeepsPlain before new.world × FindsNone clearing_bound old new)
LookPays before old (Err (Bus fault)) new = ⊤
LookPays before old (Err Memory) new = ⊤

-- so it is where a status told of the change, as long as the bus is at work
pub record PaysAtLook (path : List ℕ) (old : HostState) (result : Result (Unit {0}) EnumFault)
    (new : HostState) : Type 0 where
  pub pays : HostInvariant old → new.world.fault ≡ None → (before : World) (status : PortStatus)
      → AtPorts before.left → PortStatusAt path status before old.world
      → status.connection_changed ≡ true → LookPays before old result new
  -- where the plan plugs no device whose texts say more bytes, so few attempts are made, whatever
  -- the answer is
  pub few : HostInvariant old → (most : ℕ) → (old.world.fault ≡ None → HasPlanWithin most old.world)
      → new.world.attempts ≤ old.world.attempts + (clearing_bound + 250000 + 100 * most)
  -- nothing need have been told: a look is owed again for each device at most
  pub anew : HostInvariant old → AtPorts old.world.left → LetsGoOn result → new.world.fault ≡ None
      → OwesAnew old.world new.world

-- Ports that are served

-- a port was served: a look was paid; or few attempts were made, and something less was paid; or
-- its status told of no change, and nothing else was done
pub data ServePaid (path : List ℕ) (old new : HostState) : Type 0 where
  found : PaysLook old.world new.world → ServePaid path old new
  bare : PaysBare old.world new.world → FindsNone deciding_bound old new → ServePaid path old new
  tidied : PaysStray old.world new.world → FindsNone deciding_bound old new → ServePaid path old new
  calm : (status : PortStatus) (mid : World) → PortStatusAt path status old.world mid
      → status.connection_changed ≡ false → status.reset_changed ≡ false
      → KeepsPlain old.world new.world → FindsNone (read_bound 4) old new → ServePaid path old new

abbrev pub ServePays : List ℕ → HostState → Result (Unit {0}) EnumFault → HostState → Type 0
ServePays path old (Ok done) new = ServePaid path old new
ServePays path old (Err ParentLost) new = ServePaid path old new
    ⊎ (KeepsPlain old.world new.world × FindsNone deciding_bound old new)
ServePays path old (Err (Bus fault)) new = ⊤
ServePays path old (Err Memory) new = ⊤

-- so it is as long as the bus is at work, where the events to come are at ports
pub record PaysAtServe (path : List ℕ) (old : HostState) (result : Result (Unit {0}) EnumFault)
    (new : HostState) : Type 0 where
  pub pays : HostInvariant old → AtPorts old.world.left → new.world.fault ≡ None
      → ServePays path old result new
  pub few : HostInvariant old → (most : ℕ) → (old.world.fault ≡ None → HasPlanWithin most old.world)
      → new.world.attempts ≤ old.world.attempts + (deciding_bound + 250000 + 100 * most)
