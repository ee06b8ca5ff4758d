-- What the parts of a port's handling keep of what is known of ports and devices.
use Rattle.usb_device.specs.{path_to}
use Rattle.std.specs.Prelude.{◌≡◌, ◌⊎◌, ◌≤◌, ◌+◌, ◌*◌, ⊤, ℕ, List, [], ◌∷◌, ◌++◌, Bool, true, false}
use Rattle.std.specs.Prelude.{None, Some, IsSomeAnd, Result, Ok, Err, Option, OnOk, OnErr, IfOk}
use Rattle.usb_port.specs.{parent_of, PortStatus}
use Rattle.usb_world.specs.{has_power, pending, is_way, LeavesPortAlone, SameDeviceOrPending}
use Rattle.usb_world.specs.{Course, World}
use Rattle.usb_hub.specs.{AddressMap, MapHolds, WhileBusWorks, KeepsAddresses, HubPort, External}
use Rattle.usb_hub.specs.{HubServes, IsAt, KeepsDevices, PortStatusAt, ControlCourse, TouchesNoPort}
use Rattle.usb_hub.specs.{KeepsAll, KeepsFound}
use Rattle.usb_transfer.specs.{Target, NoThreeDamaged, write_bound}
use Rattle.usb_enum.specs.{Lost, EnumFault, ParentLost, Bus, Memory, Finding, IsKnownAs, IsOccupied}
use Rattle.usb_enum.specs.{IsInOrder, CanFail, HasPlanWithin}
use Rattle.usb_enum.specs.declared.finding.Finding.TheVariants.{Refused}
use Rattle.usb_host.specs.Bounds.{drop_bound}
use Rattle.usb_host.specs.BulkPipes.{KeepsBulk, StaysWhere}
use Rattle.usb_host.specs.HostStates.{HostState}
use Rattle.usb_host.specs.Plugs.{KeepsPlugs}
use Rattle.usb_host.specs.Progress.{HostRuns}
use Rattle.usb_host.specs.Ownership.{IsOwned, FinishesPort, BaresPort, BaresUpward, KeepsDisabled}
use Rattle.usb_host.specs.Soundness.{HostInvariant, IsSoundBut, IsDroppable, IsFairTo}
use Rattle.usb_host.specs.Soundness.{RefusalsJustified, CausesBut}
use Rattle.usb_host.specs.declared.fault.HostFault.{HostFault}

-- Requests to a port

-- the host goes on after it
abbrev pub LetsGoOn : {A : Type 0} → Result A EnumFault → Type 0
LetsGoOn (Ok done) = ⊤
LetsGoOn (Err ParentLost) = ⊤
LetsGoOn (Err (Bus fault)) = ⊥
LetsGoOn (Err Memory) = ⊥

-- nothing is asked of the ports that are not at a path nor below it
abbrev pub RestElsewhere : List ℕ → World → World → Type 0
RestElsewhere p w v = (x : List ℕ) → is_way p x ≡ false → Course (LeavesPortAlone x) w v

-- the port has power on its whole way, or a change of connection is pending above it
abbrev pub HasWay : World → List ℕ → Type 0
HasWay w p = (has_power w.roots p ≡ true)
    ⊎ ((hub : List ℕ) × (number : ℕ) × (p ≡ hub ++ number ∷ []) × (pending w.roots hub ≡ true))

-- where its hub serves a port in the end, a change of connection is pending at the hub
abbrev pub IsLost : HubPort → List ℕ → World → Type 0
IsLost port p w = (hub : Target) (number : ℕ) → port ≡ External hub number → 8 ≤ hub.max
    → (serves : HubServes hub number w) → p ≡ path_to serves.spot ++ (number ∷ [])
    → pending w.roots (path_to serves.spot) ≡ true

-- a status was asked: each device stays as it was, nothing is asked of any port, and the status is
-- the port's at a moment of the call; no more is left to do, but by events
pub record Watches (port : HubPort) (old : World) (result : Result PortStatus EnumFault)
    (new : World) : Type 0 where
  pub addresses : KeepsAddresses old new
  pub devices : KeepsDevices old new
  pub rests : LetsGoOn result → TouchesNoPort old new
  pub backlog : LetsGoOn result → KeepsAll old new
  pub told : (f : AddressMap) (p : List ℕ) → IsAt f port p → WhileBusWorks (MapHolds f) old
      → (status : PortStatus) → result ≡ Ok status → PortStatusAt p status old new
  -- a hub answers only while the bus is at work
  pub still : CanFail port → OnOk result (old.fault ≡ None)
  pub lost : (p : List ℕ) → HasWay old p → NoThreeDamaged old → new.fault ≡ None
      → new.shared ≡ false → result ≡ Err ParentLost → IsLost port p new

-- what is known of a port stays so; what pends there pends; and where it is powered on its whole
-- way, it stands as it stood, or a change is pending
pub record HoldsAt (x : List ℕ) (w v : World) : Type 0 where
  pub known : (listed : Option Finding) → IsKnownAs w x listed → IsKnownAs v x listed
  pub pends : pending w.roots x ≡ true → pending v.roots x ≡ true
  pub stands : has_power w.roots x ≡ true → SameDeviceOrPending w v x

-- what an earlier reset or error left of a port is cleared: whatever was known of it and of the
-- ports below it is so
pub record Tidies (port : HubPort) (old : World) (result : Result (Unit {0}) EnumFault)
    (new : World) : Type 0 where
  pub addresses : KeepsAddresses old new
  pub devices : KeepsDevices old new
  pub others : (f : AddressMap) (p : List ℕ) → IsAt f port p → WhileBusWorks (MapHolds f) old
      → LetsGoOn result → RestElsewhere p old new
  pub stays : (f : AddressMap) (p : List ℕ) → IsAt f port p → WhileBusWorks (MapHolds f) old
      → result ≡ Ok tt
      → (x : List ℕ) → is_way p x ≡ true → HoldsAt x old new
  -- no more is left to do, but by events
  pub backlog : (f : AddressMap) (p : List ℕ) → IsAt f port p → WhileBusWorks (MapHolds f) old
      → LetsGoOn result → KeepsAll old new
  pub lost : (p : List ℕ) → NoThreeDamaged old → new.fault ≡ None → new.shared ≡ false
      → result ≡ Err ParentLost → IsLost port p new

-- what a status decides: a device stands there, or none; or a change of connection is pending
abbrev pub Decides : Bool → World → List ℕ → Type 0
Decides true w p = IsOccupied w p
Decides false w p = IsKnownAs w p None

-- the change of a port is cleared, and its status read: that decides, where ports are in order
pub record ClearsChange (port : HubPort) (old : World) (result : Result PortStatus EnumFault)
    (new : World) : Type 0 where
  pub bares : BaresPort port old result new
  pub devices : KeepsDevices old new
  pub others : (f : AddressMap) (p : List ℕ) → IsAt f port p → WhileBusWorks (MapHolds f) old
      → LetsGoOn result → RestElsewhere p old new
  pub decides : (f : AddressMap) (p : List ℕ) → IsAt f port p → WhileBusWorks (MapHolds f) old
      → HasWay old p → IsInOrder old → new.fault ≡ None
      → IfOk result (λ status. Decides status.connected new p)
  -- no more is left to do, but by events
  pub backlog : (f : AddressMap) (p : List ℕ) → IsAt f port p → WhileBusWorks (MapHolds f) old
      → LetsGoOn result → KeepsAll old new
  pub lost : (f : AddressMap) (p : List ℕ) → IsAt f port p → WhileBusWorks (MapHolds f) old
      → HasWay old p → NoThreeDamaged old → new.fault ≡ None → new.shared ≡ false
      → result ≡ Err ParentLost → IsLost port p new

-- At a port whose hub may be lost

-- what is known is so; where the hub is lost, it may be dropped
abbrev pub InvariantAfterPort : List ℕ → Result (Unit {0}) EnumFault → HostState → Type 0
InvariantAfterPort path (Ok done) new = HostInvariant new
InvariantAfterPort path (Err ParentLost) new =
    IsSomeAnd (parent_of path) (λ hub. IsDroppable hub new)
InvariantAfterPort path (Err (Bus fault)) new = ⊤
InvariantAfterPort path (Err Memory) new = ⊤

-- each refused device has its cause; where the hub is lost, a change is pending there
abbrev pub PortCaused : List ℕ → Result (Unit {0}) EnumFault → HostState → Type 0
PortCaused path (Ok done) new = RefusalsJustified new.options new.world new.entries
PortCaused path (Err ParentLost) new =
    IsSomeAnd (parent_of path) (λ hub. (pending new.world.roots hub ≡ true)
    × CausesBut new.options hub new.world new.entries)
PortCaused path (Err (Bus fault)) new = ⊤
PortCaused path (Err Memory) new = ⊤

-- a port is served
pub record ServesSound (path : List ℕ) (old : HostState) (result : Result (Unit {0}) EnumFault)
    (new : HostState) : Type 0 where
  pub sound : HostInvariant old → InvariantAfterPort path result new
  pub bulk : HostInvariant old → LetsGoOn result → new.world.fault ≡ None → KeepsBulk old new
  pub cut : HostInvariant old → OnErr result (StaysWhere (new.world.fault ≡ None) old new)
  pub plugs : HostInvariant old → new.world.fault ≡ None → KeepsPlugs old new
  pub caused : HostInvariant old → IsFairTo old.world new.world
      → RefusalsJustified old.options old.world old.entries → PortCaused path result new

-- a port of which nothing is listed, and where a device stands or a change is pending
pub record IsOpen (path : List ℕ) (h : HostState) : Type 0 where
  pub owned : IsOwned h
  pub but : IsSoundBut path h
  pub there : h.world.fault ≡ None → IsOccupied h.world path

-- what is there is found and entered
pub record FindsSound (path : List ℕ) (old : HostState) (result : Result (Unit {0}) EnumFault)
    (new : HostState) : Type 0 where
  pub sound : IsOpen path old → InvariantAfterPort path result new
  pub bulk : IsOpen path old → LetsGoOn result → new.world.fault ≡ None → KeepsBulk old new
  pub cut : IsOpen path old → OnErr result (StaysWhere (new.world.fault ≡ None) old new)
  -- no more is left to do, but by events, where the ports of the device and the port's reset are
  -- marked
  pub backlog : IsOpen path old → new.world.fault ≡ None → KeepsFound path old.world new.world
  -- where the plan plugs no device whose texts say more bytes, so few attempts are made
  pub few : IsOpen path old → (most : ℕ) → (old.world.fault ≡ None → HasPlanWithin most old.world)
      → new.world.attempts ≤ old.world.attempts + (250000 + 100 * most)
  pub caused : IsOpen path old → IsFairTo old.world new.world
      → CausesBut old.options path old.world old.entries
      → PortCaused path result new

-- the hub of a port that was served is dropped, where it is lost
pub record DropsLost (path : List ℕ) (served : Result (Unit {0}) EnumFault) (old : HostState)
    (result : Result (Unit {0}) HostFault) (new : HostState) : Type 0 where
  pub owned : FinishesPort path served old result new
  pub sound : InvariantAfterPort path served old → OnOk result (HostInvariant new)
  -- no more is left to do, but by events
  pub backlog : InvariantAfterPort path served old
      → OnOk result (new.world.fault ≡ None → KeepsAll old.world new.world)
  pub bulk : InvariantAfterPort path served old
      → OnOk result (new.world.fault ≡ None → KeepsBulk old new)
  pub cut : InvariantAfterPort path served old
      → OnErr result (StaysWhere (new.world.fault ≡ None) old new)
  pub plugs : OnOk result (KeepsPlugs old new)
  pub caused : InvariantAfterPort path served old → IsFairTo old.world new.world
      → PortCaused path served old
      → OnOk result (RefusalsJustified new.options new.world new.entries)

-- Where a hub is dropped

-- a port passes nothing on: what is known elsewhere is so, and a refused device stands there, or a
-- change is pending
pub record IsDroppedAt (path : List ℕ) (h : HostState) : Type 0 where
  pub but : IsSoundBut path h
  pub there : h.world.fault ≡ None → IsKnownAs h.world path (Some (Refused Lost))

-- what pends where a port was told to pass nothing on, and where it could not be told
abbrev pub Disabled : Bool → List ℕ → HostState → Type 0
Disabled true path new = (pending new.world.roots path ≡ true)
    × CausesBut new.options path new.world new.entries
Disabled false path new = IsSomeAnd (parent_of path) (λ hub. (pending new.world.roots hub ≡ true)
    × CausesBut new.options hub new.world new.entries)

-- a port on the way is told to pass nothing on: it does; or, where it could not be told, the hub
-- above it may be dropped
pub record DisablesOnWay (path : List ℕ) (old : HostState) (result : Result Bool HostFault)
    (new : HostState) : Type 0 where
  pub goes : HostRuns write_bound old new
  pub owned : KeepsDisabled path old result new
  pub devices : KeepsDevices old.world new.world
  pub control : new.world.fault ≡ None → ControlCourse old.world new.world
  pub done : IsDroppable path old → result ≡ Ok true → IsDroppedAt path new
  pub failed : IsDroppable path old → result ≡ Ok false
      → IsSomeAnd (parent_of path) (λ hub. IsDroppable hub new)
  -- no more is left to do, but by events
  pub backlog : IsDroppable path old → new.world.fault ≡ None → KeepsAll old.world new.world
  pub caused : IsDroppable path old → IsFairTo old.world new.world → pending old.world.roots path
      ≡ true → CausesBut old.options path old.world old.entries
      → IfOk result (λ done. Disabled done path new)

-- the first port on the way up that can be told passes nothing on
pub record Climbs (first : List ℕ) (old : HostState) (result : Result (List ℕ) HostFault)
    (new : HostState) : Type 0 where
  pub goes : HostRuns drop_bound old new
  pub bares : BaresUpward first old result new
  pub devices : KeepsDevices old.world new.world
  pub control : new.world.fault ≡ None → ControlCourse old.world new.world
  pub sound : IsDroppable first old → IfOk result (λ path. IsDroppedAt path new)
  -- no more is left to do, but by events
  pub backlog : IsDroppable first old → new.world.fault ≡ None → KeepsAll old.world new.world
  pub caused : IsDroppable first old → IsFairTo old.world new.world → pending old.world.roots first
      ≡ true → CausesBut old.options first old.world old.entries
      → IfOk result (λ path. (pending new.world.roots path ≡ true)
      × CausesBut new.options path new.world new.entries)
