-- What requests at a port leave.
use Rattle.std.specs.Prelude.{◌≡◌, ◌*◌, ◌+◌, ℕ, List, Bool, true, false, Result, Ok, Err, IfOk}
use Rattle.std.specs.Prelude.{OnOk}
use Rattle.usb_request.specs.{C_PORT_CONNECTION, C_PORT_ENABLE, C_PORT_RESET, PORT_ENABLE}
use Rattle.usb_request.specs.declared.hub_feature.TheConstants.{C_PORT_OVER_CURRENT, C_PORT_SUSPEND}
use Rattle.usb_port.specs.{clear_call, ClearConnectionChange, ClearEnable, ClearEnableChange}
use Rattle.usb_port.specs.{ClearResetChange, PortCall, PortStatus}
use Rattle.usb_world.specs.{World}
use Rattle.usb_transfer.specs.{Target, write_bound, PipeFault}
use Rattle.usb_hub.specs.{AddressMap, KeepsAddresses, MapHolds, WhileBusWorks, HubPort, Root}
use Rattle.usb_hub.specs.{External, IsAt, KeepsAsked, KeepsCleared, CommandsPort, ClearsOfHub}
use Rattle.usb_hub.specs.{ClearsOfPort, PortCallDone, PortCleared, PortRead, PortStatusAt}
use Rattle.usb_hub.specs.{ReadsPort}
use Rattle.usb_enum.specs.{read_bound, CanFail, at_port, EnumFault, ParentLost}
use Rattle.usb_host.specs.Backlog.{ClearsConnection, ClearsReset, RestsCalm}
use Rattle.usb_host.specs.Bounds.{clearing_bound}
use Rattle.usb_host.specs.Changes.{HasOnlyWorldChanges, KeepsEach, is_stuck}
use Rattle.usb_host.specs.HostStates.{HostState}
use Rattle.usb_host.specs.Ownership.{BaresPort}
use Rattle.usb_host.specs.PortHandling.{ClearsChange, Tidies}
use Rattle.usb_host.specs.Ports.{ProgressOnOk, IsDue, Requested}

-- Requests to a port of a world

-- a request was done at a port where it was asked for; where it was not, nothing was done
abbrev pub DoneWhere : Bool → List ℕ → PortCall → World → World → Type 0
DoneWhere true path call old new = PortCallDone path call old new
DoneWhere false path call old new = new ≡ old

-- ClearPortFeature (11.24.2.2) for each change of enable and of reset that a status told, and for
-- no other
pub record ClearsTold (path : List ℕ) (status : PortStatus) (old new : World) : Type 0 where
  pub mid : World
  pub enable : DoneWhere status.enable_changed path ClearEnableChange old mid
  pub reset : DoneWhere status.reset_changed path ClearResetChange mid new

-- the change of connection was cleared, then the status was read, and a port that was enabled was
-- disabled
pub record ClearsAndReads (path : List ℕ) (status : PortStatus) (old new : World) : Type 0 where
  pub mid : World
  pub cleared : PortCallDone path ClearConnectionChange old mid
  pub now : World
  pub told : PortStatusAt path status mid now
  pub disabled : DoneWhere status.enabled path ClearEnable now new

-- the changes of a port that a status told were cleared
pub record TidiesTold (port : HubPort) (status : PortStatus) (old : HostState)
    (result : Result (Unit {0}) EnumFault) (new : HostState) : Type 0 where
  pub reset : OnOk result (status.reset_changed ≡ true → ClearsReset port old.world new.world)
  pub calm : RestsCalm status old result new
  pub clears : (f : AddressMap) (p : List ℕ) → IsAt f port p → WhileBusWorks (MapHolds f) old.world
      → OnOk result (ClearsTold p status old.world new.world)

-- One call after another

-- one call, and where that is done the next, with its answer; the first fault ends it
pub data InOrder {A B : Type 0} (First : HostState → Result B EnumFault → HostState → Type 0)
    (Next : B → HostState → Result A EnumFault → HostState → Type 0) (old : HostState)
    (result : Result A EnumFault) (new : HostState) : Type 0 where
  first_failed : (fault : EnumFault) → First old (Err fault) new → result ≡ Err fault
      → InOrder First Next old result new
  next_done : (answer : B) (mid : HostState) → First old (Ok answer) mid
      → Next answer mid result new → InOrder First Next old result new

-- One request

-- the status of a port was asked for
pub record ShowsPort (port : HubPort) (old : HostState) (result : Result PortStatus EnumFault)
    (new : HostState) : Type 0 where
  pub requested : Requested port (read_bound 4) old result new
  pub answer : Result PortStatus PipeFault
  pub is : result ≡ at_port answer
  pub read : PortRead port old.world answer new.world
  pub tells : ReadsPort port old.world answer new.world
  pub keeps : KeepsAsked port old.world answer new.world

-- a feature of a port was cleared
pub record ClearsFeature (port : HubPort) (feature : ℕ) (old : HostState)
    (result : Result (Unit {0}) EnumFault) (new : HostState) : Type 0 where
  pub requested : Requested port write_bound old result new
  pub answer : Result (Unit {0}) PipeFault
  pub is : result ≡ at_port answer
  pub effect : PortCleared port feature old.world answer new.world
  pub keeps : KeepsCleared port feature old.world answer new.world
  pub calls : CommandsPort port (clear_call feature) old.world answer new.world

-- it was where that was asked for; else nothing was done
pub record ClearsWhere (asked : Bool) (port : HubPort) (feature : ℕ) (old : HostState)
    (result : Result (Unit {0}) EnumFault) (new : HostState) : Type 0 where
  pub so : asked ≡ true → ClearsFeature port feature old result new
  pub not : asked ≡ false → (result ≡ Ok tt) × (new ≡ old)

-- this change of a port was cleared, which asks for nothing else
pub record ClearsChangeOf (port : HubPort) (feature : ℕ) (old : HostState)
    (result : Result (Unit {0}) EnumFault) (new : HostState) : Type 0 where
  pub answer : Result (Unit {0}) PipeFault
  pub is : result ≡ at_port answer
  pub cleared : ClearsOfPort port feature old.world answer new.world

-- it was where it was reported; else nothing was done
pub record ClearsReported (asked : Bool) (port : HubPort) (feature : ℕ) (old : HostState)
    (result : Result (Unit {0}) EnumFault) (new : HostState) : Type 0 where
  pub so : asked ≡ true → ClearsChangeOf port feature old result new
  pub not : asked ≡ false → (result ≡ Ok tt) × (new ≡ old)

-- of the suspend and the over-current, each that a status reports was cleared, in this order
abbrev pub ClearsBoth : HubPort → PortStatus → HostState → Result (Unit {0}) EnumFault → HostState
    → Type 0
ClearsBoth port status =
    InOrder (ClearsReported status.suspend_changed port C_PORT_SUSPEND)
    (λ done. ClearsReported status.over_current_changed port C_PORT_OVER_CURRENT)

-- changes of a port were cleared that ask for nothing else: these
pub record ClearsOthers (port : HubPort) (most : ℕ)
    (Clears : HostState → Result (Unit {0}) EnumFault → HostState → Type 0) (old : HostState)
    (result : Result (Unit {0}) EnumFault) (new : HostState) : Type 0 where
  pub requested : Requested port most old result new
  pub keeps : KeepsEach old.world new.world
  pub clears : Clears old result new

-- a hub was asked for its status, and each change of its own that it reports was cleared
pub record AsksAndClears (hub : Target) (old : World) (result : Result (Unit {0}) EnumFault)
    (new : World) : Type 0 where
  pub answer : Result (Unit {0}) PipeFault
  pub is : result ≡ at_port answer
  pub cleared : ClearsOfHub hub old answer new

-- so it was of the hub that has a port; the root has no change of its own
abbrev pub ClearsHubOf : HubPort → HostState → Result (Unit {0}) EnumFault → HostState → Type 0
ClearsHubOf (Root number) old result new = (result ≡ Ok tt) × (new ≡ old)
ClearsHubOf (External hub number) old result new = AsksAndClears hub old.world result new.world

-- changes of a hub itself were cleared: each that it reports
pub record ClearsOwn (port : HubPort) (old : HostState) (result : Result (Unit {0}) EnumFault)
    (new : HostState) : Type 0 where
  pub requested : Requested port (read_bound 4 + 2 * write_bound) old result new
  pub addresses : KeepsAddresses old.world new.world
  pub clears : ClearsHubOf port old result new

-- Several

-- of the changes of enable and of reset, each that a status reports was cleared, in this order
abbrev pub ClearsInTurn : HubPort → PortStatus → HostState → Result (Unit {0}) EnumFault
    → HostState → Type 0
ClearsInTurn port status =
    InOrder (ClearsWhere status.enable_changed port C_PORT_ENABLE)
    (λ done. ClearsWhere status.reset_changed port C_PORT_RESET)

-- the changes of enable and of reset that a status told were cleared
pub record TidiesPort (port : HubPort) (status : PortStatus) (old : HostState)
    (result : Result (Unit {0}) EnumFault) (new : HostState) : Type 0 where
  pub requested : Requested port (2 * write_bound) old result new
  pub tidies : Tidies port old.world result new.world
  pub clears : TidiesTold port status old result new
  pub order : ClearsInTurn port status old result new

-- and the others; of a world's port none is told
pub record SettlesPort (port : HubPort) (status : PortStatus) (old : HostState)
    (result : Result (Unit {0}) EnumFault) (new : HostState) : Type 0 where
  pub requested : Requested port (4 * write_bound) old result new
  pub keeps : KeepsEach old.world new.world
  pub tidies : HasOnlyWorldChanges status → TidiesPort port status old result new
  -- whatever is reported: each change is cleared, in this order
  pub order : InOrder (TidiesPort port status) (λ done. ClearsOthers port (2 * write_bound)
      (ClearsBoth port status)) old result new

-- for a status behind the clearing of a change of connection: a hub that has not cleared it is
-- lost; else a port that is enabled was disabled, and the answer is the status
pub record DisablesAfter (port : HubPort) (status : PortStatus) (old : HostState)
    (result : Result PortStatus EnumFault) (new : HostState) : Type 0 where
  pub stuck : is_stuck port status ≡ true → (result ≡ Err ParentLost) × (new ≡ old)
  pub steady : is_stuck port status ≡ false
      → InOrder (ClearsWhere status.enabled port PORT_ENABLE)
      (λ done h answer k. (answer ≡ Ok status) × (k ≡ h)) old result new

-- C_PORT_CONNECTION was cleared, and then the status was asked for
abbrev pub ClearsAndAsks : HubPort → HostState → Result PortStatus EnumFault → HostState → Type 0
ClearsAndAsks port =
    InOrder (ClearsFeature port C_PORT_CONNECTION)
    (λ done. InOrder (ShowsPort port) (DisablesAfter port))

-- a change of connection was cleared, and what is there was shown
pub record ClearsPort (port : HubPort) (old : HostState) (result : Result PortStatus EnumFault)
    (new : HostState) : Type 0 where
  pub requested : Requested port clearing_bound old result new
  pub gains : IsDue old.world port → ProgressOnOk result old.world new.world
  pub keeps : ClearsChange port old.world result new.world
  pub paid : IfOk result (λ status. ClearsConnection port status old.world new.world)
  pub reads : (f : AddressMap) (p : List ℕ) → IsAt f port p → WhileBusWorks (MapHolds f) old.world
      → IfOk result (λ status. ClearsAndReads p status old.world new.world)
  pub order : ClearsAndAsks port old result new

-- C_PORT_ENABLE was cleared, then PORT_ENABLE, and then the status was asked for
abbrev pub ClearsAndShows : HubPort → HostState → Result PortStatus EnumFault → HostState → Type 0
ClearsAndShows port =
    InOrder (ClearsFeature port C_PORT_ENABLE)
    (λ done. InOrder (ClearsFeature port PORT_ENABLE) (λ done. ShowsPort port))

-- a change of enable was cleared, the port disabled, and what is there was shown
pub record ClearsError (port : HubPort) (old : HostState) (result : Result PortStatus EnumFault)
    (new : HostState) : Type 0 where
  pub requested : Requested port clearing_bound old result new
  pub gains : CanFail port → ProgressOnOk result old.world new.world
  pub bares : BaresPort port old.world result new.world
  pub order : ClearsAndShows port old result new
