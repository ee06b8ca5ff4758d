-- What was so of a port at a moment of a call on it (11.24.2), and what the call asked of ports.
use Rattle.std.specs.Prelude.{◌≡◌, ◌⊎◌, ◌≤◌, ℕ, List, [], ◌∷◌, ◌++◌, true, false, Option, None}
use Rattle.std.specs.Prelude.{Some, option_map, Result, Ok, Err}
use Rattle.usb_port.specs.{PortState, seen, PortStatus, PortCall, is_reset}
use Rattle.usb_device.specs.{Ports, called, place, path_to, port_there}
use Rattle.usb_world.specs.{Attempt, BusFault, KeepsPendingAt, step_keeps_pending, AsksNothing}
use Rattle.usb_world.specs.{row_reached, LeavesPortAlone, Step, attempt, root_call, event, report}
use Rattle.usb_world.specs.{after, at_attempt, Course, AttemptFails, World, Attempted, is_way}
use Rattle.usb_world.specs.{keeps_pending}
use Rattle.usb_hub.specs.Claims.{AddressMap}
use Rattle.usb_hub.specs.Ownership.{MapHolds, WhileBusWorks}
use Rattle.usb_hub.specs.Marks.{KeepsAll, KeepsCall}
use Rattle.usb_transfer.specs.{Target, NoThreeDamaged, PipeFault, IsNoBusFault}
use Rattle.usb_transfer.specs.declared.fault.PipeFault.TheVariants.{Bus}
use Rattle.usb_hub.specs.Addresses.{IsAt}
use Rattle.usb_hub.specs.Requests.{TouchesNoPort}
use Rattle.usb_hub.specs.CallFailures.{HubServes, NoHubFailed}
use Rattle.usb_hub.specs.ControlSteps.{ControlCourse}
use Rattle.usb_hub.specs.declared.port.HubPort.{HubPort}
use Rattle.usb_hub.specs.declared.port.HubPort.TheVariants.{External}

-- the port is the host's, or that of a device that is reached
pub record OnReachedRow (w : World) (p : List ℕ) : Type 0 where
  pub parent : List ℕ
  pub number : ℕ
  pub is : p ≡ parent ++ (number ∷ [])
  pub reached : row_reached w.roots parent ≡ true

-- The status of a port

-- the status is the port's at a moment of the call, and the call asked nothing of any port, nor
-- attempted anything but at endpoint 0
pub record PortStatusAt (p : List ℕ) (status : PortStatus) (old new : World) : Type 0 where
  pub now : World
  pub port : PortState
  pub stood : port_there now.roots p ≡ Some port
  pub is : status ≡ seen port
  pub before : TouchesNoPort old now
  pub since : TouchesNoPort now new
  pub row : OnReachedRow new p
  -- what is left to do, up to then and since
  pub untold : KeepsAll old now
  pub rested : KeepsAll now new
  pub control : ControlCourse old new

-- So it is of the port at a path, which a hub's port is by what the hub's path claims. Where no
-- three attempts running are damaged, and no address was
-- held twice, a hub that is reached in the end and serves the port, which stood there, tells its
-- status.
pub record ReadsPort (port : HubPort) (old : World) (result : Result PortStatus PipeFault)
    (new : World) : Type 0 where
  pub tells : (f : AddressMap) (p : List ℕ) → IsAt f port p → WhileBusWorks (MapHolds f) old
      → (status : PortStatus) → result ≡ Ok status → PortStatusAt p status old new
  pub why : (hub : Target) (number : ℕ) → port ≡ External hub number → NoThreeDamaged old
      → new.shared ≡ false → 8 ≤ hub.max → (serves : HubServes hub number new)
      → (b : PortState) → port_there old.roots (path_to serves.spot ++ (number ∷ [])) ≡ Some b
      → NoHubFailed result

-- A call at a port

-- the ports that a step's own change comes to: the events that are due come before an attempt
abbrev pub ports_at_step : Step → World → Ports
ports_at_step (attempt a) w = (at_attempt w).roots
ports_at_step (root_call c n) w = w.roots
ports_at_step event w = w.roots
ports_at_step (report line) w = w.roots

-- a step that is about a port: it asks nothing of the ports that are not at or below it, and clears
-- what is pending there only where the call does
pub record IsAbout (p : List ℕ) (c : PortCall) (s : Step) (w : World) : Type 0 where
  pub others : (x : List ℕ) → is_way p x ≡ false → AsksNothing s w x
  pub spares : keeps_pending c [] ≡ true → step_keeps_pending s w p ≡ true

-- besides, it leaves the port itself, or makes the call there
pub record ActsAt (p : List ℕ) (c : PortCall) (s : Step) (w : World) : Type 0 where
  pub port : (place (after s w).roots p ≡ place (ports_at_step s w) p)
      ⊎ (place (after s w).roots p ≡ option_map (called c) (place (ports_at_step s w) p))
  pub about : IsAbout p c s w

-- the port was called at a moment, with nothing before it but steps that are about this port; since
-- then nothing was asked of any port, and nothing was attempted but at endpoint 0
pub record PortCallDone (p : List ℕ) (c : PortCall) (old new : World) : Type 0 where
  pub before : World
  pub repeats : Course (ActsAt p c) old before
  pub last : Step
  pub acts : ActsAt p c last before
  pub done : place (after last before).roots p
      ≡ option_map (called c) (place (ports_at_step last before) p)
  pub since : TouchesNoPort (after last before) new
  pub row : OnReachedRow new p
  -- what is left to do, up to then and since
  pub acted : KeepsCall p c old (after last before)
  pub rested : KeepsAll (after last before) new
  pub control : ControlCourse old new

-- where the bus gave up: these steps, and one more attempt, which it refused
pub record UpToFault (K : Step → World → Type 0) (old : World) (fault : BusFault) (new : World) :
    Type 0 where
  pub mid : World
  pub course : Course K old mid
  pub last : Attempt
  pub refused : Attempted last mid (Err fault) new
  pub fails : mid.fault ≡ None → AttemptFails last mid (Err fault) new

-- a call at the port of a path; where it is PORT_RESET, no path but this and those below it claims
-- address 0
pub record IsCall (f : AddressMap) (port : HubPort) (p : List ℕ) (call : Option PortCall)
    (c : PortCall) (old : World) : Type 0 where
  pub at : IsAt f port p
  pub is : call ≡ Some c
  pub alone : is_reset c ≡ true → (x : List ℕ) → f x ≡ Some 0 → is_way p x ≡ true
  pub owned : WhileBusWorks (MapHolds f) old

-- It acts where it is done. Whatever its answer is, it asks nothing of the ports that are not at or
-- below its own, and what is pending there
-- stays, where the call itself does not clear it. Where no three attempts running are damaged, and
-- no address was held twice, it is done at a hub
-- that is reached in the end and serves the port. It attempts nothing but at endpoint 0.
pub record CommandsPort (port : HubPort) (call : Option PortCall) (old : World)
    (result : Result (Unit {0}) PipeFault) (new : World) : Type 0 where
  pub done : (f : AddressMap) (p : List ℕ) (c : PortCall) → IsCall f port p call c old
      → result ≡ Ok tt → PortCallDone p c old new
  pub rests : (f : AddressMap) (p : List ℕ) (c : PortCall) → IsCall f port p call c old
      → IsNoBusFault result → (x : List ℕ) → is_way p x ≡ false → Course (LeavesPortAlone x) old new
  pub spares : (f : AddressMap) (p : List ℕ) (c : PortCall) → IsCall f port p call c old
      → IsNoBusFault result → keeps_pending c [] ≡ true → Course (KeepsPendingAt p) old new
  pub backlog : (f : AddressMap) (p : List ℕ) (c : PortCall) → IsCall f port p call c old
      → IsNoBusFault result → KeepsCall p c old new
  pub cut : (f : AddressMap) (p : List ℕ) (c : PortCall) → IsCall f port p call c old
      → (fault : BusFault) → result ≡ Err (Bus fault) → UpToFault (IsAbout p c) old fault new
  pub why : (hub : Target) (number : ℕ) → port ≡ External hub number → NoThreeDamaged old
      → new.shared ≡ false → HubServes hub number new → NoHubFailed result
  pub control : (c : PortCall) → call ≡ Some c → IsNoBusFault result → ControlCourse old new
