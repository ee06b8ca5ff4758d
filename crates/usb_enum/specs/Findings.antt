-- What an enumeration finds, and what it leaves.
use Rattle.std.specs.Prelude.{◌≡◌, ◌⊎◌, ◌≤◌, ℕ, ◌+◌, ◌*◌, List, true, false, Option}
use Rattle.std.specs.Prelude.{None, Some, Result, Ok, Err, IfOk, IfSome, MatchResult, length}
use Rattle.usb_request.specs.{PORT_ENABLE, clear_port_feature}
use Rattle.usb_device.specs.{state_there, State}
use Rattle.usb_world.specs.{pending, World, root_port_at}
use Rattle.usb_transfer.specs.{NoThreeDamaged, Target}
use Rattle.usb_hub.specs.{HubPort, Root, External, IsAt, Commanded, IsFresh, AddressMap, Free}
use Rattle.usb_hub.specs.{MapHolds, Enumerating, WhileBusWorks}
use Rattle.usb_port.specs.{Addresses, IsAddress, IsTaken, Takes, IsFull}
use Rattle.usb_descriptor.specs.{configuration_value, configuration_count}
use Rattle.usb_enum.specs.declared.addressed.Addressed.{Addressed}
use Rattle.usb_enum.specs.declared.cause.Cause.{Cause}
use Rattle.usb_enum.specs.declared.cause.Cause.TheVariants.{NoAddress}
use Rattle.usb_enum.specs.declared.stop.Stop.{Stop}
use Rattle.usb_enum.specs.declared.stop.Stop.TheVariants as stops
use Rattle.usb_enum.specs.declared.fault.EnumFault.{EnumFault}
use Rattle.usb_enum.specs.declared.fault.EnumFault.TheVariants.{ParentLost}
use Rattle.usb_enum.specs.declared.finding.Accepted.{Accepted}
use Rattle.usb_enum.specs.declared.finding.Finding.{Finding}
use Rattle.usb_enum.specs.declared.finding.Finding.TheVariants.{Device, Refused}
use Rattle.usb_enum.specs.declared.hub.HubFacts.{HubFacts}
use Rattle.usb_enum.specs.declared.options.HostOptions.{HostOptions}
use Rattle.usb_enum.specs.Bounds.{IsWide}
use Rattle.usb_enum.specs.Addresses.{IsSpare, EndsEnumeration, KeepsEnumerated, OnlyCalls}
use Rattle.usb_enum.specs.Addresses.{TakesAddress as TakesAt}
use Rattle.usb_enum.specs.Verdicts.{IsFindingOf, IsRight, IsSet, is_over}
use Rattle.usb_enum.specs.Device.{is_device, configuration_of, fits_tier, string_indexes, HasFacts}
use Rattle.usb_enum.specs.Device.{FitsHost, IsStarted}
use Rattle.usb_enum.specs.FairEnumerations.{Faulted, HasServer, HubPends}
use Rattle.usb_enum.specs.Losses.{FewLosses}
use Rattle.usb_enum.specs.Places.{HasEmptyPorts, IsKnownAs, IsOccupied, IsPlaced}
use Rattle.usb_enum.specs.PresentDevices.{AtPath, Finds, IsInOrder, IsRegular, HasReadings}
use Rattle.usb_enum.specs.PresentDevices.{LearnsSet, ReachesDevice}
use Rattle.usb_enum.specs.Readings.{AtMaximum}
use Rattle.usb_enum.specs.Reasons.{EndsFor, FaultBy}
use Rattle.usb_enum.specs.Said.{Says}
use Rattle.usb_enum.specs.Stops.{EnumWorks, FitsTier}
use Rattle.usb_enum.specs.StringRequests.{AsksStrings, EndsWithStrings}
use Rattle.usb_enum.specs.Text.{ValuesDiffer, choice_of, texts_length}
use Rattle.usb_enum.specs.TextLengths.{FewFrom, HasPlanWithin}

-- the device has an address, its descriptor is good, every configuration was read, they have no
-- more bytes than the host takes, and the first that the supply allows is chosen
pub record IsWhole (options : HostOptions) (supply : ℕ) (device : Accepted) : Type 0 where
  pub address : IsAddress device.address
  pub head : is_device device.low device.bytes ≡ true
  pub all : length device.configs ≡ configuration_count device.bytes
  pub differ : ValuesDiffer device.configs
  pub within : is_over options.device_bytes (texts_length device.configs) ≡ false
  pub chosen : choice_of supply device.configs ≡ Some device.chosen
  pub hub : HasFacts device.bytes (configuration_of device) device.hub
  pub fits : IfSome device.hub (FitsHost options.wide_hubs (configuration_of device))

-- where a path claims the address, and as long as the bus is at work, the ports of the hub that was
-- found there are empty, or a change is pending
pub record EmptiesPorts (address : ℕ) (told : Option HubFacts) (old new : World) : Type 0 where
  pub empty : (f : AddressMap) (p : List ℕ) → f p ≡ Some address → WhileBusWorks (MapHolds f) old
      → IsInOrder old → new.fault ≡ None → HasEmptyPorts p told new

-- the device that has its address was read and configured
pub record IsListed (addressed : Addressed) (options : HostOptions) (tier : ℕ) (old new : World)
    (device : Accepted) : Type 0 where
  pub address : device.address ≡ addressed.target.addr
  pub low : device.low ≡ addressed.target.low
  pub bytes : device.bytes ≡ addressed.bytes
  pub fits : fits_tier tier addressed.bytes ≡ Ok tt
  pub served : IsStarted device.address device.hub
  pub learned : LearnsSet (AtMaximum addressed.target (HasReadings options addressed.bytes device))
      addressed.target (configuration_value (configuration_of device)) old new
  pub below : EmptiesPorts addressed.target.addr device.hub old new
  pub strings : EndsWithStrings addressed.target (string_indexes addressed.bytes) old new
      device.strings

-- it is the device's own finding, and the device is set as it says; each interface is at setting 0,
-- and its endpoints begin again
abbrev pub IsOwn : HostOptions → ℕ → ℕ → Accepted → State → Type 0
IsOwn options tier supply device s = IsFindingOf s.spec options tier supply (Device device)
    × IsSet device s × IsFresh s

-- the device that was read and configured told its facts where it is a hub, took the address at the
-- port, and the finding is its own
pub record IsAccepted (port : HubPort) (given : ℕ) (options : HostOptions) (tier supply : ℕ)
    (old new : World) (device : Accepted) : Type 0 where
  pub served : IsStarted device.address device.hub
  pub takes : TakesAt port given old new
  pub own : Finds (IsOwn options tier supply device) port given old new
  pub reaches : ReachesDevice port given old new
  pub below : (f : AddressMap) (p : List ℕ) → IsSpare f port p given
      → WhileBusWorks (Enumerating f p given) old → IsInOrder old → new.fault ≡ None
      → HasEmptyPorts p device.hub new
  pub strings : AsksStrings port old new device

-- few attempts were made at the port, and this was said there
pub record ExaminesAt (port : HubPort) (given : ℕ) (before now : List ℕ) (old new : World) :
    Type 0 where
  pub few : FewFrom port given old new
  pub said : Says port given before now old new

-- the last request to a hub was to clear PORT_ENABLE, and it was done
pub record LastDisabled (hub : Target) (port : ℕ) (w : World) : Type 0 where
  pub before : World
  pub ordered : Commanded hub (clear_port_feature PORT_ENABLE port) before (Ok tt) w

-- the port was told to pass nothing on
abbrev pub IsDisabled : HubPort → World → Type 0
IsDisabled (Root number) w = (root_port_at w number).enable ≡ false
IsDisabled (External hub port) w = LastDisabled hub port w

-- a refusal has a finding of its cause, and a fault none
abbrev pub HandsOn : Stop → Result Finding EnumFault → Type 0
HandsOn (stops.Refused cause) result = IfOk result (λ finding. finding ≡ Refused cause)
HandsOn (stops.Fault fault) result = result ≡ Err fault

-- what is left after an enumeration that was given up: a refused device's port is disabled, or its
-- parent is lost
abbrev pub GivesUp : HubPort → Stop → World → Result Finding EnumFault → World → Type 0
GivesUp port (stops.Refused cause) old result new =
    MatchResult result (λ finding. (finding ≡ Refused cause) × IsDisabled port new)
    (λ fault. FaultBy port fault old new)
GivesUp port (stops.Fault fault) old result new = (result ≡ Err fault) × (new ≡ old)

-- at an occupied port of which nothing is claimed, a refused device stands and the port is
-- disabled, or a change of connection is pending
pub record Disables (port : HubPort) (address : ℕ) (old : World) (result : Result Finding EnumFault)
    (new : World) : Type 0 where
  pub there : (f : AddressMap) (p : List ℕ) → IsSpare f port p address
      → WhileBusWorks (Enumerating f p address) old → IsOccupied old p → (finding : Finding)
      → result ≡ Ok finding
      → IsKnownAs new p (Some finding)

-- who holds which address at the end of an enumeration that is given up, and that its calls were
-- about the port alone; that a refused device stands
-- there; and why its hub is lost
pub record Closes (port : HubPort) (address : ℕ) (stop : Stop) (old : World)
    (result : Result Finding EnumFault) (new : World) : Type 0 where
  pub ends : EndsEnumeration port address old result new
  pub only : OnlyCalls port address old new
  pub there : Disables port address old result new
  pub lost : (cause : Cause) (why : EnumFault) → stop ≡ stops.Refused cause → result ≡ Err why
      → Faulted port address why old new

-- what is left, with all that is so in the end, whichever address was set aside
pub record GivenUp (port : HubPort) (stop : Stop) (old : World) (result : Result Finding EnumFault)
    (new : World) : Type 0 where
  pub left : GivesUp port stop old result new
  pub closes : (address : ℕ) → Closes port address stop old result new

-- why a device is refused: for want of an address only where each is taken
abbrev pub IsCause : Addresses → ℕ → Cause → Type 0
IsCause addresses tier cause = (cause ≡ NoAddress × IsFull addresses) ⊎ FitsTier tier cause

-- what a finding says of itself, over any bus
abbrev pub IsFound : Addresses → HostOptions → ℕ → ℕ → Finding → Type 0
IsFound addresses options tier supply (Device device) = IsWhole options supply device
IsFound addresses options tier supply (Refused cause) = IsCause addresses tier cause

-- the hub that was found told its facts, or the port of a refused device is disabled
abbrev pub IsLeft : HubPort → Finding → World → Type 0
IsLeft port (Device device) w = IsStarted device.address device.hub
IsLeft port (Refused cause) w = IsDisabled port w

-- an accepted device takes the least free address, and nothing else takes any
abbrev pub TakesFor : Result Finding EnumFault → Addresses → Addresses → Type 0
TakesFor (Ok (Device device)) old new = Takes old device.address new
TakesFor (Ok (Refused cause)) old new = new ≡ old
TakesFor (Err fault) old new = new ≡ old

-- where nothing is claimed at the port, and only addresses that are taken are claimed, the device
-- that was found is the one at the port, where that
-- is reachable
pub record FindingIsTrue (port : HubPort) (addresses : Addresses) (options : HostOptions)
    (tier supply : ℕ) (old : World) (result : Result Finding EnumFault) (new : World) : Type 0 where
  pub truth : (f : AddressMap) (p : List ℕ) → IsAt f port p → Free f p
      → ((x : List ℕ) (a : ℕ) → f x ≡ Some a → IsTaken addresses a) → WhileBusWorks (MapHolds f) old
      → IsRegular old
      → (device : Accepted) → result ≡ Ok (Device device)
      → AtPath (IsOwn options tier supply device) p new

-- an enumeration may begin at the port of a path: nothing is claimed there, only addresses that are
-- taken are claimed, each reachable device
-- holds what is claimed, and ports are in order
pub record Begins (f : AddressMap) (port : HubPort) (p : List ℕ) (addresses : Addresses)
    (w : World) : Type 0 where
  pub at : IsAt f port p
  pub free : Free f p
  pub taken : (x : List ℕ) (a : ℕ) → f x ≡ Some a → IsTaken addresses a
  pub owned : WhileBusWorks (MapHolds f) w
  pub order : IsInOrder w

-- as long as the bus is at work, what is found at an occupied port is there in the end
pub record FindingStands (port : HubPort) (addresses : Addresses) (old : World)
    (result : Result Finding EnumFault) (new : World) : Type 0 where
  pub placed : (f : AddressMap) (p : List ℕ) → Begins f port p addresses old → IsOccupied old p
      → new.fault ≡ None → (finding : Finding) → result ≡ Ok finding → IsPlaced p finding new

-- so the rows of the table are what decides: no three attempts running are damaged, no address is
-- lost three times, the port is occupied, its hub
-- answers, and the bus is at work
pub record IsFair (f : AddressMap) (port : HubPort) (p : List ℕ) (addresses : Addresses)
    (old new : World) : Type 0 where
  pub begins : Begins f port p addresses old
  pub occupied : IsOccupied old p
  pub server : HasServer port p old
  pub few : NoThreeDamaged old
  pub kept : FewLosses new
  pub working : new.fault ≡ None

-- a refusal has its cause, or a change of connection is pending at the port; and a hub is lost only
-- where one is pending there
pub record JustifiesRefusal (port : HubPort) (addresses : Addresses)
    (options : HostOptions) (tier supply : ℕ) (old : World) (result : Result Finding EnumFault)
    (new : World) : Type 0 where
  pub cause : (f : AddressMap) (p : List ℕ) → IsFair f port p addresses old new
      → (cause : Cause) (s : State) → result ≡ Ok (Refused cause) → state_there new.roots p ≡ Some s
      → (pending new.roots p ≡ true)
      ⊎ IsRight (IsFull addresses) s.spec options tier supply (Refused cause)
  pub parent : (f : AddressMap) (p : List ℕ) → IsFair f port p addresses old new
      → result ≡ Err ParentLost → HubPends p new

-- where the plan plugs no device whose texts say more bytes, so few attempts are made, whatever the
-- answer is
pub record FewAttempts (port : HubPort) (addresses : Addresses) (old new : World) : Type 0 where
  pub few : (f : AddressMap) (p : List ℕ) → IsWide port → Begins f port p addresses old → (most : ℕ)
      → (old.fault ≡ None → HasPlanWithin most old)
      → new.attempts ≤ old.attempts + (250000 + 100 * most)

-- who holds which address at each end, that what was found is so and there, why a device is
-- refused, where all is fair and whatever is damaged, how
-- few attempts that takes, how strings are asked for, and what is left at the port
pub record Enumerates (port : HubPort) (before : Addresses) (options : HostOptions)
    (tier supply : ℕ) (old : World) (result : Result Finding EnumFault) (new : World) : Type 0 where
  pub addresses : KeepsEnumerated port before old result new
  pub own : FindingIsTrue port before options tier supply old result new
  pub places : FindingStands port before old result new
  pub warrants : JustifiesRefusal port before options tier supply old result new
  pub ended : EndsFor port before options tier supply old result new
  pub few : FewAttempts port before old new
  pub strings : (device : Accepted) → result ≡ Ok (Device device) → AsksStrings port old new device
  pub left : (finding : Finding) → result ≡ Ok finding → IsLeft port finding new
  pub works : EnumWorks result old new
