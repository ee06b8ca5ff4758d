-- Where all is fair in an enumeration, and what ends it then.
use Rattle.usb_device.specs.{path_to, Spec, State, state_there}
use Rattle.std.specs.Prelude.{◌≡◌, ◌⊎◌, ◌+◌, ◌≤◌, ℕ, List, Option, None, Some, IsSomeAnd, true, ⊤}
use Rattle.usb_port.specs.{parent_of}
use Rattle.usb_world.specs.{pending, World}
use Rattle.usb_transfer.specs.{Target, NoThreeDamaged}
use Rattle.usb_hub.specs.{AddressMap, Enumerating, WhileBusWorks, HubPort, Root, External}
use Rattle.usb_hub.specs.{HubServes}
use Rattle.usb_enum.specs.declared.addressed.Addressed.{Addressed}
use Rattle.usb_enum.specs.declared.cause.Cause.{Cause}
use Rattle.usb_enum.specs.declared.fault.EnumFault.{EnumFault}
use Rattle.usb_enum.specs.declared.fault.EnumFault.TheVariants as faults
use Rattle.usb_enum.specs.declared.stop.Stop.{Stop}
use Rattle.usb_enum.specs.declared.stop.Stop.TheVariants.{Refused, Fault}
use Rattle.usb_enum.specs.Addresses.{IsSpare}
use Rattle.usb_enum.specs.Losses.{FewLosses}
use Rattle.usb_enum.specs.Places.{IsOccupied}
use Rattle.usb_enum.specs.PresentDevices.{IsInOrder, HasTaken}

-- The hub of a port

-- the hub that stands at a path serves the port; its endpoint 0 takes eight bytes at once
pub record ServesAt (hub : Target) (number : ℕ) (q : List ℕ) (w : World) : Type 0 where
  pub serves : HubServes hub number w
  pub there : q ≡ path_to serves.spot
  pub wide : 8 ≤ hub.max

-- a root port; or one of a hub that stands on its way and serves it, or at which a change of
-- connection is pending
abbrev pub HasServer : HubPort → List ℕ → World → Type 0
HasServer (Root number) p w = ⊤
HasServer (External hub number) p w = IsSomeAnd (parent_of p) (λ q. (pending w.roots q ≡ true)
    ⊎ ServesAt hub number q w)

-- a change of connection is pending at the hub of the port
abbrev pub HubPends : List ℕ → World → Type 0
HubPends p w = IsSomeAnd (parent_of p) (λ q. pending w.roots q ≡ true)

-- What is fair

-- the port is occupied and its hub answers, no three attempts running are damaged, no address is
-- lost three times, and the bus is at work
pub record IsFairAt (f : AddressMap) (port : HubPort) (p : List ℕ) (address : ℕ) (old new : World) :
    Type 0 where
  pub spare : IsSpare f port p address
  pub held : WhileBusWorks (Enumerating f p address) old
  pub order : IsInOrder old
  pub occupied : IsOccupied old p
  pub server : HasServer port p old
  pub few : NoThreeDamaged old
  pub kept : FewLosses new
  pub working : new.fault ≡ None

-- What ends an enumeration

-- a change of connection is pending at a port, or this is so of the description of the device that
-- stands there
abbrev pub PendingOr : (Spec → Type 0) → List ℕ → World → Type 0
PendingOr So p w = (pending w.roots p ≡ true)
    ⊎ ((s : State) → state_there w.roots p ≡ Some s → So s.spec)

-- a hub is lost only where a change of connection is pending there
abbrev pub FaultsFor : List ℕ → EnumFault → World → Type 0
FaultsFor p faults.ParentLost w = HubPends p w
FaultsFor p (faults.Bus why) w = ⊤
FaultsFor p faults.Memory w = ⊤

-- and a device that awaits its address is refused only for what is wrong with it, or where a change
-- of connection is pending at its port
abbrev pub StopsFor : (Spec → Option Cause) → AddressMap → List ℕ → World → Stop → World → Type 0
StopsFor wrong f p old (Refused cause) new = WhileBusWorks (Enumerating f p 0) old
    → PendingOr (λ spec. wrong spec ≡ Some cause) p new
StopsFor wrong f p old (Fault why) new = FaultsFor p why new

-- so it is where all is fair
pub record Faulted (port : HubPort) (address : ℕ) (fault : EnumFault) (old new : World) : Type 0
  where
    pub why : (f : AddressMap) (p : List ℕ) → IsFairAt f port p address old new
        → FaultsFor p fault new

pub record StopsFairly (wrong : Spec → Option Cause) (port : HubPort) (address : ℕ) (stop : Stop)
    (old new : World) : Type 0 where
  pub why : (f : AddressMap) (p : List ℕ) → IsFairAt f port p address old new
      → StopsFor wrong f p old stop new

-- An address that was not taken

-- so many losses more are counted
pub record Missed (n : ℕ) (old new : World) : Type 0 where
  pub run : old.losses.run + n ≤ new.losses.run
  pub worst : 1 ≤ n → old.losses.run + n ≤ new.losses.worst

-- where all is fair, a device that awaits its address awaits it still, and missed it so often; or a
-- change of connection is pending
pub record Misses (port : HubPort) (address n : ℕ) (old new : World) : Type 0 where
  pub missed : (f : AddressMap) (p : List ℕ) → IsFairAt f port p address old new
      → WhileBusWorks (Enumerating f p 0) old → (pending new.roots p ≡ true)
      ⊎ (WhileBusWorks (Enumerating f p 0) new × Missed n old new)

-- a pass ends with the device that took the address, or it missed it
abbrev pub PassEnds : HubPort → ℕ → World → World → Option Addressed → Type 0
PassEnds port address old new (Some device) = HasTaken port address old new device
PassEnds port address old new None = Misses port address 1 old new
