-- What an enumeration does to the addresses that devices hold.
use Rattle.std.specs.Prelude.{◌≡◌, ℕ, List, false, None, Some, Result, Ok, Err}
use Rattle.usb_world.specs.{after_taking, World}
use Rattle.usb_port.specs.{Addresses, IsTaken}
use Rattle.usb_hub.specs.{AddressMap, Free, Unused, MapHolds, MapHoldsExcept, Enumerating}
use Rattle.usb_hub.specs.{WhileBusWorks, HubPort, IsAt, EachNamedElsewhere, StaysAs}
use Rattle.usb_enum.specs.declared.fault.EnumFault.{EnumFault}
use Rattle.usb_enum.specs.declared.fault.EnumFault.TheVariants.{ParentLost, Bus, Memory}
use Rattle.usb_enum.specs.declared.finding.Finding.{Finding}
use Rattle.usb_enum.specs.declared.finding.Finding.TheVariants.{Device, Refused}
use Rattle.usb_enum.specs.Frames.{OnlyAt}

-- a port of which nothing is claimed, and an address that no path claims
pub record IsSpare (f : AddressMap) (port : HubPort) (p : List ℕ) (address : ℕ) : Type 0 where
  pub at : IsAt f port p
  pub free : Free f p
  pub none : Unused f 0
  pub spare : Unused f address

-- the device at the port, where one is reachable, has address 0 or the one that is set aside for
-- it; every other has its own
pub record Within (port : HubPort) (address : ℕ) (old new : World) : Type 0 where
  pub stays : (f : AddressMap) (p : List ℕ) → IsSpare f port p address
      → WhileBusWorks (Enumerating f p address) old → WhileBusWorks (Enumerating f p address) new

-- the device at the port, where one is reachable, took the address
pub record TakesAddress (port : HubPort) (address : ℕ) (old new : World) : Type 0 where
  pub took : (f : AddressMap) (p : List ℕ) → IsSpare f port p address
      → WhileBusWorks (Enumerating f p address) old
      → WhileBusWorks (MapHolds (after_taking f p address)) new

-- the calls were about the port alone, as long as the bus is at work; also where it has given up,
-- devices elsewhere that have an address stay as they were
pub record OnlyCalls (port : HubPort) (address : ℕ) (old new : World) : Type 0 where
  pub at : (f : AddressMap) (p : List ℕ) → IsSpare f port p address
      → WhileBusWorks (Enumerating f p address) old → new.fault ≡ None → OnlyAt p old new
  pub named : (f : AddressMap) (p : List ℕ) → IsSpare f port p address
      → WhileBusWorks (Enumerating f p address) old → EachNamedElsewhere p StaysAs old new

-- the device at the port is in the midst of its enumeration, and no other was changed
pub record AtPort (port : HubPort) (address : ℕ) (old new : World) : Type 0 where
  pub within : Within port address old new
  pub only : OnlyCalls port address old new

-- what is so at each end; of a parent that is lost nothing is known at the port and below it
abbrev pub EndsOwned : AddressMap → List ℕ → Result Finding EnumFault → World → Type 0
EndsOwned f p (Ok (Device device)) w = WhileBusWorks (MapHolds (after_taking f p device.address)) w
EndsOwned f p (Ok (Refused cause)) w = WhileBusWorks (MapHolds f) w
EndsOwned f p (Err ParentLost) w = WhileBusWorks (MapHoldsExcept p f) w
EndsOwned f p (Err (Bus fault)) w = w.shared ≡ false
EndsOwned f p (Err Memory) w = w.shared ≡ false

-- where the device at the port, if one is reachable, has address 0 or the one that is set aside for
-- it
pub record EndsEnumeration (port : HubPort) (address : ℕ) (old : World)
    (result : Result Finding EnumFault) (new : World) : Type 0 where
  pub ends : (f : AddressMap) (p : List ℕ) → IsSpare f port p address
      → WhileBusWorks (Enumerating f p address) old → EndsOwned f p result new

-- where nothing is claimed at the port, and only addresses that are taken are claimed
pub record KeepsEnumerated (port : HubPort) (addresses : Addresses) (old : World)
    (result : Result Finding EnumFault) (new : World) : Type 0 where
  pub ends : (f : AddressMap) (p : List ℕ) → IsAt f port p → Free f p
      → ((x : List ℕ) (a : ℕ) → f x ≡ Some a → IsTaken addresses a) → WhileBusWorks (MapHolds f) old
      → EndsOwned f p result new
  pub only : (f : AddressMap) (p : List ℕ) → IsAt f port p → Free f p
      → ((x : List ℕ) (a : ℕ) → f x ≡ Some a → IsTaken addresses a) → WhileBusWorks (MapHolds f) old
      → new.fault ≡ None → OnlyAt p old new
  pub named : (f : AddressMap) (p : List ℕ) → IsAt f port p → Free f p
      → ((x : List ℕ) (a : ℕ) → f x ≡ Some a → IsTaken addresses a) → WhileBusWorks (MapHolds f) old
      → EachNamedElsewhere p StaysAs old new
