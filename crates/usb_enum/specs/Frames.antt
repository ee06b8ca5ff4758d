-- What calls on devices and at ports leave of all other devices and ports.
use Rattle.usb_device.specs.{Location, State}
use Rattle.std.specs.Prelude.{◌≡◌, ◌==◌, ℕ, List, false, None, Some}
use Rattle.usb_world.specs.{BusFault, KeepsPendingAt, EachWas, LeavesPortAlone, Course, World}
use Rattle.usb_world.specs.{address_of, is_way}
use Rattle.usb_hub.specs.{AddressMap, MapHolds, KeepsAddresses, KeepsAll, KeepsFound, StaysAs}
use Rattle.usb_hub.specs.{EachElsewhere, KeepsDevices, TouchesNoPort, TouchesPortsBelow}
use Rattle.usb_hub.specs.{ControlCourse}

-- On a device

-- a device was asked for data: each device stays as it was, and as long as the bus is at work
-- nothing was asked of any port, nor attempted but at endpoint 0
pub record OnlyAsks (old new : World) : Type 0 where
  pub addresses : KeepsAddresses old new
  pub devices : KeepsDevices old new
  pub ports : new.fault ≡ None → TouchesNoPort old new
  pub backlog : new.fault ≡ None → KeepsAll old new
  pub control : new.fault ≡ None → ControlCourse old new

-- no more is left to do than before, but by events, where the ports of the device whose path claims
-- the address are marked
abbrev pub FoundAt : ℕ → World → World → Type 0
FoundAt address w v = (f : AddressMap) (q : List ℕ) → f q ≡ Some address → MapHolds f w
    → KeepsFound q w v

-- a hub at an address was told about its ports: nothing was asked of the ports that are not below
-- it
pub record OnlyTells (address : ℕ) (old new : World) : Type 0 where
  pub addresses : KeepsAddresses old new
  pub devices : KeepsDevices old new
  pub ports : new.fault ≡ None → TouchesPortsBelow address old new
  pub backlog : new.fault ≡ None → FoundAt address old new
  pub control : new.fault ≡ None → ControlCourse old new

-- a device has the description and the address that it had, and elsewhere than at this address it
-- stays as it was
pub record StaysBut (address : ℕ) (x : Location) (s v : State) : Type 0 where
  pub spec : v.spec ≡ s.spec
  pub same : address_of v ≡ address_of s
  pub stays : (address_of s == address) ≡ false → StaysAs x s v

-- a device at an address was configured: nothing was asked of the ports that are not below it; if
-- the bus had given up before, each device stays as it was
pub record OnlySets (address : ℕ) (old new : World) : Type 0 where
  pub addresses : KeepsAddresses old new
  pub devices : new.shared ≡ false → EachWas (StaysBut address) old new
  pub spent : (fault : BusFault) → old.fault ≡ Some fault → KeepsDevices old new
  pub ports : new.fault ≡ None → TouchesPortsBelow address old new
  pub backlog : new.fault ≡ None → FoundAt address old new
  pub control : new.fault ≡ None → ControlCourse old new

-- At a port

-- nothing was asked of the ports that are not at a path nor below it, what is pending there stays,
-- and devices elsewhere stay as they were; nothing was attempted but at endpoint 0
pub record OnlyAt (p : List ℕ) (old new : World) : Type 0 where
  pub others : (x : List ℕ) → is_way p x ≡ false → Course (LeavesPortAlone x) old new
  pub spares : Course (KeepsPendingAt p) old new
  pub devices : EachElsewhere p StaysAs old new
  pub backlog : KeepsFound p old new
  pub control : ControlCourse old new
