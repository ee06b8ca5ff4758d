-- What the calls on devices and ports leave of devices and of the addresses that they hold.
use Rattle.std.specs.Prelude.{◌≡◌, ◌≢◌, ◌⊎◌, ℕ, List, [], ◌∷◌, ◌++◌, true, false, None, Some}
use Rattle.std.specs.Prelude.{Result, Ok, OnOk}
use Rattle.usb_request.specs.{PORT_ENABLE, PORT_RESET, PORT_POWER}
use Rattle.usb_port.specs.{IsPath, IsPortNumber, PortStatus}
use Rattle.usb_device.specs.{OnlyStage, State, Location, path_to, reach_on, state_on}
use Rattle.usb_world.specs.{after_reset, after_taking, Relation, Was, EachWas, World, address_of}
use Rattle.usb_world.specs.{is_way}
use Rattle.usb_transfer.specs.{PipeFault}
use Rattle.usb_hub.specs.Claims.{AddressMap, map_without}
use Rattle.usb_hub.specs.Ownership.{MapHolds, WhileBusWorks, KeepsAddresses}
use Rattle.usb_hub.specs.declared.port.HubPort.{HubPort}
use Rattle.usb_hub.specs.declared.port.HubPort.TheVariants.{Root, External}

-- nothing of a device changed but where its transfer stands: its description, its registers and its
-- other endpoints are as they were
abbrev pub StaysAs : Location → State → State → Type 0
StaysAs x s v = OnlyStage s v

-- so it is of each reachable device that is not at the path nor below it
abbrev pub EachElsewhere : List ℕ → Relation → World → World → Type 0
EachElsewhere path R old new = (x : Location) (s : State) → is_way path (path_to x) ≡ false
    → reach_on new.roots x ≡ true → state_on new.roots x ≡ Some s → Was R old x s

-- so it is of each such device that has an address
abbrev pub EachNamedElsewhere : List ℕ → Relation → World → World → Type 0
EachNamedElsewhere path R old new = (x : Location) (s : State) → is_way path (path_to x) ≡ false
    → reach_on new.roots x ≡ true → state_on new.roots x ≡ Some s → address_of s ≢ 0 → Was R old x s

-- where no address was held twice, each device that is reachable was so before, and stays as it was
pub record KeepsDevices (old new : World) : Type 0 where
  pub stays : new.shared ≡ false → EachWas StaysAs old new

-- the path of a port of the hub whose path claims the address
pub record IsBelow (f : AddressMap) (address port : ℕ) (p : List ℕ) : Type 0 where
  pub hub : List ℕ
  pub is_path : IsPath hub
  pub number : IsPortNumber port
  pub path : p ≡ hub ++ (port ∷ [])
  pub held : f hub ≡ Some address

-- the path of a port; a hub is known by what its path claims, also where it is gone
abbrev pub IsAt : AddressMap → HubPort → List ℕ → Type 0
IsAt f (Root number) p = p ≡ number ∷ []
IsAt f (External hub port) p = IsBelow f hub.addr port p

-- some path claims the address
pub record IsClaimed (address : ℕ) (old : World) : Type 0 where
  pub held : (f : AddressMap) → WhileBusWorks (MapHolds f) old → (p : List ℕ) × (f p ≡ Some address)

-- no device is reachable at the port or below it
pub record Isolates (port : HubPort) (old new : World) : Type 0 where
  pub bares : (f : AddressMap) (p : List ℕ) → IsAt f port p → WhileBusWorks (MapHolds f) old
      → WhileBusWorks (MapHolds (map_without f p)) new

-- where address 0 is claimed at the port or below it alone: the device there has address 0, and
-- none below it is reachable; or all have what they had.
-- As long as the bus is at work, devices elsewhere stay as they were; also where it has given up,
-- those that have an address do.
pub record Resets (port : HubPort) (old new : World) : Type 0 where
  pub resets : (f : AddressMap) (p : List ℕ) → IsAt f port p
      → ((x : List ℕ) → f x ≡ Some 0 → is_way p x ≡ true) → WhileBusWorks (MapHolds f) old
      → WhileBusWorks (λ w. MapHolds f w ⊎ MapHolds (after_reset f p) w) new
  pub others : (f : AddressMap) (p : List ℕ) → IsAt f port p
      → ((x : List ℕ) → f x ≡ Some 0 → is_way p x ≡ true) → WhileBusWorks (MapHolds f) old
      → new.fault ≡ None → EachElsewhere p StaysAs old new
  pub named : (f : AddressMap) (p : List ℕ) → IsAt f port p
      → ((x : List ℕ) → f x ≡ Some 0 → is_way p x ≡ true) → WhileBusWorks (MapHolds f) old
      → EachNamedElsewhere p StaysAs old new

-- where a path alone claims the target's address, and none claims the new one beside it: the device
-- there has the new one, or all have what they had
pub record GivesAddress (target address : ℕ) (old new : World) : Type 0 where
  pub gives : (f : AddressMap) (p : List ℕ) → ((x : List ℕ) → f x ≡ Some target → x ≡ p)
      → ((x y : List ℕ) → f x ≡ Some address → f y ≡ Some target → ⊥)
      → target ≢ address → WhileBusWorks (MapHolds f) old
      → WhileBusWorks (λ w. MapHolds f w ⊎ MapHolds (after_taking f p address) w) new

-- whoever answered had the target's address
pub record KeepsAnswered {A : Type 0} (address : ℕ) (old : World) (result : Result A PipeFault)
    (new : World) : Type 0 where
  pub keeps : KeepsAddresses old new
  pub who : OnOk result (IsClaimed address old)

-- a port that is told not enabled has none reachable
pub record KeepsAsked (port : HubPort) (old : World) (result : Result PortStatus PipeFault)
    (new : World) : Type 0 where
  pub keeps : KeepsAddresses old new
  pub devices : KeepsDevices old new
  pub bare : (status : PortStatus) → result ≡ Ok status → status.enabled ≡ false
      → Isolates port old new

-- PORT_POWER keeps them, PORT_RESET takes one
pub record KeepsSet (port : HubPort) (feature : ℕ) (old new : World) : Type 0 where
  pub keeps : feature ≡ PORT_POWER → KeepsAddresses old new
  pub devices : feature ≡ PORT_POWER → KeepsDevices old new
  pub resets : feature ≡ PORT_RESET → Resets port old new

-- a port that is disabled has none reachable
pub record KeepsCleared (port : HubPort) (feature : ℕ) (old : World)
    (result : Result (Unit {0}) PipeFault) (new : World) : Type 0 where
  pub keeps : KeepsAddresses old new
  pub devices : KeepsDevices old new
  pub bare : feature ≡ PORT_ENABLE → result ≡ Ok tt → Isolates port old new
