-- That each reachable device holds the address that the host has for it.
use Rattle.std.specs.Prelude.{◌≡◌, ◌≤◌, ℕ, List, [], ◌∷◌, Bool, false, true, None, IsSome, Result}
use Rattle.std.specs.Prelude.{Ok, Err, OnOk, MatchResult}
use Rattle.std.specs.BTreeMap.{is_at, insert_entry}
use Rattle.std.specs.Map.{lookup}
use Rattle.usb_port.specs.{path_cmp, parent_of, PortStatus}
use Rattle.usb_world.specs.{is_way, World, roots_of}
use Rattle.usb_hub.specs.{AddressMap, map_without, MapHolds, MapHoldsExcept, WhileBusWorks}
use Rattle.usb_hub.specs.{KeepsAddresses, HubPort, Isolates}
use Rattle.usb_enum.specs.{Lost, EnumFault, ParentLost, Bus, Memory}
use Rattle.usb_enum.specs.declared.finding.Finding.TheVariants.{Refused}
use Rattle.usb_table.specs.{Entries, without, address_in, finding_at}
use Rattle.usb_host.specs.declared.fault.HostFault.{HostFault}
use Rattle.usb_host.specs.HostStates.{HostState}

-- the address of the device that was accepted at a path
abbrev pub claims : Entries → AddressMap
claims entries path = address_in (lookup (is_at (path_cmp path)) entries)

-- each reachable device stands at a path of the table and holds the address that it has there, as
-- long as the bus is at work
abbrev pub IsOwned : HostState → Type 0
IsOwned h = WhileBusWorks (MapHolds (claims h.entries)) h.world

-- the same as long as the host has not stopped; and no address was ever held twice
pub record HostMapHolds (h : HostState) : Type 0 where
  pub single : h.world.shared ≡ false
  pub owned : h.stopped ≡ false → IsOwned h

-- Entries stand below the ports of the root

-- the number of the root port on the way to a path
abbrev pub root_of : List ℕ → ℕ
root_of [] = 0
root_of (number ∷ path) = number

-- each entry stands at a port that the root has, or below one
abbrev pub IsRooted : HostState → Type 0
IsRooted h = (path : List ℕ) → IsSome (finding_at path h.entries) → root_of path ≤ roots_of h.world

-- Parts of a round

pub record StaysOwned (old new : HostState) : Type 0 where
  pub stays : IsOwned old → IsOwned new
  pub rooted : IsRooted old → IsRooted new

-- of a call after which the host stops
pub record StaysSingle (old new : HostState) : Type 0 where
  pub single : IsOwned old → new.world.shared ≡ false

abbrev pub KeepsOwned : {A : Type 0} → HostState → Result A HostFault → HostState → Type 0
KeepsOwned old result new = MatchResult result (λ _. StaysOwned old new) (λ _. StaysSingle old new)

-- nothing is known of the device at the path and below it
abbrev pub IsOwnedBut : List ℕ → HostState → Type 0
IsOwnedBut path h = WhileBusWorks (MapHoldsExcept path (claims h.entries)) h.world

-- no device is reachable at the path or below it, and every other holds the address that it has in
-- the table
abbrev pub IsIsolated : List ℕ → HostState → Type 0
IsIsolated path h = WhileBusWorks (MapHolds (map_without (claims h.entries) path)) h.world

-- At a port whose hub may be lost

abbrev pub PortOwned : List ℕ → Result (Unit {0}) EnumFault → HostState → Type 0
PortOwned path (Ok done) new = IsOwned new
PortOwned path (Err ParentLost) new = IsOwnedBut path new
PortOwned path (Err (Bus fault)) new = new.world.shared ≡ false
PortOwned path (Err Memory) new = new.world.shared ≡ false

pub record KeepsPort (path : List ℕ) (old : HostState) (result : Result (Unit {0}) EnumFault)
    (new : HostState) : Type 0 where
  pub ends : IsOwned old → PortOwned path result new
  pub rooted : IsRooted old → IsRooted new

-- no device is reachable at the port or below it
abbrev pub BaresPort : HubPort → World → Result PortStatus EnumFault → World → Type 0
BaresPort port old result new = MatchResult result (λ _. Isolates port old new)
    (λ _. KeepsAddresses old new)

-- Where a hub is dropped

abbrev pub LeavesOwned : Result (Unit {0}) HostFault → HostState → Type 0
LeavesOwned result new = MatchResult result (λ _. IsOwned new) (λ _. new.world.shared ≡ false)

pub record FinishesPort (path : List ℕ) (served : Result (Unit {0}) EnumFault) (old : HostState)
    (result : Result (Unit {0}) HostFault) (new : HostState) : Type 0 where
  pub ends : PortOwned path served old → LeavesOwned result new
  pub rooted : IsRooted old → (served ≡ Err ParentLost → root_of path ≤ roots_of old.world)
      → OnOk result (IsRooted new)

-- a hub, or one above it, is listed as lost, and nothing stands below that
pub record HasLost (hub : List ℕ) (old new : Entries) : Type 0 where
  pub path : List ℕ
  pub above : is_way path hub ≡ true
  pub entries : new ≡ insert_entry path_cmp (without path old) path (Refused Lost)

pub record DropsHub (hub : List ℕ) (old : HostState) (result : Result (Unit {0}) HostFault)
    (new : HostState) : Type 0 where
  pub lost : OnOk result (HasLost hub old.entries new.entries)
  pub ends : IsOwnedBut hub old → LeavesOwned result new
  pub rooted : IsRooted old → root_of hub ≤ roots_of old.world → OnOk result (IsRooted new)

-- the other path is on the way to the first; whatever is at the first and below it, none is
-- reachable at the other
pub record BaresAbove (first path : List ℕ) (old new : HostState) : Type 0 where
  pub on : is_way path first ≡ true
  pub bares : IsOwnedBut first old → IsIsolated path new

abbrev pub BaresUpward : List ℕ → HostState → Result (List ℕ) HostFault → HostState → Type 0
BaresUpward first old result new = MatchResult result (λ path. BaresAbove first path old new)
    (λ _. KeepsAddresses old.world new.world)

-- a port that is disabled has none reachable, nor has one that the root has not
pub record KeepsDisabled (path : List ℕ) (old : HostState) (result : Result Bool HostFault)
    (new : HostState) : Type 0 where
  pub keeps : KeepsAddresses old.world new.world
  pub done : result ≡ Ok true → BaresAbove path path old new
  pub none : result ≡ Ok false → parent_of path ≡ None → BaresAbove path path old new
