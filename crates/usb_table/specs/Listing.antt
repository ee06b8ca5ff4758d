-- What a right listing of what is plugged is (4.1.1, 7.2.1).
use Rattle.std.specs.Prelude.{◌≡◌, ◌≢◌, ◌≤◌, ℕ, ◌+◌, List, [], length, take, Option, None, Some}
use Rattle.std.specs.Prelude.{IsSome, IfSome, IsSomeAnd, unwrap_or, option_map, option_and_then}
use Rattle.std.specs.Prelude.{Bool, true, false}
use Rattle.std.specs.Map.{lookup}
use Rattle.std.specs.BTreeMap.{is_at}
use Rattle.usb_port.specs.{path_cmp, parent_of, port_on_hub, IsAddress, supply_of}
use Rattle.usb_device.specs.{Spec, reach, state_there}
use Rattle.usb_world.specs.{PlanData, device_indexed, index_at, plugged_by, spec_of, World}
use Rattle.usb_world.specs.{roots_of}
use Rattle.usb_enum.specs.{Cause, NoAddress, Accepted, Finding, HubFacts, IsRight, IsSet}
use Rattle.usb_enum.specs.{HostOptions, IsDisabledAt}
use Rattle.usb_enum.specs.declared.finding.Finding.TheVariants.{Device, Refused}
use Rattle.usb_table.specs.TableEntries.{Entries, Rises}
use Rattle.usb_table.specs.Findings.{accepted_device_of, accepted_device_at}
use Rattle.usb_table.specs.Keys.{address_in}

-- What is plugged: the description of the device at each path

abbrev pub SpecTree : Type 0
SpecTree = List ℕ → Option Spec

-- what a plan's first events leave plugged
abbrev pub tree_after : PlanData → ℕ → SpecTree
tree_after plan taken path = device_indexed plan.devices
    (index_at (plugged_by [] (take taken plan.events)) path)

-- what is plugged in a world
abbrev pub tree_in : World → SpecTree
tree_in w path = option_map spec_of (state_there w.roots path)

-- What is listed

-- at a path
abbrev pub finding_at : List ℕ → Entries → Option Finding
finding_at path entries = lookup (is_at (path_cmp path)) entries

-- the address of the accepted device at a path
abbrev pub entry_address : List ℕ → Entries → Option ℕ
entry_address path entries = address_in (finding_at path entries)

-- the accepted hub of a finding, and at a path
abbrev pub hub_facts_in : Option Finding → Option HubFacts
hub_facts_in found = option_and_then (λ (device : Accepted). device.hub) (accepted_device_of found)

abbrev pub hub_facts_at : List ℕ → Entries → Option HubFacts
hub_facts_at path entries = hub_facts_in (finding_at path entries)

-- a number of a port of the root, or of the hub at a path
abbrev pub IsPortBelow : ℕ → Entries → Option (List ℕ) → ℕ → Type 0
IsPortBelow roots entries None number = (1 ≤ number) × (number ≤ roots)
IsPortBelow roots entries (Some hub) number =
    IsSomeAnd (hub_facts_at hub entries) (λ facts. (1 ≤ number) × (number ≤ facts.ports))

-- a path of a port of the root, or of a hub that is listed
pub record IsListedPort (roots : ℕ) (entries : Entries) (path : List ℕ) : Type 0 where
  pub some : 1 ≤ length path
  pub port : IsPortBelow roots entries (parent_of path) (port_on_hub path)

-- Tier and supply

-- the root hub is tier 1 (4.1.1)
abbrev pub tier_of : List ℕ → ℕ
tier_of path = length path + 1

-- what a port of the root gives, or one of the hub at a path
abbrev pub supply_below : SpecTree → Option (List ℕ) → ℕ
supply_below tree None = supply_of true false
supply_below tree (Some hub) = supply_of false
    (unwrap_or (option_map (λ (spec : Spec). spec.self_powered) (tree hub)) false)

-- what the port at a path gives, in mA (7.2.1)
abbrev pub supply_at : SpecTree → List ℕ → ℕ
supply_at tree path = supply_below tree (parent_of path)

-- What is right in a listing

-- each address is listed
abbrev pub ListsEach : Entries → Type 0
ListsEach entries = (address : ℕ) → IsAddress address → (path : List ℕ)
    × (entry_address path entries ≡ Some address)

-- The listing is what is plugged. At each port of the root and of each listed hub the device that
-- is plugged there is listed with its own
-- descriptors and the first configuration within its port's power, or refused with its cause.
-- Nothing else is listed. No two devices have one address. Hubs of 8 to 15 ports, and status
-- endpoints of any number, are accepted where hubs may be wide; a device that has more bytes than
-- the host takes is not.
pub record Lists (options : HostOptions) (roots : ℕ) (tree : SpecTree)
    (entries : Entries) : Type 0 where
  pub rises : Rises entries
  pub there : (path : List ℕ) (spec : Spec) → IsListedPort roots entries path
      → tree path ≡ Some spec
      → IsSomeAnd (finding_at path entries) (IsRight (ListsEach entries) spec options
      (tier_of path) (supply_at tree path))
  pub nothing_else : (path : List ℕ) (finding : Finding) → finding_at path entries ≡ Some finding
      → IsListedPort roots entries path × IsSome (tree path)
  pub addresses : (path : List ℕ) (address : ℕ) → entry_address path entries ≡ Some address
      → IsAddress address
  pub differ : (path other : List ℕ) (address : ℕ) → entry_address path entries ≡ Some address
      → entry_address other entries ≡ Some address → path ≡ other

-- the listing is what is plugged in a world; each accepted device is reached and set as is listed,
-- and the port of each refused one is disabled
pub record Matches (options : HostOptions) (w : World) (entries : Entries) : Type 0 where
  pub lists : Lists options (roots_of w) (tree_in w) entries
  pub reached : (path : List ℕ) (device : Accepted) → accepted_device_at path entries ≡ Some device
      → reach w.roots path ≡ true
  pub set : (path : List ℕ) (device : Accepted) → accepted_device_at path entries ≡ Some device
      → IfSome (state_there w.roots path) (IsSet device)
  pub disabled : (path : List ℕ) (cause : Cause) → finding_at path entries ≡ Some (Refused cause)
      → IsDisabledAt w.roots path

-- Two listings

-- no device is listed without an address
abbrev pub NoneWaits : Entries → Type 0
NoneWaits entries = (path : List ℕ) → finding_at path entries ≢ Some (Refused NoAddress)

-- two devices are the same but for their address
pub record IsLike (d e : Accepted) : Type 0 where
  pub low : d.low ≡ e.low
  pub bytes : d.bytes ≡ e.bytes
  pub configs : d.configs ≡ e.configs
  pub chosen : d.chosen ≡ e.chosen
  pub strings : d.strings ≡ e.strings
  pub hub : d.hub ≡ e.hub

-- and so are two findings
abbrev pub IsFoundLike : Finding → Finding → Type 0
IsFoundLike (Device d) (Device e) = IsLike d e
IsFoundLike (Device d) (Refused c) = ⊥
IsFoundLike (Refused c) (Device d) = ⊥
IsFoundLike (Refused b) (Refused c) = b ≡ c

-- what one lists the other lists too, but for addresses
abbrev pub ListsLike : Entries → Entries → Type 0
ListsLike entries others = (path : List ℕ) (finding : Finding)
    → finding_at path entries ≡ Some finding
    → IsSomeAnd (finding_at path others) (IsFoundLike finding)
