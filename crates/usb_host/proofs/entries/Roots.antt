-- Entries stand below the ports of the root.
use Rattle.std.proofs.Common.{◌≡◌, refl, ℕ, ◌≤◌, true, List, [], ◌∷◌, ◌++◌, length, Option, None}
use Rattle.std.proofs.Common.{Some, Result, arith, IsSome, OnOk}
use Rattle.std.specs.BTreeMap.{insert_entry}
use Rattle.usb_port.specs.{path_cmp, parent_of, port_on_hub}
use Rattle.usb_port.proofs.Interface.{rejoined}
use Rattle.usb_world.specs.{is_way, World, roots_of}
use Rattle.usb_world.proofs.Interface.{way_rest, false_true}
use Rattle.usb_enum.specs.{Finding, HostOptions}
use Rattle.usb_table.specs.{KnownPort, Entries, without, port_below, finding_at}
use Rattle.usb_host.specs.{Agrees, Nested, HostState, opening_host, IsRooted, root_of, StandsAt}
use Rattle.usb_host.specs.{StandsNowhere, Waits, Accounted}
use Rattle.usb_host.proofs.entries.Agreements.{lookup-without, lookup-insert_entry_elsewhere}
use Rattle.usb_host.proofs.PortLocations.{root_alone}

pub root_way : (path below : List ℕ) → 1 ≤ length path → is_way path below ≡ true
    → root_of below ≡ root_of path
root_way path below some way = grind (arith, way_rest)

root_joined : (path hub : List ℕ) → path ≡ hub ++ port_on_hub path ∷ [] → parent_of path ≡ Some hub
    → root_of path ≡ root_of hub
unfolding parent_of
root_joined path hub joined is = grind arith

pub root_parent : (path hub : List ℕ) → parent_of path ≡ Some hub → root_of path ≡ root_of hub
root_parent path _ is = root_joined _ _ (rejoined path _ is) is

-- As entries stay, go and come

pub rooted_kept : (a b : HostState) → b.entries ≡ a.entries → roots_of b.world ≡ roots_of a.world
    → IsRooted a → IsRooted b
rooted_kept a b same roots r = grind arith

finding_at-without : (first path : List ℕ) (es : Entries)
    → IsSome (finding_at path (without first es)) → IsSome (finding_at path es)
finding_at-without first path es some = grind (arith, lookup-without)

pub rooted_dropped : (first : List ℕ) (a b : HostState) → b.entries ≡ without first a.entries
    → roots_of b.world ≡ roots_of a.world → IsRooted a → IsRooted b
rooted_dropped first a b rest roots r = grind (arith, finding_at-without)

pub rooted_came : (first : List ℕ) (f : Finding) (a b : HostState)
    → b.entries ≡ insert_entry path_cmp a.entries first f → roots_of b.world ≡ roots_of a.world
    → root_of first ≤ roots_of a.world → IsRooted a → IsRooted b
rooted_came first f a b is roots here r = grind (arith, lookup-insert_entry_elsewhere)

-- Where a port stands

stands_by : (path : List ℕ) (port : KnownPort) (h : HostState) → StandsAt path port h → IsRooted h
    → (above : Option (List ℕ)) → parent_of path ≡ above
    → port_below above (port_on_hub path) h.entries ≡ Some port → root_of path ≤ roots_of h.world
stands_by path port h s r above above1 e = grind (arith, root_alone, root_parent)

pub rooted_stands : (path : List ℕ) (port : KnownPort) (h : HostState) → StandsAt path port h
    → IsRooted h → root_of path ≤ roots_of h.world
rooted_stands _ _ h s r = stands_by _ _ h s r _ refl s.known

-- a path at which nothing stands has no device that waits, where entries stand below the ports of
-- the root
pub waits_somewhere : (path : List ℕ) (h : HostState) → StandsNowhere path h → Waits path h
    → IsRooted h → ⊥
waits_somewhere path h s w r = grind (arith, root_alone)

-- A host

pub rooted_opening : (options : HostOptions) (w : World) (t : Option (List ℕ))
    → IsRooted (opening_host options w t)
rooted_opening options w t path some = false_true some

port_by : {es : Entries} (roots : ℕ) (path : List ℕ) → Nested es → root_of path ≤ roots
    → parent_of path ≡ None → (o : Option Finding) → finding_at path es ≡ o → IsSome o
    → port_on_hub path ≤ roots
port_by roots path n fits none o at some = grind (arith, root_alone)

-- what a host's invariant says, and that entries stand below the ports of the root
pub accounted : (h : HostState) → Agrees h.options h.entries h.addresses → IsRooted h
    → Accounted h.options (roots_of h.world) h.entries h.addresses
accounted h agrees rooted = search port_by

-- Of calls that failed

pub on_any : {A E : Type 0} (result : Result A E) (P : Type 0) → P → OnOk result P
on_any result P p = grind arith
