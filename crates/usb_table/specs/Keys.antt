-- The keys under which entries are kept, and the two indexes of them.
use Rattle.std.specs.Prelude.{◌≡◌, ◌↔◌, ℕ, List, map, Option, Some, None, IsSome, unwrap_or}
use Rattle.std.specs.Prelude.{option_map, if◌then◌else◌}
use Rattle.std.specs.BTreeMap.{is_at, insert_entry}
use Rattle.std.specs.List.Sorted.{IsStrictlySortedBy}
use Rattle.std.specs.Map.{keys_of, lookup, remove_entry}
use Rattle.std.specs.Ordering.{nat_cmp}
use Rattle.usb_port.specs.{path_cmp}
use Rattle.usb_enum.specs.{Silent, Finding}
use Rattle.usb_enum.specs.declared.finding.Finding.TheVariants.{Refused}
use Rattle.usb_table.specs.declared.entry.Entry.{Entry}
use Rattle.usb_table.specs.declared.indexes.Indexes.{Indexes}
use Rattle.usb_table.specs.declared.pipes.Pipes.{Pipes}
use Rattle.usb_table.specs.TableEntries.{Entries}
use Rattle.usb_table.specs.Findings.{IsSoundFinding, address_found}
use Rattle.usb_table.specs.KnownPorts.{is_below_hub}
use Rattle.usb_table.specs.TablePipes.{ArePipesOf, no_pipes}
use Rattle.usb_table.specs.Tables.{Table}

-- what stands under each key
abbrev pub TableSlots : Type 0
TableSlots = ℕ → Option Entry

-- what is found under each key
abbrev pub Slots : Type 0
Slots = ℕ → Option Finding

abbrev pub findings : TableSlots → Slots
findings standings key = option_map (λ s. s.finding) (standings key)

abbrev pub pipings : TableSlots → ℕ → Option Pipes
pipings standings key = option_map (λ s. s.pipes) (standings key)

-- the keys by rising path, and by rising address
abbrev pub PathKeys : Type 0
PathKeys = List (List ℕ × ℕ)

abbrev pub AddressKeys : Type 0
AddressKeys = List (ℕ × ℕ)

abbrev pub key_of_path : PathKeys → List ℕ → Option ℕ
key_of_path paths path = lookup (is_at (path_cmp path)) paths

abbrev pub key_of_address : AddressKeys → ℕ → Option ℕ
key_of_address addresses address = lookup (is_at (nat_cmp address)) addresses

-- what is under a key; under each key of a path something is
abbrev pub under : {A : Type 0} → A → (ℕ → Option A) → ℕ → A
under none slots key = unwrap_or (slots key) none

-- what is under the keys, by rising path
abbrev pub values_by_path : {A : Type 0} → A → (ℕ → Option A) → PathKeys → List (List ℕ × A)
values_by_path none slots paths = map (λ e. (e.0, under none slots e.1)) paths

abbrev pub finding_under : Slots → ℕ → Finding
finding_under found key = under (Refused Silent) found key

abbrev pub entries_of : Slots → PathKeys → Entries
entries_of found paths = values_by_path (Refused Silent) found paths

abbrev pub table_of : TableSlots → PathKeys → Table
table_of standings paths = record {
  entries = entries_of (findings standings) paths;
  pipes =
      values_by_path no_pipes (pipings standings) paths;
}

abbrev pub address_in : Option Finding → Option ℕ
address_in None = None
address_in (Some finding) = address_found finding

-- the paths name each entry once, and the addresses each entry that has one
pub record AreIndexes (found : Slots) (paths : PathKeys) (addresses : AddressKeys) : Type 0 where
  pub stands : (path : List ℕ) (key : ℕ) → key_of_path paths path ≡ Some key → IsSome (found key)
  pub once : (path other : List ℕ) (key : ℕ) → key_of_path paths path ≡ Some key
      → key_of_path paths other ≡ Some key → other ≡ path
  pub named : (key : ℕ) → IsSome (found key) → (path : List ℕ) × (key_of_path paths path ≡ Some key)
  pub addressed : (address key : ℕ) → (key_of_address addresses address ≡ Some key) ↔
      (address_in (found key) ≡ Some address)

-- an entry at a path: a finding such as an enumeration gives, and the pipes to it
abbrev pub IsPiped : List ℕ → Entry → Type 0
IsPiped path entry =
    IsSoundFinding entry.finding × ArePipesOf entry.finding (is_below_hub path) entry.pipes

-- under each path's key stands one
abbrev pub ArePiped : TableSlots → PathKeys → Type 0
ArePiped standings paths =
    (path : List ℕ) (key : ℕ) (s : Entry) → key_of_path paths path ≡ Some key
    → standings key ≡ Some s → IsPiped path s

-- the keys of addresses, where one with a key comes or goes
abbrev pub with_address : Option ℕ → ℕ → AddressKeys → AddressKeys
with_address None key addresses = addresses
with_address (Some address) key addresses = insert_entry nat_cmp addresses address key

abbrev pub without_address : Option ℕ → AddressKeys → AddressKeys
without_address None addresses = addresses
without_address (Some address) addresses = remove_entry (is_at (nat_cmp address)) addresses

-- the key of this address, where there is one, is now this, and every other is as it was
abbrev pub UpdatesAddress : Option ℕ → Option ℕ → AddressKeys → AddressKeys → Type 0
UpdatesAddress None slot old new = (other : ℕ) → key_of_address new other ≡ key_of_address old other
UpdatesAddress (Some address) slot old new = (other : ℕ)
    → key_of_address new other ≡ (if is_at (nat_cmp address) other then slot else key_of_address old
    other)

-- a key is entered under a path and an address
pub record Enters (path : List ℕ) (address : Option ℕ) (key : ℕ) (old new : Indexes) : Type 0 where
  pub paths : new.by_path.entries ≡ insert_entry path_cmp old.by_path.entries path key
  pub path_keys : (other : List ℕ) → key_of_path new.by_path.entries other
      ≡ (if is_at (path_cmp path) other then Some key else key_of_path old.by_path.entries other)
  pub address_keys : UpdatesAddress address (Some key) old.by_address.entries new.by_address.entries
  pub rises : IsStrictlySortedBy path_cmp (keys_of old.by_path.entries)
