-- What is so of a host's table and pool between its calls.
use Rattle.std.specs.Prelude.{◌≡◌, ℕ, List, Some, IsSome}
use Rattle.std.specs.Map.{lookup}
use Rattle.std.specs.BTreeMap.{is_at}
use Rattle.usb_port.specs.{path_cmp, IsPath, Addresses, HasAddresses}
use Rattle.usb_enum.specs.{Finding, HostOptions, IsFound}
use Rattle.usb_table.specs.{Entries, KnownPort, Rises, known_port, tier_of}
use Rattle.usb_host.specs.Accounts.{Accounts}

-- each entry stands at a port of the root, or of a hub that is known
pub record Nested (entries : Entries) : Type 0 where
  pub path : (path : List ℕ) (finding : Finding) → lookup (is_at (path_cmp path)) entries
      ≡ Some finding → IsPath path
  pub each : (path : List ℕ) (finding : Finding) → lookup (is_at (path_cmp path)) entries
      ≡ Some finding → IsSome (known_port path entries)

-- an enumeration at the port of a path gives this finding, with some addresses taken, to a host of
-- these options
abbrev pub IsFoundAt : HostOptions → List ℕ → KnownPort → Finding → Type 0
IsFoundAt options path port finding = (addresses : Addresses)
    × IsFound addresses options (tier_of path) port.supply finding

-- each entry is what an enumeration at its port gives: an accepted device has good texts, and its
-- configuration is the first within the port's power; a refused one has a cause that fits its tier,
-- or no address was free. A hub that was lost is so too
pub record AreFound (options : HostOptions) (entries : Entries) : Type 0 where
  pub each : (path : List ℕ) (finding : Finding) (port : KnownPort)
      → lookup (is_at (path_cmp path)) entries ≡ Some finding
      → known_port path entries ≡ Some port → IsFoundAt options path port finding

-- entries rise, each taken address is one entry's, each entry stands at a port, and is what an
-- enumeration there gives
pub record Agrees (options : HostOptions) (entries : Entries) (addresses : Addresses) : Type 0 where
  pub rises : Rises entries
  pub range : HasAddresses addresses
  pub accounts : Accounts entries addresses
  pub nested : Nested entries
  pub found : AreFound options entries
