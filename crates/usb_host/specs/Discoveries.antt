-- What is entered at a port is what an enumeration there gave, with its reason (9.1.2).
use Rattle.std.specs.Prelude.{◌≡◌, List, ℕ, Some, Ok}
use Rattle.std.specs.BTreeMap.{insert_entry}
use Rattle.usb_port.specs.{path_cmp, Addresses}
use Rattle.usb_world.specs.{World}
use Rattle.usb_enum.specs.{Cause, Enumerates, Finding, IsFound, IsSaid}
use Rattle.usb_enum.specs.declared.finding.Finding.TheVariants.{Refused}
use Rattle.usb_table.specs.{Entries, KnownPort, known_port, said_at, tier_of, without}
use Rattle.usb_host.specs.Agreement.{Agrees}
use Rattle.usb_host.specs.HostStates.{HostState}
use Rattle.usb_host.specs.Transfers.{table_in}

-- an enumeration gave a finding, and a refusal names what ended it (`Enumerates.ended`); the
-- finding was entered, with what a refused device said of itself, and nothing else
pub record EntersFound (path : List ℕ) (port : KnownPort) (addresses : Addresses) (old : World)
    (before : Entries) (new : HostState) : Type 0 where
  pub finding : Finding
  pub said : List ℕ
  pub gave : Enumerates port.port addresses new.options (tier_of path) port.supply old (Ok finding)
      new.world
  pub is : IsFound addresses new.options (tier_of path) port.supply finding
  pub entries : new.entries ≡ insert_entry path_cmp before path finding
  pub says : IsSaid port.port addresses said old new.world finding
  pub keeps : (cause : Cause) → finding ≡ Refused cause → said_at path (table_in new) ≡ Some said

-- so it is at the port of a path, where what was known at it and below it was forgotten, with the
-- addresses that are taken then
pub record FindsAnew (path : List ℕ) (before : Entries) (old : World) (new : HostState) : Type 0
  where
    pub port : KnownPort
    pub known : known_port path before ≡ Some port
    pub addresses : Addresses
    pub agrees : Agrees new.options (without path before) addresses
    pub found : EntersFound path port addresses old (without path before) new
