-- How the ports that the table knows are asked.
use Rattle.std.specs.Prelude.{ℕ, ◌≤◌, List, length, Bool, true, false, Option, Some, None, nat_lt}
use Rattle.std.specs.Prelude.{nat_le, if◌then◌else◌}
use Rattle.std.specs.BTreeMap.{is_at}
use Rattle.std.specs.Map.{lookup}
use Rattle.usb_port.specs.{path_cmp, parent_of, port_on_hub, IsPortNumber, supply_of}
use Rattle.usb_transfer.specs.{Target, IsTarget}
use Rattle.usb_hub.specs.{HubPort, Root, External}
use Rattle.usb_enum.specs.{Accepted, Finding, HubFacts, target_of}
use Rattle.usb_enum.specs.declared.finding.Finding.TheVariants.{Device, Refused}
use Rattle.usb_table.specs.declared.known.KnownPort.{KnownPort}
use Rattle.usb_table.specs.TableEntries.{Entries}

-- the port is one of a hub other than the root
abbrev pub is_below_hub : List ℕ → Bool
is_below_hub path = nat_lt 1 (length path)

-- the root powers itself
abbrev pub root_port : ℕ → KnownPort
root_port number = record { port = Root number; supply = supply_of true false }

-- a port of a device, where that is a hub with so many ports
abbrev pub port_of_hub : Accepted → Option HubFacts → Bool → ℕ → Option KnownPort
port_of_hub device None below_hub number = None
port_of_hub device (Some facts) below_hub number =
    if nat_le number facts.ports then Some
    (record { port = External (target_of device below_hub) number; supply = facts.supply })
    else None

abbrev pub port_of_finding : Finding → Bool → ℕ → Option KnownPort
port_of_finding (Device device) below_hub number = port_of_hub device device.hub below_hub number
port_of_finding (Refused cause) below_hub number = None

abbrev pub port_found : Option Finding → Bool → ℕ → Option KnownPort
port_found None below_hub number = None
port_found (Some finding) below_hub number = port_of_finding finding below_hub number

-- a port below another stands on the hub that was found there
abbrev pub port_below : Option (List ℕ) → ℕ → Entries → Option KnownPort
port_below None number entries = Some (root_port number)
port_below (Some hub) number entries = port_found (lookup (is_at (path_cmp hub)) entries)
    (is_below_hub hub) number

-- how the port at a path is asked, and what it gives
abbrev pub known_port : List ℕ → Entries → Option KnownPort
known_port path entries = port_below (parent_of path) (port_on_hub path) entries

-- endpoint 0 of a hub that has its address, and the number of a port
pub record IsPortOf (hub : Target) (port : ℕ) : Type 0 where
  pub target : IsTarget hub
  pub number : IsPortNumber port
  pub wide : 8 ≤ hub.max

-- a port that can be asked
abbrev pub IsAskable : HubPort → Type 0
IsAskable (Root number) = IsPortNumber number
IsAskable (External hub port) = IsPortOf hub port
