-- What a host's entries say of its ports, and what a listing says.
use Rattle.std.specs.Prelude.{◌≡◌, ℕ, Bool, List, map, Option, None, Some, option_map}
use Rattle.std.specs.Global.{Vec}
use Rattle.usb_enum.specs.{Accepted, Finding, HubFacts, configuration_of}
use Rattle.usb_enum.specs.declared.finding.Finding.TheVariants.{Device, Refused}
use Rattle.usb_port.specs.{IsPath}
use Rattle.usb_table.specs.{Entries, finding_at}
use Rattle.usb_judge.specs.declared.listed.Claim.{Claim}
use Rattle.usb_judge.specs.declared.listed.Claim.TheVariants as claim
use Rattle.usb_judge.specs.declared.listed.ListedDevice.{ListedDevice}
use Rattle.usb_judge.specs.declared.listed.ListedPort.{ListedPort}

-- what is said of a device, as plain data
pub record SaidDevice : Type 0 where
  pub address : ℕ
  pub low : Bool
  pub descriptor : List ℕ
  pub configuration : Option (List ℕ)
  pub ports : Option ℕ

-- a path, and what is said of the device there; of one that is refused nothing
abbrev pub SaidPort : Type 0
SaidPort = List ℕ × Option SaidDevice

-- What a listing says

abbrev pub device_said : ListedDevice → SaidDevice
device_said listed = record {
  address = listed.address;
  low = listed.low;
  descriptor = listed.descriptor.items;
  configuration = option_map (λ (text : Vec ℕ). text.items) listed.configuration;
  ports = listed.ports;
}

abbrev pub claim_said : Claim → Option SaidDevice
claim_said (claim.Device listed) = Some (device_said listed)
claim_said claim.Refused = None

abbrev pub port_said : ListedPort → SaidPort
port_said port = (port.path, claim_said port.claim)

-- What entries say

-- of an accepted device: its address, speed and descriptor, the configuration that it was set to,
-- and of a hub how many ports it has
abbrev pub device_of_entry : Accepted → SaidDevice
device_of_entry device = record {
  address = device.address;
  low = device.low;
  descriptor = device.bytes;
  configuration = Some (configuration_of device);
  ports = option_map (λ (facts : HubFacts). facts.ports) device.hub;
}

abbrev pub claim_of_entry : Finding → Option SaidDevice
claim_of_entry (Device device) = Some (device_of_entry device)
claim_of_entry (Refused cause) = None

abbrev pub port_of_entry : List ℕ × Finding → SaidPort
port_of_entry entry = (entry.0, claim_of_entry entry.1)

-- of each entry, in the order of paths
abbrev pub ports_of_entries : Entries → List SaidPort
ports_of_entries entries = map port_of_entry entries

-- each path is one of a port, as those of a host's table are (*Agrees*, usb_host)
abbrev pub HavePaths : Entries → Type 0
HavePaths entries = (path : List ℕ) (finding : Finding) → finding_at path entries ≡ Some finding
    → IsPath path

-- a listing says what the entries say
abbrev pub ListsEntries : Entries → List ListedPort → Type 0
ListsEntries entries listing = map port_said listing ≡ ports_of_entries entries
