-- What the lines of a listing name, one after the other.
use Rattle.std.specs.Prelude.{ℕ, List, [], ◌∷◌, ◌++◌, Bool, Option, None, Some, Result}
use Rattle.std.specs.Prelude.{Ok, Err, option_map, if◌then◌else◌}
use Rattle.std.specs.Str.{bytes_eq}
use Rattle.usb_judge.specs.declared.listed.Claim.{Claim}
use Rattle.usb_judge.specs.declared.listed.Claim.TheVariants.{Device, Refused}
use Rattle.usb_judge.specs.declared.listed.ListedDevice.{ListedDevice}
use Rattle.usb_judge.specs.declared.listed.ListedPort.{ListedPort}
use Rattle.usb_verdict.specs.Lines.{Line, bytes_in, line_says, device, refused, chosen, hub, other}
use Rattle.usb_verdict.specs.declared.fault.ListingFault.{ListingFault}
use Rattle.usb_verdict.specs.declared.fault.ListingFault.TheVariants.{BadHex, NoDevice}
use Rattle.usb_verdict.specs.declared.report.Detail.{Detail}
use Rattle.usb_verdict.specs.declared.report.Detail.TheVariants as kind

-- what is said of a device that was accepted
pub record DeviceSaid : Type 0 where
  pub address : ℕ
  pub low : Bool
  pub descriptor : List ℕ
  pub configuration : Option (List ℕ)
  pub ports : Option ℕ

-- what is said of a port; a device that was refused is none
pub record PortSaid : Type 0 where
  pub path : List ℕ
  pub device : Option DeviceSaid

abbrev pub device_said : ListedDevice → DeviceSaid
device_said d = record {
  address = d.address;
  low = d.low;
  descriptor = d.descriptor.items;
  configuration = option_map (λ text. text.items) d.configuration;
  ports = d.ports;
}

abbrev pub claim_said : Claim → Option DeviceSaid
claim_said (Device d) = Some (device_said d)
claim_said Refused = None

abbrev pub port_said : ListedPort → PortSaid
port_said port = record { path = port.path; device = claim_said port.claim }

-- a detail of the device before it
pub data DetailSaid : Type 0 where
  configuration : List ℕ → DetailSaid
  ports : ℕ → DetailSaid

abbrev pub detail_said : Detail → DetailSaid
detail_said (kind.Configuration text) = configuration text.items
detail_said (kind.Ports count) = ports count

abbrev pub with_detail : DetailSaid → DeviceSaid → DeviceSaid
with_detail (configuration text) d = record d { configuration = Some text }
with_detail (ports count) d = record d { ports = Some count }

abbrev with_device : List ℕ → DetailSaid → Option DeviceSaid → Result PortSaid ListingFault
with_device path detail None = Err NoDevice
with_device path detail (Some d) = Ok (record { path = path; device = Some (with_detail detail d) })

-- the port is at this path, and its device has the detail
abbrev pub amended_port : List ℕ → DetailSaid → PortSaid → Result PortSaid ListingFault
amended_port path detail port =
    if bytes_eq port.path path then with_device path detail port.device else Err NoDevice

abbrev pub alone : Result PortSaid ListingFault → Result (List PortSaid) ListingFault
alone (Ok port) = Ok (port ∷ [])
alone (Err fault) = Err fault

abbrev pub behind : PortSaid → Result (List PortSaid) ListingFault
    → Result (List PortSaid) ListingFault
behind port (Ok more) = Ok (port ∷ more)
behind port (Err fault) = Err fault

-- so is the last port
abbrev pub amended : List ℕ → DetailSaid → List PortSaid → Result (List PortSaid) ListingFault
amended path detail [] = Err NoDevice
amended path detail (port ∷ []) = alone (amended_port path detail port)
amended path detail (port ∷ next ∷ more) = behind port (amended path detail (next ∷ more))

abbrev pub with_bytes : Option (List ℕ) → (List ℕ → Result (List PortSaid) ListingFault)
    → Result (List PortSaid) ListingFault
with_bytes None use_them = Err BadHex
with_bytes (Some bytes) use_them = use_them bytes

-- a device that was accepted, before any detail
abbrev pub accepted : List ℕ → ℕ → Bool → List ℕ → PortSaid
accepted path address low bytes = record {
  path = path;
  device = Some (record {
    address = address;
    low = low;
    descriptor = bytes;
    configuration = None;
    ports = None;
  });
}

-- what a line says, added to what is there
abbrev pub joined : Line → List PortSaid → Result (List PortSaid) ListingFault
joined (device path address low digits) all =
    with_bytes (bytes_in digits) (λ bytes. Ok (all ++ accepted path address low bytes ∷ []))
joined (refused path) all = Ok (all ++ record { path = path; device = None } ∷ [])
joined (chosen path digits) all =
    with_bytes (bytes_in digits) (λ text. amended path (configuration text) all)
joined (hub path count) all = amended path (ports count) all
joined (other path) all = Ok all

abbrev joined_if : Result Line ListingFault → List PortSaid → Result (List PortSaid) ListingFault
joined_if (Ok line) all = joined line all
joined_if (Err fault) all = Err fault

-- the ports that are named with this line more
abbrev pub line_joined : List ℕ → List PortSaid → Result (List PortSaid) ListingFault
line_joined line all = joined_if (line_says line) all
