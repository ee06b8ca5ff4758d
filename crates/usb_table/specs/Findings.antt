-- What was found at a port, as the table needs it.
use Rattle.std.specs.Prelude.{◌≡◌, ◌≢◌, ⊤, ℕ, List, Bool, true, false, nat_eq, Option, Some, None}
use Rattle.std.specs.Prelude.{is_some, if◌then◌else◌}
use Rattle.std.specs.BTreeMap.{is_at}
use Rattle.std.specs.List.{count_by}
use Rattle.std.specs.Map.{lookup}
use Rattle.usb_port.specs.{path_cmp}
use Rattle.usb_descriptor.specs.{bulk_out_of, bulk_in_of}
use Rattle.usb_enum.specs.{Cause, Accepted, Finding, is_device, HasFacts, configuration_of}
use Rattle.usb_enum.specs.declared.cause.Cause.TheVariants as cause
use Rattle.usb_enum.specs.declared.finding.Finding.TheVariants.{Device, Refused}
use Rattle.usb_table.specs.TableEntries.{Entries}

-- the device descriptor is good, and a hub, and nothing else, has facts and a status endpoint
pub record IsSoundDevice (device : Accepted) : Type 0 where
  pub head : is_device device.low device.bytes ≡ true
  pub hub : HasFacts device.bytes (configuration_of device) device.hub

-- such as an enumeration gives
abbrev pub IsSoundFinding : Finding → Type 0
IsSoundFinding (Device device) = IsSoundDevice device
IsSoundFinding (Refused cause) = ⊤

abbrev pub address_found : Finding → Option ℕ
address_found (Device device) = Some device.address
address_found (Refused cause) = None

-- a device with the address was found
unfoldable pub has_address : ℕ → Finding → Bool
has_address address (Device device) = nat_eq device.address address
has_address address (Refused cause) = false

-- no entry has the address of the finding
abbrev pub HasNewAddress : Finding → Entries → Type 0
HasNewAddress (Device device) entries = count_by (λ e. has_address device.address e.1) entries ≡ 0
HasNewAddress (Refused cause) entries = ⊤

-- a device with the address was found at some path
pub record HasDevice (address : ℕ) (finding : Finding) (entries : Entries) : Type 0 where
  pub path : List ℕ
  pub found : lookup (is_at (path_cmp path)) entries ≡ Some finding
  pub addressed : address_found finding ≡ Some address

-- and at none
abbrev pub HasNoDevice : ℕ → Entries → Type 0
HasNoDevice address entries = (path : List ℕ) (finding : Finding)
    → lookup (is_at (path_cmp path)) entries ≡ Some finding → address_found finding ≢ Some address

-- an accepted device, hubs too
abbrev pub is_accepted : Finding → Bool
is_accepted (Device device) = true
is_accepted (Refused cause) = false

-- an accepted hub
abbrev pub is_hub : Finding → Bool
is_hub (Device device) = is_some device.hub
is_hub (Refused cause) = false

abbrev pub is_no_address : Cause → Bool
is_no_address cause.Silent = false
is_no_address cause.Busy = false
is_no_address (cause.Stalled request) = false
is_no_address cause.BadDevice = false
is_no_address cause.TooDeep = false
is_no_address (cause.BadConfiguration index) = false
is_no_address cause.TooLarge = false
is_no_address cause.NoPower = false
is_no_address cause.BadHub = false
is_no_address cause.Lost = false
is_no_address cause.NoAddress = true

-- a device that was refused because no address was free
abbrev pub is_waiting : Finding → Bool
is_waiting (Device device) = false
is_waiting (Refused cause) = is_no_address cause

-- the accepted device of a finding, if there is one
abbrev pub accepted_device_of : Option Finding → Option Accepted
accepted_device_of None = None
accepted_device_of (Some (Device device)) = Some device
accepted_device_of (Some (Refused cause)) = None

-- bulk endpoints are used at full speed alone
abbrev pub at_full_speed : Bool → Option (ℕ × ℕ) → Option (ℕ × ℕ)
at_full_speed low endpoint = if low then None else endpoint

-- number and maximum of the bulk endpoints of a function
abbrev pub out_endpoint : Accepted → Option (ℕ × ℕ)
out_endpoint device = if is_some device.hub then None else at_full_speed device.low
    (bulk_out_of (configuration_of device))

abbrev pub in_endpoint : Accepted → Option (ℕ × ℕ)
in_endpoint device = if is_some device.hub then None else at_full_speed device.low
    (bulk_in_of (configuration_of device))

-- of one direction (true: IN)
abbrev pub first_endpoint : Bool → Accepted → Option (ℕ × ℕ)
first_endpoint true device = in_endpoint device
first_endpoint false device = out_endpoint device

-- the accepted device at a path, if there is one
abbrev pub accepted_device_at : List ℕ → Entries → Option Accepted
accepted_device_at path entries = accepted_device_of (lookup (is_at (path_cmp path)) entries)
