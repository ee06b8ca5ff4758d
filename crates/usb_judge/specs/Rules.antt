-- The rule of each cause, as a test.
use Rattle.std.specs.Prelude.{ℕ, ◌*◌, ◌==◌, ◌&&◌, ◌||◌, not, nat_lt, nat_le, nat_eq}
use Rattle.std.specs.Prelude.{List, length}
use mathlib.Core.Bool.{beq}
use Rattle.std.specs.Prelude.{Bool, true, false, Option, None, Some, is_some}
use Rattle.std.specs.Global.{Vec}
use Rattle.std.specs.List.{count_by, list_any, starts_with}
use Rattle.std.specs.Str.{bytes_eq}
use Rattle.usb_port.specs.{parent_of}
use Rattle.usb_request.specs.{CONFIGURATION_LENGTH}
use Rattle.usb_descriptor.specs.{max_power_of}
use Rattle.usb_judge.specs.declared.listed.Claim.{Claim}
use Rattle.usb_judge.specs.declared.listed.Claim.TheVariants.{Device, Refused}
use Rattle.usb_judge.specs.declared.listed.ListedDevice.{ListedDevice}
use Rattle.usb_judge.specs.declared.listed.ListedPort.{ListedPort}
use Rattle.usb_judge.specs.declared.judgement.Cause.{Cause}
use Rattle.usb_judge.specs.declared.judgement.Cause.TheVariants as cause
use Rattle.usb_judge.specs.Scenes.{Seen, Scene}

-- What is listed

-- a port is listed by its path
abbrev pub is_listed_at : List ℕ → ListedPort → Bool
is_listed_at path port = bytes_eq port.path path

abbrev pub is_accepted : Claim → Bool
is_accepted (Device listed) = true
is_accepted Refused = false

abbrev pub is_accepted_at : List ℕ → ListedPort → Bool
is_accepted_at path port = is_listed_at path port && is_accepted port.claim

-- a device is listed at the address
abbrev pub gives_address : ℕ → Claim → Bool
gives_address address (Device listed) = listed.address == address
gives_address address Refused = false

abbrev pub claims_address : ℕ → ListedPort → Bool
claims_address address port = gives_address address port.claim

-- a device is listed at the path, and not refused
abbrev pub is_used : List ListedPort → List ℕ → Bool
is_used listing path = list_any (is_accepted_at path) listing

-- so is the hub of a port; a port of the root has none
abbrev pub has_hub : List ListedPort → Option (List ℕ) → Bool
has_hub listing None = true
has_hub listing (Some hub) = is_used listing hub

-- the port is one of the root, or of a hub that is listed
abbrev pub is_open : List ListedPort → List ℕ → Bool
is_open listing path = has_hub listing (parent_of path)

-- the port is one of these, and is not listed
abbrev pub is_missing : List ListedPort → List ℕ → Bool
is_missing listing path = is_open listing path && not (list_any (is_listed_at path) listing)

abbrev pub shares_address : List ListedPort → Claim → Bool
shares_address listing (Device listed) = nat_lt 1 (count_by (claims_address listed.address) listing)
shares_address listing Refused = false

-- What is said of a device

-- the bytes are a configuration descriptor at least, and the first ones of the others
abbrev pub is_front : List ℕ → List ℕ → Bool
is_front said own = nat_le CONFIGURATION_LENGTH (length said) && starts_with nat_eq own said

-- nothing is said, or what is said is the front of what is there
abbrev pub is_own_front : Option (Vec ℕ) → Option (List ℕ) → Bool
is_own_front None own = true
is_own_front (Some said) None = false
is_own_front (Some said) (Some own) = is_front said.items own

abbrev pub is_own_configuration : Seen → ListedDevice → Bool
is_own_configuration seen listed = is_own_front listed.configuration seen.configuration

-- a number is said, and it is another one
abbrev pub is_other_number : Option ℕ → ℕ → Bool
is_other_number None ports = false
is_other_number (Some said) ports = not (said == ports)

abbrev pub has_other_ports : Seen → ListedDevice → Bool
has_other_ports seen listed = is_other_number listed.ports seen.ports

-- what a configuration needs, in mA
abbrev pub need_in : List ℕ → ℕ
need_in text = 2 * max_power_of text

-- the device is reached, and its configuration needs more than its port gives
abbrev pub exceeds : Bool → Option (List ℕ) → ℕ → Bool
exceeds reached None supply = false
exceeds reached (Some text) supply = reached && nat_lt supply (need_in text)

abbrev pub draws_too_much : Seen → Bool
draws_too_much seen = exceeds seen.reached seen.configuration seen.supply

abbrev pub breaks_device : Seen → ListedDevice → Cause → Bool
breaks_device seen listed cause.Disabled = not seen.reached
breaks_device seen listed cause.OtherDescriptor =
    not (bytes_eq listed.descriptor.items seen.descriptor)
breaks_device seen listed cause.OtherSpeed = not (beq listed.low seen.low)
breaks_device seen listed cause.OtherAddress =
    listed.address == 0 || not (listed.address == seen.address)
breaks_device seen listed cause.OtherConfiguration = not (is_own_configuration seen listed)
breaks_device seen listed cause.OtherPorts = has_other_ports seen listed
breaks_device seen listed cause.TooMuchPower = draws_too_much seen
breaks_device seen listed other = false

abbrev pub breaks_refusal : Seen → Cause → Bool
breaks_refusal seen cause.TooMuchPower = draws_too_much seen
breaks_refusal seen cause.LeftEnabled = seen.reached && seen.address == 0
breaks_refusal seen other = false

abbrev pub breaks_port : Seen → Claim → Cause → Bool
breaks_port seen (Device listed) cause = breaks_device seen listed cause
breaks_port seen Refused cause = breaks_refusal seen cause

abbrev pub breaks_seen : Option Seen → Claim → Cause → Bool
breaks_seen None claim cause = false
breaks_seen (Some seen) claim cause = breaks_port seen claim cause

-- a port of a listing is wrong for a cause
abbrev pub breaks : Scene → List ListedPort → ListedPort → Cause → Bool
breaks scene listing port cause.Twice = nat_lt 1 (count_by (is_listed_at port.path) listing)
breaks scene listing port cause.NotPlugged = not (is_some (scene port.path))
breaks scene listing port cause.NoHub = not (is_open listing port.path)
breaks scene listing port cause.SameAddress = shares_address listing port.claim
breaks scene listing port cause.Missing = false
breaks scene listing port other = breaks_seen (scene port.path) port.claim other
