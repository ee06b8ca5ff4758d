-- Device descriptors, as they are read of a device.
use Rattle.std.specs.Prelude.{◌≡◌, ◌⊎◌, ◌≤◌, ⊤, ℕ, ◌==◌, nat_le, true, false, List, [], Bool}
use Rattle.std.specs.Prelude.{◌&&◌, Option}
use Rattle.std.specs.Prelude.{Some, None, is_some, slice_index_or, Result, Ok, Err, is_ok}
use Rattle.std.specs.Prelude.{if◌then◌else◌, IfSome}
use Rattle.usb_request.specs.{HUB_CLASS}
use Rattle.usb_hub.specs.{HubPort, Root, External}
use Rattle.usb_world.specs.{World}
use Rattle.usb_port.specs.{IsPortNumber}
use Rattle.usb_transfer.specs.{Target, IsTarget}
use Rattle.usb_device.specs.{status_length}
use Rattle.usb_descriptor.specs.{status_endpoint_of, most_ports, device_spelled, device_class}
use Rattle.usb_descriptor.specs.{manufacturer_index, product_index, serial_index, max_packet_0}
use Rattle.usb_enum.specs.declared.cause.Cause.TheVariants.{BadDevice, TooDeep}
use Rattle.usb_enum.specs.declared.finding.Accepted.{Accepted}
use Rattle.usb_enum.specs.declared.hub.HubFacts.{HubFacts}
use Rattle.usb_enum.specs.Hub.{Started}
use Rattle.usb_enum.specs.declared.strings.StringIndexes.{StringIndexes}
use Rattle.usb_enum.specs.declared.stop.Stop.{Stop}
use Rattle.usb_enum.specs.declared.stop.Stop.TheVariants.{Refused}

-- the bytes begin with the descriptor of a device at this speed
abbrev pub is_device : Bool → List ℕ → Bool
is_device low bytes = is_ok (device_spelled low bytes)

abbrev pub device_bytes : Bool → List ℕ → Result (Option (List ℕ)) Stop
device_bytes low bytes = if is_device low bytes then Ok (Some bytes) else Err (Refused BadDevice)

abbrev pub string_indexes : List ℕ → StringIndexes
string_indexes bytes = record {
  manufacturer = manufacturer_index bytes;
  product =
      product_index bytes;
  serial_number = serial_index bytes;
}

-- PRE goes before packets to a low-speed device below an external hub, and nowhere else
abbrev pub needs_pre : HubPort → Bool
needs_pre (Root number) = false
needs_pre (External hub port) = true

-- endpoint 0 of a device that has its address
abbrev pub target_of : Accepted → Bool → Target
target_of device below_hub = record {
  addr = device.address;
  max = max_packet_0 device.bytes;
  low = device.low;
  pre = device.low && below_hub;
}

-- the configuration that the device was set to
abbrev pub configuration_of : Accepted → List ℕ
configuration_of device = slice_index_or device.configs device.chosen []

-- bDeviceClass is a hub's
abbrev pub is_hub_device : List ℕ → Bool
is_hub_device bytes = device_class bytes == HUB_CLASS

-- devices stand at tiers 2 to 7 (4.1.1); a hub at the last one has no tier below it
abbrev pub LAST_TIER : ℕ
LAST_TIER = 7

-- a hub may not stand in the last tier
abbrev pub fits_tier : ℕ → List ℕ → Result (Unit {0}) Stop
fits_tier tier bytes = if is_hub_device bytes && tier == LAST_TIER then Err (Refused TooDeep)
    else Ok tt

-- the facts are what the hub with this address told
pub record HasStarted (address : ℕ) (facts : HubFacts) : Type 0 where
  pub hub : Target
  pub addressed : hub.addr ≡ address
  pub before : World
  pub after : World
  pub started : Started hub before after facts

abbrev pub IsStarted : ℕ → Option HubFacts → Type 0
IsStarted address (Some facts) = HasStarted address facts
IsStarted address None = ⊤

-- one to 15 ports, which give what a hub's ports may
pub record AreFacts (facts : HubFacts) : Type 0 where
  pub ports : IsPortNumber facts.ports
  pub supply : (facts.supply ≡ 500) ⊎ (facts.supply ≡ 100)

-- one packet of the status endpoint holds the changes of so many ports (11.12.4)
abbrev pub holds_changes : Option (ℕ × ℕ) → ℕ → Bool
holds_changes None ports = false
holds_changes (Some endpoint) ports = nat_le (status_length ports) endpoint.1

-- this text has such a status endpoint
pub record HasStatus (text : List ℕ) (ports : ℕ) : Type 0 where
  pub endpoint : ℕ × ℕ
  pub is : status_endpoint_of true text ≡ Some endpoint
  pub holds : status_length ports ≤ endpoint.1

-- a host that takes no wide hubs takes seven ports at most, and endpoint 1 alone
pub record FitsHost (wide : Bool) (text : List ℕ) (facts : HubFacts) : Type 0 where
  pub few : facts.ports ≤ most_ports wide
  pub status : is_some (status_endpoint_of wide text) ≡ true

-- a hub of this text has a status endpoint, and these facts
pub record CanServe (wide : Bool) (text : List ℕ) (told : HubFacts) : Type 0 where
  pub facts : AreFacts told
  pub status : HasStatus text told.ports
  pub fits : FitsHost wide text told

-- a hub, and nothing else, has facts and a status endpoint
abbrev pub HasFacts : List ℕ → List ℕ → Option HubFacts → Type 0
HasFacts bytes text (Some facts) = (is_hub_device bytes ≡ true) × AreFacts facts
    × HasStatus text facts.ports
HasFacts bytes text None = is_hub_device bytes ≡ false

-- the same of a hub that this host takes
pub record HasFittingFacts (wide : Bool) (bytes text : List ℕ) (told : Option HubFacts) : Type 0
  where
    pub has : HasFacts bytes text told
    pub fits : IfSome told (FitsHost wide text)

-- endpoint 0 of a device at a port that was reset, before it has its address
pub record IsUnaddressed (port : HubPort) (target : Target) : Type 0 where
  pub fits : IsTarget target
  pub zero : target.addr ≡ 0
  pub max : 8 ≤ target.max
  pub pre : target.pre ≡ (target.low && needs_pre port)
