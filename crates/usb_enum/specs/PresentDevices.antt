-- What is so of the device at a port that is being enumerated, where one is reachable there.
use Rattle.std.specs.Prelude.{◌≡◌, ◌&&◌, ℕ, List, Bool, true, false, take, Option, None, Some, Ok}
use Rattle.std.specs.Prelude.{⊤}
use Rattle.usb_device.specs.{Spec, State, reach, Location, state_there}
use Rattle.usb_request.specs.{DEVICE_HEAD_LENGTH, DEVICE_LENGTH}
use Rattle.usb_descriptor.specs.{device_head_of, configuration_count}
use Rattle.usb_world.specs.{EachWas, WorldInvariant, World, address_of}
use Rattle.usb_transfer.specs.{Target, is_at}
use Rattle.usb_hub.specs.{AddressMap, Enumerating, WhileBusWorks, HubPort, IsClaimed, IsFresh}
use Rattle.usb_enum.specs.declared.addressed.Addressed.{Addressed}
use Rattle.usb_enum.specs.declared.finding.Accepted.{Accepted}
use Rattle.usb_enum.specs.declared.hub.HubFacts.{HubFacts}
use Rattle.usb_enum.specs.declared.options.HostOptions.{HostOptions}
use Rattle.usb_enum.specs.Addresses.{IsSpare, TakesAddress}
use Rattle.usb_enum.specs.Verdicts.{strings_by}
use Rattle.usb_enum.specs.Device.{IsStarted, string_indexes, configuration_of, needs_pre}
use Rattle.usb_enum.specs.Hub.{Started}
use Rattle.usb_enum.specs.LearnedFacts.{DeviceFact}
use Rattle.usb_enum.specs.Losses.{NoNewStretch}
use Rattle.usb_enum.specs.Places.{IsOccupied, IsReachedAt}
use Rattle.usb_enum.specs.Readings.{AtMaximum, HasConfigurations, IsGoodHub, Ruled}

-- Of whoever answers

-- the target answered, so it was there and the bus is at work, and of the device that has its
-- address this was learned
pub record AnswersSo (So : Spec → Type 0) (t : Target) (old new : World) : Type 0 where
  pub who : IsClaimed t.addr old
  pub still : new.fault ≡ None
  pub learns : DeviceFact So t old new

-- it answers with the head of a device descriptor at this speed, which has this maximum packet
pub record HasHead (low : Bool) (max : ℕ) (spec : Spec) : Type 0 where
  pub loud : spec.silent ≡ false
  pub free : spec.busy ≡ false
  pub device : spec.stalls.device ≡ false
  pub head : device_head_of low (take DEVICE_HEAD_LENGTH spec.descriptor) ≡ Ok max

-- these are the bytes of its device descriptor
abbrev pub HasDescriptor : List ℕ → Spec → Type 0
HasDescriptor bytes spec = bytes ≡ take DEVICE_LENGTH spec.descriptor

-- Of the device at the port

-- between steps ports are sane and devices as the rules say, as long as the bus is at work
abbrev pub IsRegular : World → Type 0
IsRegular w = w.fault ≡ None → WorldInvariant w

-- no device remembers a packet, ports are sane, and devices are as the rules say
abbrev pub IsOrderly : World → Type 0
IsOrderly w = WorldInvariant w

-- so it is as long as the bus is at work
abbrev pub IsInOrder : World → Type 0
IsInOrder w = w.fault ≡ None → IsOrderly w

-- the device at a path, where one is reachable there, is so
abbrev pub AtPath : (State → Type 0) → List ℕ → World → Type 0
AtPath So p w = (s : State) → reach w.roots p ≡ true → state_there w.roots p ≡ Some s → So s

-- where nothing is claimed at the port, and the address is spare, the device at the port, where one
-- is reachable, is so in the end
pub record Finds (So : State → Type 0) (port : HubPort) (address : ℕ) (old new : World) : Type 0
  where
    pub found : (f : AddressMap) (p : List ℕ) → IsSpare f port p address
        → WhileBusWorks (Enumerating f p address) old → IsRegular old → AtPath So p new

-- so it is where the port is occupied: as long as the bus is at work, the device there is reached
-- in the end, or a change of connection is pending
pub record ReachesDevice (port : HubPort) (address : ℕ) (old new : World) : Type 0 where
  pub reached : (f : AddressMap) (p : List ℕ) → IsSpare f port p address
      → WhileBusWorks (Enumerating f p address) old → IsInOrder old → IsOccupied old p
      → new.fault ≡ None → IsReachedAt new p

-- it has this speed
abbrev pub HasSpeed : Bool → State → Type 0
HasSpeed low s = s.spec.low ≡ low

-- the port was reset, and shows a device of this speed
pub record WasReset (low : Bool) (port : HubPort) (address : ℕ) (old new : World) : Type 0 where
  pub speed : new.fault ≡ None → Finds (HasSpeed low) port address old new
  pub reaches : ReachesDevice port address old new
  pub goes : new.fault ≡ None → NoNewStretch old new

-- it has the target's speed and maximum packet, and awaits an address
pub record AwaitsAddress (target : Target) (s : State) : Type 0 where
  pub low : s.spec.low ≡ target.low
  pub head : HasHead target.low target.max s.spec
  pub zero : address_of s ≡ 0

-- so it is of the device at the port
pub record Awaits (target : Target) (port : HubPort) (address : ℕ) (old new : World) : Type 0 where
  pub found : Finds (AwaitsAddress target) port address old new
  pub reaches : ReachesDevice port address old new
  pub goes : new.fault ≡ None → NoNewStretch old new

-- it is the device that has its address, as it was read
pub record IsAddressed (device : Addressed) (s : State) : Type 0 where
  pub low : s.spec.low ≡ device.target.low
  pub head : HasHead device.target.low device.target.max s.spec
  pub allowed : s.spec.stalls.address ≡ false
  pub bytes : device.bytes ≡ take DEVICE_LENGTH s.spec.descriptor
  pub address : address_of s ≡ device.target.addr

-- the device at the port, where one is reachable, took the address, and was read at it
pub record HasTaken (port : HubPort) (given : ℕ) (old new : World) (device : Addressed) : Type 0
  where
    pub address : device.target.addr ≡ given
    pub pre : device.target.pre ≡ (device.target.low && needs_pre port)
    pub takes : TakesAddress port given old new
    pub still : new.fault ≡ None
    pub found : Finds (IsAddressed device) port given old new
    pub reaches : ReachesDevice port given old new

-- Of a device that is read and configured

-- what a device told of its ports, where it is one that told of any, is so of its description
abbrev pub TellsPorts : Bool → List ℕ → Option HubFacts → Spec → Type 0
TellsPorts wide text (Some facts) spec = Ruled (IsGoodHub wide text facts) spec
TellsPorts wide text None spec = ⊤

-- what a device told of its ports, what was learned of it, and how they were given power
pub record LearnsPorts (wide : Bool) (device : Addressed) (text : List ℕ) (old new : World)
    (told : Option HubFacts) : Type 0 where
  pub served : IsStarted device.target.addr told
  pub learned : DeviceFact (AtMaximum device.target (TellsPorts wide text told)) device.target
      old new
  pub started : (facts : HubFacts) → told ≡ Some facts → Started device.target old new facts

-- what was read is the description's, by the bytes of its device descriptor
pub record HasReadings (options : HostOptions) (bytes : List ℕ) (device : Accepted) (spec : Spec) :
    Type 0 where
  pub configs : HasConfigurations options.device_bytes (configuration_count bytes) device.configs
      spec
  pub allowed : spec.stalls.set_config ≡ false
  pub ports : TellsPorts options.wide_hubs (configuration_of device) device.hub spec
  pub strings : device.strings ≡ strings_by spec (string_indexes bytes)

-- a device has the description and the address that it had; of the target's device this is so, it
-- has this configuration with each interface at setting 0, and its endpoints began again
pub record LearnedSet (So : Spec → Type 0) (t : Target) (value : ℕ) (x : Location) (s v : State) :
    Type 0 where
  pub spec : v.spec ≡ s.spec
  pub address : address_of v ≡ address_of s
  pub so : is_at s t ≡ true → So s.spec × (v.registers.configuration ≡ value) × IsFresh v

abbrev pub LearnsSet : (Spec → Type 0) → Target → ℕ → World → World → Type 0
LearnsSet So t value old new = new.shared ≡ false → EachWas (LearnedSet So t value) old new
