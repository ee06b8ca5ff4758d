-- Why an enumeration stops: the last request, and what was answered to it (9.1.2, 9.4, 11.24.2).
use Rattle.std.specs.Prelude.{◌≡◌, ◌⊎◌, ◌&&◌, ℕ, List, [], ◌∷◌, ◌++◌, length, take, Bool, true}
use Rattle.std.specs.Prelude.{false, slice_index_or, Option, None, Some, Result, Ok, Err, ⊤}
use Rattle.std.specs.Global.{Vec}
use Rattle.usb_request.specs.{Setup, CONFIGURATION_LENGTH, DEVICE_HEAD_LENGTH, DEVICE_LENGTH}
use Rattle.usb_request.specs.{PORT_POWER, get_device_descriptor, get_configuration_descriptor}
use Rattle.usb_request.specs.{get_hub_descriptor, get_status, set_address, set_configuration}
use Rattle.usb_request.specs.{set_port_feature}
use Rattle.usb_port.specs.{PortStatus, Addresses, IsFree, IsFull}
use Rattle.usb_descriptor.specs.{DescriptorFault, status_endpoint_of, config_head_of}
use Rattle.usb_descriptor.specs.{configuration_value, configuration_count, device_head_of}
use Rattle.usb_descriptor.specs.{hub_spelled}
use Rattle.usb_world.specs.{World, HasFault}
use Rattle.usb_transfer.specs.{Target, PipeFault, Reads, WasRead, Writes}
use Rattle.usb_transfer.specs.declared.fault.PipeFault.TheVariants as pipe
use Rattle.usb_hub.specs.{HubPort, PortCleared, PortRead, PortSet, device_status, said_in}
use Rattle.usb_enum.specs.declared.addressed.Addressed.{Addressed}
use Rattle.usb_enum.specs.declared.cause.Cause.{Cause}
use Rattle.usb_enum.specs.declared.cause.Cause.TheVariants as cause
use Rattle.usb_enum.specs.declared.cause.Request.{Request}
use Rattle.usb_enum.specs.declared.cause.Request.TheVariants as request
use Rattle.usb_enum.specs.declared.fault.EnumFault.{EnumFault}
use Rattle.usb_enum.specs.declared.fault.EnumFault.TheVariants as fault
use Rattle.usb_enum.specs.declared.finding.Finding.{Finding}
use Rattle.usb_enum.specs.declared.finding.Finding.TheVariants as finding
use Rattle.usb_enum.specs.declared.options.HostOptions.{HostOptions}
use Rattle.usb_enum.specs.declared.stop.Stop.{Stop}
use Rattle.usb_enum.specs.declared.stop.Stop.TheVariants.{Refused, Fault}
use Rattle.usb_enum.specs.Device.{LAST_TIER, holds_changes, is_device, is_hub_device, needs_pre}
use Rattle.usb_enum.specs.Hub.{CountTold}
use Rattle.usb_enum.specs.LastRequests.{Leads}
use Rattle.usb_enum.specs.Stops.{FaultAllowed, CauseAllowedIn, CauseAllowedOfDevice, fault_at_port}
use Rattle.usb_enum.specs.Text.{any_has_value, choice_of, config_text_of, texts_length}
use Rattle.usb_enum.specs.Verdicts.{is_over, left_of}

-- The last request to a device

-- a request failed so: one for data, or one without
abbrev pub FailsAs : Target → Setup → PipeFault → World → World → Type 0
FailsAs t setup why old new = Reads t setup old (Err why) new ⊎ Writes t setup old (Err why) new

-- a request of a kind failed so
pub record EndsFailing (t : Target) (Is : Setup → Type 0) (why : PipeFault) (old new : World) :
    Type 0 where
  pub before : World
  pub led : Leads old before
  pub setup : Setup
  pub is : Is setup
  pub failed : FailsAs t setup why before new

-- a request was answered by these bytes
pub record EndsReading (t : Target) (setup : Setup) (bytes : List ℕ) (old new : World) : Type 0
  where
    pub before : World
    pub led : Leads old before
    pub read : WasRead t setup before bytes new

-- any request
abbrev pub IsAny : Setup → Type 0
IsAny setup = ⊤

-- one that a refusal names
abbrev pub IsNamed : Request → Setup → Type 0
IsNamed request.Device setup = (size : ℕ) × (setup ≡ get_device_descriptor size)
IsNamed request.Address setup = (address : ℕ) × (setup ≡ set_address address)
IsNamed request.Config setup = (index : ℕ)
    × ((size : ℕ) × (setup ≡ get_configuration_descriptor index size))
IsNamed request.SetConfig setup = (value : ℕ) × (setup ≡ set_configuration value)

-- What was read of a device

-- its device descriptor has these first bytes
pub record DescriptorRead (t : Target) (bytes : List ℕ) (old new : World) : Type 0 where
  pub all : List ℕ
  pub read : EndsReading t (get_device_descriptor DEVICE_LENGTH) all old new
  pub front : bytes ≡ take DEVICE_LENGTH all

-- the configuration of an index has this text
pub record TextRead (t : Target) (index : ℕ) (text : List ℕ) (old new : World) : Type 0 where
  pub size : ℕ
  pub read : EndsReading t (get_configuration_descriptor index size) text old new

-- these are its configurations' texts, read one after the other
pub data TextsAsked (t : Target) (old : World) : List (List ℕ) → World → Type 0 where
  none_yet : TextsAsked t old [] old
  one_more : {texts : List (List ℕ)} {mid new : World} (text : List ℕ) → TextsAsked t old texts mid
      → TextRead t (length texts) text mid new → TextsAsked t old (texts ++ (text ∷ [])) new

-- Why a device is refused

-- its device descriptor is bad: its head, or what is read at its address
pub data BadDescriptor (t : Target) (old new : World) : Type 0 where
  bad_head : (bytes : List ℕ) (why : DescriptorFault)
      → EndsReading t (get_device_descriptor DEVICE_HEAD_LENGTH) bytes old new
      → device_head_of t.low bytes ≡ Err why → BadDescriptor t old new
  bad_front : (bytes : List ℕ) → DescriptorRead t bytes old new → is_device t.low bytes ≡ false
      → BadDescriptor t old new

-- the text of an index is bad: its head, or what is read; or an earlier one has its value
pub data BadText (t : Target) (index : ℕ) (old new : World) : Type 0 where
  bad_total : (bytes : List ℕ) (why : DescriptorFault)
      → EndsReading t (get_configuration_descriptor index CONFIGURATION_LENGTH) bytes old new
      → config_head_of bytes ≡ Err why → BadText t index old new
  bad_text : (text : List ℕ) → TextRead t index text old new → config_text_of text ≡ None
      → BadText t index old new
  repeated : (begun mid : World) (texts : List (List ℕ)) (text : List ℕ) → Leads old begun
      → TextsAsked t begun texts mid → length texts ≡ index → TextRead t index text mid new
      → any_has_value (configuration_value text) texts ≡ true → BadText t index old new

-- by the answer to a request
abbrev pub Because : Target → World → World → Cause → Type 0
Because t old new cause.Silent = EndsFailing t IsAny pipe.NoAnswer old new
Because t old new cause.Busy = EndsFailing t IsAny pipe.Busy old new
Because t old new (cause.Stalled named) = EndsFailing t (IsNamed named) pipe.Stalled old new
Because t old new cause.BadDevice = BadDescriptor t old new
Because t old new cause.TooDeep = ⊥
Because t old new (cause.BadConfiguration index) = BadText t index old new
Because t old new cause.TooLarge = ⊥
Because t old new cause.NoPower = ⊥
Because t old new cause.BadHub = ⊥
Because t old new cause.Lost = ⊥
Because t old new cause.NoAddress = ⊥

-- so it is at a stop
abbrev pub CauseAllowed : Target → Stop → World → World → Type 0
CauseAllowed t (Refused why) old new = Because t old new why
CauseAllowed t (Fault why) old new = FaultAllowed why new

-- Why a device has too many bytes

-- the head of the configuration of an index was read, and says so many bytes
pub record HeadRead (t : Target) (index total : ℕ) (old new : World) : Type 0 where
  pub bytes : List ℕ
  pub read : EndsReading t (get_configuration_descriptor index CONFIGURATION_LENGTH) bytes old new
  pub head : config_head_of bytes ≡ Ok total

-- they are more than are left
pub record TooLong (room : Option ℕ) (t : Target) (index : ℕ) (old new : World) : Type 0 where
  pub total : ℕ
  pub read : HeadRead t index total old new
  pub over : is_over room total ≡ true

-- so it is at a stop
abbrev pub CauseAllowedOfText : Option ℕ → Target → ℕ → Stop → World → World → Type 0
CauseAllowedOfText room t index (Refused why) old new =
    (why ≡ cause.TooLarge × TooLong room t index old new) ⊎ Because t old new why
CauseAllowedOfText room t index (Fault why) old new = FaultAllowed why new

-- the texts before it were read, and so much is left of a budget
pub record GoesOver (budget : Option ℕ) (t : Target) (old new : World) : Type 0 where
  pub texts : List (List ℕ)
  pub mid : World
  pub asked : TextsAsked t old texts mid
  pub long : TooLong (left_of budget (texts_length texts)) t (length texts) mid new

-- so it is at a stop
abbrev pub CauseAllowedOfTexts : Option ℕ → Target → Stop → World → World → Type 0
CauseAllowedOfTexts budget t (Refused why) old new =
    (why ≡ cause.TooLarge × GoesOver budget t old new) ⊎ Because t old new why
CauseAllowedOfTexts budget t (Fault why) old new = FaultAllowed why new

-- Why a hub is bad

-- it refuses its descriptor, or gives a bad one; it refuses its status, or gives one of another
-- length; or it refuses power to a port
pub data HubFails (wide : Bool) (t : Target) (old new : World) : Type 0 where
  no_descriptor : EndsFailing t (λ setup. setup ≡ get_hub_descriptor) pipe.Stalled old new
      → HubFails wide t old new
  bad_descriptor : (bytes : List ℕ) (why : DescriptorFault)
      → EndsReading t get_hub_descriptor bytes old new → hub_spelled wide bytes ≡ Err why
      → HubFails wide t old new
  no_status : (before : World) (answer : Result (Vec ℕ) PipeFault) → Leads old before
      → Reads t get_status before answer new → said_in device_status get_status.length answer
      ≡ Err pipe.Stalled → HubFails wide t old new
  no_power : (port : ℕ) → EndsFailing t (λ setup. setup ≡ set_port_feature PORT_POWER port)
      pipe.Stalled old new → HubFails wide t old new

-- so it is of a hub that is asked
abbrev pub CauseAllowedOfHub : Bool → Target → Stop → World → World → Type 0
CauseAllowedOfHub wide t (Refused why) old new = (why ≡ cause.BadHub × HubFails wide t old new)
    ⊎ Because t old new why
CauseAllowedOfHub wide t (Fault why) old new = FaultAllowed why new

-- its descriptor says more ports than a packet of its status endpoint holds changes of (11.12.4)
pub record HoldsTooFew (wide : Bool) (t : Target) (text : List ℕ) (old new : World) : Type 0 where
  pub ports : ℕ
  pub count : CountTold t old new ports
  pub small : holds_changes (status_endpoint_of wide text) ports ≡ false

-- and of one that is started with a configuration text: it has no endpoint for its changes, or a
-- small one, or it fails
abbrev pub CannotStart : Bool → Target → List ℕ → World → World → Type 0
CannotStart wide t text old new = (status_endpoint_of wide text ≡ None × new ≡ old)
    ⊎ (HoldsTooFew wide t text old new ⊎ HubFails wide t old new)

abbrev pub CauseAllowedAtStart : Bool → Target → List ℕ → Stop → World → World → Type 0
CauseAllowedAtStart wide t text (Refused why) old new =
    (why ≡ cause.BadHub × CannotStart wide t text old new) ⊎ Because t old new why
CauseAllowedAtStart wide t text (Fault why) old new = FaultAllowed why new

-- Why a device of this device descriptor is refused

-- all its configurations were read
pub record AllTexts (t : Target) (bytes : List ℕ) (texts : List (List ℕ)) (old new : World) : Type 0
  where
    pub asked : TextsAsked t old texts new
    pub all : length texts ≡ configuration_count bytes

-- it is a hub, one of them is chosen, and with it the hub cannot be started
pub record BadChosen (t : Target) (bytes : List ℕ) (wide : Bool) (supply : ℕ) (old new : World) :
    Type 0 where
  pub hub : is_hub_device bytes ≡ true
  pub texts : List (List ℕ)
  pub read : World
  pub all : AllTexts t bytes texts old read
  pub chosen : ℕ
  pub choice : choice_of supply texts ≡ Some chosen
  pub set : World
  pub led : Leads read set
  pub fails : CannotStart wide t (slice_index_or texts chosen []) set new

-- by an answer; as a hub in the last tier; since its configurations have too many bytes, or none
-- needs as little power as the port gives; or as a hub that is bad
pub data RefusedAs (t : Target) (bytes : List ℕ) (options : HostOptions) (tier supply : ℕ)
    (old new : World) : Cause → Type 0 where
  by_answer : {why : Cause} → Because t old new why
      → RefusedAs t bytes options tier supply old new why
  too_deep : tier ≡ LAST_TIER → is_hub_device bytes ≡ true → new ≡ old
      → RefusedAs t bytes options tier supply old new cause.TooDeep
  too_large : GoesOver options.device_bytes t old new
      → RefusedAs t bytes options tier supply old new cause.TooLarge
  lacks_power : (texts : List (List ℕ)) → AllTexts t bytes texts old new
      → choice_of supply texts ≡ None → RefusedAs t bytes options tier supply old new cause.NoPower
  bad_hub : BadChosen t bytes options.wide_hubs supply old new
      → RefusedAs t bytes options tier supply old new cause.BadHub

-- so it is at a stop, which fits the tier
abbrev pub StoppedAs : Target → List ℕ → HostOptions → ℕ → ℕ → Stop → World → World → Type 0
StoppedAs t bytes options tier supply (Refused why) old new =
    RefusedAs t bytes options tier supply old new why
StoppedAs t bytes options tier supply (Fault why) old new = FaultAllowed why new

pub record StopsDevice (t : Target) (bytes : List ℕ) (options : HostOptions) (tier supply : ℕ)
    (old new : World) (stop : Stop) : Type 0 where
  pub fits : CauseAllowedOfDevice tier stop new
  pub because : StoppedAs t bytes options tier supply stop old new

-- At a port

-- a request to its hub failed, and neither for the bus nor for want of memory
pub record PortFails (port : HubPort) (old new : World) : Type 0 where
  pub before : World
  pub led : Leads old before
  pub why : PipeFault
  pub lost : fault_at_port why ≡ fault.ParentLost
  pub failed : PortRead port before (Err why) new
      ⊎ ((feature : ℕ) × (PortSet port feature before (Err why) new
      ⊎ PortCleared port feature before (Err why) new))

-- why there is no finding
abbrev pub FaultBy : HubPort → EnumFault → World → World → Type 0
FaultBy port fault.ParentLost old new = PortFails port old new
FaultBy port (fault.Bus why) old new = HasFault why new
FaultBy port fault.Memory old new = ⊤

-- its status was read, and it is not enabled
pub record NotEnabled (port : HubPort) (old new : World) : Type 0 where
  pub before : World
  pub led : Leads old before
  pub status : PortStatus
  pub read : PortRead port before (Ok status) new
  pub off : status.enabled ≡ false

-- the host speaks to the device at the port: at address 0, or at the one that is set aside for it
pub record IsSpokenTo (port : HubPort) (address : ℕ) (t : Target) : Type 0 where
  pub at : (t.addr ≡ 0) ⊎ (t.addr ≡ address)
  pub pre : t.pre ≡ (t.low && needs_pre port)

-- a device that is not read yet is refused: by an answer, or since the port is not enabled
pub data RefusedEarly (port : HubPort) (address : ℕ) (old new : World) : Cause → Type 0 where
  answered : {why : Cause} (t : Target) → IsSpokenTo port address t → Because t old new why
      → RefusedEarly port address old new why
  not_enabled : NotEnabled port old new → RefusedEarly port address old new cause.Lost

abbrev pub CauseAllowedAt : HubPort → ℕ → Stop → World → World → Type 0
CauseAllowedAt port address (Refused why) old new = RefusedEarly port address old new why
CauseAllowedAt port address (Fault why) old new = FaultBy port why old new

-- a pass ended with the device descriptor, or with no answer
pub record NoAnswerTold (port : HubPort) (address : ℕ) (old new : World) : Type 0 where
  pub target : Target
  pub is : IsSpokenTo port address target
  pub failed : EndsFailing target IsAny pipe.NoAnswer old new

abbrev pub PassTold : HubPort → ℕ → World → World → Option Addressed → Type 0
PassTold port address old new (Some device) = DescriptorRead device.target device.bytes old new
PassTold port address old new None = NoAnswerTold port address old new

abbrev pub DescriptorTold : Target → World → World → Option (List ℕ) → Type 0
DescriptorTold t old new (Some bytes) = DescriptorRead t bytes old new
DescriptorTold t old new None = EndsFailing t IsAny pipe.NoAnswer old new

-- whenever it is refused
pub data RefusedFor (port : HubPort) (address : ℕ) (options : HostOptions) (tier supply : ℕ)
    (old new : World) : Cause → Type 0 where
  early : {why : Cause} → RefusedEarly port address old new why
      → RefusedFor port address options tier supply old new why
  late : {why : Cause} (t : Target) (bytes : List ℕ) (mid : World) → IsSpokenTo port address t
      → DescriptorRead t bytes old mid → RefusedAs t bytes options tier supply mid new why
      → RefusedFor port address options tier supply old new why

abbrev pub StoppedFor : HubPort → ℕ → HostOptions → ℕ → ℕ → Stop → World → World → Type 0
StoppedFor port address options tier supply (Refused why) old new =
    RefusedFor port address options tier supply old new why
StoppedFor port address options tier supply (Fault why) old new = FaultBy port why old new

pub record StopsAtPort (port : HubPort) (address : ℕ) (options : HostOptions) (tier supply : ℕ)
    (old new : World) (stop : Stop) : Type 0 where
  pub fits : CauseAllowedIn port tier stop new
  pub because : StoppedFor port address options tier supply stop old new

-- where no address was free
abbrev pub StoppedWithout : HubPort → Stop → World → World → Type 0
StoppedWithout port stop old new = (stop ≡ Refused cause.NoAddress)
    ⊎ CauseAllowedAt port 0 stop old new

-- Of a whole enumeration

-- the cause was found at a moment, at an address that is free; or none is
pub data HasReason (port : HubPort) (addresses : Addresses) (options : HostOptions)
    (tier supply : ℕ) (old new : World) : Cause → Type 0 where
  refused_for : {why : Cause} (address : ℕ) → IsFree addresses address
      → RefusedFor port address options tier supply old new why
      → HasReason port addresses options tier supply old new why
  refused_early : {why : Cause} → IsFull addresses → RefusedEarly port 0 old new why
      → HasReason port addresses options tier supply old new why
  none_free : IsFull addresses
      → HasReason port addresses options tier supply old new cause.NoAddress

pub record RefusedBefore (port : HubPort) (addresses : Addresses) (options : HostOptions)
    (tier supply : ℕ) (old new : World) (why : Cause) : Type 0 where
  pub moment : World
  pub reason : HasReason port addresses options tier supply old moment why
  pub led : Leads moment new

-- a refusal names what ended it, and a hub is lost where a request about the port failed
abbrev pub EndsFor : HubPort → Addresses → HostOptions → ℕ → ℕ → World → Result Finding EnumFault
    → World → Type 0
EndsFor port addresses options tier supply old (Ok (finding.Device device)) new = ⊤
EndsFor port addresses options tier supply old (Ok (finding.Refused why)) new =
    RefusedBefore port addresses options tier supply old new why
EndsFor port addresses options tier supply old (Err why) new = FaultBy port why old new
