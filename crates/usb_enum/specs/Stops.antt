-- What a failed transfer means.
use Rattle.std.specs.Prelude.{◌≡◌, ◌≢◌, ◌⊎◌, ℕ, Option, Some, None, unwrap_or, Result, Ok, Err, ⊤}
use Rattle.std.specs.Prelude.{MatchResult}
use Rattle.usb_enum.specs.Device.{LAST_TIER}
use Rattle.usb_world.specs.{BusFault, World, HasFault}
use Rattle.usb_hub.specs.{HubPort, Root, External, StillWorks}
use Rattle.usb_transfer.specs.{PipeFault}
use Rattle.usb_transfer.specs.declared.fault.PipeFault.TheVariants as pipe
use Rattle.usb_enum.specs.declared.cause.Cause.{Cause}
use Rattle.usb_enum.specs.declared.cause.Cause.TheVariants as cause
use Rattle.usb_enum.specs.declared.cause.Request.{Request}
use Rattle.usb_enum.specs.declared.cause.Request.TheVariants as request
use Rattle.usb_enum.specs.declared.fault.EnumFault.{EnumFault}
use Rattle.usb_enum.specs.declared.fault.EnumFault.TheVariants as fault
use Rattle.usb_enum.specs.declared.stop.Stop.{Stop}
use Rattle.usb_enum.specs.declared.stop.Stop.TheVariants.{Refused, Fault}

-- silence and 256 waits refuse the device; a STALL means what the request says
abbrev pub stop_of : PipeFault → Option Stop
stop_of pipe.Stalled = None
stop_of pipe.Busy = Some (Refused cause.Busy)
stop_of pipe.NoAnswer = Some (Refused cause.Silent)
stop_of pipe.Broken = Some (Refused cause.Silent)
stop_of (pipe.Bus f) = Some (Fault (fault.Bus f))
stop_of pipe.Memory = Some (Fault fault.Memory)

abbrev pub answered_or : {X : Type 0} → Cause → Result X PipeFault → Result X Stop
answered_or stalled (Ok answer) = Ok answer
answered_or stalled (Err f) = Err (unwrap_or (stop_of f) (Refused stalled))

-- a hub whose port request fails is lost
abbrev pub fault_at_port : PipeFault → EnumFault
fault_at_port pipe.Stalled = fault.ParentLost
fault_at_port pipe.Busy = fault.ParentLost
fault_at_port pipe.NoAnswer = fault.ParentLost
fault_at_port pipe.Broken = fault.ParentLost
fault_at_port (pipe.Bus f) = fault.Bus f
fault_at_port pipe.Memory = fault.Memory

abbrev pub at_port : {X : Type 0} → Result X PipeFault → Result X EnumFault
at_port (Ok answer) = Ok answer
at_port (Err f) = Err (fault_at_port f)

-- it is no fault of the bus
abbrev pub IsNotOfBus : EnumFault → Type 0
IsNotOfBus fault.ParentLost = ⊤
IsNotOfBus (fault.Bus f) = ⊥
IsNotOfBus fault.Memory = ⊤

abbrev pub StopNotOfBus : Stop → Type 0
StopNotOfBus (Refused why) = ⊤
StopNotOfBus (Fault f) = IsNotOfBus f

-- the bus still works after a call, unless that reports a fault of the bus
abbrev pub EnumWorks : {X : Type 0} → Result X EnumFault → World → World → Type 0
EnumWorks result old new = MatchResult result (λ done. StillWorks old new)
    (λ f. IsNotOfBus f → StillWorks old new)

-- what stopped a part of an enumeration, if something did
abbrev pub stop_in : {X : Type 0} → Result X Stop → Option Stop
stop_in (Ok done) = None
stop_in (Err stop) = Some stop

-- that was no fault of the bus
abbrev pub NotOfBus : Option Stop → Type 0
NotOfBus None = ⊤
NotOfBus (Some stop) = StopNotOfBus stop

-- a call at a port as a part of an enumeration
abbrev pub as_stop : {X : Type 0} → Result X EnumFault → Result X Stop
as_stop (Ok done) = Ok done
as_stop (Err fault) = Err (Fault fault)

-- a request to a hub's port may fail; a root port is a register
abbrev pub CanFail : HubPort → Type 0
CanFail (Root number) = ⊥
CanFail (External hub port) = ⊤

-- the bus tells its fault, and a parent is lost where it can fail
abbrev pub FaultAllowedAt : HubPort → EnumFault → World → Type 0
FaultAllowedAt port fault.ParentLost w = CanFail port
FaultAllowedAt port (fault.Bus f) w = HasFault f w
FaultAllowedAt port fault.Memory w = ⊤

-- the same where no port is asked
abbrev pub FaultAllowed : EnumFault → World → Type 0
FaultAllowed fault.ParentLost w = ⊥
FaultAllowed (fault.Bus f) w = HasFault f w
FaultAllowed fault.Memory w = ⊤

-- over any bus: a fault of the bus is the one that it reported last
abbrev pub IsReported : EnumFault → Option BusFault → Type 0
IsReported fault.ParentLost last = ⊤
IsReported (fault.Bus f) last = last ≡ Some f
IsReported fault.Memory last = ⊤

abbrev pub IsReportedStop : Stop → Option BusFault → Type 0
IsReportedStop (Refused why) last = ⊤
IsReportedStop (Fault f) last = IsReported f last

-- a hub is too deep in the last tier, and bad in those above alone; there was an address
abbrev pub FitsTier : ℕ → Cause → Type 0
FitsTier tier cause.Silent = ⊤
FitsTier tier cause.Busy = ⊤
FitsTier tier (cause.Stalled request) = ⊤
FitsTier tier cause.BadDevice = ⊤
FitsTier tier cause.TooDeep = tier ≡ LAST_TIER
FitsTier tier (cause.BadConfiguration index) = ⊤
FitsTier tier cause.TooLarge = ⊤
FitsTier tier cause.NoPower = ⊤
FitsTier tier cause.BadHub = tier ≢ LAST_TIER
FitsTier tier cause.Lost = ⊤
FitsTier tier cause.NoAddress = ⊥

-- a cause that does not hang on the tier or on the addresses
abbrev pub IsPlain : Cause → Type 0
IsPlain cause.Silent = ⊤
IsPlain cause.Busy = ⊤
IsPlain (cause.Stalled request) = ⊤
IsPlain cause.BadDevice = ⊤
IsPlain cause.TooDeep = ⊥
IsPlain (cause.BadConfiguration index) = ⊤
IsPlain cause.TooLarge = ⊤
IsPlain cause.NoPower = ⊤
IsPlain cause.BadHub = ⊥
IsPlain cause.Lost = ⊤
IsPlain cause.NoAddress = ⊥

-- a request that comes before the whole device descriptor is read
abbrev pub IsEarlyRequest : Request → Type 0
IsEarlyRequest request.Device = ⊤
IsEarlyRequest request.Address = ⊤
IsEarlyRequest request.Config = ⊥
IsEarlyRequest request.SetConfig = ⊥

-- a cause that may come before that
abbrev pub IsEarly : Cause → Type 0
IsEarly cause.Silent = ⊤
IsEarly cause.Busy = ⊤
IsEarly (cause.Stalled named) = IsEarlyRequest named
IsEarly cause.BadDevice = ⊤
IsEarly cause.TooDeep = ⊥
IsEarly (cause.BadConfiguration index) = ⊥
IsEarly cause.TooLarge = ⊥
IsEarly cause.NoPower = ⊥
IsEarly cause.BadHub = ⊥
IsEarly cause.Lost = ⊤
IsEarly cause.NoAddress = ⊥

-- that, or no address was free
abbrev pub ComesEarly : Cause → Type 0
ComesEarly why = (why ≡ cause.NoAddress) ⊎ IsEarly why

-- so it is at a stop
abbrev pub IsEarlyStop : Stop → Type 0
IsEarlyStop (Refused why) = IsEarly why
IsEarlyStop (Fault f) = ⊤

-- so it is of a plain cause
abbrev pub IsPlainStop : Stop → Type 0
IsPlainStop (Refused why) = IsPlain why
IsPlainStop (Fault f) = ⊤

-- a hub is asked: it is bad, or the cause is a plain one
abbrev pub IsHubStop : Stop → Type 0
IsHubStop (Refused why) = (why ≡ cause.BadHub) ⊎ IsPlain why
IsHubStop (Fault f) = ⊤

-- no address was free, or the cause is an early one
abbrev pub IsStopWithout : Stop → Type 0
IsStopWithout (Refused why) = ComesEarly why
IsStopWithout (Fault f) = ⊤

-- the cause fits the tier
abbrev pub FitsStop : ℕ → Stop → Type 0
FitsStop tier (Refused why) = FitsTier tier why
FitsStop tier (Fault f) = ⊤

-- a stop that is no refusal is told by the bus
abbrev pub StopFaults : Stop → World → Type 0
StopFaults (Refused why) w = ⊤
StopFaults (Fault f) w = FaultAllowed f w

abbrev pub CauseAllowedOfDevice : ℕ → Stop → World → Type 0
CauseAllowedOfDevice tier (Refused cause) w = FitsTier tier cause
CauseAllowedOfDevice tier (Fault f) w = FaultAllowed f w

abbrev pub CauseAllowedIn : HubPort → ℕ → Stop → World → Type 0
CauseAllowedIn port tier (Refused cause) w = FitsTier tier cause
CauseAllowedIn port tier (Fault f) w = FaultAllowedAt port f w

-- where no address was free
abbrev pub CauseAllowedWithout : HubPort → Stop → World → Type 0
CauseAllowedWithout port (Refused why) w = (why ≡ cause.NoAddress) ⊎ IsPlain why
CauseAllowedWithout port (Fault f) w = FaultAllowedAt port f w
