-- How the reasons of a stop come from answers, and how they join.
use Rattle.std.proofs.Common.{arith, ◌≡◌, ◌≢◌, ◌⊎◌, inl, inr, ℕ, Bool, List, length, Option, Some}
use Rattle.std.proofs.Common.{Result, Err, refl, subst, IfErr, IfSome, MatchResult}
use Rattle.std.specs.Prelude.{⊤}
use Rattle.std.specs.Global.{Vec}
use Rattle.usb_request.specs.{Setup, get_status}
use Rattle.usb_world.specs.{World}
use Rattle.usb_transfer.specs.{Target, AttemptsMade, PipeFault, FaultAfter, Reads, WasRead, Writes}
use Rattle.usb_transfer.specs.declared.fault.PipeFault.TheVariants as pipe
use Rattle.usb_hub.specs.{HubPort, DeviceStatus, PortCleared, PortRead, PortSet, Queried, EndsAfter}
use Rattle.usb_hub.specs.{Commanded, ReadAs, device_status, said_in}
use Rattle.usb_enum.specs.{Cause, Request, EnumFault, Stop, Leads, FailsAs, EndsFailing}
use Rattle.usb_enum.specs.{EndsReading, IsAny, IsNamed, DescriptorRead, BadDescriptor, bad_head}
use Rattle.usb_enum.specs.{bad_front, BadText, bad_total, bad_text, repeated, Because, CauseAllowed}
use Rattle.usb_enum.specs.{HubFails, no_descriptor, bad_descriptor, no_status, no_power}
use Rattle.usb_enum.specs.{CauseAllowedOfHub, CauseAllowedAtStart, PortFails, FaultBy, IsSpokenTo}
use Rattle.usb_enum.specs.{RefusedEarly, answered, not_enabled, CauseAllowedAt, NoAnswerTold}
use Rattle.usb_enum.specs.{FaultAllowedAt, FaultAllowed, IsPlain, StopFaults, CauseAllowedIn}
use Rattle.usb_enum.specs.{answered_or, at_port, fault_at_port, stop_of, left_of, texts_length}
use Rattle.usb_enum.specs.{CauseAllowedOfText, CauseAllowedOfTexts, TextsAsked}
use Rattle.usb_enum.specs.declared.cause.Cause.TheVariants as cause
use Rattle.usb_enum.specs.declared.fault.EnumFault.TheVariants as fault
use Rattle.usb_enum.specs.declared.stop.Stop.TheVariants.{Refused, Fault}
use Rattle.usb_enum.proofs.courses.Courses.{leads_none, leads_then}

-- Requests

failing : {t : Target} {setup : Setup} (Is : Setup → Type 0) (why : PipeFault) {old new : World}
    → Is setup → FailsAs t setup why old new → EndsFailing t Is why old new
failing Is why is failed = grind (arith, leads_none)

pub reading : {t : Target} {setup : Setup} {bytes : List ℕ} {old new : World}
    → WasRead t setup old bytes new → EndsReading t setup bytes old new
reading read = grind (arith, leads_none)

pub failing_after : {t : Target} {Is : Setup → Type 0} {why : PipeFault} {old mid new : World}
    → Leads old mid → EndsFailing t Is why mid new → EndsFailing t Is why old new
failing_after led ends = grind (arith, leads_then)

pub reading_after : {t : Target} {setup : Setup} {bytes : List ℕ} {old mid new : World}
    → Leads old mid → EndsReading t setup bytes mid new → EndsReading t setup bytes old new
reading_after led ends = grind (arith, leads_then)

pub descriptor_after : {t : Target} {bytes : List ℕ} {old mid new : World} → Leads old mid
    → DescriptorRead t bytes mid new → DescriptorRead t bytes old new
descriptor_after led got = search reading_after

-- What an answer is told as

-- by each fault
stop_by : {A : Type 0} (P : Stop → Type 0) (Failed_as : PipeFault → Type 0) (stalled : Cause)
    {outcome : Result A PipeFault} {stop : Stop} (m n : ℕ) (old new : World)
    → Err stop ≡ answered_or stalled outcome
    → ((why : PipeFault) → outcome ≡ Err why → Failed_as why)
    → MatchResult outcome (λ _. AttemptsMade m old new) (λ why. FaultAfter n old why new)
    → (Failed_as pipe.Stalled → P (Refused stalled))
    → (Failed_as pipe.Busy → P (Refused cause.Busy))
    → (Failed_as pipe.NoAnswer → P (Refused cause.Silent))
    → ((why : EnumFault) → FaultAllowed why new → P (Fault why)) → P stop
stop_by P Failed_as stalled m n old new is failed ends by_stall by_wait by_silence by_fault =
    grind arith

-- of a request that a refusal names
stop_told : {A : Type 0} (t : Target) (setup : Setup) (named : Request)
    (outcome : Result A PipeFault) (stop : Stop) (m n : ℕ) (old new : World)
    → Err stop ≡ answered_or (cause.Stalled named) outcome → IsNamed named setup
    → ((why : PipeFault) → outcome ≡ Err why → FailsAs t setup why old new)
    → MatchResult outcome (λ _. AttemptsMade m old new) (λ why. FaultAfter n old why new)
    → CauseAllowed t stop old new
stop_told t setup named outcome stop m n old new is names failed ends =
    stop_by (λ s. CauseAllowed t s old new) (λ why. FailsAs t setup why old new) (cause.Stalled
    named) m n old new is failed ends (search failing) (failing IsAny pipe.Busy tt)
    (search failing) (λ why told. told)

-- of a request to a hub
pub bad_hub_told : {A : Type 0} (wide : Bool) {t : Target} (setup : Setup)
    (outcome : Result A PipeFault)
    (stop : Stop) (m n : ℕ) {old new : World} → Err stop ≡ answered_or cause.BadHub outcome
    → ((why : PipeFault) → outcome ≡ Err why → FailsAs t setup why old new)
    → MatchResult outcome (λ _. AttemptsMade m old new) (λ why. FaultAfter n old why new)
    → (EndsFailing t (λ x. x ≡ setup) pipe.Stalled old new → HubFails wide t old new)
    → CauseAllowedOfHub wide t stop old new
bad_hub_told wide {t} setup outcome stop m n {old} {new} is failed ends bad =
    stop_by (λ s. CauseAllowedOfHub wide t s old new) (λ why. FailsAs t setup why old new)
    cause.BadHub m n old new is failed ends
    (λ f. inl (refl, bad (search failing)))
    (λ f. inr (failing IsAny pipe.Busy tt f)) (λ f. inr (search failing))
    (λ why told. told)

pub reads_failed : (t : Target) (setup : Setup) (outcome : Result (Vec ℕ) PipeFault)
    (old new : World) → Reads t setup old outcome new → (why : PipeFault) → outcome ≡ Err why
    → FailsAs t setup why old new
reads_failed t setup outcome old new stages why is =
    inl (grind arith)

pub writes_failed : (t : Target) (setup : Setup) (outcome : Result (Unit {0}) PipeFault)
    (old new : World) → Writes t setup old outcome new → (why : PipeFault) → outcome ≡ Err why
    → FailsAs t setup why old new
writes_failed t setup outcome old new stages why is = grind arith

-- so it is of one for data, and of one without
pub read_stop_told : {t : Target} {setup : Setup} {outcome : Result (Vec ℕ) PipeFault}
    {old new : World} (named : Request) (stop : Stop) → IsNamed named setup
    → Err stop ≡ answered_or (cause.Stalled named) outcome → Queried t setup old outcome new
    → CauseAllowed t stop old new
read_stop_told {t} {setup} {outcome} {old} {new} named stop names is asked =
    stop_told t setup named outcome stop 3 1 old new is names
    (reads_failed t setup outcome old new asked.stages) asked.ends

pub write_stop_told : {t : Target} {setup : Setup} {outcome : Result (Unit {0}) PipeFault}
    {old new : World} (named : Request) (stop : Stop) → IsNamed named setup
    → Err stop ≡ answered_or (cause.Stalled named) outcome → Commanded t setup old outcome new
    → CauseAllowed t stop old new
write_stop_told {t} {setup} {outcome} {old} {new} named stop names is ordered =
    stop_told t setup named outcome stop 2 1 old new is names
    (grind arith) ordered.ends

-- of the status, which may have another length

-- what it failed as
abbrev StatusFails : Target → World → World → PipeFault → Type 0
StatusFails t old new why = (answer : Result (Vec ℕ) PipeFault) × (Reads t get_status old answer new
    × (said_in device_status get_status.length answer ≡ Err why))

status_failed : (t : Target) (why : PipeFault) (old new : World) → why ≢ pipe.Stalled
    → StatusFails t old new why → FailsAs t get_status why old new
status_failed t why old new other f = grind arith

pub status_told : (wide : Bool) {t : Target} {outcome : Result DeviceStatus PipeFault} {stop : Stop}
    {old new : World} → Err stop ≡ answered_or cause.BadHub outcome
    → ReadAs device_status t get_status old outcome new → CauseAllowedOfHub wide t stop old new
status_told wide {t} {old} {new} is told =
    stop_by (λ s. CauseAllowedOfHub wide t s old new) (StatusFails t old new) cause.BadHub 3
    1 old new is (grind arith) told.ends
    (λ f. inl (refl, no_status old f.0 (leads_none old) f.1.0 f.1.1))
    (λ f. inr (failing IsAny pipe.Busy tt (status_failed t pipe.Busy old new (λ e. absurd cc) f)))
    (λ f. inr (failing IsAny pipe.NoAnswer tt
    (status_failed t pipe.NoAnswer old new (λ e. absurd cc) f))) (λ why told_so. told_so)

-- of a string, whose STALL is no stop
pub string_told : (t : Target) (setup : Setup) (outcome : Result (Vec ℕ) PipeFault)
    (fault_is : PipeFault) (stop : Stop) (old new : World) → outcome ≡ Err fault_is
    → stop_of fault_is ≡ Some stop → Reads t setup old outcome new → EndsAfter 3 old outcome new
    → CauseAllowed t stop old new
string_told t setup outcome fault_is stop old new is some stages ends =
    subst Told some (by fault_is (search reads_failed)
    (grind arith))
  where
    Told : Option Stop → Type 0
    Told o = IfSome o (λ s. CauseAllowed t s old new)

    by : (why : PipeFault) → FailsAs t setup why old new → FaultAfter 1 old why new
        → Told (stop_of why)
    by pipe.Busy failed after = search failing
    by pipe.NoAnswer failed after = search failing
    by pipe.Broken failed after = absurd after
    by (pipe.Bus why) failed after = after
    by _ failed after = tt

-- that there was no answer
pub unanswered_ends_failing : {t : Target} (setup : Setup) {outcome : Result (Vec ℕ) PipeFault}
    {old new : World} → outcome ≡ Err pipe.NoAnswer → Reads t setup old outcome new
    → EndsFailing t IsAny pipe.NoAnswer old new
unanswered_ends_failing {t} setup {outcome} {old} {new} is stages =
    failing IsAny pipe.NoAnswer tt (reads_failed t setup outcome old new stages pipe.NoAnswer is)

-- Of a device, after other steps

descriptor_bad_after : {t : Target} {old mid new : World} → Leads old mid → BadDescriptor t mid new
    → BadDescriptor t old new
descriptor_bad_after led (bad_head bytes why read bad) =
    bad_head bytes why (reading_after led read) bad
descriptor_bad_after led (bad_front bytes read bad) =
    bad_front bytes (descriptor_after led read) bad

text_bad_after : {t : Target} {index : ℕ} {old mid new : World} → Leads old mid
    → BadText t index mid new → BadText t index old new
text_bad_after led (bad_total bytes why read bad) = bad_total bytes why (reading_after led read) bad
text_bad_after led (bad_text text read bad) = bad_text text
    (search (reading_after, read.read)) bad
text_bad_after led (repeated begun mid texts text first asked same read again) =
    repeated begun mid texts text (leads_then led first) asked same read again

pub because_after : (why : Cause) (t : Target) {old mid : World} (new : World) → Leads old mid
    → Because t mid new why → Because t old new why
because_after cause.Silent t new led b = failing_after led b
because_after cause.Busy t new led b = failing_after led b
because_after (cause.Stalled named) t new led b = failing_after led b
because_after cause.BadDevice t new led b = descriptor_bad_after led b
because_after (cause.BadConfiguration index) t new led b = text_bad_after led b
because_after _ t new led b = absurd b

pub told_after : (stop : Stop) (t : Target) {old mid : World} (new : World) → Leads old mid
    → CauseAllowed t stop mid new → CauseAllowed t stop old new
told_after stop t new led told = grind (arith, because_after)

-- Of the texts of configurations

pub text_told : (room : Option ℕ) (t : Target) (index : ℕ) (stop : Stop) (old new : World)
    → CauseAllowed t stop old new → CauseAllowedOfText room t index stop old new
text_told room t index stop old new told = grind arith

-- after those that were read
pub texts_told : (budget room : Option ℕ) {t : Target} {texts : List (List ℕ)} (index : ℕ)
    (stop : Stop) {old mid : World} (new : World) → room ≡ left_of budget (texts_length texts)
    → length texts ≡ index → TextsAsked t old texts mid → Leads old mid
    → CauseAllowedOfText room t index stop mid new → CauseAllowedOfTexts budget t stop old new
texts_told budget room index stop new left count asked led told = grind (arith, because_after)

-- Of a hub, after other steps

pub fails_after : {wide : Bool} {t : Target} {old mid new : World} → Leads old mid
    → HubFails wide t mid new → HubFails wide t old new
fails_after led (no_descriptor ends) = no_descriptor (failing_after led ends)
fails_after led (bad_descriptor bytes why read bad) =
    bad_descriptor bytes why (reading_after led read) bad
fails_after led (no_status before answer first stages said) =
    no_status before answer (leads_then led first) stages said
fails_after led (no_power port ends) = no_power port (failing_after led ends)

pub hub_after : (wide : Bool) (stop : Stop) (t : Target) {old mid : World} (new : World)
    → Leads old mid → CauseAllowedOfHub wide t stop mid new → CauseAllowedOfHub wide t stop old new
hub_after wide (Refused why) t new led (inl bad) = inl (bad.0, fails_after led bad.1)
hub_after wide (Refused why) t new led (inr b) = inr (because_after why t new led b)
hub_after wide (Fault why) t new led told = told

pub at_start : (wide : Bool) (stop : Stop) (t : Target) (text : List ℕ) (old new : World)
    → CauseAllowedOfHub wide t stop old new → CauseAllowedAtStart wide t text stop old new
at_start wide (Refused why) t text old new (inl bad) = inl (bad.0, inr (inr bad.1))
at_start wide (Refused why) t text old new (inr b) = inr b
at_start wide (Fault why) t text old new told = told

-- What a reason says of the cause

pub because_plain : (why : Cause) (t : Target) (old new : World) → Because t old new why
    → IsPlain why
because_plain why t old new b = grind arith

pub told_faults : (stop : Stop) (t : Target) (old new : World) → CauseAllowed t stop old new
    → StopFaults stop new
told_faults stop t old new told = grind arith

-- At a port

pub fault_by : (port : HubPort) (why : EnumFault) (old new : World) → FaultBy port why old new
    → FaultAllowedAt port why new
fault_by port why old new by = grind arith

pub fault_after : (port : HubPort) (why : EnumFault) {old mid : World} (new : World) → Leads old mid
    → FaultBy port why mid new → FaultBy port why old new
fault_after port fault.ParentLost new led by = grind (arith, leads_then)
fault_after port _ new led by = by

-- no port was asked
pub fault_told_by : (port : HubPort) (why : EnumFault) (old new : World) → FaultAllowed why new
    → FaultBy port why old new
fault_told_by port why old new told = grind arith

-- what failed at the port
abbrev pub AtPortFails : HubPort → PipeFault → World → World → Type 0
AtPortFails port why old new = PortRead port old (Err why) new
    ⊎ ((feature : ℕ) × (PortSet port feature old (Err why) new
    ⊎ PortCleared port feature old (Err why) new))

lost_by : {port : HubPort} {old new : World} (why : PipeFault) → fault_at_port why ≡
    fault.ParentLost → AtPortFails port why old new → PortFails port old new
lost_by why lost failed = grind (arith, leads_none)

called_by : {A : Type 0} (port : HubPort) (outcome : Result A PipeFault) (old new : World)
    → IfErr outcome (λ why. FaultAfter 1 old why new)
    → ((why : PipeFault) → outcome ≡ Err why → AtPortFails port why old new)
    → IfErr (at_port outcome) (λ why. FaultBy port why old new)
called_by port (Err pipe.Stalled) old new ends f = lost_by pipe.Stalled refl (f pipe.Stalled refl)
called_by port (Err pipe.Busy) old new ends f = lost_by pipe.Busy refl (f pipe.Busy refl)
called_by port (Err pipe.NoAnswer) old new ends f =
    lost_by pipe.NoAnswer refl (f pipe.NoAnswer refl)
called_by port (Err pipe.Broken) old new ends f = search
called_by port (Err (pipe.Bus why)) old new ends f = ends
called_by port _ old new ends f = tt

-- how a call at the port ends
pub call_ends : {A : Type 0} (port : HubPort) (result : Result A EnumFault)
    (outcome : Result A PipeFault) (old new : World) → result ≡ at_port outcome
    → IfErr outcome (λ why. FaultAfter 1 old why new)
    → ((why : PipeFault) → outcome ≡ Err why → AtPortFails port why old new)
    → MatchResult result (λ done. ⊤) (λ why. FaultBy port why old new)
call_ends port result outcome old new is ends f = grind (arith, called_by)

early_after : {port : HubPort} {address : ℕ} {why : Cause} {old mid new : World} → Leads old mid
    → RefusedEarly port address mid new why → RefusedEarly port address old new why
early_after {why} {new} led (answered t is b) =
    answered t is (because_after why t new led b)
early_after led (not_enabled n) = not_enabled (grind (arith, leads_then))

pub at_after : (stop : Stop) (port : HubPort) (address : ℕ) {old mid : World} (new : World)
    → Leads old mid
    → CauseAllowedAt port address stop mid new → CauseAllowedAt port address stop old new
at_after stop port address new led told = grind (arith, early_after, fault_after)

-- of the device at the port
pub stop_told_at : (stop : Stop) {port : HubPort} {address : ℕ} {t : Target} (old new : World)
    → IsSpokenTo port address t → CauseAllowed t stop old new
    → CauseAllowedAt port address stop old new
stop_told_at (Refused why) {t} old new is told = answered t is told
stop_told_at (Fault why) {port} old new is told = fault_told_by port why old new told

pub silent_after : {port : HubPort} {address : ℕ} {old mid new : World} → Leads old mid
    → NoAnswerTold port address mid new → NoAnswerTold port address old new
silent_after led told = search failing_after

early_plain : {port : HubPort} {address : ℕ} {old new : World} {why : Cause}
    → RefusedEarly port address old new why → IsPlain why
early_plain h = grind arith

pub told_in : (tier : ℕ) (stop : Stop) (port : HubPort) (address : ℕ) (old new : World)
    → CauseAllowedAt port address stop old new → CauseAllowedIn port tier stop new
told_in tier stop port address old new told = grind arith
