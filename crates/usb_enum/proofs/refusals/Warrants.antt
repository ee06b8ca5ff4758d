-- That a refusal has its cause: what is wrong with a device is the verdict on it.
use Rattle.std.proofs.Common.{arith, ◌≡◌, ℕ, true, take, Option, None, Some, Result, Err, refl}
use Rattle.usb_device.specs.{Spec}
use Rattle.usb_world.specs.{after_taking, World}
use Rattle.usb_transfer.specs.{Target}
use Rattle.usb_hub.specs.{HubPort}
use Rattle.usb_enum.specs.{Addressed, Cause, NoAddress, Stop, AtPort, verdict, gives_head, IsRight}
use Rattle.usb_enum.specs.{is_device, StopsFairly, OnlySets, FailureReason, Awaits, HasTaken}
use Rattle.usb_enum.specs.{Refuses, head_fault, early_fault, device_fault, addressed_fault}
use Rattle.usb_enum.specs.{unaddressed_fault, cause_in, whole_fault, configured_fault}
use Rattle.usb_enum.specs.{CauseAllowedOfDevice, HostOptions, Went}
use Rattle.usb_enum.specs.declared.cause.Request.TheVariants as request
use Rattle.usb_enum.specs.declared.finding.Finding.TheVariants.{Refused as RefusedFinding}
use Rattle.usb_enum.specs.declared.stop.Stop.TheVariants.{Refused, Fault}
use Rattle.usb_enum.proofs.courses.Fairness.{fair_then, faults_for_told, pends_reached}
use Rattle.usb_enum.proofs.devices.Presence.{responsive, Granted}
use Rattle.usb_enum.proofs.devices.ReachedDevices.{reaches_set}
use Rattle.usb_enum.proofs.stops.StopReasons.{explained_at, early_none, addressed_early}
use Rattle.usb_enum.proofs.verdicts.VerdictRows.{verdict_refused}

-- The rows up to the device descriptor

pub addressed_verdict : (options : HostOptions) (tier supply : ℕ) (spec : Spec) (cause : Cause)
    → addressed_fault spec ≡ Some cause → whole_fault options tier supply spec ≡ Some cause
unfolding addressed_fault head_fault device_fault verdict
addressed_verdict options tier supply spec cause h = grind arith

early_gives : (spec : Spec) → early_fault spec ≡ None → gives_head spec ≡ true
unfolding head_fault
early_gives spec h = grind arith

-- What is right

caused : (r : Result ℕ Cause) (cause : Cause) → cause_in r ≡ Some cause → r ≡ Err cause
caused r cause h = grind arith

pub whole_right : (full : Type 0) (options : HostOptions) (tier supply : ℕ) (spec : Spec)
    (cause : Cause) → whole_fault options tier supply spec ≡ Some cause
    → IsRight full spec options tier supply (RefusedFinding cause)
whole_right full options tier supply spec cause h = grind arith

-- where no address is free
pub unaddressed_right : (full : Type 0) → full
    → (options : HostOptions) (tier supply : ℕ) (spec : Spec)
    (cause : Cause) → unaddressed_fault spec ≡ Some cause
    → IsRight full spec options tier supply (RefusedFinding cause)
unaddressed_right full none options tier supply spec cause h = split (early_fault spec) refl
  where
    split : (o : Option Cause) → early_fault spec ≡ o
        → IsRight full spec options tier supply (RefusedFinding cause)
    split (Some why) e =
        whole_right full options tier supply spec cause
        (grind (arith, addressed_early, addressed_verdict))
    split None e = grind (arith, early_gives)

-- A device that is given no address

pub unaddressed_early : (spec : Spec) (cause : Cause) → early_fault spec ≡ Some cause
    → unaddressed_fault spec ≡ Some cause
unaddressed_early spec cause e = grind arith

pub none_free : {port : HubPort} {target : Target} {old new : World} → Awaits target port 0 old new
    → StopsFairly unaddressed_fault port 0 (Refused NoAddress) old new
none_free awaits = grind (arith, early_none)

-- A device that is configured

record Described (device : Addressed) (spec : Spec) : Type 0 where
  granted : Granted device.target.low device.target.max spec
  bytes : device.bytes ≡ take 18 spec.descriptor

module _ {port : HubPort} {address : ℕ} (options : HostOptions) (tier supply : ℕ)
    {device : Addressed} {old mid new : World} (first : Went old mid) (second : Went mid new)
    (at : AtPort port address old mid) (taken : HasTaken port address old mid device)
    (sets : OnlySets address mid new)
    (whole : is_device device.target.low device.bytes ≡ true) where
  abbrev wrong : Spec → Option Cause
  wrong = configured_fault options tier supply device.bytes

  is_whole : {spec : Spec} (cause : Cause) → Refuses device.target wrong (Refused cause) spec
      × Described device spec → whole_fault options tier supply spec ≡ Some cause
  is_whole cause so = grind (arith, responsive, verdict_refused)

  pub configured_stops : (stop : Stop) → CauseAllowedOfDevice tier stop new
      → FailureReason (Refuses device.target wrong stop) device.target mid new
      → StopsFairly (whole_fault options tier supply) port address stop old new
  configured_stops (Fault why) told explains = search faults_for_told
  configured_stops (Refused cause) told explains = record {
    why = λ f p fair held.
        let here = fair_then first second fair at in
        let single = (sets.addresses.kept (after_taking f p address) (grind arith)).single in
        pends_reached (λ spec. whole_fault options tier supply spec ≡ Some cause) p new
        ((reaches_set second taken.takes sets taken.reaches).reached f p fair.spare
        fair.held fair.order fair.occupied fair.working) (λ s on there. is_whole cause
        (explained_at (Refuses device.target wrong (Refused cause)) (Described device) device.target
        f port p mid new fair.spare.at taken.pre here.few single
        (here.order (grind arith)).sane explains (λ s on there.
        let is = taken.found.found f p fair.spare fair.held fair.order s on there
        in
        record {
          low = is.low;
          address = is.address;
          so = grind arith;
        }) s on there));
  }
