-- What a part of an enumeration says: how many attempts it makes, what it keeps of all else, and
-- what it gives or why it stops.
use Rattle.std.specs.Prelude.{◌≡◌, ℕ, Bool, true, false, List, Option, Some, Result, IfSome}
use Rattle.std.specs.Prelude.{MatchResult, ⊤}
use Rattle.usb_device.specs.{Spec}
use Rattle.usb_world.specs.{BusFault, World}
use Rattle.usb_bus.specs.{Spends, StepRun}
use Rattle.usb_transfer.specs.{NoThreeDamaged, Target}
use Rattle.usb_hub.specs.{HubPort, StillWorks}
use Rattle.usb_enum.specs.declared.addressed.Addressed.{Addressed}
use Rattle.usb_enum.specs.declared.cause.Cause.{Cause}
use Rattle.usb_enum.specs.declared.options.HostOptions.{HostOptions}
use Rattle.usb_enum.specs.declared.stop.Stop.{Stop}
use Rattle.usb_enum.specs.declared.stop.Stop.TheVariants.{Refused, Fault}
use Rattle.usb_enum.specs.FairEnumerations.{StopsFairly}
use Rattle.usb_enum.specs.Frames.{OnlyAsks}
use Rattle.usb_enum.specs.LastRequests.{Leads}
use Rattle.usb_enum.specs.LearnedFacts.{FailureReason, ExplainsSet, DeviceFact}
use Rattle.usb_enum.specs.PresentDevices.{HasTaken, IsInOrder}
use Rattle.usb_enum.specs.Readings.{AtMaximum}
use Rattle.usb_enum.specs.Reasons.{DescriptorRead, FaultBy, CauseAllowed, CauseAllowedAt}
use Rattle.usb_enum.specs.Reasons.{StoppedWithout, StopsAtPort, StopsDevice, CauseAllowedAtStart}
use Rattle.usb_enum.specs.Reasons.{CauseAllowedOfHub, CauseAllowedOfText, CauseAllowedOfTexts}
use Rattle.usb_enum.specs.Refusals.{IsRefusedFor, Refuses, RefusesDescriptor, RefusesNoPort}
use Rattle.usb_enum.specs.Refusals.{configured_fault, head_fault, hub_fault, start_fault}
use Rattle.usb_enum.specs.Verdicts.{config_fault, first_fault}
use Rattle.usb_enum.specs.Refusals.{unaddressed_fault, whole_fault}
use Rattle.usb_enum.specs.Said.{Says}
use Rattle.usb_enum.specs.Stops.{IsReportedStop, NotOfBus, stop_in}

-- steps went: order stays, no address that is shared is unshared again, damages stay the same, and
-- a bus that gave up has given up
pub record Went (old new : World) : Type 0 where
  pub led : Leads old new
  pub order : IsInOrder old → IsInOrder new
  pub unshared : new.shared ≡ false → old.shared ≡ false
  pub three : NoThreeDamaged old → NoThreeDamaged new
  pub faulted : (fault : BusFault) → old.fault ≡ Some fault → new.fault ≡ Some fault

-- at most so many attempts were made, and this was kept
pub record KeepingSteps (Keeps : World → World → Type 0) (most : ℕ) (old : World)
    (before : Option (List ℕ)) (new : World) (now : Option (List ℕ)) : Type 0 where
  pub run : StepRun most old before new now
  pub went : Went old new
  pub keeps : Keeps old new

-- What went over a bus until something stopped it, or nothing did. Of one that does what its world
-- does, this was kept, and it works if it did, unless a fault of the bus stopped it.
pub record Gone {S : Type 0} (modelled : Bool) (world : S → World) (trace : S → Option (List ℕ))
    (spent ports : S → ℕ) (failed : S → Option BusFault) (Keeps : World → World → Type 0) (most : ℕ)
    (old : S) (stop : Option Stop) (new : S) : Type 0 where
  pub spends : Spends spent ports most old new
  -- a fault of the bus is the one that it reported last
  pub told : IfSome stop (λ why. IsReportedStop why (failed new))
  pub steps : modelled ≡ true
      → KeepingSteps Keeps most (world old) (trace old) (world new) (trace new)
  pub works : modelled ≡ true → NotOfBus stop → StillWorks (world old) (world new)

-- A part of an enumeration over a bus: what went, and of one that does what its world does, what is
-- so of what was given, or of why it stopped.
pub record Part {S A : Type 0} (modelled : Bool) (world : S → World) (trace : S → Option (List ℕ))
    (spent ports : S → ℕ) (failed : S → Option BusFault) (Keeps : World → World → Type 0) (most : ℕ)
    (Gives : World → World → A → Type 0) (Stops : World → World → Stop → Type 0) (old : S)
    (result : Result A Stop) (new : S) : Type 0 where
  pub gone : Gone modelled world trace spent ports failed Keeps most old (stop_in result) new
  pub ends : modelled ≡ true
      → MatchResult result (Gives (world old) (world new)) (Stops (world old) (world new))

-- one that reads a device
abbrev pub Read : {S A : Type 0} → Bool → (S → World) → (S → Option (List ℕ)) → (S → ℕ) → (S → ℕ)
    → (S → Option BusFault) → ℕ → (World → World → A → Type 0) → (World → World → Stop → Type 0)
    → S → Result A Stop → S → Type 0
Read modelled world trace spent ports failed =
    Part modelled world trace spent ports failed OnlyAsks

-- this was told, and for it this is so
pub record Both {A : Type 0} (Told So : World → World → A → Type 0) (old new : World)
    (it : A) : Type 0 where
  pub told : Told old new it
  pub so : So old new it

-- an answer: how it was asked for, and what is learned of the target's device
abbrev pub Answered : {A : Type 0} → Target → (World → World → A → Type 0) → (A → Spec → Type 0)
    → World → World → A → Type 0
Answered t Asked So = Both Asked (λ old new answer. DeviceFact (AtMaximum t (So answer)) t old new)

-- why a read stops: the last request and what was answered to it, and what explains it
abbrev pub StopsRead : Target → (Spec → Option Cause) → World → World → Stop → Type 0
StopsRead t wrong = Both (λ old new stop. CauseAllowed t stop old new)
    (λ old new stop. FailureReason (Refuses t wrong stop) t old new)

-- the same of the configuration of an index, where so many bytes are left
abbrev pub StopsText : Option ℕ → Target → ℕ → World → World → Stop → Type 0
StopsText room t index = Both (λ old new stop. CauseAllowedOfText room t index stop old new)
    (λ old new stop. FailureReason (Refuses t (λ spec. config_fault room spec index) stop) t old
    new)

-- and of the first so many of them, which may have so many bytes together
abbrev pub StopsTexts : Option ℕ → Target → ℕ → World → World → Stop → Type 0
StopsTexts budget t count = Both (λ old new stop. CauseAllowedOfTexts budget t stop old new)
    (λ old new stop. FailureReason (Refuses t (λ spec. first_fault budget spec count) stop) t old
    new)

-- the same of what a hub is asked
abbrev pub StopsHub : Bool → Target → World → World → Stop → Type 0
StopsHub wide t = Both (λ old new stop. CauseAllowedOfHub wide t stop old new)
    (λ old new stop. FailureReason (Refuses t (hub_fault wide) stop) t old new)

-- why a hub that has this configuration text cannot be started
abbrev pub StopsStart : Bool → Target → List ℕ → World → World → Stop → Type 0
StopsStart wide t text = Both (λ old new stop. CauseAllowedAtStart wide t text stop old new)
    (λ old new stop. ExplainsSet (Refuses t (start_fault wide text) stop) t old new)

-- why its first so many ports are not given power
abbrev pub StopsPower : Bool → Target → ℕ → World → World → Stop → Type 0
StopsPower wide t ports = Both (λ old new stop. CauseAllowedOfHub wide t stop old new)
    (λ old new stop. ExplainsSet (RefusesNoPort t ports stop) t old new)

-- why the head of a device descriptor, or all of it, was not read
abbrev pub StopsHead : Target → World → World → Stop → Type 0
StopsHead t = Both (λ old new stop. CauseAllowed t stop old new)
    (λ old new stop. FailureReason (IsRefusedFor (head_fault t.low) stop) t old new)

abbrev pub StopsDescriptor : Target → World → World → Stop → Type 0
StopsDescriptor t = Both (λ old new stop. CauseAllowed t stop old new)
    (λ old new stop. RefusesDescriptor t stop old new)

-- the device that took the address was read at it
abbrev pub TakesAddressed : HubPort → ℕ → World → World → Addressed → Type 0
TakesAddressed port address =
    Both (λ old new device. DescriptorRead device.target device.bytes old new)
    (HasTaken port address)

-- why there is no device with an address at a port: what was answered, and where all is fair
abbrev pub StopsAt : HubPort → ℕ → (Spec → Option Cause) → World → World → Stop → Type 0
StopsAt port address wrong = Both (λ old new stop. CauseAllowedAt port address stop old new)
    (λ old new stop. StopsFairly wrong port address stop old new)

-- the same where no address is free
abbrev pub StopsWithout : HubPort → World → World → Stop → Type 0
StopsWithout port = Both (λ old new stop. StoppedWithout port stop old new)
    (λ old new stop. StopsFairly unaddressed_fault port 0 stop old new)

-- besides, what was said
pub record EndsWithout (port : HubPort) (before now : List ℕ) (old new : World) (stop : Stop) :
    Type 0 where
  pub stops : StopsWithout port old new stop
  pub said : Says port 0 before now old new

-- why a device of this descriptor is not configured, in a tier and at a port of so many mA
abbrev pub StopsConfiguring : Target → List ℕ → HostOptions → ℕ → ℕ → World → World → Stop → Type 0
StopsConfiguring t bytes options tier supply = Both (StopsDevice t bytes options tier supply)
    (λ old new stop.
    FailureReason (Refuses t (configured_fault options tier supply bytes) stop) t old new)

-- why one at a port is not
abbrev pub StopsExamining : HubPort → ℕ → HostOptions → ℕ → ℕ → World → World → Stop → Type 0
StopsExamining port address options tier supply =
    Both (StopsAtPort port address options tier supply)
    (λ old new stop. StopsFairly (whole_fault options tier supply) port address stop old new)

-- a call at the port is done, or failed
abbrev pub IsDone : World → World → Unit {0} → Type 0
IsDone old new done = ⊤

abbrev pub FailsAt : HubPort → World → World → Stop → Type 0
FailsAt port old new (Refused cause) = ⊥
FailsAt port old new (Fault fault) = FaultBy port fault old new
