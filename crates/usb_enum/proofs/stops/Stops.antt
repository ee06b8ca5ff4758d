-- Why the parts of an enumeration behind the device descriptor stop, and the whole.
use Rattle.std.proofs.Common.{arith, ◌≡◌, inl, inr, ℕ, ◌==◌, true, List, [], slice_index_or, Some}
use Rattle.std.proofs.Common.{Result, Ok, Err, refl, sym, subst, IfErr}
use Rattle.usb_port.specs.{Addresses, IsFree, IsFull}
use Rattle.usb_world.specs.{World}
use Rattle.usb_world.proofs.Interface.{both, equal_same}
use Rattle.usb_transfer.specs.{Target}
use Rattle.usb_hub.specs.{HubPort}
use Rattle.usb_enum.specs.{EnumFault, Finding, Stop, LAST_TIER, fits_tier, is_hub_device, GivesUp}
use Rattle.usb_enum.specs.{Leads, DescriptorRead, CauseAllowed, CauseAllowedAtStart, AllTexts}
use Rattle.usb_enum.specs.{RefusedAs, by_answer, too_deep, bad_hub, StoppedAs, StopsDevice, FaultBy}
use Rattle.usb_enum.specs.{IsSpokenTo, CauseAllowedAt, early, late, StopsAtPort, StoppedFor}
use Rattle.usb_enum.specs.{StoppedWithout, HasReason, refused_for, refused_early, none_free}
use Rattle.usb_enum.specs.{CauseAllowedOfTexts, EndsFor, FaultAllowedAt, CauseAllowedWithout}
use Rattle.usb_enum.specs.{HostOptions, choice_of, too_large}
use Rattle.usb_enum.specs.declared.cause.Cause.TheVariants as cause
use Rattle.usb_enum.specs.declared.finding.Finding.TheVariants as finding
use Rattle.usb_enum.specs.declared.stop.Stop.TheVariants.{Refused, Fault}
use Rattle.usb_enum.proofs.stops.PlainStops.{deep_is, plain_fits}
use Rattle.usb_enum.proofs.courses.Courses.{leads_then}
use Rattle.usb_enum.proofs.stops.Reasons.{because_after, because_plain, fault_after, told_in}

-- By an answer

pub stops_by : (t : Target) (bytes : List ℕ) (options : HostOptions) (tier supply : ℕ) (stop : Stop)
    (old new : World)
    → CauseAllowed t stop old new → StopsDevice t bytes options tier supply old new stop
stops_by t bytes options tier supply (Refused why) old new told = record {
  fits = search (because_plain, plain_fits);
  because = by_answer told;
}
stops_by t bytes options tier supply (Fault why) old new told = grind arith

-- by the texts of its configurations
pub texts_stops : (t : Target) (bytes : List ℕ) (options : HostOptions) (tier supply : ℕ)
    (stop : Stop) (old new : World) → CauseAllowedOfTexts options.device_bytes t stop old new
    → StopsDevice t bytes options tier supply old new stop
texts_stops t bytes options tier supply (Refused why) old new (inl large) = record {
  fits = grind arith;
  because = subst (RefusedAs t bytes options tier supply old new) (sym large.0) (too_large large.1);
}
texts_stops t bytes options tier supply (Refused why) old new (inr told) = search stops_by
texts_stops t bytes options tier supply (Fault why) old new told = grind arith

-- In the last tier

pub fits_stop : (t : Target) (bytes : List ℕ) (options : HostOptions) (tier supply : ℕ)
    (stop : Stop) (w : World)
    → fits_tier tier bytes ≡ Err stop → StopsDevice t bytes options tier supply w w stop
fits_stop t bytes options tier supply stop w is =
    let deep = deep_is tier bytes stop is in
    let parts = both (is_hub_device bytes) (tier == LAST_TIER) deep.1 in
    let last = equal_same tier LAST_TIER parts.1 in
    rw deep.0 (record { fits = last; because = too_deep last parts.0 refl })

-- As a hub

module _ (t : Target) (bytes : List ℕ) (options : HostOptions) (tier supply : ℕ) where
  hub_as : (stop : Stop) {old read set : World} (new : World) → is_hub_device bytes ≡ true
      → {texts : List (List ℕ)} → AllTexts t bytes texts old read → (chosen : ℕ)
      → choice_of supply texts ≡ Some chosen → Leads old read → Leads read set
      → CauseAllowedAtStart options.wide_hubs t (slice_index_or texts chosen []) stop set new
      → StoppedAs t bytes options tier supply stop old new
  hub_as (Refused why) {old} {read} {set} new hub {texts} all chosen choice first led (inl bad) =
      subst (RefusedAs t bytes options tier supply old new) (sym bad.0) (bad_hub (grind arith))
  hub_as (Refused why) new hub all chosen choice first led (inr b) =
      by_answer (because_after why t new (leads_then first led) b)
  hub_as (Fault why) new hub all chosen choice first led told = told

  pub hub_stops : (stop : Stop) {old read set : World} (new : World) → fits_tier tier bytes ≡ Ok tt
      → is_hub_device bytes ≡ true → {texts : List (List ℕ)} → AllTexts t bytes texts old read
      → (chosen : ℕ) → choice_of supply texts ≡ Some chosen → Leads old read → Leads read set
      → CauseAllowedAtStart options.wide_hubs t (slice_index_or texts chosen []) stop set new
      → StopsDevice t bytes options tier supply old new stop
  hub_stops stop new fits hub all chosen choice first led told = grind (arith, hub_as)

-- At the port

pub device_stops : {port : HubPort} {address : ℕ} {options : HostOptions} {tier supply : ℕ}
    {t : Target} {bytes : List ℕ} (stop : Stop) {old mid new : World} → IsSpokenTo port address t
    → DescriptorRead t bytes old mid → StopsDevice t bytes options tier supply mid new stop
    → StopsAtPort port address options tier supply old new stop
device_stops {t} {bytes} (Refused why) {mid} is read told =
    record { fits = told.fits; because = late t bytes mid is read told.because }
device_stops {port} (Fault why) {old} {new} is read told = grind arith

pub early_stops : (port : HubPort) (address : ℕ) (options : HostOptions) (tier supply : ℕ)
    (stop : Stop) (old new : World) → CauseAllowedAt port address stop old new
    → StopsAtPort port address options tier supply old new stop
early_stops port address options tier supply (Refused why) old new told = record {
  fits = search told_in;
  because = early told;
}
early_stops port address options tier supply (Fault why) old new told = grind arith

-- The whole

module _ (port : HubPort) (addresses : Addresses) (options : HostOptions) (tier supply : ℕ) where
  -- what a stop tells, at the moment when it came
  abbrev Reasoned : Stop → World → World → Type 0
  Reasoned (Refused why) old new = HasReason port addresses options tier supply old new why
  Reasoned (Fault why) old new = FaultBy port why old new

  pub stopped_reasoned : (address : ℕ) (stop : Stop) (old new : World) → IsFree addresses address
      → StoppedFor port address options tier supply stop old new → Reasoned stop old new
  stopped_reasoned address (Refused why) old new free told = refused_for address free told
  stopped_reasoned address (Fault why) old new free told = told

  pub without_reasoned : (stop : Stop) (old new : World) → IsFull addresses
      → StoppedWithout port stop old new → Reasoned stop old new
  without_reasoned (Refused why) old new full (inl e) =
      subst (HasReason port addresses options tier supply old new)
      (let same : cause.NoAddress ≡ why = cc in same) (none_free full)
  without_reasoned (Refused why) old new full (inr told) = refused_early full told
  without_reasoned (Fault why) old new full (inl e) = absurd cc
  without_reasoned (Fault why) old new full (inr told) = told

  -- the port is disabled then, and that may fail
  pub gives_reason : (stop : Stop) {old mid new : World} (result : Result Finding EnumFault)
      → Leads old mid → Leads mid new → Reasoned stop old mid → GivesUp port stop mid result new
      → EndsFor port addresses options tier supply old result new
  gives_reason stop result first led reason gives = grind (arith, fault_after)

-- where no address was free
pub stopped_without : (port : HubPort) (stop : Stop) (old new : World)
    → StoppedWithout port stop old new → CauseAllowedWithout port stop new
stopped_without port stop old new h = grind arith

-- what is told of its end
pub given_told : (port : HubPort) (stop : Stop) (mid new : World)
    (result : Result Finding EnumFault) → ((why : EnumFault) → stop ≡ Fault why
    → FaultAllowedAt port why mid) → GivesUp port stop mid result new
    → IfErr result (λ fault. FaultAllowedAt port fault new)
given_told port stop mid new result faults gives = grind arith
