-- A device's descriptor: what is learned of it, and why the device is refused for it.
use Rattle.usb_device.specs.{Spec, State, max_packet, path_to}
use Rattle.std.proofs.Common.{◌≡◌, ℕ, inr, Bool, true, false, List, length, slice_index, take, Some}
use Rattle.std.proofs.Common.{Result, Ok, Err, refl, ap, sym, ◌∙◌, arith, ◌≤◌, ◌<◌, option_map, inl}
use Rattle.std.proofs.Common.{None, MatchResult}
use Rattle.std.proofs.lemmas.List.{take-take}
use Rattle.std.specs.Global.{Vec}
use Rattle.usb_request.specs.{get_device_descriptor}
use Rattle.usb_request.proofs.Interface.{same_setup}
use Rattle.usb_descriptor.specs.{device_head_of, is_max_packet, DescriptorFault, device_spelled}
use Rattle.usb_world.specs.{World, EachWas, BusFault, address_of}
use Rattle.usb_world.proofs.Interface.{each_wider, decided}
use Rattle.usb_transfer.specs.{Target, HadOne, NoThreeDamaged, PipeFault, IsMaximum, FaultAfter}
use Rattle.usb_transfer.specs.{IsTransferAnswer}
use Rattle.usb_hub.specs.{device_given, HasText, DeviceAsked, KeepsAnswered, ReadFailure, IsClaimed}
use Rattle.usb_hub.specs.{Queried, AddressMap, MapHolds}
use Rattle.usb_enum.specs.{Cause, Learned, AnswersSo, HasHead, answered_or, Stalled, BadDevice}
use Rattle.usb_enum.specs.{Stop, is_device, device_bytes, FailureReason, Both, StopsDescriptor}
use Rattle.usb_enum.specs.{HasDescriptor, AtMaximum, DescriptorRead, DescriptorTold, bad_front}
use Rattle.usb_enum.specs.{IsResponsive, IsRefusedFor, Refuses, FindsDescriptor, RefusesDescriptor}
use Rattle.usb_enum.specs.{head_fault, device_fault, stop_of}
use Rattle.usb_enum.proofs.refusals.Refusals.{FailsForSpec, answered_err, learned_explains}
use Rattle.usb_enum.proofs.refusals.Refusals.{failure_explains, wrong_refuses}
use Rattle.usb_enum.proofs.readings.Readings.{given_allows}
use Rattle.usb_enum.proofs.Targets.{head_maximum}
use Rattle.std.specs.Prelude.{unwrap_or}
use Rattle.std.specs.Result.{result_eq}
use Rattle.usb_transfer.proofs.Interface.{who_read_had}
use Rattle.usb_transfer.specs.declared.fault.PipeFault.TheVariants as pipe
use Rattle.usb_enum.specs.declared.cause.Request.TheVariants as request
use Rattle.usb_enum.specs.declared.stop.Stop.TheVariants.{Refused}
use Rattle.usb_enum.proofs.courses.Losses.{device_goes}

-- so many bytes of its device descriptor were asked for, and given
pub record Gave (t : Target) (n : ℕ) (bytes : Vec ℕ) (old new : World) : Type 0 where
  pub asked : Queried t (get_device_descriptor n) old (Ok bytes) new
  pub addresses : KeepsAnswered t.addr old (Ok bytes) new
  pub what : new.shared ≡ false → EachWas (DeviceAsked t n (Ok bytes)) old new

pub gave : {t : Target} (n : ℕ) {bytes : Vec ℕ} {old new : World}
    → Queried t (get_device_descriptor n) old (Ok bytes) new
    → KeepsAnswered t.addr old (Ok bytes) new
    → (new.shared ≡ false → EachWas (DeviceAsked t n (Ok bytes)) old new) → Gave t n bytes old new
gave n asked addresses what = grind arith

pub answered : (So : Spec → Type 0) {t : Target} {n : ℕ} {bytes : Vec ℕ} {old new : World}
    → Gave t n bytes old new → ((s : State) → s.spec.silent ≡ false → s.spec.busy ≡ false
    → s.spec.stalls.device ≡ false → (IsMaximum t n s → bytes.items ≡ take n s.spec.descriptor) → So
    s.spec) → AnswersSo So t old new
answered So {t} {n} {bytes} {old} {new} gave so = record {
  who = gave.addresses.who;
  still = gave.asked.ends.still;
  learns = λ single. each_wider (DeviceAsked t n (Ok bytes)) (Learned So t) (λ j s v x. record {
    frame = x.frame;
    so = λ at.
        let text : HasText (device_given s.spec) t n s bytes.items = x.done at bytes refl in
        let given = given_allows s.spec.stalls.device (Some s.spec.descriptor) text.text text.is in
        so s (x.could at).0 (x.could at).1 given.0 (grind arith);
  }) old new (gave.what single);
}

pub head_answered : {t : Target} {max : ℕ} {bytes : Vec ℕ} {old new : World}
    → device_head_of t.low bytes.items ≡ Ok max → Gave t 8 bytes old new
    → AnswersSo (HasHead t.low max) t old new
head_answered {t} {max} good gave =
    answered (HasHead t.low max) gave (grind arith)

-- The maximum packet that the head names is the device's own

head_names : (low : Bool) (bytes : List ℕ) (max : ℕ) → device_head_of low bytes ≡ Ok max
    → slice_index bytes 7 ≡ max
unfolding device_head_of
head_names low bytes max e = grind arith

pub head_packet : {spec : Spec} {low : Bool} {max : ℕ} → spec.low ≡ low → HasHead low max spec
    → max_packet spec ≡ max
head_packet {spec} {low} {max} same head =
    let m = slice_index spec.descriptor 7 in
    let there : slice_index (take 8 spec.descriptor) 7 ≡ m = grind arith in
    let fits : is_max_packet spec.low m ≡ true = grind (arith, head_maximum)
    in grind (arith, head_names)

-- Its head

pub head_failed : (low : Bool) (spec : Spec) (fault : PipeFault)
    → FailsForSpec device_given fault spec → IsRefusedFor (head_fault low)
    (unwrap_or (stop_of fault) (Refused (Stalled request.Device))) spec
unfolding head_fault
head_failed low spec fault why = grind arith

pub head_refused : {t : Target} {bytes : Vec ℕ} {fault : DescriptorFault} {old new : World}
    → device_head_of t.low bytes.items ≡ Err fault → Gave t 8 bytes old new
    → FailureReason (IsRefusedFor (head_fault t.low) (Refused BadDevice)) t old new
unfolding head_fault
head_refused {t} {new} bad gave =
    learned_explains new (answered (IsRefusedFor (head_fault t.low) (Refused BadDevice)) gave
    (grind arith)).learns (λ spec x. x)

-- The whole descriptor

pub device_ungiven : (low : Bool) (spec : Spec) → device_given spec ≡ None
    → device_fault low spec ≡ Some (Stalled request.Device)
unfolding device_fault
device_ungiven low spec none = grind arith

-- a responsive device gives an answer
pub descriptor_none : {t : Target} {outcome : Result (Vec ℕ) PipeFault} {old new : World}
    → outcome ≡ Err pipe.NoAnswer → 8 ≤ t.max
    → (new.shared ≡ false → EachWas (DeviceAsked t 18 outcome) old new) → (NoThreeDamaged old
    → 8 ≤ t.max → new.shared ≡ false → EachWas (ReadFailure t 18 outcome) old new)
    → Queried t (get_device_descriptor 18) old outcome new → FindsDescriptor t old new None
descriptor_none {t} {new} is least what why asked = record {
  goes = device_goes 18 asked;
  why =
      failure_explains new what least why (λ spec. IsResponsive t spec → ⊥) pipe.NoAnswer is
      (grind arith);
}

-- who answered where it is refused

had_claims : {f : AddressMap} {t : Target} {w : World} → MapHolds f w → HadOne t w → (p : List ℕ)
    × (f p ≡ Some t.addr)
had_claims {t} owned h = (
  path_to h.spot,
  sym (grind arith) ∙ ap (option_map address_of) h.stands
      ∙ ap (λ n. Some n) (grind arith),
)

module _ {t : Target} {outcome : Result (Vec ℕ) PipeFault} {old new : World}
    (asked : Queried t (get_device_descriptor 18) old outcome new)
    (addresses : KeepsAnswered t.addr old outcome new) where
  failed_who : (fault : PipeFault) → outcome ≡ Err fault → IsTransferAnswer fault → old.fault ≡ None
      → IsClaimed t.addr old
  unfolding get_device_descriptor
  failed_who fault e is sound = record {
    held = λ f o.
        had_claims (o.so sound)
        (who_read_had t (get_device_descriptor 18) fault old new (omega arith)
        (search same_setup) asked.settled is (grind arith)
        (addresses.keeps.kept f o).single);
  }

  pub refused_who : (stop : Stop) → Err stop ≡ answered_or (Stalled request.Device) outcome
      → (outcome ≡ Err pipe.NoAnswer → ⊥) → (cause : Cause) → stop ≡ Refused cause
      → IsClaimed t.addr old
  refused_who stop told some cause is = let failed =
      answered_err (Stalled request.Device) told in
      by_fault failed.0 failed.1 (failed.2 ∙ is)
    where
      ends : (fault : PipeFault) → outcome ≡ Err fault → FaultAfter 1 old fault new
      ends fault e = grind arith

      by_fault : (fault : PipeFault) → outcome ≡ Err fault
          → unwrap_or (stop_of fault) (Refused (Stalled request.Device)) ≡ Refused cause
          → IsClaimed t.addr old
      by_fault pipe.Stalled e k = failed_who pipe.Stalled e tt (ends pipe.Stalled e).sound
      by_fault pipe.Busy e k = failed_who pipe.Busy e tt (ends pipe.Busy e).sound
      by_fault pipe.NoAnswer e k = absurd (some e)
      by_fault pipe.Broken e k = grind arith
      by_fault _ e k = absurd cc

pub descriptor_refused : {t : Target} {bytes : Vec ℕ} {old new : World}
    → is_device t.low (take 18 bytes.items) ≡ false → Gave t 18 bytes old new
    → FailureReason (Refuses t (device_fault t.low) (Refused BadDevice)) t old new
unfolding device_fault
descriptor_refused {t} {new} bad gave =
    wrong_refuses (device_fault t.low) new
    (answered (AtMaximum t (λ spec. device_fault t.low spec ≡ Some BadDevice)) gave
    (λ s loud free device first max. rw (
      device,
      ap (is_device t.low) (sym (ap (take 18)
          (first (inl max)) ∙ take-take 18 18 s.spec.descriptor (omega arith))) ∙ bad,
    ) refl)).learns

-- where it is told equal to no answer, by a comparison that tells faults apart, it is none
pub no_answer : {A : Type 0} (E : A → A → Bool) (F : PipeFault → PipeFault → Bool)
    (outcome : Result A PipeFault) → result_eq E F outcome (Err pipe.NoAnswer) ≡ true
    → F pipe.Stalled pipe.NoAnswer ≡ false → F pipe.Busy pipe.NoAnswer ≡ false
    → F pipe.Broken pipe.NoAnswer ≡ false
    → ((why : BusFault) → F (pipe.Bus why) pipe.NoAnswer ≡ false)
    → F pipe.Memory pipe.NoAnswer ≡ false → outcome ≡ Err pipe.NoAnswer
no_answer E F outcome is a b c d e = grind arith

-- where it is told different, it is not
pub some_answer : {A : Type 0} (E : A → A → Bool) (F : PipeFault → PipeFault → Bool)
    (outcome : Result A PipeFault) → result_eq E F outcome (Err pipe.NoAnswer) ≡ false
    → F pipe.NoAnswer pipe.NoAnswer ≡ true → outcome ≡ Err pipe.NoAnswer → ⊥
some_answer E F outcome differs same e = grind arith

-- it is too short
pub short_device : (low : Bool) (bytes : List ℕ) → length bytes < 18 → is_device low (take 18 bytes)
    ≡ false
unfolding device_spelled
short_device low bytes short = grind arith

-- by the bytes that were read
pub device_read : {t : Target} {front : List ℕ} {old new : World} → DescriptorRead t front old new
    → AnswersSo (AtMaximum t (HasDescriptor front)) t old new
    → (is_device t.low front ≡ false → RefusesDescriptor t (Refused BadDevice) old new)
    → MatchResult (device_bytes t.low front) (Both (DescriptorTold t) (FindsDescriptor t) old new)
    (StopsDescriptor t old new)
device_read {t} {front} read found bad = elim (decided (is_device t.low front)) [
  | inl e ↦ rw e (grind arith)
  | inr e ↦ rw e (record { told = bad_front front read e; so = bad e })
]
