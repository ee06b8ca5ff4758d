-- What is learned of a device by a request for data, of its configurations, and why one is refused.
use Rattle.std.proofs.Common.{◌≡◌, ◌+◌, ℕ, zero, suc, Bool, true, false, List, [], ◌∷◌, ◌++◌, map}
use Rattle.std.proofs.Common.{take, slice_get, Option, None, Some, Result, Ok, Err, is_ok, ap}
use Rattle.std.proofs.Common.{subst, arith, ◌<◌, ◌≤◌, ◌&&◌, not, if◌then◌else◌}
use Rattle.std.proofs.lemmas.Option.{same_Some}
use Rattle.std.specs.Global.{Vec}
use Rattle.usb_descriptor.specs.{config_head_of, config_of, configuration_value, DescriptorFault}
use Rattle.usb_device.specs.{said_length, Spec, State}
use Rattle.usb_world.specs.{EachWas, World}
use Rattle.usb_world.proofs.Interface.{each_joined, each_wider}
use Rattle.usb_transfer.specs.{Target, NoThreeDamaged, PipeFault}
use Rattle.usb_bus.specs.{StepRun}
use Rattle.usb_transfer.specs.declared.fault.PipeFault.TheVariants as pipe
use Rattle.usb_hub.specs.{StaysAs, KeepsDevices, unless_refused, config_given, ReadAsked, TextAsked}
use Rattle.usb_hub.specs.{ConfigAsked, ReadFailure}
use Rattle.usb_hub.proofs.Interface.{stays_joined}
use Rattle.usb_enum.specs.{Cause, text_read, is_good_text, texts_below, config_fault, first_fault}
use Rattle.usb_enum.specs.{Learned, DeviceFact, AtMaximum, HasTotal, HasConfiguration}
use Rattle.usb_enum.specs.{HasConfigurations, answered_or, config_text_of, any_has_value, is_over}
use Rattle.usb_enum.specs.{left_of, texts_length, Went, Stalled, BadConfiguration, Stop}
use Rattle.usb_enum.specs.{FailureReason, Refuses, TooLarge}
use Rattle.usb_enum.proofs.refusals.Refusals.{learned_explains, request_refused, wrong_refuses}
use Rattle.usb_enum.proofs.refusals.Refusals.{refused_as}
use Rattle.usb_enum.proofs.readings.TextBytes.{left_said}
use Rattle.usb_enum.proofs.verdicts.VerdictRows.{first_none, first_fault-next}
use Rattle.usb_enum.proofs.courses.Courses.{went_steps}
use Rattle.usb_enum.specs.declared.cause.Request.TheVariants as request
use Rattle.usb_enum.specs.declared.stop.Stop.TheVariants.{Refused}

-- where nothing went, what is so of every description
pub learns_none : {So : Spec → Type 0} {t : Target} {w : World} → ((spec : Spec) → So spec)
    → DeviceFact So t w w
learns_none all = grind arith

-- what is learned before a call and in it
pub learns_on : {A B C : Spec → Type 0} {t : Target} {old mid new : World}
    → DeviceFact A t old mid → Went mid new
    → DeviceFact B t mid new → ((spec : Spec) → A spec → B spec → C spec) → DeviceFact C t old new
learns_on {A} {B} {C} {t} {old} {mid} {new} a went b f single =
    each_joined (Learned A t) (Learned B t) (Learned C t) (grind arith) old mid new (grind arith)
    (b single)

pub learns_both : {A B : Spec → Type 0} {t : Target} {old mid new : World} → DeviceFact A t old mid
    → Went mid new → DeviceFact B t mid new → DeviceFact (λ spec. A spec × B spec) t old new
learns_both a went b = search learns_on

-- a call that leaves each device as it was, after others

pub devices_on : {old mid new : World} → KeepsDevices old mid → Went mid new → KeepsDevices mid new
    → KeepsDevices old new
devices_on {old} {mid} {new} a went b = record {
  stays = λ single. each_joined StaysAs StaysAs StaysAs stays_joined old mid new
      (grind arith) (b.stays single);
}

pub devices_then : (n : ℕ) (old mid new : World) {r s : Option (List ℕ)} → KeepsDevices old mid
    → StepRun n mid r new s → KeepsDevices mid new → KeepsDevices old new
devices_then n old mid new a went b = devices_on a (went_steps went) b

pub learns_kept : {So : Spec → Type 0} {t : Target} {old mid new : World} → DeviceFact So t old mid
    → Went mid new → KeepsDevices mid new → DeviceFact So t old new
learns_kept {So} {t} {old} {mid} {new} a went keeps single =
    each_joined (Learned So t) StaysAs (Learned So t) (grind arith) old mid new
    (grind arith) (keeps.stays single)

module _ {A X : Type 0} {given : Spec → Option X} {Has : State → A → Type 0} {t : Target}
    {old : World} (new : World) where
  -- by an answer
  pub answer_learned : {So : Spec → Type 0} {answer : A}
      → (new.shared ≡ false → EachWas (ReadAsked given Has t (Ok answer)) old new)
      → ((s : State) → Has s answer → So s.spec) → DeviceFact So t old new
  answer_learned {So} {answer} what f single =
      each_wider (ReadAsked given Has t (Ok answer)) (Learned So t) (grind arith)
      old new (what single)

  -- by a refusal
  pub refusal_learned : {So : Spec → Type 0}
      → (new.shared ≡ false → EachWas (ReadAsked given Has t (Err pipe.Stalled)) old new)
      → ((spec : Spec) → given spec ≡ None → So spec) → DeviceFact So t old new
  refusal_learned {So} what f single =
      each_wider (ReadAsked given Has t (Err pipe.Stalled)) (Learned So t) (grind arith)
      old new (what single)

-- by a text, at the device's maximum packet
pub text_learned : (given : Spec → Option (List ℕ)) {So : Spec → Type 0} {t : Target} {wanted : ℕ}
    {bytes : Vec ℕ} {old : World} (new : World)
    → (new.shared ≡ false → EachWas (TextAsked given t wanted (Ok bytes)) old new)
    → ((spec : Spec) (text : List ℕ) → given spec ≡ Some text → bytes.items ≡ take wanted text
    → So spec) → DeviceFact (AtMaximum t So) t old new
text_learned given new what f =
    answer_learned new what (grind arith)

-- Configurations

-- bytes that are a configuration text
pub good_bytes : (bytes text : List ℕ) → Some text ≡ config_text_of bytes
    → (is_ok (config_of bytes) ≡ true) × (text ≡ bytes)
good_bytes bytes text is = grind arith

-- what was read of a configuration is as long as its head says
pub configuration_of_total : (room : Option ℕ) {index total : ℕ} (bytes text whole : List ℕ)
    {spec : Spec} → is_over room total ≡ false → HasTotal index total spec
    → config_given index spec ≡ Some whole → bytes ≡ take total whole
    → Some text ≡ config_text_of bytes → HasConfiguration room index text spec
unfolding text_read said_length
configuration_of_total room bytes text whole fits head given first good = grind arith

-- the first so many bytes of a configuration
pub record HasBytes (index total : ℕ) (bytes : List ℕ) (spec : Spec) : Type 0 where
  pub text : List ℕ
  pub given : config_given index spec ≡ Some text
  pub first : bytes ≡ take total text

pub bytes_learned : {t : Target} {index total : ℕ} {bytes : Vec ℕ} {old : World} (new : World)
    → (new.shared ≡ false → EachWas (ConfigAsked t index total (Ok bytes)) old new)
    → DeviceFact (AtMaximum t (HasBytes index total bytes.items)) t old new
bytes_learned {index} new what =
    text_learned (config_given index) new what (grind arith)

-- The texts of the configurations so far

pub given_allows : {X : Type 0} (refused : Bool) (given : Option X) (x : X)
    → unless_refused refused given ≡ Some x → (refused ≡ false) × (given ≡ Some x)
given_allows refused given x is = grind arith

config_faultless : (room : Option ℕ) (spec : Spec) (index : ℕ) (text : List ℕ)
    → config_given index spec ≡ Some text → is_over room (said_length text) ≡ false
    → is_good_text text ≡ true → any_has_value (configuration_value (text_read text))
    (texts_below spec index) ≡ false → config_fault room spec index ≡ None
unfolding config_fault
config_faultless room spec index text given fits good differs = grind arith

mapped_more : {X Y : Type 0} (f : X → Y) (xs : List X) (i : ℕ) (x : X) → slice_get xs i ≡ Some x
    → map f (take (suc i) xs) ≡ map f (take i xs) ++ f x ∷ []
mapped_more f [] i x is = absurd cc
mapped_more f (y ∷ xs) zero x is = search same_Some
mapped_more f (y ∷ xs) (suc i) x is = ap (λ ys. f y ∷ ys) (mapped_more f xs i x is)

pub configurations_none : (budget : Option ℕ) (spec : Spec) → HasConfigurations budget 0 [] spec
unfolding first_fault
configurations_none budget spec = grind arith

pub configurations_more : {budget room : Option ℕ} {count : ℕ} {texts : List (List ℕ)}
    {text : List ℕ} {spec : Spec} → room ≡ left_of budget (texts_length texts)
    → any_has_value (configuration_value text) texts ≡ false
    → HasConfigurations budget count texts spec → HasConfiguration room count text spec
    → HasConfigurations budget (count + 1) (texts ++ text ∷ []) spec
configurations_more {budget} {room} {count} {texts} {spec} left differs before now =
    record {
      good = first_none budget spec count before.good (subst (λ o. config_fault o spec count ≡ None)
          (left_said room left before) (grind (arith, config_faultless)));
      read = grind (arith, mapped_more);
    }

pub learns_wider : {A B : Spec → Type 0} {t : Target} {old : World} (new : World)
    → DeviceFact A t old new → ((x : Spec) → A x → B x) → DeviceFact B t old new
learns_wider {A} {B} {t} {old} new l f single =
    each_wider (Learned A t) (Learned B t) (grind arith) old new (l single)

-- Why a configuration is refused

-- One configuration

config_ungiven : (room : Option ℕ) (spec : Spec) (index : ℕ) → config_given index spec ≡ None
    → config_fault room spec index ≡ Some (Stalled request.Config)
unfolding config_fault
config_ungiven room spec index h = grind arith

-- with the text of an index, where so many bytes are left
module _ (room : Option ℕ) (spec : Spec) (index : ℕ) (text : List ℕ)
    (given : config_given index spec ≡ Some text) where
  -- by its length and by what is read of it
  abbrev At : Bool → Bool → Option Cause
  At over good =
      if over then Some TooLarge else if good then None else Some (BadConfiguration index)

  abbrev is_right : Bool
  is_right = is_good_text text && not (any_has_value (configuration_value (text_read text))
      (texts_below spec index))

  config_is : config_fault room spec index ≡ At (is_over room (said_length text)) is_right
  unfolding config_fault
  config_is = grind arith

  -- it says more bytes
  config_large : is_over room (said_length text) ≡ true
      → config_fault room spec index ≡ Some TooLarge
  config_large over = search config_is

  -- it does not
  module _ (fits : is_over room (said_length text) ≡ false) where
    config_bad : is_right ≡ false → config_fault room spec index ≡ Some (BadConfiguration index)
    config_bad bad = search config_is

    -- it is malformed
    config_malformed : is_good_text text ≡ false
        → config_fault room spec index ≡ Some (BadConfiguration index)
    config_malformed bad = grind (arith, config_bad)

    -- it has the value of an earlier one
    config_repeated : is_good_text text ≡ true
        → any_has_value (configuration_value (text_read text)) (texts_below spec index) ≡ true
        → config_fault room spec index ≡ Some (BadConfiguration index)
    config_repeated good again = grind (arith, config_bad)

-- a request for one failed
pub config_refused : (room : Option ℕ) {t : Target} (index : ℕ) {wanted : ℕ}
    {outcome : Result (Vec ℕ) PipeFault} {stop : Stop} {old : World} (new : World)
    → Err stop ≡ answered_or (Stalled request.Config) outcome → 8 ≤ t.max
    → (new.shared ≡ false → EachWas (ConfigAsked t index wanted outcome) old new) → (NoThreeDamaged
    old → 8 ≤ t.max → new.shared ≡ false → EachWas (ReadFailure t wanted outcome) old new)
    → FailureReason (Refuses t (λ spec. config_fault room spec index) stop) t old new
config_refused room index {stop} new is least what why =
    request_refused new what least why (λ spec. config_fault room spec index)
    (Stalled request.Config) stop is (search config_ungiven)

-- its head is malformed
pub total_refused : (room : Option ℕ) {t : Target} {index : ℕ} {bytes : Vec ℕ}
    {fault : DescriptorFault} {old : World} (new : World) → config_head_of bytes.items ≡ Err fault
    → (new.shared ≡ false → EachWas (ConfigAsked t index 9 (Ok bytes)) old new) → FailureReason
    (Refuses t (λ spec. config_fault room spec index) (Refused (BadConfiguration index))) t old new
unfolding said_length
total_refused room {index} new head what =
    wrong_refuses (λ spec. config_fault room spec index) new (text_learned (config_given index) new
    what (λ spec text given first.
    config_malformed room spec index text given (grind arith) (grind arith)))

-- it says more bytes than are left
pub total_large : (room : Option ℕ) {t : Target} {index total : ℕ} {old : World} (new : World)
    → is_over room total ≡ true → DeviceFact (AtMaximum t (HasTotal index total)) t old new
    → FailureReason (Refuses t (λ spec. config_fault room spec index) (Refused TooLarge)) t old new
unfolding said_length
total_large room {index} new over learned =
    learned_explains new learned (grind (arith, config_large))

-- what was read is no configuration text

pub text_malformed : (room : Option ℕ) {index total : ℕ} {bytes : List ℕ} {spec : Spec}
    → is_over room total ≡ false → HasTotal index total spec → HasBytes index total bytes spec
    → config_text_of bytes ≡ None → config_fault room spec index ≡ Some (BadConfiguration index)
unfolding text_read said_length
text_malformed room fits head start none = grind (arith, config_malformed)

-- The first bad one

module _ (t : Target) (budget room : Option ℕ) (i count : ℕ) (texts : List (List ℕ))
    (same : room ≡ left_of budget (texts_length texts)) (below : i < count) where
  first_bad : {spec : Spec} (cause : Cause) → HasConfigurations budget i texts spec
      → config_fault room spec i ≡ Some cause → first_fault budget spec count ≡ Some cause
  first_bad {spec} cause before bad =
      first_fault-next budget spec i count cause below before.good
      (subst (λ o. config_fault o spec i ≡ Some cause) (left_said room same before) bad)

  pub first_refused : (stop : Stop) (spec : Spec)
      → AtMaximum t (HasConfigurations budget i texts) spec
      → Refuses t (λ spec. config_fault room spec i) stop spec
      → Refuses t (λ spec. first_fault budget spec count) stop spec
  first_refused stop spec before refused r =
      refused_as (λ spec. config_fault room spec i) (λ spec. first_fault budget spec count) stop
      spec (λ cause. first_bad cause (before r.max)) (refused r)

  pub repeated_refused : (text : List ℕ) (old : World) {mid new : World}
      → any_has_value (configuration_value text) texts ≡ true
      → DeviceFact (AtMaximum t (HasConfigurations budget i texts)) t old mid → Went mid new
      → DeviceFact (AtMaximum t (HasConfiguration room i text)) t mid new → FailureReason
      (Refuses t (λ spec. first_fault budget spec count) (Refused (BadConfiguration i))) t old new
  repeated_refused text old {new} again before went now =
      wrong_refuses (λ spec. first_fault budget spec count) new (learns_on before went now
      (λ spec b h max.
      let earlier = b max in
      first_bad (BadConfiguration i) earlier (grind (arith, config_repeated))))
