-- The verdict on a device, row by row: what it is where the rows before do not hold.
use Rattle.std.proofs.Common.{◌≡◌, inl, inr, ◌<◌, ℕ, zero, suc, ◌+◌, ◌==◌, ◌&&◌, not, Bool, true}
use Rattle.std.proofs.Common.{false, [], take, slice_index_or, Option, None, Some, Err, Ok, is_ok}
use Rattle.std.proofs.Common.{refl, ap, sym, ◌∙◌, arith, List, slice_index, if◌then◌else◌}
use Rattle.std.specs.Option.{option_or}
use Rattle.std.proofs.lemmas.Bool.{cases_order}
use Rattle.std.proofs.lemmas.List.{get_or-take}
use Rattle.usb_descriptor.specs.{device_head_of, configuration_count}
use Rattle.usb_device.specs.{Spec}
use Rattle.usb_enum.specs.{Cause, Silent, TooDeep, is_device, is_hub_device, choice_of, verdict}
use Rattle.usb_enum.specs.{is_good_hub, texts_of, config_fault, first_fault, read_verdict}
use Rattle.usb_enum.specs.{HostOptions, left_of, said_below, texts_below, chosen_fault}
use Rattle.usb_enum.specs.{configured_fault}
use Rattle.std.proofs.lemmas.Option.{same_Some}
use Rattle.usb_world.proofs.Interface.{decided}
use Rattle.usb_enum.specs.declared.cause.Request.TheVariants as request

-- What is read of the first 18 bytes of a descriptor

pub slice_index-take : (d : List ℕ) (i : ℕ) → i < 18 → slice_index (take 18 d) i ≡ slice_index d i
slice_index-take d i below = get_or-take 18 d i 0 below

pub front_count : (d : List ℕ) → configuration_count (take 18 d) ≡ configuration_count d
front_count d = slice_index-take d 17 (omega arith)

pub front_hub : (d : List ℕ) → is_hub_device (take 18 d) ≡ is_hub_device d
front_hub d = ap (λ n. n == 9) (slice_index-take d 4 (omega arith))

-- Rows

-- it answers with the head of a device descriptor
pub record GaveHead (spec : Spec) : Type 0 where
  pub loud : spec.silent ≡ false
  pub free : spec.busy ≡ false
  pub device : spec.stalls.device ≡ false
  pub head : is_ok (device_head_of spec.low (take 8 spec.descriptor)) ≡ true

-- it takes an address and gives its device descriptor, and is not too deep
pub record GaveDevice (spec : Spec) (tier : ℕ) : Type 0 where
  pub first : GaveHead spec
  pub address : spec.stalls.address ≡ false
  pub whole : is_device spec.low (take 18 spec.descriptor) ≡ true
  pub shallow : (is_hub_device spec.descriptor && tier == 7) ≡ false

-- each configuration is good, and one is within the supply
pub record GaveTexts (spec : Spec) (budget : Option ℕ) (tier supply chosen : ℕ) : Type 0 where
  pub device : GaveDevice spec tier
  pub good : first_fault budget spec (configuration_count spec.descriptor) ≡ None
  pub within : choice_of supply (texts_of spec) ≡ Some chosen

-- Up to the device descriptor

pub row_silent : (spec : Spec) (options : HostOptions) (tier supply : ℕ) → spec.silent ≡ true
    → verdict spec options tier supply ≡ Err Silent
unfolding verdict
row_silent spec options tier supply a = rw a refl

pub row_too_deep : {spec : Spec} (options : HostOptions) (tier supply : ℕ) → GaveHead spec
    → spec.stalls.address ≡ false → is_device spec.low (take 18 spec.descriptor) ≡ true
    → (is_hub_device spec.descriptor && tier == 7) ≡ true
    → verdict spec options tier supply ≡ Err TooDeep
unfolding verdict
row_too_deep options tier supply h a b c = grind arith

pub rows_after : {spec : Spec} (options : HostOptions) {tier : ℕ} (supply : ℕ)
    → GaveDevice spec tier → verdict spec options tier supply ≡ read_verdict options.wide_hubs spec
    supply (first_fault options.device_bytes spec (configuration_count spec.descriptor))
unfolding verdict
rows_after options supply h = grind arith

-- Configurations

-- the one of an index, where those before it leave so much of a budget
abbrev fault_at : Option ℕ → Spec → ℕ → Option Cause
fault_at budget spec i = config_fault (left_of budget (said_below spec i)) spec i

pub first_none : (budget : Option ℕ) (spec : Spec) (i : ℕ) → first_fault budget spec i ≡ None
    → config_fault (left_of budget (said_below spec i)) spec i ≡ None
    → first_fault budget spec (i + 1) ≡ None
unfolding first_fault
first_none budget spec i h k = grind arith

-- the first bad one is the first of more
pub first_fault-next : (budget : Option ℕ) (spec : Spec) (i n : ℕ) (cause : Cause) → i < n
    → first_fault budget spec i ≡ None
    → config_fault (left_of budget (said_below spec i)) spec i ≡ Some cause
    → first_fault budget spec n ≡ Some cause
unfolding first_fault
first_fault-next budget spec i zero cause l h k = absurd (omega (arith, l))
first_fault-next budget spec i (suc n) cause l h k = elim (cases_order i n) [
  | inl e ↦ ap (λ j. option_or (first_fault budget spec j) (fault_at budget spec j)) (sym e)
      ∙ ap (λ o. option_or o (fault_at budget spec i)) h ∙ k
  | inr (inl m) ↦ ap (λ o. option_or o (fault_at budget spec n))
      (first_fault-next budget spec i n cause m h k)
  | inr (inr m) ↦ absurd (omega (arith, l, m))
]

-- With a configuration

pub row_accepted : {spec : Spec} (options : HostOptions) {tier supply chosen : ℕ}
    → GaveTexts spec options.device_bytes tier supply chosen → spec.stalls.set_config ≡ false
    → (is_hub_device spec.descriptor && not
    (is_good_hub options.wide_hubs spec (slice_index_or (texts_of spec) chosen []))) ≡ false
    → verdict spec options tier supply ≡ Ok chosen
row_accepted options h a b = grind (arith, rows_after)

read_is : (wide : Bool) (spec : Spec) (supply : ℕ) (first : Option Cause) (cause : Cause)
    → option_or first (chosen_fault wide (is_hub_device spec.descriptor) (texts_of spec)
    (choice_of supply (texts_of spec)) spec) ≡ Some cause
    → read_verdict wide spec supply first ≡ Err cause
read_is wide spec supply (Some bad) cause h = search same_Some
read_is wide spec supply None cause h = grind arith

module _ (spec : Spec) (options : HostOptions) (tier supply : ℕ) where
  abbrev wide : Bool
  wide = options.wide_hubs

  abbrev first_of : ℕ → Option Cause
  first_of count = first_fault options.device_bytes spec count

  -- by its class, and the number of its configurations
  abbrev Row : Bool → ℕ → Option Cause
  Row hub count = if hub && tier == 7 then Some TooDeep else option_or (first_of count)
      (chosen_fault wide hub (texts_below spec count) (choice_of supply (texts_below spec count))
      spec)

  row_is : (bytes : List ℕ) → configured_fault options tier supply bytes spec
      ≡ Row (is_hub_device bytes) (configuration_count bytes)
  unfolding configured_fault
  row_is bytes = refl

  row_front : (bytes : List ℕ) → bytes ≡ take 18 spec.descriptor → configured_fault options tier
      supply bytes spec ≡ Row (is_hub_device spec.descriptor) (configuration_count spec.descriptor)
  row_front bytes front = grind (arith, front_count, row_is)

  pub verdict_refused : (bytes : List ℕ) (cause : Cause) → GaveHead spec
      → spec.stalls.address ≡ false → is_device spec.low (take 18 spec.descriptor) ≡ true
      → bytes ≡ take 18 spec.descriptor
      → configured_fault options tier supply bytes spec ≡ Some cause
      → verdict spec options tier supply ≡ Err cause
  verdict_refused bytes cause head address whole front fault =
      elim (decided (is_hub_device spec.descriptor && tier == 7)) [
        | inl deep ↦ row_too_deep options tier supply head address whole deep
            ∙ ap (λ c. Err c) (same_Some TooDeep cause
            (sym (grind arith) ∙ is))
        | inr shallow ↦ rows_after options supply (grind arith)
            ∙ read_is wide spec supply (first_of (configuration_count spec.descriptor)) cause
            (sym (grind arith) ∙ is)
      ]
    where
      rest : Option Cause
      rest = option_or (first_of (configuration_count spec.descriptor))
          (chosen_fault wide (is_hub_device spec.descriptor) (texts_of spec)
          (choice_of supply (texts_of spec)) spec)

      is : (if is_hub_device spec.descriptor && tier == 7 then Some TooDeep else rest) ≡ Some cause
      is = sym (row_front bytes front) ∙ fault
