-- The value of a configuration: those of a device differ, and the device takes that of the one
-- which is chosen.
use Rattle.std.proofs.Common.{◌≡◌, ◌≢◌, inl, inr, ◌<◌, ℕ, zero, suc, ◌==◌, ◌&&◌, not, Bool, true}
use Rattle.std.proofs.Common.{false, List, [], ◌∷◌, map, take, length, slice_get, slice_index_or}
use Rattle.std.proofs.Common.{if◌then◌else◌, Option, None, Some, Result, Ok, Err, is_ok, refl, ap}
use Rattle.std.proofs.Common.{sym, ◌∙◌, arith, ◌≤◌, min, ◌+◌, slice_index, ◌++◌}
use Rattle.std.specs.Option.{option_or}
use Rattle.std.proofs.lemmas.Map.Keys.{any_passes_from_place}
use Rattle.std.proofs.lemmas.Bool.{cases_order}
use Rattle.std.proofs.lemmas.List.{get_or-take, get_or_read, take_min, length-map}
use Rattle.usb_descriptor.specs.{DescriptorFault, config_head_of, configuration_value, total_in}
use Rattle.usb_descriptor.specs.{device_head_of, configuration_count}
use Rattle.usb_descriptor.proofs.Interface.{header_of}
use Rattle.usb_device.specs.Bulk as device
use Rattle.usb_device.specs.{is_value, said_length, Spec, total_of, text_with, has_value as carries}
use Rattle.usb_world.proofs.Interface.{neither, swapped}
use Rattle.usb_enum.specs.{Cause, Stalled, text_read, is_good_text, texts_below, config_fault}
use Rattle.usb_enum.specs.{first_fault, HasConfigurations, any_has_value, is_over, left_of}
use Rattle.usb_enum.specs.{said_below, Silent, Busy, BadDevice, TooDeep, verdict, read_verdict}
use Rattle.usb_enum.specs.{texts_of, is_good_hub, is_device, is_hub_device, choice_of, needs_of}
use Rattle.usb_enum.specs.{HostOptions, ValuesDiffer}
use Rattle.usb_enum.specs.declared.cause.Request.TheVariants as request

-- Each of some configurations that are good

pub or_none : (o p : Option Cause) → option_or o p ≡ None → (o ≡ None) × (p ≡ None)
or_none o p h = grind arith

pub each_good : (budget : Option ℕ) (spec : Spec) (n i : ℕ) → i < n
    → first_fault budget spec n ≡ None
    → config_fault (left_of budget (said_below spec i)) spec i ≡ None
unfolding first_fault
each_good budget spec zero i below h = absurd (omega (arith, below))
each_good budget spec (suc n) i below h =
    let parts = or_none (first_fault budget spec n)
    (config_fault (left_of budget (said_below spec n)) spec n) h in
    elim (cases_order i n) [
      | inl e ↦ ap (λ k. config_fault (left_of budget (said_below spec k)) spec k) e ∙ parts.1
      | inr (inl less) ↦ each_good budget spec n i less parts.0
      | inr (inr more) ↦ absurd (omega (arith, below, more))
    ]

-- the text of an index fits what is left and is good, and no earlier one has its value
pub record IsFresh (room : Option ℕ) (spec : Spec) (i : ℕ) (text : List ℕ) : Type 0 where
  pub fits : is_over room (said_length text) ≡ false
  pub good : is_good_text text ≡ true
  pub first : any_has_value (configuration_value (text_read text)) (texts_below spec i) ≡ false

pub fresh_text : (room : Option ℕ) (spec : Spec) (i : ℕ) (text : List ℕ)
    → slice_get spec.configs i ≡ Some text
    → config_fault room spec i ≡ None → IsFresh room spec i text
unfolding config_fault
fresh_text room spec i text stands h = grind arith

-- The text of an index

pub record IsAt (f : List ℕ → List ℕ) (xs : List (List ℕ)) (n i : ℕ) : Type 0 where
  pub text : List ℕ
  pub stands : slice_get xs i ≡ Some text
  pub read : slice_index_or (map f (take n xs)) i [] ≡ f text
  pub below : i < n

pub mapped_at : (f : List ℕ → List ℕ) (xs : List (List ℕ)) (n i : ℕ)
    → i < length (map f (take n xs)) → IsAt f xs n i
mapped_at f xs zero i less = absurd (omega (arith, less))
mapped_at f [] (suc n) i less = absurd (omega (arith, less))
mapped_at f (x ∷ xs) (suc n) zero less = record {
  text = x;
  stands = refl;
  read = refl;
  below = omega arith;
}
mapped_at f (x ∷ xs) (suc n) (suc i) less =
    let rest = mapped_at f xs n i (omega (arith, less)) in grind arith

-- read of one list, it is that of another that is the same
pub text_at : (xs ys : List (List ℕ)) (i : ℕ) (x : List ℕ) → x ≡ slice_index_or xs i x → xs ≡ ys
    → i < length ys → x ≡ slice_index_or ys i []
text_at xs ys i x is same inside = grind (arith, get_or_read)

-- Its value

pub ok_total : (r : Result ℕ DescriptorFault) → is_ok r ≡ true → r ≡ Ok (total_in r)
ok_total r h = grind arith

-- what a host reads of a text is what the device looks at, and has the device's value
pub record IsConfigurationRead (text : List ℕ) : Type 0 where
  pub value : configuration_value (text_read text) ≡ slice_index text 5
  pub read : take (min (total_of text) (length text)) text ≡ text_read text
  pub some : 1 ≤ slice_index text 5
  pub long : 9 ≤ length text

pub good_read : (text : List ℕ) → is_good_text text ≡ true → IsConfigurationRead text
unfolding text_read
good_read text good =
    let head = config_head_of (take 9 text) in
    let total : ℕ = total_in head in
    let header = header_of (take 9 text) total (grind arith) in
    grind (arith, get_or-take, take_min)

-- it is not 0, and the device takes it
pub record IsGoodValue (spec : Spec) (value : ℕ) : Type 0 where
  pub some : value ≢ 0
  pub taken : is_value spec.configs value ≡ true

pub chosen_value : {budget : Option ℕ} {spec : Spec} {count : ℕ} (i value : ℕ)
    {texts : List (List ℕ)} → HasConfigurations budget count texts spec → i < length texts
    → value ≡ configuration_value (slice_index_or texts i []) → value < 256 → IsGoodValue spec value
chosen_value {budget} {spec} {count} i value has inside is byte =
    let at = mapped_at text_read spec.configs count i (grind arith) in
    let of_text = good_read at.text (fresh_text (left_of budget (said_below spec i)) spec i at.text
    at.stands (search each_good)).good in
    let in_spec = any_passes_from_place (device.has_value value) spec.configs i at.text at.stands
    (grind arith) in grind arith

-- What is so of a description that is accepted

pub record AcceptsChosen (spec : Spec) (options : HostOptions) (supply chosen : ℕ) : Type 0 where
  pub loud : spec.silent ≡ false
  pub free : spec.busy ≡ false
  pub good : first_fault options.device_bytes spec (configuration_count spec.descriptor) ≡ None
  pub within : choice_of supply (texts_of spec) ≡ Some chosen
  pub hub : (is_hub_device spec.descriptor &&
      not (is_good_hub options.wide_hubs spec (slice_index_or (texts_of spec) chosen []))) ≡ false

module _ (spec : Spec) (options : HostOptions) (supply chosen : ℕ) (loud : spec.silent ≡ false)
    (free : spec.busy ≡ false) where
  read_by : (o : Option Cause)
      → first_fault options.device_bytes spec (configuration_count spec.descriptor) ≡ o
      → read_verdict options.wide_hubs spec supply o ≡ Ok chosen
      → AcceptsChosen spec options supply chosen
  read_by o e v = grind arith

last_row : (a b c d f g h : Bool) (r : Result ℕ Cause) (n : ℕ) → (if a then Err Silent else if b
    then Err Busy else if c then Err (Stalled request.Device) else if d then Err BadDevice else if f
    then Err (Stalled request.Address) else if g then Err BadDevice else if h then Err TooDeep else
    r) ≡ Ok n → (a ≡ false) × (b ≡ false) × (r ≡ Ok n)
last_row a b c d f g h r n e = grind arith

pub accepts : (spec : Spec) (options : HostOptions) (tier supply chosen : ℕ)
    → verdict spec options tier supply ≡ Ok chosen → AcceptsChosen spec options supply chosen
unfolding verdict
accepts spec options tier supply chosen e =
    let row =
    last_row spec.silent spec.busy spec.stalls.device
    (not (is_ok (device_head_of spec.low (take 8 spec.descriptor)))) spec.stalls.address
    (not (is_device spec.low (take 18 spec.descriptor))) (is_hub_device spec.descriptor &&
    tier == 7) (read_verdict options.wide_hubs spec supply
    (first_fault options.device_bytes spec (configuration_count spec.descriptor))) chosen e in
    search read_by

-- The device finds it by its value

found_text : (configs : List (List ℕ)) (c v : ℕ) (text : List ℕ) → slice_get configs c ≡ Some text
    → ((i : ℕ) (t : List ℕ) → i < c → slice_get configs i ≡ Some t → is_good_text t ≡ true)
    → any_has_value v (map text_read (take c configs)) ≡ false → is_good_text text ≡ true
    → slice_index text 5 ≡ v → text_with v configs ≡ text
found_text [] c v text at goods first good value = absurd (cc at)
found_text (t ∷ ts) zero v text at goods first good value =
    let long = (good_read text good).long in
    grind arith
found_text (t ∷ ts) (suc c) v text at goods first good value =
    let parts = neither (configuration_value (text_read t) == v)
    (any_has_value v (map text_read (take c ts))) first in
    let other : (slice_index t 5 == v) ≡ false =
    ap (λ n. n == v) (sym (good_read t (goods 0 t (omega arith) refl)).value) ∙ parts.0 in
    let has : carries v t ≡ false = grind arith in
    ap (λ b. if b then t else text_with v ts) has
    ∙ found_text ts c v text at (λ i u below e. goods (suc i) u (omega (arith, below)) e)
    parts.1 good value

-- the text that was chosen
pub record HasChosen (spec : Spec) (chosen : ℕ) : Type 0 where
  pub text : List ℕ
  pub is : slice_index_or (texts_of spec) chosen [] ≡ text_read text
  pub read : IsConfigurationRead text
  pub found : text_with (slice_index text 5) spec.configs ≡ text

chosen_below : (supply : ℕ) (texts : List (List ℕ)) (chosen : ℕ)
    → choice_of supply texts ≡ Some chosen → chosen < length texts
unfolding needs_of
chosen_below supply texts chosen e = grind (arith, length-map)

pub has_chosen : {options : HostOptions} (spec : Spec) (supply chosen : ℕ)
    → AcceptsChosen spec options supply chosen → HasChosen spec chosen
has_chosen {options} spec supply chosen a =
    let budget = options.device_bytes in
    let count : ℕ = configuration_count spec.descriptor in
    let at = mapped_at text_read spec.configs count chosen (search chosen_below) in
    let room : ℕ → Option ℕ = λ i. left_of budget (said_below spec i) in
    let fresh : IsFresh (room chosen) spec chosen at.text = search (each_good, fresh_text) in
    let read : IsConfigurationRead at.text = good_read at.text fresh.good in
    record {
      text = at.text;
      is = at.read;
      read = read;
      found =
          found_text spec.configs chosen (slice_index at.text 5) at.text at.stands
          (λ i t less e. (fresh_text (room i) spec i t e
          (each_good budget spec count i (omega (arith, less, at.below)) a.good)).good)
          (grind arith)
          fresh.good refl;
    }

-- the configuration that it is set to is not 0
pub chosen_some : (spec : Spec) (chosen : ℕ) → HasChosen spec chosen
    → 1 ≤ configuration_value (slice_index_or (texts_of spec) chosen [])
chosen_some spec chosen h = grind arith

has_one_more : (value : ℕ) (texts : List (List ℕ)) (text : List ℕ)
    → any_has_value value texts ≡ false → (configuration_value text == value) ≡ false
    → any_has_value value (texts ++ text ∷ []) ≡ false
has_one_more value [] text h k = rw k refl
has_one_more value (t ∷ texts) text h k =
    let parts = neither (configuration_value t == value) (any_has_value value texts) h in
    rw parts.0 (has_one_more value texts text parts.1 k)

pub values_differ-push : (texts : List (List ℕ)) (text : List ℕ) → ValuesDiffer texts
    → any_has_value (configuration_value text) texts ≡ false → ValuesDiffer (texts ++ text ∷ [])
values_differ-push [] text d h = (refl, tt)
values_differ-push (t ∷ texts) text d h =
    let parts = neither (configuration_value t == configuration_value text)
    (any_has_value (configuration_value text) texts) h in (
      has_one_more (configuration_value t) texts text d.0 (swapped _ _ parts.0),
      values_differ-push texts text d.1 parts.1,
    )
