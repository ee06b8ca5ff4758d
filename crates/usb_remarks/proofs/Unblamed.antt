-- Without a remark a host finds no descriptor malformed.
use Rattle.std.proofs.Common.{◌≡◌, ℕ, zero, suc, ◌≤◌, ◌==◌, ◌&&◌, not, Bool, true, false, List}
use Rattle.std.proofs.Common.{[], length, take, slice_get, slice_index_or, Option, Some, None}
use Rattle.std.proofs.Common.{Result, Ok, Err, is_ok, nat_lt, if◌then◌else◌, refl, ap, sym, ◌∙◌}
use Rattle.std.proofs.Common.{arith, length-take}
use Rattle.std.specs.Option.{option_or, IfNone}
use Rattle.std.proofs.lemmas.Bool.{le-ltb, ltb-false}
use Rattle.std.proofs.lemmas.List.{get_or-take}
use Rattle.usb_descriptor.specs.{DescriptorFault, Short, configuration_count, configuration_value}
use Rattle.usb_descriptor.specs.{device_after, device_head_of, device_spelled}
use Rattle.usb_device.specs.{Spec}
use Rattle.usb_enum.specs.{BadConfiguration, BadHub, Cause, any_has_value, choice_of}
use Rattle.usb_enum.specs.{config_fault, first_fault, is_device, is_good_hub, is_good_text}
use Rattle.usb_enum.specs.{is_hub_device, read_verdict, set_verdict, text_fault, text_read}
use Rattle.usb_enum.specs.{texts_below, texts_of, usual_options, verdict}
use Rattle.usb_remarks.specs.{BlamesNoDescriptor, Remark, TextRemark, at_index, blames_descriptor}
use Rattle.usb_remarks.specs.{config_remark, configs_remark, device_remark, is_of_descriptor}
use Rattle.usb_remarks.specs.{remark_of, text_remark, unless_repeated, with_text}
use Rattle.usb_remarks.proofs.Readers.{unremarked_good}

-- a cause that speaks of a descriptor
abbrev speaks : Option Cause → Bool
speaks None = false
speaks (Some cause) = is_of_descriptor cause

other_cause : (b : Bool) (cause : Cause) (r : Result ℕ Cause) → is_of_descriptor cause ≡ false
    → blames_descriptor r ≡ false → blames_descriptor (if b then Err cause else r) ≡ false
other_cause true cause r h k = h
other_cause false cause r h k = k

never : (b : Bool) (cause : Cause) (r : Result ℕ Cause) → b ≡ false
    → blames_descriptor r ≡ false → blames_descriptor (if b then Err cause else r) ≡ false
never true cause r h k = absurd cc
never false cause r h k = k

-- The head of a good descriptor

ok_parts : (b : Bool) (r : Result (List ℕ) DescriptorFault)
    → is_ok (if b then Err Short else r) ≡ true → (b ≡ false) × (is_ok r ≡ true)
ok_parts true r h = absurd cc
ok_parts false r h = (refl, h)

ok_head : (r : Result ℕ DescriptorFault) (bytes : List ℕ) → is_ok (device_after r bytes) ≡ true
    → is_ok r ≡ true
ok_head (Ok most) bytes h = refl
ok_head (Err fault) bytes h = absurd cc

device_front : (low : Bool) (bytes : List ℕ) (n : ℕ) → 8 ≤ n → 8 ≤ length bytes
    → device_head_of low (take n bytes) ≡ device_head_of low bytes
unfolding device_head_of
device_front low bytes n most long = rw (
  le-ltb (length (take n bytes)) 8 (omega (arith, length-take n bytes)),
  le-ltb (length bytes) 8 long,
  get_or-take n bytes 0 0 (omega arith),
  get_or-take n bytes 1 0 (omega arith),
  get_or-take n bytes 7 0 (omega arith),
) refl

head_good : (low : Bool) (bytes : List ℕ) → is_ok (device_spelled low (take 18 bytes)) ≡ true
    → is_ok (device_head_of low (take 8 bytes)) ≡ true
unfolding device_spelled
head_good low bytes h =
    let parts = ok_parts (nat_lt (length (take 18 bytes)) 18) _ h in
    let whole = ltb-false (length (take 18 bytes)) 18 parts.0 in
    let long : 8 ≤ length bytes = omega (arith, whole, length-take 18 bytes) in
    ap is_ok (device_front low bytes 8 (omega arith) long
    ∙ sym (device_front low bytes 18 (omega arith) long))
    ∙ ok_head (device_head_of low (take 18 bytes)) (take 18 bytes) parts.1

-- Configurations

good_text : (index : ℕ) (earlier : List (List ℕ)) (text : List ℕ) (o : Option TextRemark)
    → text_remark text ≡ o
    → with_text index (any_has_value (configuration_value (text_read text)) earlier) o ≡ None
    → (is_good_text text && not (any_has_value (configuration_value (text_read text)) earlier))
    ≡ true
good_text index earlier text (Some t) is h = absurd cc
good_text index earlier text None is h = rw (unremarked_good text is)
    (single (any_has_value (configuration_value (text_read text)) earlier) h)
  where
    single : (again : Bool) → unless_repeated index again ≡ None → (true && not again) ≡ true
    single true h = absurd cc
    single false h = refl

good_index : (spec : Spec) (index : ℕ) (o : Option (List ℕ))
    → at_index spec.configs index o ≡ None → text_fault None index (texts_below spec index) o ≡ None
good_index spec index None h = absurd cc
good_index spec index (Some text) h =
    ap (λ b. if b then None else Some (BadConfiguration index))
    (good_text index (texts_below spec index) text (text_remark text) refl h)

stalled_speaks : (b : Bool) (cause : Cause) (o : Option Cause) → is_of_descriptor cause ≡ false
    → o ≡ None → speaks (if b then Some cause else o) ≡ false
stalled_speaks true cause o h k = h
stalled_speaks false cause o h k = ap speaks k

good_config : (spec : Spec) (index : ℕ) → config_remark spec.configs index ≡ None
    → speaks (config_fault None spec index) ≡ false
unfolding config_fault config_remark
good_config spec index h = stalled_speaks spec.stalls.config _ _ refl
    (good_index spec index (slice_get spec.configs index) h)

both_none : (o p : Option Remark) → option_or o p ≡ None → (o ≡ None) × (p ≡ None)
both_none (Some x) p h = absurd cc
both_none None p h = (refl, h)

neither_speaks : (o p : Option Cause) → speaks o ≡ false → speaks p ≡ false
    → speaks (option_or o p) ≡ false
neither_speaks (Some x) p h k = h
neither_speaks None p h k = k

good_configs : (spec : Spec) (n : ℕ) → configs_remark spec.configs n ≡ None
    → speaks (first_fault None spec n) ≡ false
unfolding first_fault configs_remark
good_configs spec zero h = refl
good_configs spec (suc n) h =
    let parts = both_none (configs_remark spec.configs n) (config_remark spec.configs n) h in
    neither_speaks (first_fault None spec n) (config_fault None spec n)
    (good_configs spec n parts.0)
    (good_config spec n parts.1)

-- The verdict

set_other : (wide : Bool) (spec : Spec) (texts : List (List ℕ)) (choice : Option ℕ)
    → blames_descriptor (set_verdict wide spec texts choice) ≡ false
set_other wide spec texts None = refl
set_other wide spec texts (Some chosen) = other_cause spec.stalls.set_config _ _ refl
    (other_cause (is_hub_device spec.descriptor && not
    (is_good_hub wide spec (slice_index_or texts chosen []))) BadHub (Ok chosen) refl refl)

read_other : (wide : Bool) (spec : Spec) (supply : ℕ) (o : Option Cause) → speaks o ≡ false
    → blames_descriptor (read_verdict wide spec supply o) ≡ false
read_other wide spec supply (Some cause) h = h
read_other wide spec supply None h =
    set_other wide spec (texts_of spec) (choice_of supply (texts_of spec))

verdict_other : (spec : Spec) (wide : Bool) (tier supply : ℕ)
    → is_ok (device_head_of spec.low (take 8 spec.descriptor)) ≡ true
    → is_device spec.low (take 18 spec.descriptor) ≡ true
    → speaks (first_fault None spec (configuration_count spec.descriptor)) ≡ false
    → blames_descriptor (verdict spec (usual_options wide) tier supply) ≡ false
unfolding verdict
verdict_other spec wide tier supply head device configs =
    other_cause spec.silent _ _ refl (other_cause spec.busy _ _ refl
    (other_cause spec.stalls.device _ _ refl (never (not (is_ok (device_head_of spec.low
    (take 8 spec.descriptor)))) _ _ (ap not head) (other_cause spec.stalls.address _ _ refl
    (never (not (is_device spec.low (take 18 spec.descriptor))) _ _ (ap not device)
    (other_cause (is_hub_device spec.descriptor && tier == 7) _ _ refl
    (read_other wide spec supply _ configs)))))))

pub unremarked_unblamed : (wide : Bool) (spec : Spec) → remark_of wide spec ≡ None
    → BlamesNoDescriptor wide spec
unfolding remark_of
unremarked_unblamed wide spec is tier supply =
    split (device_spelled spec.low (take 18 spec.descriptor)) refl is
  where
    split : (o : Result (List ℕ) DescriptorFault)
        → device_spelled spec.low (take 18 spec.descriptor) ≡ o → device_remark wide spec o ≡ None
        → blames_descriptor (verdict spec (usual_options wide) tier supply) ≡ false
    split (Err fault) spelled h = absurd cc
    split (Ok bytes) spelled h =
        let parts =
        both_none (configs_remark spec.configs (configuration_count spec.descriptor)) _ h
        in
        verdict_other spec wide tier supply (head_good spec.low spec.descriptor (ap is_ok spelled))
        (ap is_ok spelled) (good_configs spec (configuration_count spec.descriptor) parts.0)

pub unblamed_if : (wide : Bool) (spec : Spec) (o : Option Remark) → o ≡ remark_of wide spec
    → IfNone o (BlamesNoDescriptor wide spec)
unblamed_if wide spec (Some r) is = tt
unblamed_if wide spec None is = unremarked_unblamed wide spec (sym is)
