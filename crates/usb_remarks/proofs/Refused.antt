-- A host refuses a device with a remark.
use Rattle.std.proofs.Common.{◌≡◌, ◌⊎◌, inl, inr, ℕ, zero, suc, ◌==◌, ◌&&◌, not, Bool, true, false}
use Rattle.std.proofs.Common.{List, [], ◌∷◌, take, slice_get, slice_index_or, Option, Some, None}
use Rattle.std.proofs.Common.{is_some, Result, Ok, Err, is_ok, if◌then◌else◌, refl, ap, sym}
use Rattle.std.specs.Option.{option_or, IfSome}
use Rattle.usb_descriptor.specs.{DescriptorFault, configuration_count, configuration_value}
use Rattle.usb_descriptor.specs.{config_head_of, config_of, device_head_of, device_spelled}
use Rattle.usb_descriptor.specs.{hub_spelled, status_endpoint_of}
use Rattle.usb_device.specs.{Hub, Spec, hub_ports}
use Rattle.usb_enum.specs.{BadConfiguration, BadHub, Cause, any_has_value}
use Rattle.usb_enum.specs.{choice_of, config_fault, first_fault, gives_hub, holds_changes}
use Rattle.usb_enum.specs.{is_good_text, is_device, is_hub_device, read_verdict, set_verdict}
use Rattle.usb_enum.specs.{text_fault, text_read, texts_below, texts_of, usual_options, verdict}
use Rattle.usb_remarks.specs.{IsRefused, Remark, TextRemark, at_index, config_remark}
use Rattle.usb_remarks.specs.{configs_remark, device_remark, has_status, hub_remark, lack_status}
use Rattle.usb_remarks.specs.{remark_of, spelled_remark, status_remark, text_remark}
use Rattle.usb_remarks.specs.{unless_repeated, whole_hub_remark, with_text}
use Rattle.usb_remarks.specs.declared.remark.Remark.TheVariants as remark
use Rattle.usb_remarks.proofs.Readers.{remarked_bad}

unless_err : (b : Bool) (cause : Cause) (r : Result ℕ Cause) → is_ok r ≡ false
    → is_ok (if b then Err cause else r) ≡ false
unless_err true cause r h = refl
unless_err false cause r h = h

-- its device descriptor is malformed
device_bad : (spec : Spec) (wide : Bool) (tier supply : ℕ)
    → is_device spec.low (take 18 spec.descriptor) ≡ false
    → is_ok (verdict spec (usual_options wide) tier supply) ≡ false
unfolding verdict
device_bad spec wide tier supply bad =
    unless_err spec.silent _ _ (unless_err spec.busy _ _ (unless_err spec.stalls.device _ _
    (unless_err (not (is_ok (device_head_of spec.low (take 8 spec.descriptor)))) _ _
    (unless_err spec.stalls.address _ _ (rw bad refl)))))

-- it is refused after its device descriptor
later_bad : (spec : Spec) (wide : Bool) (tier supply : ℕ) → is_ok (read_verdict wide spec supply
    (first_fault None spec (configuration_count spec.descriptor))) ≡ false
    → is_ok (verdict spec (usual_options wide) tier supply) ≡ false
unfolding verdict
later_bad spec wide tier supply bad =
    unless_err spec.silent _ _ (unless_err spec.busy _ _ (unless_err spec.stalls.device _ _
    (unless_err (not (is_ok (device_head_of spec.low (take 8 spec.descriptor)))) _ _
    (unless_err spec.stalls.address _ _
    (unless_err (not (is_device spec.low (take 18 spec.descriptor))) _ _
    (unless_err (is_hub_device spec.descriptor && tier == 7) _ _ bad))))))

-- Configurations

text_bad : (index : ℕ) (earlier : List (List ℕ)) (text : List ℕ) (o : Option TextRemark)
    (r : Remark) → text_remark text ≡ o
    → with_text index (any_has_value (configuration_value (text_read text)) earlier) o ≡ Some r
    → (is_good_text text && not (any_has_value (configuration_value (text_read text)) earlier))
    ≡ false
text_bad index earlier text (Some t) r is h =
    ap (λ b. b && not (any_has_value (configuration_value (text_read text)) earlier))
    (remarked_bad text t is)
text_bad index earlier text None r is h =
    repeated (is_good_text text) (any_has_value (configuration_value (text_read text)) earlier) h
  where
    repeated : (good again : Bool) → unless_repeated index again ≡ Some r
        → (good && not again) ≡ false
    repeated true true h = refl
    repeated false again h = refl
    repeated true false h = absurd cc

index_bad : (spec : Spec) (index : ℕ) (o : Option (List ℕ)) (r : Remark)
    → at_index spec.configs index o ≡ Some r
    → is_some (text_fault None index (texts_below spec index) o) ≡ true
index_bad spec index None r h = refl
index_bad spec index (Some text) r h =
    ap (λ b. is_some (if b then None else Some (BadConfiguration index)))
    (text_bad index (texts_below spec index) text (text_remark text) r refl h)

stalled_some : (b : Bool) (cause : Cause) (o : Option Cause) → is_some o ≡ true
    → is_some (if b then Some cause else o) ≡ true
stalled_some true cause o h = refl
stalled_some false cause o h = h

config_bad_one : (spec : Spec) (index : ℕ) (r : Remark) → config_remark spec.configs index ≡ Some r
    → is_some (config_fault None spec index) ≡ true
unfolding config_fault config_remark
config_bad_one spec index r h = stalled_some spec.stalls.config _ _
    (index_bad spec index (slice_get spec.configs index) r h)

left_some : (o p : Option Cause) → is_some o ≡ true → is_some (option_or o p) ≡ true
left_some (Some x) p h = refl
left_some None p h = absurd cc

right_some : (o p : Option Cause) → is_some p ≡ true → is_some (option_or o p) ≡ true
right_some (Some x) p h = refl
right_some None p h = h

either_some : (o p : Option Remark) (r : Remark) → option_or o p ≡ Some r
    → (o ≡ Some r) ⊎ (p ≡ Some r)
either_some (Some x) p r h = inl h
either_some None p r h = inr h

configs_bad : (spec : Spec) (n : ℕ) (r : Remark) → configs_remark spec.configs n ≡ Some r
    → is_some (first_fault None spec n) ≡ true
unfolding first_fault configs_remark
configs_bad spec zero r h = absurd cc
configs_bad spec (suc n) r h =
    elim (either_some (configs_remark spec.configs n) (config_remark spec.configs n) r h) [
      | inl before ↦ left_some (first_fault None spec n) (config_fault None spec n)
          (configs_bad spec n r before)
      | inr here ↦ right_some (first_fault None spec n) (config_fault None spec n)
          (config_bad_one spec n r here)
    ]

read_bad : (wide : Bool) (spec : Spec) (supply : ℕ) (o : Option Cause) → is_some o ≡ true
    → is_ok (read_verdict wide spec supply o) ≡ false
read_bad wide spec supply (Some cause) h = refl
read_bad wide spec supply None h = absurd cc

-- Hubs

hub_bad : (wide : Bool) (spec : Spec) (hub : Option Hub) (r : Remark) → hub_remark wide hub ≡ Some r
    → gives_hub wide spec hub ≡ false
hub_bad wide spec None r h = refl
hub_bad wide spec (Some hub) r h = spelled (not spec.stalls.hub) (not spec.stalls.status)
    (hub_spelled wide (take 9 hub.descriptor)) h
  where
    spelled : (a b : Bool) (o : Result (List ℕ) DescriptorFault) → spelled_remark o ≡ Some r
        → (a && b && is_ok o) ≡ false
    spelled a b (Ok bytes) h = absurd cc
    spelled true true (Err fault) h = refl
    spelled true false (Err fault) h = refl
    spelled false b (Err fault) h = refl

-- none of these texts, and no other one, has a status endpoint
lacking_at : (wide : Bool) (ports : ℕ) (texts : List (List ℕ)) (chosen : ℕ)
    → lack_status wide ports texts ≡ true
    → has_status wide ports (slice_index_or texts chosen []) ≡ false
unfolding status_endpoint_of config_of config_head_of
lacking_at true ports [] chosen h = refl
lacking_at false ports [] chosen h = refl
lacking_at wide ports (text ∷ texts) zero h = first (has_status wide ports text) _ h
  where
    first : (a b : Bool) → (not a && b) ≡ true → a ≡ false
    first true b h = absurd cc
    first false b h = refl
lacking_at wide ports (text ∷ texts) (suc chosen) h = lacking_at wide ports texts chosen
    (later (has_status wide ports text) _ h)
  where
    later : (a b : Bool) → (not a && b) ≡ true → b ≡ true
    later true b h = absurd cc
    later false b h = h

set_lacking : (wide : Bool) (spec : Spec) (texts : List (List ℕ)) (choice : Option ℕ)
    → is_hub_device spec.descriptor ≡ true
    → lack_status wide (hub_ports spec.hub) texts ≡ true
    → is_ok (set_verdict wide spec texts choice) ≡ false
set_lacking wide spec texts None hub bad = refl
set_lacking wide spec texts (Some chosen) hub bad = unless_err spec.stalls.set_config _ _
    (rw (hub, lacking_at wide (hub_ports spec.hub) texts chosen bad) refl)

lacking_read : (wide : Bool) (spec : Spec) (supply : ℕ) (o : Option Cause) (r : Remark)
    → is_hub_device spec.descriptor ≡ true → status_remark wide spec ≡ Some r
    → is_ok (read_verdict wide spec supply o) ≡ false
lacking_read wide spec supply (Some cause) r hub h = refl
lacking_read wide spec supply None r hub h = set_lacking wide spec (texts_of spec)
    (choice_of supply (texts_of spec)) hub (lack (lack_status wide (hub_ports spec.hub)
    (texts_of spec)) h)
  where
    lack : (b : Bool) → (if b then Some remark.Status else None) ≡ Some r → b ≡ true
    lack true h = refl
    lack false h = absurd cc

set_bad : (wide : Bool) (spec : Spec) (texts : List (List ℕ)) (choice : Option ℕ)
    → is_hub_device spec.descriptor ≡ true → gives_hub wide spec spec.hub ≡ false
    → is_ok (set_verdict wide spec texts choice) ≡ false
set_bad wide spec texts None hub bad = refl
set_bad wide spec texts (Some chosen) hub bad = unless_err spec.stalls.set_config _ _ (rw (hub, bad)
    (neither (holds_changes (status_endpoint_of wide (slice_index_or texts chosen []))
    (hub_ports spec.hub)) chosen))
  where
    neither : (a : Bool) (chosen : ℕ) → is_ok (if not (a && false) then Err BadHub else Ok chosen)
        ≡ false
    neither true chosen = refl
    neither false chosen = refl

bad_hub_read : (wide : Bool) (spec : Spec) (supply : ℕ) (o : Option Cause)
    → is_hub_device spec.descriptor ≡ true
    → gives_hub wide spec spec.hub ≡ false → is_ok (read_verdict wide spec supply o) ≡ false
bad_hub_read wide spec supply (Some cause) hub bad = refl
bad_hub_read wide spec supply None hub bad = set_bad wide spec (texts_of spec)
    (choice_of supply (texts_of spec)) hub bad

hub_remarked : (b : Bool) (o : Option Remark) (r : Remark) → (if b then o else None) ≡ Some r
    → (b ≡ true) × (o ≡ Some r)
hub_remarked true o r h = (refl, h)
hub_remarked false o r h = absurd cc

whole_bad : (wide : Bool) (spec : Spec) (supply : ℕ) (o : Option Cause) (r : Remark)
    → is_hub_device spec.descriptor ≡ true → whole_hub_remark wide spec ≡ Some r
    → is_ok (read_verdict wide spec supply o) ≡ false
whole_bad wide spec supply o r hub h =
    elim (either_some (hub_remark wide spec.hub) (status_remark wide spec) r h) [
      | inl given ↦ bad_hub_read wide spec supply o hub (hub_bad wide spec spec.hub r given)
      | inr status ↦ lacking_read wide spec supply o r hub status
    ]

-- A device with a remark

pub remarked_refused : (wide : Bool) (spec : Spec) (r : Remark) → remark_of wide spec ≡ Some r
    → IsRefused wide spec
unfolding remark_of
remarked_refused wide spec r is tier supply =
    split (device_spelled spec.low (take 18 spec.descriptor)) refl is
  where
    split : (o : Result (List ℕ) DescriptorFault)
        → device_spelled spec.low (take 18 spec.descriptor)
        ≡ o → device_remark wide spec o ≡ Some r
        → is_ok (verdict spec (usual_options wide) tier supply) ≡ false
    split (Err fault) spelled h = device_bad spec wide tier supply (ap is_ok spelled)
    split (Ok bytes) spelled h =
        later_bad spec wide tier supply (elim (either_some (configs_remark spec.configs
        (configuration_count spec.descriptor)) _ r h) [
          | inl config ↦ read_bad wide spec supply _ (configs_bad spec _ r config)
          | inr hub ↦ (let parts = hub_remarked (is_hub_device spec.descriptor)
              (whole_hub_remark wide spec) r hub in
              whole_bad wide spec supply _ r parts.0 parts.1)
        ])

pub refused_if : (wide : Bool) (spec : Spec) (o : Option Remark) → o ≡ remark_of wide spec
    → IfSome o (λ _. IsRefused wide spec)
refused_if wide spec (Some r) is = remarked_refused wide spec r (sym is)
refused_if wide spec None is = tt
