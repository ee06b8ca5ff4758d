-- How far a device's bytes are read.
use Rattle.std.proofs.Common.{◌≡◌, ◌∙◌, sym, ap, refl, arith, ℕ, ◌+◌, ◌<◌, ◌≤◌, ◌-◌, List, [], ◌∷◌}
use Rattle.std.proofs.Common.{◌++◌, length, drop, append_assoc, length-append}
use Rattle.std.proofs.lemmas.List.{append-nil, drop_at, drop-drop}
use Rattle.std.specs.List.{AllByRecursion}
use Rattle.usb_descriptor.specs.{joined, configuration_count}
use Rattle.usb_entry.specs.{EntryFault, NoName, Empty, Device, TooMany, Configuration, Missing}
use Rattle.usb_entry.specs.{LeftOver, Write, Memory, FrontConfig, BeginsWithDevice, HasEntryFault}
use Rattle.usb_entry.specs.{IsDescriptor, IsText, NextFault, BreaksAt}
use Rattle.usb_descriptor.proofs.Interface.{joined-item}

-- the device descriptor and these configurations are read, up to the offset
pub record ReadSoFar (bytes device : List ℕ) (configs : List (List ℕ)) (offset : ℕ) : Type 0 where
  pub is_device : IsDescriptor device
  pub few : configuration_count device ≤ 8
  pub each : AllByRecursion IsText configs
  pub within : length configs ≤ configuration_count device
  pub text : bytes ≡ device ++ joined configs ++ drop offset bytes
  pub place : offset ≡ length (device ++ joined configs)

texts-push : (configs : List (List ℕ)) (config : List ℕ) → AllByRecursion IsText configs
    → IsText config → AllByRecursion IsText (configs ++ config ∷ [])
texts-push [] config h new = (new, tt)
texts-push (c ∷ configs) config h new = (h.0, texts-push configs config h.1 new)

pub read_so_far_zero : (bytes device : List ℕ) → BeginsWithDevice bytes device
    → ReadSoFar bytes device [] 18
read_so_far_zero bytes device h = record {
  is_device = h.is_device;
  few = h.few;
  each = tt;
  within = omega arith;
  text = h.text ∙ ap (λ t. device ++ t)
      (sym (ap (drop 18) h.text ∙ drop_at device h.rest 18 h.is_device.size))
      ∙ ap (λ t. t ++ drop 18 bytes) (sym (append-nil device));
  place = sym (ap length (append-nil device) ∙ h.is_device.size);
}

-- the front of one more, where something is left
pub read_so_far_more : (bytes device : List ℕ) (configs : List (List ℕ)) (offset : ℕ)
    (config : List ℕ) → ReadSoFar bytes device configs offset
    → FrontConfig (drop offset bytes) config → length configs < configuration_count device
    → ReadSoFar bytes device (configs ++ config ∷ []) (offset + length config)
read_so_far_more bytes device configs offset config h new room =
    let behind : drop (offset + length config) bytes ≡ new.rest =
    sym (drop-drop (length config) offset bytes) ∙ ap (drop (length config)) new.text
    ∙ drop_at config new.rest (length config) refl in
    let front : device ++ joined (configs ++ config ∷ []) ≡ device ++ joined configs ++ config =
    ap (λ t. device ++ t) (joined-item configs config)
    ∙ sym (append_assoc device (joined configs) config) in
    record {
      is_device = h.is_device;
      few = h.few;
      each = texts-push configs config h.each new.is_text;
      within = omega (arith, length-append configs (config ∷ []));
      text = h.text ∙ ap (λ t. device ++ joined configs ++ t) new.text
          ∙ sym (append_assoc (device ++ joined configs) config new.rest)
          ∙ ap (λ t. t ++ new.rest) (sym front)
          ∙ ap (λ t. device ++ joined (configs ++ config ∷ []) ++ t) (sym behind);
      place = ap (λ n. n + length config) h.place
          ∙ sym (length-append (device ++ joined configs) config) ∙ ap length (sym front);
    }

stops_at : (bytes device : List ℕ) (configs : List (List ℕ)) (offset at : ℕ) (Why : ℕ → List ℕ
    → Type 0) → ReadSoFar bytes device configs offset → at ≡ offset
    → length configs < configuration_count device
    → Why (configuration_count device - length configs) (drop offset bytes) → BreaksAt bytes at Why
stops_at bytes device configs offset at Why h same lt why = record {
  device = device;
  configs = configs;
  rest = drop offset bytes;
  left = configuration_count device - length configs;
  is_device = h.is_device;
  few = h.few;
  each = h.each;
  count = omega arith;
  text = h.text;
  place = same ∙ h.place;
  why = why;
}

-- what comes next is no configuration
pub next_fault : (bytes device : List ℕ) (configs : List (List ℕ)) (offset : ℕ) (fault : EntryFault)
    → ReadSoFar bytes device configs offset
    → length configs < configuration_count device → NextFault (drop offset bytes) offset fault
    → HasEntryFault bytes fault
next_fault bytes device configs offset (Configuration at fault) h lt next =
    stops_at bytes device configs offset at _ h next.0 lt (omega arith, next.1, next.2)
next_fault bytes device configs offset (Missing at) h lt next =
    stops_at bytes device configs offset at _ h next.0 lt (omega arith, next.1)
next_fault bytes device configs offset NoName h lt next = absurd next
next_fault bytes device configs offset Empty h lt next = absurd next
next_fault bytes device configs offset (Device fault) h lt next = absurd next
next_fault bytes device configs offset TooMany h lt next = absurd next
next_fault bytes device configs offset (LeftOver at) h lt next = absurd next
next_fault bytes device configs offset Write h lt next = absurd next
next_fault bytes device configs offset Memory h lt next = absurd next
