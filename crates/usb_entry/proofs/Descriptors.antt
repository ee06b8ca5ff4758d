-- The descriptors with which bytes begin.
use Rattle.std.proofs.Common.{◌≡◌, ◌∙◌, sym, ap, subst, refl, arith, ℕ, ◌<◌, ◌≤◌, Bool, true, false}
use Rattle.std.proofs.Common.{List, length, take, drop, Result, Ok, Err, if◌then◌else◌, nat_lt}
use Rattle.std.proofs.lemmas.Bool.Decides.{nat_tests}
use Rattle.std.proofs.lemmas.List.{length-take, take-append-drop}
use Rattle.usb_descriptor.specs.{DescriptorFault, Short, config_of, configuration_count}
use Rattle.usb_descriptor.specs.{device_spelled}
use Rattle.usb_entry.specs.{FrontConfig, BeginsWithDevice, HasEntryFault, IsDescriptor, TooMany}

long_at : (b : Bool) (n : ℕ) (r : Result (List ℕ) DescriptorFault) (device : List ℕ)
    → nat_lt n 18 ≡ b → (if b then Err Short else r) ≡ Ok device → 18 ≤ n
long_at true n r device is e = cc
long_at false n r device is e = grind (arith, nat_tests, is)

-- what is read as a device descriptor has its 18 bytes
long_device : (bytes device : List ℕ) → device_spelled false bytes ≡ Ok device → 18 ≤ length bytes
unfolding device_spelled
long_device bytes device e = long_at (nat_lt (length bytes) 18) (length bytes) _ device refl e

-- the first 18 bytes, or all where there are fewer
pub descriptor_at : (n : ℕ) (bytes device : List ℕ) → n ≤ 18 → device_spelled false (take n bytes)
    ≡ Ok device → device ≡ take n bytes → IsDescriptor (take n bytes)
descriptor_at n bytes device small e same = record {
  spelled = e ∙ ap Ok same;
  size = omega (arith, length-take n bytes, long_device (take n bytes) device e);
}

pub device_at : (n : ℕ) (bytes device : List ℕ) → n ≤ 18 → device_spelled false (take n bytes)
    ≡ Ok device → device ≡ take n bytes → configuration_count device ≤ 8
    → BeginsWithDevice bytes (take n bytes)
device_at n bytes device small e same few = record {
  is_device = descriptor_at n bytes device small e same;
  few = subst (λ d. configuration_count d ≤ 8) same few;
  rest = drop n bytes;
  text = sym (take-append-drop n bytes);
}

pub too_many : (n : ℕ) (bytes device : List ℕ) → n ≤ 18 → device_spelled false (take n bytes)
    ≡ Ok device → device ≡ take n bytes → 8 < configuration_count device
    → HasEntryFault bytes TooMany
too_many n bytes device small e same many = (
  take n bytes,
  drop n bytes,
  sym (take-append-drop n bytes),
  descriptor_at n bytes device small e same,
  subst (λ d. 8 < configuration_count d) same many,
)

pub front_config : (n : ℕ) (bytes config : List ℕ) → config_of (take n bytes) ≡ Ok config
    → config ≡ take n bytes → FrontConfig bytes (take n bytes)
front_config n bytes config e same = record {
  is_text = e ∙ ap Ok same;
  rest = drop n bytes;
  text = sym (take-append-drop n bytes);
}
