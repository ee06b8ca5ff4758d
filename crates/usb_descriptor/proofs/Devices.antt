-- What bytes that begin with a device descriptor say.
use Rattle.std.proofs.Common.{◌≡◌, ◌≤◌, ◌==◌, ℕ, nat_lt, Bool, true, false, if◌then◌else◌, List}
use Rattle.std.proofs.Common.{length, Result, Ok, Err, is_ok, refl, arith}
use Rattle.std.proofs.lemmas.Bool.{ltb-false, eqb-false}
use Rattle.usb_request.specs.{DEVICE_LENGTH}
use Rattle.usb_descriptor.specs.{DescriptorFault, NoConfiguration, Short, configuration_count}
use Rattle.usb_descriptor.specs.{device_after, device_head_of, device_spelled}

unless : {A : Type 0} (b : Bool) (fault : DescriptorFault) (r : Result A DescriptorFault)
    → is_ok (if b then Err fault else r) ≡ true → (b ≡ false) × (is_ok r ≡ true)
unless true fault r good = absurd cc
unless false fault r good = (refl, good)

has_one : (head : Result ℕ DescriptorFault) (bytes : List ℕ) → is_ok (device_after head bytes)
    ≡ true → (configuration_count bytes == 0) ≡ false
has_one (Ok max) bytes good = (unless (configuration_count bytes == 0) NoConfiguration (Ok bytes)
    good).0
has_one (Err fault) bytes good = absurd cc

pub record Whole (bytes : List ℕ) : Type 0 where
  pub whole : DEVICE_LENGTH ≤ length bytes
  pub some : 1 ≤ configuration_count bytes

pub whole_of : (low : Bool) (bytes : List ℕ) → is_ok (device_spelled low bytes) ≡ true → Whole bytes
unfolding device_spelled
whole_of low bytes good =
    let long = unless (nat_lt (length bytes) DEVICE_LENGTH) Short
    (device_after (device_head_of low bytes) bytes) good in
    let some : configuration_count bytes ≡ 0 → ⊥ =
    eqb-false (configuration_count bytes) 0 (has_one (device_head_of low bytes) bytes long.1) in
    record { whole = ltb-false (length bytes) DEVICE_LENGTH long.0; some = omega (arith, some) }
