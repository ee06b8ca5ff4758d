-- Requests, and the eight bytes that carry them.
use Rattle.std.proofs.Common.{◌≡◌, ℕ, ◌≤◌, ◌==◌, false, refl, arith}
use Rattle.std.proofs.lemmas.Bool.Decides.{nat_tests}
use Rattle.usb_request.specs.{SET_ADDRESS, DEVICE_OUT, IsToHost, Setup}
use Rattle.usb_device.specs.{Is}

request_type-apart : (n m : ℕ) → 128 ≤ n → m ≤ 127 → (n == m) ≡ false
request_type-apart n m far near = grind (arith, nat_tests, far, near)

pub reads_other : (s : Setup) → IsToHost s → Is s DEVICE_OUT SET_ADDRESS ≡ false
reads_other s reads = rw (request_type-apart s.request_type DEVICE_OUT reads (omega arith)) refl
