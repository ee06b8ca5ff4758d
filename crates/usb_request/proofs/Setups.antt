-- Setup data and their eight bytes.
use Rattle.std.proofs.Common.{◌≡◌, ◌+◌, ◌*◌, ◌/◌, ◌%◌, length, refl, arith}
use Rattle.usb_request.specs.{Setup, bytes_of, setup_of}

-- what is sent is what is read
pub same_setup : (s : Setup) → setup_of (bytes_of s) ≡ s
unfolding bytes_of setup_of
same_setup s =
    let value : s.value % 256 + 256 * (s.value / 256) ≡ s.value = omega arith in
    let index : s.index % 256 + 256 * (s.index / 256) ≡ s.index = omega arith in
    let count : s.length % 256 + 256 * (s.length / 256) ≡ s.length = omega arith in
    rw (value, index, count) refl

pub length-bytes_of : (s : Setup) → length (bytes_of s) ≡ 8
unfolding bytes_of
length-bytes_of s = refl
