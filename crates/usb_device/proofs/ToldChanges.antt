-- The bits by which a hub tells its changes, and their bytes (11.12.4).
use Rattle.std.proofs.Common.{◌≡◌, ◌≤◌, ℕ, nat_lt, if◌then◌else◌, Bool, true, false, List, [], ◌∷◌}
use Rattle.std.proofs.Common.{slice_get, Option, None, Some, ◌/◌, ◌%◌, refl, arith}
use Rattle.usb_port.specs.{PortState, has_change}
use Rattle.usb_device.specs.{change_bits, change_bytes, changed_bit, high_changes, low_changes}
use Rattle.usb_device.specs.{told_bits}

changed_bit-small : (row : List PortState) (i weight : ℕ) → changed_bit row i weight ≤ weight
changed_bit-small row i weight = by_port (slice_get row i)
  where
    by_flag : (b : Bool) → (if b then weight else 0) ≤ weight
    by_flag true = omega arith
    by_flag false = omega arith

    by_port : (o : Option PortState)
        → elim o [ None ↦ 0 | Some p ↦ if has_change p then weight else 0 ] ≤ weight
    by_port None = omega arith
    by_port (Some p) = by_flag (has_change p)

-- a byte has room for each half
pub low_changes-small : (row : List PortState) → low_changes row ≤ 254
low_changes-small row = omega (
  arith,
  changed_bit-small row 0 2,
  changed_bit-small row 1 4,
  changed_bit-small row 2 8,
  changed_bit-small row 3 16,
  changed_bit-small row 4 32,
  changed_bit-small row 5 64,
  changed_bit-small row 6 128,
)

pub high_changes-small : (row : List PortState) → high_changes row ≤ 255
high_changes-small row = omega (
  arith,
  changed_bit-small row 7 1,
  changed_bit-small row 8 2,
  changed_bit-small row 9 4,
  changed_bit-small row 10 8,
  changed_bit-small row 11 16,
  changed_bit-small row 12 32,
  changed_bit-small row 13 64,
  changed_bit-small row 14 128,
)

-- one byte has room for all, where there are at most seven ports
few_bits : (ports : ℕ) (row : List PortState) → nat_lt 7 ports ≡ false
    → change_bits ports row ≤ 254
unfolding change_bits
few_bits ports row few = rw few (omega (arith, low_changes-small row))

-- what the bytes tell are the bits
pub told-back : (ports : ℕ) (row : List PortState)
    → told_bits (change_bytes ports (change_bits ports row)) ≡ change_bits ports row
told-back ports row = by_size (nat_lt 7 ports) refl
  where
    bits : ℕ
    bits = change_bits ports row

    by_size : (many : Bool) → nat_lt 7 ports ≡ many
        → told_bits (if many then bits % 256 ∷ bits / 256 ∷ [] else bits % 256 ∷ []) ≡ bits
    by_size true is = omega arith
    by_size false is = let small = few_bits ports row is in omega (arith, small)

pub ruleset told = (low_changes-small, high_changes-small)
