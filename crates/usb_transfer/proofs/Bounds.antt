-- How many attempts a control transfer may take.
use Rattle.std.proofs.Common.{◌≡◌, refl, arith, Bool, ℕ, ◌+◌, ◌*◌, ◌<◌, ◌≤◌, nat_le, zero, suc}
use Rattle.std.proofs.Common.{if◌then◌else◌, mul-le-mul_left}
use Rattle.std.proofs.lemmas.Grind.{div_ceil_times}
use Rattle.std.specs.Int.{div_ceil}
use Rattle.std.proofs.lemmas.Bool.{le-leb, leb-true}
use Rattle.usb_transfer.specs.{transaction_bound, byte_bound, control_bound, write_bound}

-- where a packet has room for 8 bytes
pub bound_wide : (max length : ℕ) → 8 ≤ max → control_bound max length ≡ write_bound + 100 * length
unfolding control_bound byte_bound
bound_wide max length wide = rw (le-leb 8 max wide) refl

pub bound_grows : (max m n : ℕ) → m ≤ n → byte_bound max * m ≤ byte_bound max * n
bound_grows max m n le = grind arith

full_packet_by : (b : Bool) (max m n : ℕ) → nat_le 8 max ≡ b → 1 ≤ max → m + max ≤ n
    → (if b then 100 else transaction_bound) * m + transaction_bound
    ≤ (if b then 100 else transaction_bound) * n
full_packet_by b max m n is some le = grind (arith, leb-true)

-- a packet of the maximum pays for its transaction
pub full_packet : (max m n : ℕ) → 1 ≤ max → m + max ≤ n → byte_bound max * m + transaction_bound
    ≤ byte_bound max * n
unfolding byte_bound
full_packet max m n some le = grind (arith, full_packet_by)

-- as many packets as there are bytes, at most
few_by : (d k n : ℕ) → d * suc k < n + suc k → d ≤ n
few_by d k n less = grind arith

pub few_packets : (n max : ℕ) → 1 ≤ max → div_ceil n max ≤ n
few_packets n max some = grind (arith, div_ceil_times, few_by)

-- packets of 8 bytes or more are few
wide_packets : (d max n : ℕ) → 8 ≤ max → d * max < n + max → d * 8 < n + 8
wide_packets zero max n wide less = omega arith
wide_packets (suc e) max n wide less =
    let all : suc e * max ≡ e * max + max = omega arith in
    let least : e * 8 ≤ e * max = mul-le-mul_left e wide in
    omega (arith, all, least, less)

packets_fit_by : (b : Bool) (max n : ℕ) → nat_le 8 max ≡ b → 1 ≤ max
    → transaction_bound * div_ceil n max
    ≤ 672 + (if b then 100 else transaction_bound) * n
packets_fit_by b max n is some = grind (arith, div_ceil_times, few_packets, leb-true, wide_packets)

-- a SETUP, the packets of so many bytes, and an IN
pub packets_fit : (max n : ℕ) → 1 ≤ max
    → 3 + transaction_bound * div_ceil n max + transaction_bound ≤ control_bound max n
unfolding control_bound byte_bound
packets_fit max n some = grind (arith, packets_fit_by)
