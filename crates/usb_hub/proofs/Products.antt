-- The bound on what a run attempts.
use Rattle.std.proofs.Common.{◌≤◌, ℕ, ◌+◌, ◌*◌, arith}
use Rattle.std.proofs.Math.Nat.{mul-le-mul_right}

-- what all events and the last rounds cost is within the bound
pub within_bound : (v w : ℕ) → 1 ≤ v → (v + 1) * (2992000 + 800 * w + 26 * (768 * v)) ≤ 200 * v *
    (30000 + 10 * w) + 50000 * v * v
within_bound v w h =
    let x = mul-le-mul_right w h in
    let y = mul-le-mul_right v h in
    omega (arith, x, y, h)
