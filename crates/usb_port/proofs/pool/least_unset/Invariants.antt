use Rattle.std.proofs.Common.{◌≡◌, ℕ, ◌<◌, ◌≤◌, true, false, slice_index_or}
use Rattle.usb_port.proofs.pool.least_unset.Given as goal

abbrev pub invariant-loop-number : goal.invariant-loop-number
invariant-loop-number l = (b : ℕ) → 1 ≤ b → b < l.number → slice_index_or l.marks b false ≡ true
