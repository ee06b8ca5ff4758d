use Rattle.std.proofs.Common.{◌≡◌, ℕ, ◌<◌, get_or, length}
use Rattle.usb_host.proofs.numbers.Numbers.new.Given as goal

abbrev pub invariant-addresses : goal.invariant-addresses
invariant-addresses l = record {
  long : length l.of ≡ 128;
  each : (k : ℕ) → k < l.address → get_or l.of k 0 ≡ k;
}
