use Rattle.std.proofs.Common.{◌≡◌, ℕ, ◌<◌, true}
use Rattle.usb_descriptor.specs.{is_apart_at, items_of}
use Rattle.usb_descriptor.proofs.config.ConfigView.is_apart.Given as goal

abbrev pub invariant-loop-number : goal.invariant-loop-number
invariant-loop-number l = (k : ℕ) → k < l.number
    → is_apart_at l.interface (items_of l.self) k ≡ true
