use Rattle.std.proofs.Common.{◌≡◌, ◌<◌, ℕ, length, slice_index_or}
use Rattle.usb_device.specs.declared.holders.Holder.TheVariants.{Nobody}
use Rattle.usb_function.proofs.holders.clear.Given as goal

-- those in front are nobody's
abbrev pub invariant-holders : goal.invariant-holders
invariant-holders l = (length l.holders ≡ length l.fn.holders)
    × ((n : ℕ) → n < l.i → slice_index_or l.holders n Nobody ≡ Nobody)
