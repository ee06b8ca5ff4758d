use Rattle.std.proofs.Common.{ℕ, ◌*◌, ◌%◌, ◌≢◌, ap, ◌∙◌}
use Rattle.std.proofs.Math.Nat.{mul-mod_left}
use Rattle.usb_class_drivers.proofs.capacity.Capacity.blocks_of.Goals as goal

-- a multiple leaves no rest
not_whole : (bytes blocks block : ℕ) → bytes % block ≢ 0 → bytes ≢ blocks * block
not_whole bytes blocks block rest whole =
    rest (ap (λ (n : ℕ). n % block) whole ∙ mul-mod_left blocks block)

pub returns-then-bytes-block-ne0-clause-none : goal.returns-then-bytes-block-ne0-clause-none
returns-then-bytes-block-ne0-clause-none c = λ blocks few.
    not_whole c.args.bytes blocks c.args.self.block
    (rw c.from-block.ensures at c.if-bytes-block-ne0.true)
