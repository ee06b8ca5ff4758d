use Rattle.std.proofs.Common.{◌≡◌, ◌-◌, ◌++◌, length, replicate}
use Rattle.usb_dialogue.proofs.question.laid_out.Given as goal

-- the zeros so far
abbrev pub invariant-zeros : goal.invariant-zeros
invariant-zeros l = l.bytes.items
    ≡ l.fn.head ++ l.fn.sent ++ replicate (l.counter - length l.fn.sent) 0
