use Rattle.std.proofs.Common.{◌≡◌, ◌*◌, length}
use Rattle.usb_bus.specs.{Spends}
use Rattle.usb_packet.specs.{flips}
use Rattle.usb_dialogue.specs.{FullHeard, spent_in}
use Rattle.usb_dialogue.proofs.heard.HeardBus.attempt_ins.Given as goal

-- the packets so far
abbrev pub invariant-packets : goal.invariant-packets
invariant-packets g l = (length l.got.items ≡ l.moved * l.fn.to.max)
    × (l.due ≡ flips l.moved l.fn.toggle)
    × Spends (λ b. spent_in b.so_far) (λ b. b.roots) l.moved l.initial.self l.self
    × FullHeard g.B.Begun.answers l.fn.to l.fn.toggle l.fn.most l.initial.self.so_far l.moved
    l.got.items l.self.so_far
