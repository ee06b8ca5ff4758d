use Rattle.std.proofs.Common.{◌≡◌, length, true}
use Rattle.usb_packet.specs.{flips}
use Rattle.usb_bus.specs.{Spends}
use Rattle.usb_bus.proofs.MadeRows.{Left, Taking}
use Rattle.usb_bus.proofs.bus.Bus.attempt_outs.Given as goal

abbrev pub invariant-packets : goal.invariant-packets
invariant-packets g l = Left l.fn.to.max (length l.bytes) l.moved (length l.rest)
    × (l.due ≡ flips l.moved l.fn.toggle)
    × Spends g.Self.Bus.spent g.Self.Bus.ports l.moved l.initial.self l.self
    × (g.Self.Bus.modelled ≡ true → Taking l.fn.to l.fn.toggle l.bytes
    (g.Self.Bus.world l.initial.self) (g.Self.Bus.trace l.initial.self) l.moved l.rest
    (g.Self.Bus.world l.self) (g.Self.Bus.trace l.self))

abbrev pub decreases-packets : goal.decreases-packets
decreases-packets g l = length l.rest
