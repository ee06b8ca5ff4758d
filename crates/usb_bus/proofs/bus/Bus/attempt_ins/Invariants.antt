use Rattle.std.proofs.Common.{◌≡◌, ◌*◌, length, true}
use Rattle.usb_packet.specs.{flips}
use Rattle.usb_bus.specs.{FullCame, Spends}
use Rattle.usb_bus.proofs.bus.Bus.attempt_ins.Given as goal

abbrev pub invariant-packets : goal.invariant-packets
invariant-packets g l = (length l.got.items ≡ l.moved * l.fn.to.max)
    × (l.due ≡ flips l.moved l.fn.toggle)
    × Spends g.Self.Bus.spent g.Self.Bus.ports l.moved l.initial.self l.self
    × (g.Self.Bus.modelled ≡ true → FullCame l.fn.to l.fn.toggle
    (g.Self.Bus.world l.initial.self) (g.Self.Bus.trace l.initial.self) l.moved l.got.items
    (g.Self.Bus.world l.self) (g.Self.Bus.trace l.self))
