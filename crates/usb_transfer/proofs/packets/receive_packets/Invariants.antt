use Rattle.std.proofs.Common.{◌≡◌, ◌*◌, ◌≤◌, length, true}
use Rattle.usb_bus.specs.{Spends}
use Rattle.usb_transfer.specs.{transaction_bound}
use Rattle.usb_transfer.proofs.MovedPackets.{Coming}
use Rattle.usb_transfer.proofs.packets.receive_packets.Given as goal

abbrev pub invariant-packets : goal.invariant-packets
invariant-packets g l = Spends g.B.Bus.spent g.B.Bus.ports (transaction_bound * l._taken)
    l.initial.bus l.bus × (g.B.Bus.modelled ≡ true
    → Coming l.fn.target l.fn.ep l.initial.toggle (g.B.Bus.world l.initial.bus)
    (g.B.Bus.trace l.initial.bus) l._taken l.bytes.items l.toggle (g.B.Bus.world l.bus)
    (g.B.Bus.trace l.bus)) × (length l.bytes.items ≤ l._taken * l.fn.target.max)
