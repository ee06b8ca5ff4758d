use Rattle.std.proofs.Common.{length, ◌≡◌, ◌+◌, ◌*◌, ◌≤◌, true}
use Rattle.std.specs.Int.{div_ceil}
use Rattle.usb_transfer.specs.{transaction_bound}
use Rattle.usb_transfer.proofs.MovedPackets.{PacketsMoving}
use Rattle.usb_transfer.proofs.packets.send_packets.Given as goal

abbrev pub invariant-packets : goal.invariant-packets
invariant-packets g l = (g.B.Bus.spent l.bus
    + transaction_bound * div_ceil (length l.rest) l.fn.target.max ≤ g.B.Bus.spent l.initial.bus
    + transaction_bound * div_ceil (length l.bytes) l.fn.target.max) × (g.B.Bus.modelled ≡ true
    → PacketsMoving l.fn.target l.fn.ep l.initial.toggle l.bytes (g.B.Bus.world l.initial.bus)
    (g.B.Bus.trace l.initial.bus) l.rest l.toggle (g.B.Bus.world l.bus) (g.B.Bus.trace l.bus))
    × (g.B.Bus.ports l.bus ≡ g.B.Bus.ports l.initial.bus)

abbrev pub decreases-packets : goal.decreases-packets
decreases-packets g l = length l.rest
