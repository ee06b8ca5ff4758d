use Rattle.std.proofs.Common.{◌≡◌, ◌+◌, ◌*◌, ◌≤◌, length, true}
use Rattle.usb_transfer.specs.{transaction_bound}
use Rattle.usb_transfer.proofs.MovedRows.{Receiving}
use Rattle.usb_transfer.proofs.rows.receive_rows.Given as goal

abbrev pub invariant-rows : goal.invariant-rows
invariant-rows g l = (g.B.Bus.spent l.bus + transaction_bound * l.left ≤ g.B.Bus.spent l.initial.bus
    + transaction_bound * l.fn.wanted) × (g.B.Bus.modelled ≡ true
    → Receiving l.fn.target l.fn.ep l.initial.toggle l.fn.wanted (g.B.Bus.world l.initial.bus)
    (g.B.Bus.trace l.initial.bus) l.left l.bytes.items l.toggle (g.B.Bus.world l.bus)
    (g.B.Bus.trace l.bus)) × (g.B.Bus.ports l.bus ≡ g.B.Bus.ports l.initial.bus)
    × (length l.bytes.items + l.left * l.fn.target.max ≤ l.fn.wanted * l.fn.target.max)

abbrev pub decreases-rows : goal.decreases-rows
decreases-rows g l = l.left
