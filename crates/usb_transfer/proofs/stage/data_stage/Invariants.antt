use Rattle.std.proofs.Common.{◌≤◌, ◌*◌, ◌-◌, length, ◌≡◌, true}
use Rattle.usb_bus.specs.{Spends}
use Rattle.usb_transfer.specs.{byte_bound}
use Rattle.usb_transfer.proofs.ControlTransfers.{ReadProgress}
use Rattle.usb_transfer.proofs.stage.data_stage.Given as goal

abbrev pub invariant-packets : goal.invariant-packets
invariant-packets g l = (length l.bytes.items ≤ l.fn.wanted)
    × (g.B.Bus.modelled ≡ true → ReadProgress l.fn.target l.fn.wanted (g.B.Bus.world l.initial.bus)
    (g.B.Bus.trace l.initial.bus) l.bytes.items l.toggle (g.B.Bus.world l.bus)
    (g.B.Bus.trace l.bus))
    × Spends g.B.Bus.spent g.B.Bus.ports (byte_bound l.fn.target.max * length l.bytes.items)
    l.initial.bus l.bus

abbrev pub decreases-packets : goal.decreases-packets
decreases-packets g l = l.fn.wanted - length l.bytes.items
