use Rattle.std.proofs.Common.{◌≡◌, true}
use Rattle.usb_bus.specs.{Spends}
use Rattle.usb_transfer.specs.{setup_attempt}
use Rattle.usb_transfer.proofs.TransactionTries.{SetUpStands}
use Rattle.usb_transfer.proofs.set_up.setup.Given as goal

abbrev pub invariant-loop-error : goal.invariant-loop-error
invariant-loop-error g l = Spends g.B.Bus.spent g.B.Bus.ports l._error l.initial.bus l.bus
    × (g.B.Bus.modelled ≡ true → SetUpStands (setup_attempt l.fn.target l.fn.bytes) l._error
    (g.B.Bus.world l.initial.bus) (g.B.Bus.trace l.initial.bus) (g.B.Bus.world l.bus)
    (g.B.Bus.trace l.bus))
