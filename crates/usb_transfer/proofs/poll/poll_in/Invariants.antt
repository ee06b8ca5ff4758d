use Rattle.std.proofs.Common.{◌≡◌, ◌+◌, ◌*◌, ◌-◌, true, ◌<◌}
use Rattle.usb_transfer.specs.{polled_as, in_attempt, transaction_bound}
use Rattle.usb_bus.specs.{Spends}
use Rattle.usb_transfer.proofs.TransactionTries.{TryStands}
use Rattle.usb_transfer.proofs.poll.poll_in.Given as goal

abbrev pub invariant-tries : goal.invariant-tries
invariant-tries g l = (l.toggle ≡ l.initial.toggle) × ((l.tries.errors < 3) × (l.tries.waits < 256))
    × (g.B.Bus.modelled ≡ true → TryStands (polled_as l.toggle) (in_attempt l.fn.target l.fn.ep)
    l.tries (g.B.Bus.world l.initial.bus)
    (g.B.Bus.trace l.initial.bus) (g.B.Bus.world l.bus) (g.B.Bus.trace l.bus))
    × Spends g.B.Bus.spent g.B.Bus.ports (3 * l.tries.waits + l.tries.errors) l.initial.bus l.bus

abbrev pub decreases-tries : goal.decreases-tries
decreases-tries g l = transaction_bound - (3 * l.tries.waits + l.tries.errors)
