use Rattle.std.proofs.Common.{◌≡◌, ◌+◌, ◌*◌, ◌-◌, true, ◌<◌}
use Rattle.usb_world.specs.{FitsMaximum}
use Rattle.usb_bus.specs.{Spends, outcome_with}
use Rattle.usb_transfer.specs.{AfterFirst, heard_as, in_attempt, transaction_bound}
use Rattle.usb_transfer.proofs.TransactionTries.{Pending}
use Rattle.usb_transfer.proofs.read.read_on.Given as goal

abbrev pub invariant-tries : goal.invariant-tries
invariant-tries g l = (l.toggle ≡ l.initial.toggle) × ((l.tries.errors < 3) × (l.tries.waits < 256))
    × (g.B.Bus.modelled ≡ true → AfterFirst (in_attempt l.fn.target l.fn.ep)
    (outcome_with l.fn.first l.fn.room) (g.B.Bus.world l.initial.bus) (g.B.Bus.trace l.initial.bus)
    (λ old text. Pending (heard_as l.toggle) (in_attempt l.fn.target l.fn.ep) l.tries
    (outcome_with l.kind l.room) old text (g.B.Bus.world l.bus) (g.B.Bus.trace l.bus)))
    × Spends g.B.Bus.spent g.B.Bus.ports (3 * l.tries.waits + l.tries.errors) l.initial.bus l.bus
    × FitsMaximum l.fn.target.max (outcome_with l.kind l.room)

abbrev pub decreases-tries : goal.decreases-tries
decreases-tries g l = transaction_bound - (3 * l.tries.waits + l.tries.errors)
