use Rattle.std.proofs.Common.{refl}
use Rattle.usb_host.proofs.Transfers.{cleared_works, moved_tells, stopped_any, stopped_tells}
use Rattle.usb_host.proofs.Transfers.{transfers_any}
use Rattle.usb_host.proofs.host.Host.clear_halt.Goals as goal

pub returns-then-self-clause-tells : goal.returns-then-self-clause-tells
returns-then-self-clause-tells g c known = stopped_tells c.self.view_is c.if-self.true

pub returns-clause-tells : goal.returns-clause-tells
returns-clause-tells g c known =
    rw (← c.self.view_is) (moved_tells c.clear_halt.result c.if-self.false
    c.as_host_fault-cleared.ensures c.is_final-self-inside.ensures
    c.self.invariant refl c.clear_halt.ensures.through
    cleared_works (c.clear_halt.ensures.clears known))

pub returns-clause-any_bus : goal.returns-clause-any_bus
returns-clause-any_bus g c =
    rw (← c.self.view_is) (transfers_any g.B.Bus.modelled g.B.Bus.world g.B.Bus.trace
    g.B.Bus.spent g.B.Bus.failed c.self.inside.left c.self.view_is c.self.inside.bus
    c.clear_halt.new.bus c.clear_halt.result c.as_host_fault-cleared.ensures c.if-self.false
    c.is_final-self-inside.ensures c.clear_halt.ensures.through
    c.clear_halt.ensures.any_bus.0.0 c.clear_halt.ensures.any_bus.1)

pub returns-then-self-clause-any_bus : goal.returns-then-self-clause-any_bus
returns-then-self-clause-any_bus g c = stopped_any
