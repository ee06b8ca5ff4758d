use Rattle.std.proofs.Common.{refl}
use Rattle.usb_host.proofs.Transfers.{fits_told, had_stopped, moved_tells, moves_any}
use Rattle.usb_host.proofs.Transfers.{reported_works, stopped_any, stopped_tells}
use Rattle.usb_host.proofs.host.Host.poll.Goals as goal

pub returns-then-self-clause-tells : goal.returns-then-self-clause-tells
returns-then-self-clause-tells g c known = stopped_tells c.self.view_is c.if-self.true

pub returns-clause-tells : goal.returns-clause-tells
returns-clause-tells g c known =
    rw (← c.self.view_is) (moved_tells c.poll_of.result c.if-self.false
    c.as_host_fault-polled.ensures c.is_final-self-inside.ensures
    c.self.invariant refl c.poll_of.ensures.through
    (reported_works c.args.endpoint) (c.poll_of.ensures.reports known))

pub returns-clause-any_bus : goal.returns-clause-any_bus
returns-clause-any_bus g c =
    rw (← c.self.view_is) (moves_any g.B.Bus.modelled g.B.Bus.world g.B.Bus.trace
    g.B.Bus.spent g.B.Bus.failed c.self.inside.left c.self.view_is c.self.inside.bus
    c.poll_of.new.bus c.poll_of.result c.as_host_fault-polled.ensures c.if-self.false
    c.is_final-self-inside.ensures c.poll_of.ensures.through
    c.poll_of.ensures.any_bus.0.0 c.poll_of.ensures.any_bus.1 c.poll_of.ensures.any_bus.2)

pub returns-then-self-clause-any_bus : goal.returns-then-self-clause-any_bus
returns-then-self-clause-any_bus g c = record {
  calls = stopped_any;
  refuses = had_stopped c.self.view_is c.if-self.true;
}

pub returns-clause-most : goal.returns-clause-most
returns-clause-most g c = rw (← c.self.view_is) (rw c.as_host_fault-polled.ensures
    (fits_told _ c.poll_of.result c.poll_of.ensures.most))
