use Rattle.std.proofs.Common.{refl}
use Rattle.usb_host.proofs.Transfers.{had_stopped, moved_tells, moves_any, sent_works, stopped_any}
use Rattle.usb_host.proofs.Transfers.{stopped_tells}
use Rattle.usb_host.proofs.host.Host.send_through.Goals as goal

pub returns-then-self-clause-tells : goal.returns-then-self-clause-tells
returns-then-self-clause-tells g c known = stopped_tells c.self.view_is c.if-self.true

pub returns-clause-tells : goal.returns-clause-tells
returns-clause-tells g c known =
    rw (← c.self.view_is) (moved_tells c.send.result c.if-self.false
    c.as_host_fault-sent.ensures c.is_final-self-inside.ensures
    c.self.invariant refl c.send.ensures.through
    (sent_works c.args.choice c.args.bytes.now) (c.send.ensures.sends known))

pub returns-clause-any_bus : goal.returns-clause-any_bus
returns-clause-any_bus g c =
    rw (← c.self.view_is) (moves_any g.B.Bus.modelled g.B.Bus.world g.B.Bus.trace
    g.B.Bus.spent g.B.Bus.failed c.self.inside.left c.self.view_is c.self.inside.bus
    c.send.new.bus c.send.result c.as_host_fault-sent.ensures c.if-self.false
    c.is_final-self-inside.ensures c.send.ensures.through
    c.send.ensures.any_bus.0.0 c.send.ensures.any_bus.1 c.send.ensures.any_bus.2)

pub returns-then-self-clause-any_bus : goal.returns-then-self-clause-any_bus
returns-then-self-clause-any_bus g c = record {
  calls = stopped_any;
  refuses = had_stopped c.self.view_is c.if-self.true;
}
