use Rattle.std.proofs.Common.{refl}
use Rattle.usb_host.proofs.knowledge.Soundness.{transfer_kept}
use Rattle.usb_host.proofs.Transfers.{bytes_read_works, controls_any, had_stopped, stopped_any}
use Rattle.usb_host.proofs.Transfers.{stopped_tells, transfer_tells}
use Rattle.usb_host.proofs.host.Host.control_in.Goals as goal

pub returns-then-self-clause-tells : goal.returns-then-self-clause-tells
returns-then-self-clause-tells g c known = stopped_tells c.self.view_is c.if-self.true

pub returns-clause-tells : goal.returns-clause-tells
returns-clause-tells g c known =
    let x = c.control_in.ensures.reads known in
    rw (← c.self.view_is) (transfer_tells c.control_in.result c.if-self.false
    c.as_host_fault-read.ensures c.is_final-self-inside.ensures refl x.went x.told
    (bytes_read_works c.args.setup _ _ _ _ _ _ x.did)
    (λ running. record {
      answer = c.control_in.result;
      told = c.as_host_fault-read.ensures;
      same = refl;
      did = x.did;
      keeps = x.keeps;
    }) (transfer_kept c.self.invariant refl refl x.went x.keeps c.if-self.false))

pub returns-clause-any_bus : goal.returns-clause-any_bus
returns-clause-any_bus g c =
    rw (← c.self.view_is) (controls_any g.B.Bus.modelled g.B.Bus.world g.B.Bus.trace
    g.B.Bus.spent g.B.Bus.failed c.self.inside.left c.self.view_is c.self.inside.bus
    c.control_in.new.bus c.control_in.result c.as_host_fault-read.ensures c.if-self.false
    c.is_final-self-inside.ensures c.args.setup c.self.inside.table
    c.control_in.ensures.any_bus.0.0
    c.control_in.ensures.any_bus.1 c.control_in.ensures.any_bus.2)

pub returns-then-self-clause-any_bus : goal.returns-then-self-clause-any_bus
returns-then-self-clause-any_bus g c = record {
  calls = stopped_any;
  refuses = had_stopped c.self.view_is c.if-self.true;
}
