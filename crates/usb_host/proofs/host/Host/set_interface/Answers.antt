use Rattle.std.proofs.Common.{refl}
use Rattle.usb_table.specs.{interface_target}
use Rattle.usb_host.proofs.knowledge.Soundness.{transfer_under}
use Rattle.usb_host.proofs.Transfers.{had_stopped, refused, set_works, sets_or_refuses, stopped_any}
use Rattle.usb_host.proofs.Transfers.{stopped_tells, transfer_tells, transfers_any}
use Rattle.usb_host.proofs.host.Host.set_interface.Goals as goal

pub returns-then-self-clause-tells : goal.returns-then-self-clause-tells
returns-then-self-clause-tells g c known = stopped_tells c.self.view_is c.if-self.true

pub returns-clause-tells : goal.returns-clause-tells
returns-clause-tells g c known =
    let x = c.set_interface.ensures.sets known in
    rw (← c.self.view_is) (transfer_tells c.set_interface.result c.if-self.false
    c.as_host_fault-set.ensures c.is_final-self-inside.ensures
    c.set_interface.ensures.through.entries x.went x.told
    (set_works _ _ _ _ _ _ _ _ _ x.did)
    (λ running. record {
      answer = c.set_interface.result;
      told = c.as_host_fault-set.ensures;
      through = c.set_interface.ensures.through;
      did = x.did;
      keeps = x.keeps;
    }) (transfer_under (record {
      agrees = c.self.invariant;
      same = c.set_interface.ensures.through.entries;
      width = refl;
      went = x.went;
      levels = x.keeps;
    }) c.if-self.false))

pub returns-clause-any_bus : goal.returns-clause-any_bus
returns-clause-any_bus g c =
    let through = c.set_interface.ensures.through in
    rw (← c.self.view_is) (record {
      calls = transfers_any g.B.Bus.modelled g.B.Bus.world g.B.Bus.trace
          g.B.Bus.spent g.B.Bus.failed c.self.inside.left c.self.view_is c.self.inside.bus
          c.set_interface.new.bus c.set_interface.result c.as_host_fault-set.ensures c.if-self.false
          c.is_final-self-inside.ensures through c.set_interface.ensures.any_bus.0.0
          c.set_interface.ensures.any_bus.1;
      refuses = λ running. sets_or_refuses c.args.path.now c.args.interface c.args.setting
          c.set_interface.result c.as_host_fault-set.ensures
          (λ fault said stays pipes. refused g.B.Bus.modelled g.B.Bus.world g.B.Bus.trace
          g.B.Bus.spent g.B.Bus.failed c.self.inside.left c.self.view_is c.self.inside.bus
          c.set_interface.new.bus c.set_interface.result c.as_host_fault-set.ensures c.if-self.false
          c.is_final-self-inside.ensures through said stays pipes)
          (interface_target c.args.path.now c.args.interface c.args.setting
          c.self.inside.table.entries) c.set_interface.ensures.any_bus.2;
    })

pub returns-then-self-clause-any_bus : goal.returns-then-self-clause-any_bus
returns-then-self-clause-any_bus g c = record {
  calls = stopped_any;
  refuses = had_stopped c.self.view_is c.if-self.true;
}
