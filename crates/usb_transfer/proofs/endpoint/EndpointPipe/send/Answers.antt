use Rattle.std.proofs.Common.{rules, arith, ap}
use Rattle.std.proofs.lemmas.Grind.{common_steps}
use Rattle.usb_transfer.specs.{PipeState}
use Rattle.usb_transfer.proofs.Bounds.{few_packets}
use Rattle.usb_transfer.proofs.BulkTransfers.{send_told, sends_by}
use Rattle.usb_transfer.proofs.endpoint.EndpointPipe.send.Goals as goal

pub returns-clause-transfer : goal.returns-clause-transfer
returns-clause-transfer g c known = send_told _ _ _ _ _ _ (sends_by _ _ _ _ _ _ (search rules)
    (search rules) (search rules) (search rules) (g.met.B.Bus.settled known c.args.bus.now))

pub returns-then-is_broken-clause-transfer : goal.returns-then-is_broken-clause-transfer
returns-then-is_broken-clause-transfer g c known = send_told _ _ _ _ _ _ (search rules)

pub returns-then-is_empty-clause-transfer : goal.returns-then-is_empty-clause-transfer
returns-then-is_empty-clause-transfer g c known = send_told _ _ _ _ _ _
    (grind (arith, common_steps))

pub returns-clause-any_bus : goal.returns-clause-any_bus
returns-clause-any_bus g c = (
  search rules,
  search rules,
  few_packets _ _ (omega (
    arith,
    c.self.invariant.least,
    ap (λ (b : PipeState). b.max) c.self.view_is,
  )),
)

pub returns-then-is_broken-clause-any_bus : goal.returns-then-is_broken-clause-any_bus
returns-then-is_broken-clause-any_bus g c = (
  search rules,
  search rules,
  few_packets _ _ (omega (
    arith,
    c.self.invariant.least,
    ap (λ (b : PipeState). b.max) c.self.view_is,
  )),
)

pub returns-then-is_empty-clause-any_bus : goal.returns-then-is_empty-clause-any_bus
returns-then-is_empty-clause-any_bus g c = (
  search rules,
  search rules,
  few_packets _ _ (omega (
    arith,
    c.self.invariant.least,
    ap (λ (b : PipeState). b.max) c.self.view_is,
  )),
)
