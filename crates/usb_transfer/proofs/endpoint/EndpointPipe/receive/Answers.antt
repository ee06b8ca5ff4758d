use Rattle.std.proofs.Common.{rules, subst, ◌≤◌}
use Rattle.usb_transfer.proofs.BulkTransfers.{receive_told, receives_by}
use Rattle.usb_transfer.proofs.endpoint.EndpointPipe.receive.Goals as goal

pub returns-clause-transfer : goal.returns-clause-transfer
returns-clause-transfer g c known = receive_told _ _ _ _ _ _ (subst (λ p. 1 ≤ p.max) c.self.view_is
    c.self.invariant.least) (receives_by _ _ _ _ _ _ (search rules) (search rules) (search rules)
    (search rules) (g.met.B.Bus.settled known c.args.bus.now))

pub returns-then-is_broken-clause-transfer : goal.returns-then-is_broken-clause-transfer
returns-then-is_broken-clause-transfer g c known = receive_told _ _ _ _ _ _
    (subst (λ p. 1 ≤ p.max) c.self.view_is
    c.self.invariant.least) (search rules)

pub returns-then-packets-eq0-clause-transfer : goal.returns-then-packets-eq0-clause-transfer
returns-then-packets-eq0-clause-transfer g c known = receive_told _ _ _ _ _ _
    (subst (λ p. 1 ≤ p.max) c.self.view_is
    c.self.invariant.least) (search rules)
