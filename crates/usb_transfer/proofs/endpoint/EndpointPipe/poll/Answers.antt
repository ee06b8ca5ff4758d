use Rattle.std.proofs.Common.{rules, subst, ◌≤◌}
use Rattle.usb_transfer.proofs.PacketPolls.{polls_broken, polls_by}
use Rattle.usb_transfer.proofs.endpoint.EndpointPipe.poll.Goals as goal

pub returns-then-is_broken-clause-transfer : goal.returns-then-is_broken-clause-transfer
returns-then-is_broken-clause-transfer g c known = polls_broken _ _
    (subst (λ p. 1 ≤ p.max) c.self.view_is c.self.invariant.least) (search rules)

pub returns-in_err-polled-clause-transfer : goal.returns-in_err-polled-clause-transfer
returns-in_err-polled-clause-transfer g c known = polls_by _ c.args.self.now _ _ _ _ c.self.view_is
    c.self.invariant.least (search rules) (search rules) (search rules)
    (g.met.B.Bus.settled known c.args.bus.now)

pub returns-clause-transfer : goal.returns-clause-transfer
returns-clause-transfer g c known = polls_by _ c.args.self.now _ _ _ _ c.self.view_is
    c.self.invariant.least (search rules) (search rules) (search rules)
    (g.met.B.Bus.settled known c.args.bus.now)
