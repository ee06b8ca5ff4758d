use Rattle.std.proofs.Common.{rules}
use Rattle.usb_transfer.proofs.InterruptPolls.{poll_told}
use Rattle.usb_transfer.proofs.interrupt.InterruptPipe.poll.Goals as goal

pub returns-in_err-polled-clause-transfer : goal.returns-in_err-polled-clause-transfer
returns-in_err-polled-clause-transfer g c known = poll_told _ c.args.self.now _ _ _ _ c.self.view_is
    (g.met.B.Bus.settled known c.args.bus.now) (search rules)

pub returns-clause-transfer : goal.returns-clause-transfer
returns-clause-transfer g c known = poll_told _ c.args.self.now _ _ _ _ c.self.view_is
    (g.met.B.Bus.settled known c.args.bus.now) (search rules)
