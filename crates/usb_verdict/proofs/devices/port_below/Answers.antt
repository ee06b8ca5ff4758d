use Rattle.std.proofs.Common.{rules}
use Rattle.usb_verdict.proofs.Found.{push_is}
use Rattle.usb_verdict.proofs.devices.port_below.Goals as goal

pub returns-else-not-push : goal.returns-else-not-push
returns-else-not-push c = push_is c.args.above.now c.in-Some.hub c.push.new.self c.args.number
    (search rules) (search rules) c.numbers.ensures.path
