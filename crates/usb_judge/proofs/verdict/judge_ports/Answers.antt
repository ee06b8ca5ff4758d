use Rattle.std.proofs.Common.{arith}
use Rattle.usb_judge.specs.{scene_in, told_at}
use Rattle.usb_judge.proofs.Membership.{flat_step}
use Rattle.usb_judge.proofs.verdict.judge_ports.Goals as goal

pub ports-preserved : goal.ports-preserved
ports-preserved c = flat_step (told_at (scene_in c.args.plugged.now) c.args.listing.now)
    c.args.listing.now c.ports.port-index c.port-item.result c.args.judgements.now.items
    c.ports.judgements.items c.judge_port.new.judgements.items (omega (arith, c.ports-test.true))
    c.port-item.is c.ports.invariant c.in_ok-judge_port.ensures
