use Rattle.std.proofs.Common.{arith}
use Rattle.usb_plan.proofs.own_requests.with_row.Goals as goal

pub push-requires : goal.push-requires
push-requires c = omega (arith, c.requires c.in_ok-rows.rows c.in_ok-rows.was)
