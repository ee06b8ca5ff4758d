use Rattle.std.proofs.Common.{arith}
use Rattle.usb_plan.proofs.endpoints.with_endpoint.Goals as goal

pub push-requires : goal.push-requires
push-requires c = omega (arith, c.requires c.in_ok-endpoints.endpoints c.in_ok-endpoints.was)
