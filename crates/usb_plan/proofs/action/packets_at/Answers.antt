use Rattle.std.proofs.Common.{sym, arith}
use Rattle.usb_plan.proofs.Parts.{number_at_ok}
use Rattle.usb_plan.proofs.action.packets_at.Goals as goal

pub overflow_cast-result : goal.overflow_cast-result
overflow_cast-result c = omega (
  arith,
  (number_at_ok 0 1000 _ c.in_ok-packets.packets (sym c.in_ok-packets.ensures)).1,
)
