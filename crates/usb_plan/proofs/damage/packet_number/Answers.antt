use Rattle.std.proofs.Common.{sym, arith}
use Rattle.usb_plan.proofs.Parts.{number_at_ok}
use Rattle.usb_plan.proofs.damage.packet_number.Goals as goal

pub overflow_cast-result : goal.overflow_cast-result
overflow_cast-result c = omega (
  arith,
  (number_at_ok 1 3 _ c.in_ok-packet.packet (sym c.in_ok-packet.ensures)).1,
)
