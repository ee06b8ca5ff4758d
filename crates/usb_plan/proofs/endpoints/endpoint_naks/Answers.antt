use Rattle.std.proofs.Common.{sym, arith}
use Rattle.usb_plan.proofs.Parts.{number_or_ok}
use Rattle.usb_plan.proofs.endpoints.endpoint_naks.Goals as goal

pub overflow_cast-result : goal.overflow_cast-result
overflow_cast-result c = omega (
  arith,
  number_or_ok 0 0 300 _ c.in_ok-naks.naks (omega arith) (sym c.in_ok-naks.ensures),
)
