use Rattle.std.proofs.Common.{refl, sym, arith}
use Rattle.std.proofs.Math.Nat.{max-le}
use Rattle.usb_plan.specs.{greatest_total}
use Rattle.usb_plan.proofs.Totals.{greatest_total-more}
use Rattle.usb_plan.proofs.attempts.greatest_total.Goals as goal

pub events-init : goal.events-init
unfolding greatest_total
events-init c = record { so_far = refl; most = omega arith }

pub events-preserved : goal.events-preserved
events-preserved c = record {
  so_far = rw (c.max-greatest.ensures, c.events.invariant.so_far, c.plugged_total.ensures.value)
      (sym (greatest_total-more c.args.devices.now c.args.events.now c.events.event-index
      c.event-item.result c.events-test.true c.event-item.is));
  most = rw c.max-greatest.ensures (max-le c.events.invariant.most c.plugged_total.ensures.most);
}
