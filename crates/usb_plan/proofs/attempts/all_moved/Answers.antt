use Rattle.std.proofs.Common.{◌-◌, ◌^◌, take}
use Rattle.std.proofs.lemmas.List.{take_all}
use Rattle.std.proofs.lemmas.List.Sums.{sum_by_more}
use Rattle.std.specs.List.{sum_by}
use Rattle.usb_plan.specs.{moved}
use Rattle.usb_plan.proofs.Totals.{saturated-add}
use Rattle.usb_plan.proofs.attempts.all_moved.Goals as goal

pub events-preserved : goal.events-preserved
events-preserved c =
    let one = sum_by_more moved c.args.events.now c.events.event-index c.event-item.result
    c.events-test.true in
    rw (c.saturating_add-sum.ensures, c.events.invariant, c.moved.ensures, one, ← c.event-item.is)
    (saturated-add (sum_by moved (take c.events.event-index c.args.events.now))
    (moved c.event-item.result) (2 ^ 64 - 1))

pub returns : goal.returns
returns c = rw (
  c.events.invariant,
  take_all c.events.event-index c.args.events.now c.events-test.false,
)
