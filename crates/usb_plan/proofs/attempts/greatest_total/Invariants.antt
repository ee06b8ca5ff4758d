use Rattle.std.proofs.Common.{◌≡◌, ◌≤◌, take}
use Rattle.usb_plan.specs.{greatest_total}
use Rattle.usb_plan.proofs.attempts.greatest_total.Given as goal

abbrev pub invariant-events : goal.invariant-events
invariant-events l = record {
  so_far : l.greatest ≡ greatest_total l.devices (take l.event-index l.events);
  most : l.greatest ≤ 524280;
}
