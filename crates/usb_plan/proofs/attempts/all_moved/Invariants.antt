use Rattle.std.proofs.Common.{◌≡◌, ◌-◌, ◌^◌, take, min}
use Rattle.std.specs.List.{sum_by}
use Rattle.usb_plan.specs.{moved}
use Rattle.usb_plan.proofs.attempts.all_moved.Given as goal

abbrev pub invariant-events : goal.invariant-events
invariant-events l = l.sum ≡ min (sum_by moved (take l.event-index l.events)) (2 ^ 64 - 1)
