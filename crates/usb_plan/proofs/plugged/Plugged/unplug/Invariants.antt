use Rattle.std.proofs.Common.{◌≡◌, length}
use Rattle.usb_world.specs.{plugged_without}
use Rattle.usb_plan.proofs.plugged.Plugged.unplug.Given as goal

abbrev pub invariant-places : goal.invariant-places
invariant-places l = plugged_without l.path l.self ≡ plugged_without l.path l.initial.self

abbrev pub decreases-places : goal.decreases-places
decreases-places l = length l.self
