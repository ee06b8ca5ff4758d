use Rattle.std.proofs.Common.{◌≡◌, take}
use Rattle.usb_scene.proofs.event.event_copies.Given as goal

abbrev pub invariant-events : goal.invariant-events
invariant-events l = l.all.items ≡ take l.event-index l.events
