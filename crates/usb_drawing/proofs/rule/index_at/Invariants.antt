use Rattle.std.proofs.Common.{◌≡◌, [], take}
use Rattle.usb_world.specs.{index_at, plugged_by}
use Rattle.usb_drawing.proofs.rule.index_at.Given as goal

-- what the events so far leave at the path
abbrev pub invariant-events : goal.invariant-events
invariant-events l = l.index ≡ index_at (plugged_by [] (take l.event-index l.events)) l.path
