use Rattle.std.proofs.Common.{◌≡◌, List, ◌+◌, ◌-◌, length}
use Rattle.usb_device.specs.{OutHead, joined}
use Rattle.usb_function.proofs.ends.make_room.Given as goal

abbrev pub invariant-room : goal.invariant-room
invariant-room l = (heads : List OutHead)
    → joined heads l.sinks.items ≡ joined heads l.initial.sinks.items

abbrev pub decreases-room : goal.decreases-room
decreases-room l = l.place + 1 - length l.sinks.items
