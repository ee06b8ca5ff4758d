use Rattle.std.proofs.Common.{◌∙◌}
use Rattle.usb_device.proofs.JoinedRows.{joined-room}
use Rattle.usb_function.proofs.ends.make_room.Goals as goal

pub room-preserved : goal.room-preserved
room-preserved c = λ heads. rw (c.in_ok-push.ensures.items, c.new-sink.ensures)
    (joined-room heads c.room.sinks.items ∙ c.room.invariant heads)
