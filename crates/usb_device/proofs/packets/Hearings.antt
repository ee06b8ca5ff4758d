-- What is heard has its packet identifier.
use Rattle.std.proofs.Common.{◌≡◌, refl, ap}
use Rattle.usb_device.specs.declared.answer.AnswerPid.TheVariants.{Ack}
use Rattle.usb_device.specs.{HeardPid, Room, heard_with, pid_heard}
use Rattle.usb_device.specs.declared.hearing.HeardPid.TheVariants.{One}

pub pid_of-with : (p : HeardPid) (room : Room) → pid_heard (heard_with p room) ≡ p
pid_of-with (One Ack) room = refl
pid_of-with p room = refl

pub heard_with-pid : (p : HeardPid) (room : Room)
    → heard_with (pid_heard (heard_with p room)) room ≡ heard_with p room
heard_with-pid p room = ap (λ x. heard_with x room) (pid_of-with p room)

pub ruleset hearings = (pid_of-with, heard_with-pid)
