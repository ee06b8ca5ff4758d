-- What is heard, where the bytes of data stand in a room beside.
use Rattle.usb_device.specs.declared.delivery.Heard.{Heard}
use Rattle.usb_device.specs.declared.delivery.Heard.TheVariants as heard
use Rattle.usb_device.specs.declared.hearing.HeardPid.{HeardPid}
use Rattle.usb_device.specs.declared.hearing.HeardPid.TheVariants.{Nothing, One, Collision}
use Rattle.usb_device.specs.declared.answer.Answer.TheVariants as answer
use Rattle.usb_device.specs.declared.answer.AnswerPid.TheVariants as pid
use Rattle.usb_device.specs.AnswerPids.{Room, answer_from_pid}

-- the room counts where one device answered by data
abbrev pub heard_with : HeardPid → Room → Heard
heard_with Nothing room = heard.NoAnswer
heard_with (One pid) room = heard.One (answer_from_pid pid room)
heard_with Collision room = heard.Collision

-- the packet identifier that is heard
abbrev pub pid_heard : Heard → HeardPid
pid_heard heard.NoAnswer = Nothing
pid_heard (heard.One answer.Ack) = One pid.Ack
pid_heard (heard.One answer.Nak) = One pid.Nak
pid_heard (heard.One answer.Stall) = One pid.Stall
pid_heard (heard.One (answer.Data toggle bytes)) = One (pid.Data toggle)
pid_heard heard.Collision = Collision
