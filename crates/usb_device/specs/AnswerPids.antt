-- Answers by their packet identifiers (8.3.1), where the bytes of data stand in a room beside.
use Rattle.std.specs.Prelude.{ℕ, Option, None, Some}
use Rattle.arrayvec.specs.ArrayVec.{ArrayVec}
use Rattle.usb_device.specs.declared.answer.Answer.{Answer}
use Rattle.usb_device.specs.declared.answer.Answer.TheVariants as answer
use Rattle.usb_device.specs.declared.answer.AnswerPid.{AnswerPid}
use Rattle.usb_device.specs.declared.answer.AnswerPid.TheVariants.{Ack, Nak, Stall, Data}

abbrev pub Room : Type 0
Room = ArrayVec ℕ

-- the answer: where it is data, the room has its bytes
abbrev pub answer_from_pid : AnswerPid → Room → Answer
answer_from_pid Ack room = answer.Ack
answer_from_pid Nak room = answer.Nak
answer_from_pid Stall room = answer.Stall
answer_from_pid (Data t) room = answer.Data t room

abbrev pub answer_with : Option AnswerPid → Room → Option Answer
answer_with None room = None
answer_with (Some pid) room = Some (answer_from_pid pid room)
