use Rattle.usb_dialogue.proofs.AnswerLaws.{answer_record-read}
use Rattle.usb_dialogue.proofs.answer.Answer.read.Goals as goal

pub returns-clause-only : goal.returns-clause-only
returns-clause-only c = answer_record-read c.args.bytes.now c.answer_in.result
    c.answer_in.ensures.read c.answer_in.ensures.cause
