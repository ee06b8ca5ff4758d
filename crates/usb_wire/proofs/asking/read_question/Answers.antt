use Rattle.std.proofs.Common.{◌∙◌}
use Rattle.usb_wire.proofs.QuestionLaws.{question_read-asked, question_read-some}
use Rattle.usb_wire.proofs.asking.read_question.Goals as goal

pub returns-clause-asked : goal.returns-clause-asked
returns-clause-asked c = question_read-some c.args.line.now c.question_of.result
    c.question_of.ensures

pub returns-clause-only : goal.returns-clause-only
returns-clause-only c = λ q fits is. c.question_of.ensures
    ∙ question_read-asked c.args.line.now q fits is
