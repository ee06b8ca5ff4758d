use Rattle.usb_wire.proofs.QuestionLaws.{IsQuestionLine-question_line}
use Rattle.usb_wire.proofs.ReadLaws.{IsSaidLine-said_line}
use Rattle.usb_wire.proofs.laws.lines_are_read_back.Goals as goal

pub returns-clause-asked : goal.returns-clause-asked
returns-clause-asked c = λ question fits. IsQuestionLine-question_line question fits

pub returns-clause-said : goal.returns-clause-said
returns-clause-said c = λ asked roots said may. IsSaidLine-said_line asked roots said may
