use Rattle.std.proofs.Common.{◌∙◌, refl, sym}
use Rattle.usb_far.specs.{played_of}
use Rattle.usb_far.proofs.Deeds.{made_reply}
use Rattle.usb_far.proofs.far_end.FarEnd.reply.Goals as goal

pub returns-clause-replied : goal.returns-clause-replied
returns-clause-replied g c =
    made_reply c.args.question.now c.asked-asked.result (played_of c.args.self.now)
    (played_of c.answer.new.self) _ c.in-Ok.answer c.changes-lines.result.items _
    (sym c.may_ask.ensures ∙ c.if-not-may_ask.false) c.asked-asked.ensures c.in-Ok.ensures.done
    c.changes-lines.ensures.told c.push_said.ensures.line c.rest_behind-rest.ensures.value
    c.came_of-came.ensures (rw c.changes-lines.ensures.bus refl)
    (rw c.changes-lines.ensures.bus refl)
