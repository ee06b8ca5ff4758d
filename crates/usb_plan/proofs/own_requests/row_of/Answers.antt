use Rattle.usb_plan.specs.{row_of}
use Rattle.usb_plan.proofs.MemoryRefusals.{row_unless}
use Rattle.usb_plan.proofs.own_requests.row_of.Goals as goal

pub returns : goal.returns
unfolding row_of
returns c = rw (
  c.row_with.ensures,
  c.codes_of.ensures,
  c.fields_of.ensures,
  c.keys_at.ensures,
) (row_unless _ _ c.answer_of-answer.result _ _ c.answer_of-answer.ensures)
