use Rattle.std.proofs.Common.{IfSome, subst}
use Rattle.usb_wire.specs.{IsQuestion}
use Rattle.usb_far.specs.{RowFront}
use Rattle.usb_far.proofs.Lines.{all_replied, row_further, row_less, row_unreplied, row_unwritten}
use Rattle.usb_far.proofs.far_end.FarEnd.reply_all.Goals as goal

pub attempts-init : goal.attempts-init
attempts-init g c = (c.requires, RowFront.begun)

pub attempts-preserved : goal.attempts-preserved
attempts-preserved g c = (
  subst (λ r. IfSome r IsQuestion) c.in-Some.is c.in-Ok.ensures.rest,
  row_further _ _ _ _ _ _ _ _ _ _ c.attempts.invariant.1 c.in-Ok.ensures.replied c.in-Some.is
      (rw c.as_slice.ensures.value at c.in-Ok-put_lines.ensures),
)

pub attempts-smaller : goal.attempts-smaller
attempts-smaller g c =
    row_less _ _ _ _ _ c.attempts.invariant.0 c.in-Ok.ensures.replied c.in-Some.is

pub returns-in-Err : goal.returns-in-Err
returns-in-Err g c =
    row_unreplied _ _ _ _ _ _ _ _ c.attempts.invariant.1 c.in-Err.ensures.fault

pub returns-in-Err-put_lines : goal.returns-in-Err-put_lines
returns-in-Err-put_lines g c =
    row_unwritten _ _ _ _ _ _ _ _ _ c.attempts.invariant.1 c.in-Ok.ensures.replied
    (rw c.as_slice.ensures.value at c.in-Err-put_lines.ensures)

pub returns-in-None : goal.returns-in-None
returns-in-None g c =
    all_replied _ _ _ _ _ _ _ _ _ c.attempts.invariant.1 c.in-Ok.ensures.replied c.in-None.is
    (rw c.as_slice.ensures.value at c.in-Ok-put_lines.ensures)
