use Rattle.std.proofs.Common.{IfSome, subst}
use Rattle.usb_wire.specs.{IsQuestion}
use Rattle.usb_bench.specs.{RowJudged}
use Rattle.usb_bench.proofs.Rows.{row_goes_on, row_over, row_shrinks, row_stops}
use Rattle.usb_bench.proofs.judge.Judge.answer.Goals as goal

pub attempts-init : goal.attempts-init
attempts-init g c = (c.requires, RowJudged.begun)

pub attempts-smaller : goal.attempts-smaller
attempts-smaller g c =
    row_shrinks _ _ _ _ _ _ _ _ _ _ c.attempts.invariant.0 c.in-Ok-Some.ensures.judged
    c.in-Ok-Some.field-0-is

pub attempts-preserved : goal.attempts-preserved
attempts-preserved g c = (
  subst (λ r. IfSome r IsQuestion) c.in-Ok-Some.field-0-is c.in-Ok-Some.ensures.rest,
  row_goes_on _ _ _ _ _ _ _ _ _ _ _ _ _ _ c.attempts.invariant.1 c.in-Ok-Some.ensures.judged
      c.in-Ok-Some.field-0-is,
)

pub returns-in-Ok-None-clause-judged : goal.returns-in-Ok-None-clause-judged
returns-in-Ok-None-clause-judged g c =
    row_over _ _ _ _ _ _ _ _ _ _ _ _ _ c.attempts.invariant.1 c.in-Ok-None.ensures.judged
    c.in-Ok-None.field-0-is

pub returns-in-Err-clause-fault : goal.returns-in-Err-clause-fault
returns-in-Err-clause-fault g c =
    row_stops _ _ _ _ _ _ _ _ _ _ _ _ c.attempts.invariant.1 c.in-Err.ensures.fault
