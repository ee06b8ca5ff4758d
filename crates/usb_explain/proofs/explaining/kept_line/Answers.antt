use Rattle.usb_explain.proofs.Lines.{keeps_attempt_line, keeps_no_line, keeps_told_line}
use Rattle.usb_explain.proofs.explaining.kept_line.Goals as goal

pub returns-in-Some : goal.returns-in-Some
returns-in-Some c = keeps_attempt_line c.args.only _ _ _ _ _ c.requires c.in-Some.ensures.found
    c.in-Some.ensures.exact c.kept_attempt-kept.ensures c.take.ensures

pub returns-then-is_told : goal.returns-then-is_told
returns-then-is_told c = keeps_told_line c.args.only _ _ _ _ _ c.is_told.ensures c.if-is_told.true
    c.in-None.ensures.exact c.kept_told.ensures c.tell.ensures

pub returns-else-is_told : goal.returns-else-is_told
returns-else-is_told c = keeps_no_line c.args.only _ _ c.args.known.now c.args.known.now
    c.is_told.ensures c.if-is_told.false c.in-None.ensures.each
