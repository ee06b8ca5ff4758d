use Rattle.std.proofs.Common.{arith}
use Rattle.usb_far.specs.{scene}
use Rattle.usb_far.proofs.Lines.{served_none, served_more, served_one}
use Rattle.usb_far.proofs.serving.serve.Goals as goal

pub lines-init : goal.lines-init
lines-init g c = served_none (scene g.R.Read.remaining g.W.Write.contents c.args.far.now
    c.args.reader.now c.args.writer.now)

pub lines-preserved : goal.lines-preserved
lines-preserved g c =
    served_more (scene g.R.Read.remaining g.W.Write.contents c.args.far.now c.args.reader.now
    c.args.writer.now) (scene g.R.Read.remaining g.W.Write.contents c.lines.far c.lines.reader
    c.lines.writer) _ _ _ (omega arith)
    c.lines.invariant (served_one _ _ c.in-Ok-true.field-0 c.in-Ok-true.field-0-test
    c.in-Ok-true.ensures)
