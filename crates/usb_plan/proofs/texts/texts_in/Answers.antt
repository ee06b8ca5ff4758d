use Rattle.std.proofs.Common.{arith}
use Rattle.toml.specs.View.{view}
use Rattle.usb_plan.proofs.Steps.{texts_few, texts_many}
use Rattle.usb_plan.proofs.texts.texts_in.Goals as goal

pub returns-then-values : goal.returns-then-values
returns-then-values g c = rw (texts_few g.row.COUNT g.row.MAX (view c.args.value.now)
    c.in_ok-values.values.now c.in_ok-values.ensures (omega arith)) c.texts_of.ensures

pub returns-else-values : goal.returns-else-values
returns-else-values g c = λ _. texts_many g.row.COUNT g.row.MAX (view c.args.value.now)
    c.in_ok-values.values.now c.in_ok-values.ensures (omega arith)
