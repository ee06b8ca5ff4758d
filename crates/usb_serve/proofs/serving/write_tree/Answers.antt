use Rattle.std.proofs.Common.{◌∙◌, ap}
use Rattle.usb_text.specs.{bound_line}
use Rattle.usb_serve.proofs.ServedItems.{tree_bound, tree_stopped, tree_unbound}
use Rattle.usb_serve.proofs.serving.write_tree.Goals as goal

pub returns-in_err-write_items-clause-written : goal.returns-in_err-write_items-clause-written
returns-in_err-write_items-clause-written g c = tree_stopped c.in_err-write_items.field-0.0
    c.from_residual.result c.from_residual.ensures.1 c.in_err-write_items.ensures.written

pub returns-in_err-line-clause-written : goal.returns-in_err-line-clause-written
returns-in_err-line-clause-written g c = tree_unbound c.from_residual-in_err-line.result
    c.from_residual-in_err-line.ensures.1 c.in_ok-write_items.ensures.written

pub returns-clause-written : goal.returns-clause-written
returns-clause-written g c = tree_bound g.T.Trace.text g.T.Trace.failed c.args.plan.now _
    c.write_items.new.writer c.write_line.new.writer c.write_line.result c.as_slice.result.now
    (c.as_slice.ensures.value ∙ c.in_ok-line.ensures ∙ ap bound_line c.bound.ensures)
    c.in_ok-write_items.ensures.written c.write_line.ensures.puts c.write_line.ensures.fault
