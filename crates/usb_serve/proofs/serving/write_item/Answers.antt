use Rattle.std.proofs.Common.{◌∙◌, refl}
use Rattle.usb_text.specs.{lines_text}
use Rattle.usb_run.proofs.Interface.{at_fault}
use Rattle.usb_serve.specs.{TextWritten}
use Rattle.usb_serve.specs.declared.serving.ServeFault.TheVariants as serve
use Rattle.usb_serve.proofs.ServedItems.{lines_written}
use Rattle.usb_serve.proofs.serving.write_item.Goals as goal

pub returns-in_err-lines_of-clause-written : goal.returns-in_err-lines_of-clause-written
returns-in_err-lines_of-clause-written g c =
    let before = g.T.Trace.text c.args.writer.now in
    at_fault (λ x. TextWritten (lines_text (g.L.ItemLines.lines c.args.lines.now c.args.number
    c.args.item)) before x before) c.from_residual.result serve.Memory c.from_residual.ensures.1
    refl

pub returns-clause-written : goal.returns-clause-written
returns-clause-written g c = lines_written g.T.Trace.text g.T.Trace.failed c.args.writer.now
    c.write_lines.new.writer c.write_lines.result c.as_slice-2.result.now _
    (c.as_slice-2.ensures ∙ c.in_ok-lines_of.ensures) c.write_lines.ensures.puts
    c.write_lines.ensures.fault
