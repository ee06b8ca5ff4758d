use Rattle.std.proofs.Common.{refl}
use Rattle.usb_watch.specs.{inner_of}
use Rattle.usb_serve.proofs.Interface.{at_fault}
use Rattle.usb_drawing.specs.{IsDrawn, of_plan, unread}
use Rattle.usb_drawing.proofs.drawing.draw.Goals as goal

pub returns-in_err-plan-clause-drawn : goal.returns-in_err-plan-clause-drawn
returns-in_err-plan-clause-drawn g c =
    let fault = c.in_err-plan.field-0.0 in
    let text = g.R.Read.remaining (inner_of c.args.reader.now) in
    let before = g.W.Write.contents (inner_of c.args.writer.now) in
    at_fault (λ x. IsDrawn c.args.style text before x before) c.from_residual.result fault
    c.from_residual.ensures.1 (unread fault refl c.in_err-plan.ensures.unread refl)

pub returns-clause-drawn : goal.returns-clause-drawn
returns-clause-drawn g c = of_plan c.in_ok-plan.plan c.in_ok-plan.ensures.plan
    c.write_items.ensures.reader c.write_items.ensures.written
