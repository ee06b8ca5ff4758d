use Rattle.std.proofs.Common.{◌<◌, ◌∙◌, arith}
use Rattle.usb_wire.proofs.ReadLaws.{line_says-said}
use Rattle.usb_wire.proofs.SaidLaws.{said-result}
use Rattle.usb_wire.proofs.reading.said_in_form.Goals as goal

pub returns-clause-said : goal.returns-clause-said
returns-clause-said c =
    let few : c.args.roots < 256 = omega (arith, c.ranges.roots.fits) in
    said-result c.args.asked c.args.roots c.args.line.now c.line_says.result few c.line_says.ensures

pub returns-clause-only : goal.returns-clause-only
returns-clause-only c = λ said may is.
    let few : c.args.roots < 256 = omega (arith, c.ranges.roots.fits) in
    c.line_says.ensures ∙ line_says-said c.args.asked c.args.roots c.args.line.now said few may is
