use Rattle.std.proofs.Common.{◌∙◌, sym}
use Rattle.usb_far.proofs.Sends.{first_part}
use Rattle.usb_far.proofs.wanted.next_part.Goals as goal

pub returns : goal.returns
returns c =
    first_part c.args.sending c.without.result c.request-2.result c.min-count.result
    c.rest-rest.result.now (sym c.fits_line.ensures.value ∙ c.if-fits_line.false)
    c.rest-rest.ensures c.min-count.ensures c.request-2.ensures c.without.ensures
