use Rattle.std.proofs.Common.{◌∙◌, ap, refl, sym, is_some, Some}
use Rattle.std.proofs.lemmas.Option.{slice_get_past, slice_get_read}
use Rattle.usb_host.proofs.arrivals.News.{has_at, unreported_past}
use Rattle.usb_host.proofs.reported.Reported.has.Goals as goal

pub returns-in-Some : goal.returns-in-Some
returns-in-Some c =
    let found = c.in-Some.ensures.lookup in
    let here = rw (c.as_slice.ensures.value, c.self.view_is) at (slice_get_read _ _
    c.place_of.result _ refl found.3.0 found.1) in
    has_at c.args.path.now c.place_of.result c.device.inside.path c.device.inside.number
    c.args.self.now c.place_of.ensures.rises c.place_of.ensures.place
    (here ∙ ap Some (sym c.device.view_is)) c.eq.result c.eq.ensures

pub returns-in-None : goal.returns-in-None
returns-in-None c =
    let past = slice_get_past c.args.self.now c.place_of.result
    (rw (c.as_slice.ensures.value, c.self.view_is) at c.in-None.ensures.lookup.3) in
    sym (ap is_some (unreported_past c.args.path.now c.place_of.result c.args.self.now
    c.place_of.ensures.rises c.place_of.ensures.place past))
