use Rattle.std.proofs.Common.{◌∙◌}
use Rattle.usb_host.proofs.arrivals.News.{inserted_at}
use Rattle.usb_host.proofs.entries.Agreements.{rises_entered}
use Rattle.usb_host.proofs.reported.Reported.enter.Goals as goal

pub returns-clause-value : goal.returns-clause-value
returns-clause-value c =
    c.insert.ensures.items ∙ rw c.self.view_is (inserted_at c.args.path c.args.number
    c.place_of-place.result c.args.self.now c.requires.unreported c.place_of-place.ensures.place)

pub invariant_of-self : goal.invariant_of-self
invariant_of-self c =
    rw (returns-clause-value c) (rises_entered c.args.path c.args.number c.args.self.now
    c.place_of-place.ensures.rises)
