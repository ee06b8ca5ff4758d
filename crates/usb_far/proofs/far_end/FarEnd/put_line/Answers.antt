use Rattle.std.proofs.Common.{ap, refl, sym}
use Rattle.usb_far.specs.{bus_told, played_of}
use Rattle.usb_far.proofs.Deeds.{line_put}
use Rattle.usb_far.proofs.far_end.FarEnd.put_line.Goals as goal

pub returns-in-Ok : goal.returns-in-Ok
returns-in-Ok g c =
    line_put c.args.line.now (played_of c.args.self.now) _ _ c.put_line.result
    (sym (ap bus_told c.in-Ok.is)) c.put_line.ensures.step c.put_line.ensures.front
    c.put_line.ensures.ok (λ some. rw (c.put_line.ensures.again some) refl)
    c.put_line.ensures.trace refl
