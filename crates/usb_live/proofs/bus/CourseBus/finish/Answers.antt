use Rattle.std.proofs.Math.Logic.{∥∥₁_map}
use Rattle.usb_live.proofs.Courses.{lives}
use Rattle.usb_live.proofs.bus.CourseBus.finish.Goals as goal

pub returns : goal.returns
returns g c =
    rw (c.into_ends-reader.ensures.reader, c.into_ends-reader.ensures.writer)
    (∥∥₁_map c.args.self.course (λ x. lives c.fault.result c.lines.result c.left.result
    c.end_of-ended.result c.fault.ensures c.lines.ensures c.left.ensures c.end_of-ended.ensures x))
