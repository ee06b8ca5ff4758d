use Rattle.std.proofs.Common.{refl}
use Rattle.usb_far.specs.{played_of}
use Rattle.usb_far.proofs.Deeds.{hello_answered}
use Rattle.usb_far.proofs.far_end.FarEnd.answer.Goals as goal

pub returns-in-Hello-clause-done : goal.returns-in-Hello-clause-done
returns-in-Hello-clause-done g c = hello_answered (played_of c.args.self.now) c.args.question.now
    c.root_ports.result c.in-Hello.is (c.root_ports.ensures.count refl)
