use Rattle.std.proofs.Common.{refl}
use Rattle.usb_far.specs.{played_of}
use Rattle.usb_far.proofs.Deeds.{port_called}
use Rattle.usb_far.proofs.far_end.FarEnd.call.Goals as goal

pub returns-clause-done : goal.returns-clause-done
returns-clause-done g c = port_called c.args.number c.args.call (played_of c.args.self.now) _
    c.call_root.ensures.world refl c.call_root.ensures.silent
