use Rattle.std.proofs.Common.{refl}
use Rattle.usb_far.specs.{played_of}
use Rattle.usb_far.proofs.Deeds.{endpoint_restarted}
use Rattle.usb_far.proofs.far_end.FarEnd.restart.Goals as goal

pub returns : goal.returns
returns g c = rw c.restart_endpoint.ensures
    (endpoint_restarted (played_of c.args.self.now) _ refl refl)
