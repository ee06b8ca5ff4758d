-- What devices forget or lose, for a row of ports that begins with a place.
use Rattle.std.proofs.Common.{◌≡◌, ◌||◌, Bool, Option, None, Some}
use Rattle.std.proofs.Common.{refl}
use Rattle.usb_port.specs.{PortState}
use Rattle.usb_device.specs.{Ports, Plugged, before, Sent, all_forgotten, forgotten_whole}
use Rattle.usb_device.specs.{has_loss}
use Rattle.usb_device.specs.{has_loss_in, clears_change, clears_in, standing}

pub forgotten-vacant : (b : PortState) (k : Ports) → all_forgotten (before (standing b None) k)
    ≡ before (standing b None) (all_forgotten k)
unfolding all_forgotten
forgotten-vacant b k = refl

pub forgotten-taken : (b : PortState) (t : Plugged) (k : Ports)
    → all_forgotten (before (standing b (Some t)) k)
    ≡ before (standing b (Some (forgotten_whole t))) (all_forgotten k)
unfolding all_forgotten
forgotten-taken b t k = refl

pub loss-before : (b : PortState) (d : Option Plugged) (k : Ports)
    → has_loss (before (standing b d) k) ≡ (has_loss_in d || has_loss k)
unfolding has_loss
loss-before b None k = refl
loss-before b (Some t) k = refl

pub clears-before : (q : Sent) (deep : Bool) (b : PortState) (d : Option Plugged) (k : Ports)
    → clears_change q deep (before (standing b d) k)
    ≡ (clears_in q deep b d || clears_change q deep k)
unfolding clears_change
clears-before q deep b None k = refl
clears-before q deep b (Some t) k = refl
