-- What devices forget or lose, for a row of ports that begins with a place.
use Rattle.std.proofs.Common.{◌≡◌, Bool, false, List, [], ◌∷◌, length}
use Rattle.std.proofs.Common.{refl, arith}
use Rattle.usb_function.specs.declared.ports.Place.{Place as Kept}
use Rattle.usb_device.specs.{Sent, all_forgotten, has_loss}
use Rattle.usb_device.specs.{clears_change}
use Rattle.usb_function.specs.{ports_kept}
use Rattle.usb_device.proofs.packets.ForgottenPackets.{clears-before, forgotten-taken}
use Rattle.usb_device.proofs.packets.ForgottenPackets.{forgotten-vacant, loss-before}

pub forgotten-none : (ps : List Kept) → length ps ≡ 0 → all_forgotten (ports_kept ps)
    ≡ ports_kept ps
unfolding all_forgotten
forgotten-none [] h = refl
forgotten-none (p ∷ ps) h = absurd (omega (arith, h))

pub loss-none : (ps : List Kept) → length ps ≡ 0 → has_loss (ports_kept ps) ≡ false
unfolding has_loss
loss-none [] h = refl
loss-none (p ∷ ps) h = absurd (omega (arith, h))

pub clears-none : (q : Sent) (deep : Bool) (ps : List Kept) → length ps ≡ 0
    → clears_change q deep (ports_kept ps) ≡ false
unfolding clears_change
clears-none q deep [] h = refl
clears-none q deep (p ∷ ps) h = absurd (omega (arith, h))

pub ruleset betweens = (
  forgotten-vacant,
  forgotten-taken,
  forgotten-none,
  loss-before,
  loss-none,
  clears-before,
  clears-none,
)
