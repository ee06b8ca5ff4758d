-- A packet at a row of ports that begins with a place.
use Rattle.std.proofs.Common.{◌≡◌, Bool, List, [], ◌∷◌}
use Rattle.std.proofs.Common.{length, refl, arith}
use Rattle.usb_device.specs.{Sent}
use Rattle.usb_function.specs.{ports_kept}
use Rattle.usb_device.specs.{after_packet}
use Rattle.usb_device.specs.{delivered}
use Rattle.usb_device.specs.{answers}
use Rattle.usb_device.specs.declared.delivery.Heard.TheVariants.{NoAnswer}
use Rattle.usb_function.specs.declared.ports.Place.{Place as Kept}
use Rattle.usb_device.proofs.Deliveries.{answer_of-after, both-none, heard_joined-before}
use Rattle.usb_device.proofs.Deliveries.{heard_joined-device}

pub delivered-none : (q : Sent) (deep : Bool) (ps : List Kept) → length ps ≡ 0
    → delivered q deep (ports_kept ps) ≡ (NoAnswer, ports_kept ps)
unfolding after_packet answers
delivered-none q deep [] h = refl
delivered-none q deep (p ∷ ps) h = absurd (omega (arith, h))

pub ruleset delivering = (
  heard_joined-before,
  heard_joined-device,
  both-none,
  delivered-none,
  answer_of-after,
)
