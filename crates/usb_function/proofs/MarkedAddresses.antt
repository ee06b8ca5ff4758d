-- Marks tell which addresses stand twice.
use Rattle.std.proofs.Common.{◌≡◌}
use Rattle.std.proofs.Common.{List, [], ◌∷◌, length}
use Rattle.std.proofs.Common.{arith}
use Rattle.usb_function.specs.declared.ports.Place.{Place as Kept}
use Rattle.usb_device.specs.{held_addresses}
use Rattle.usb_function.specs.{ports_kept}
use Rattle.usb_device.specs.{AreBytes}

pub bytes-none : (ps : List Kept) → length ps ≡ 0 → AreBytes (held_addresses (ports_kept ps))
unfolding held_addresses
bytes-none [] h = tt
bytes-none (p ∷ ps) h = absurd (omega (arith, h))
