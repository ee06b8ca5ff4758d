-- How toggles alternate (8.6).
use Rattle.std.specs.Prelude.{ℕ, zero, suc, Bool, true, false}
use Rattle.usb_packet.specs.declared.Toggle.{Toggle}
use Rattle.usb_packet.specs.declared.Toggle.TheVariants.{Zero, One}

-- the toggle of the next packet
abbrev pub other : Toggle → Toggle
other Zero = One
other One = Zero

-- the toggle behind n packets
unfoldable pub flips : ℕ → Toggle → Toggle
flips zero toggle = toggle
flips (suc n) toggle = other (flips n toggle)

abbrev pub is_same : Toggle → Toggle → Bool
is_same Zero Zero = true
is_same One One = true
is_same Zero One = false
is_same One Zero = false
