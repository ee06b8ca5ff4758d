-- Low speed and PRE (8.6.5).
use Rattle.std.specs.Prelude.{Bool, true, false}
use Rattle.usb_packet.specs.declared.Speed.{Speed}
use Rattle.usb_packet.specs.declared.Speed.TheVariants.{Full, Low, LowBelowHub}

abbrev pub speed_is_low : Speed → Bool
speed_is_low Full = false
speed_is_low Low = true
speed_is_low LowBelowHub = true

-- whether PRE goes before each packet of the host
abbrev pub speed_has_pre : Speed → Bool
speed_has_pre Full = false
speed_has_pre Low = false
speed_has_pre LowBelowHub = true
