-- A device on a port, to write to.
use Rattle.std.specs.Prelude.{ℕ, Option}
use Rattle.std.specs.Borrow.{Lends, MutBor, Fml}
use Rattle.std.specs.Option.Follows.{option_follows_value}
use Rattle.std.specs.contracts.option.Option.{the_row as option_row}
use Rattle.usb_device.specs.{Ports, Plugged, with_device}
use Rattle.usb_function.specs.contracts.ports.Ports.{the_row as ports_row}
use Rattle.usb_function.specs.contracts.device.Device.{the_row as device_row}

-- the ports end with what was last written behind r
abbrev pub LendsPlace : MutBor Ports → ℕ → MutBor (Option Plugged) → Fml
LendsPlace k i r = Lends ports_row (option_row device_row) k r (with_device k.now i)

-- a place ends with what was last written behind r
abbrev pub LendsInner : MutBor (Option Plugged) → MutBor Plugged → Fml
LendsInner d r = option_follows_value device_row d r
