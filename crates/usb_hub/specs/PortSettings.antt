-- Calls that set features of ports (11.24.2.13).
use Rattle.std.specs.Prelude.{Bool, true, false}
use Rattle.usb_port.specs.{PortCall, SetPower, SetReset}

-- SetPortFeature of PORT_POWER
abbrev pub gives_power : PortCall → Bool
gives_power SetPower = true
gives_power c = false

-- SetPortFeature of any feature
abbrev pub sets_feature : PortCall → Bool
sets_feature SetPower = true
sets_feature SetReset = true
sets_feature c = false
