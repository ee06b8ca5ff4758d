-- The calls of a port, each by its feature, and what each makes of the port: the port table
-- (11.24).
use Rattle.std.specs.Prelude.{◌≡◌, ℕ, Bool, true, false, ◌==◌, if◌then◌else◌, Option, None, Some}
use Rattle.std.specs.Prelude.{is_some}
use Rattle.usb_request.specs.{PORT_ENABLE, PORT_RESET, PORT_POWER, C_PORT_CONNECTION, C_PORT_ENABLE}
use Rattle.usb_request.specs.{C_PORT_RESET}
use Rattle.usb_port.specs.PortStates.{PortState, powered_on, reset, disabled, powered_off}
use Rattle.usb_port.specs.PortStates.{connection_cleared, enable_cleared, reset_cleared}
use Rattle.usb_port.specs.declared.call.PortCall.{PortCall}
use Rattle.usb_port.specs.declared.call.PortCall.TheVariants.{SetPower, SetReset, ClearEnable}
use Rattle.usb_port.specs.declared.call.PortCall.TheVariants.{ClearPower, ClearConnectionChange}
use Rattle.usb_port.specs.declared.call.PortCall.TheVariants.{ClearEnableChange, ClearResetChange}

-- SetPortFeature, by its feature (11.24.2.13)
abbrev pub set_call : ℕ → Option PortCall
set_call feature = if feature == PORT_POWER then Some SetPower else if feature == PORT_RESET
    then Some SetReset else None

-- ClearPortFeature, by its feature (11.24.2.2)
abbrev pub clear_call : ℕ → Option PortCall
clear_call feature =
    if feature == PORT_ENABLE then Some ClearEnable
    else if feature == PORT_POWER then Some ClearPower
    else if feature == C_PORT_CONNECTION then Some ClearConnectionChange
    else if feature == C_PORT_ENABLE then Some ClearEnableChange
    else if feature == C_PORT_RESET then Some ClearResetChange
    else None

-- what a call makes of a port: its row of the port table
abbrev pub called_port : PortCall → PortState → PortState
called_port SetPower p = powered_on p
called_port SetReset p = reset p
called_port ClearEnable p = disabled p
called_port ClearPower p = powered_off p
called_port ClearConnectionChange p = connection_cleared p
called_port ClearEnableChange p = enable_cleared p
called_port ClearResetChange p = reset_cleared p

-- the row of the call that a feature has, where it has one
abbrev pub port_by : Option PortCall → PortState → PortState
port_by None p = p
port_by (Some c) p = called_port c p

-- the features that can be set, and those that can be cleared
abbrev pub IsSetFeature : ℕ → Type 0
IsSetFeature feature = is_some (set_call feature) ≡ true

abbrev pub IsClearFeature : ℕ → Type 0
IsClearFeature feature = is_some (clear_call feature) ≡ true

abbrev pub is_reset : PortCall → Bool
is_reset SetReset = true
is_reset c = false

-- ClearPortFeature of C_PORT_CONNECTION (11.24.2.2)
abbrev pub is_clearing : PortCall → Bool
is_clearing ClearConnectionChange = true
is_clearing c = false
