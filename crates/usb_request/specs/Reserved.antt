-- The requests that no driver may send: they change what the host keeps of a device.
use Rattle.std.specs.Prelude.{ℕ, ◌==◌, nat_lt, ◌&&◌, ◌||◌, Bool}
use Rattle.usb_request.specs.Codes.{DIRECTION_IN, DEVICE_OUT, INTERFACE_OUT, ENDPOINT_OUT, PORT_OUT}
use Rattle.usb_request.specs.Codes.{SET_ADDRESS, SET_CONFIGURATION, SET_INTERFACE, SET_FEATURE}
use Rattle.usb_request.specs.Codes.{CLEAR_FEATURE}
use Rattle.usb_request.specs.Features.{ENDPOINT_HALT}
use Rattle.usb_request.specs.declared.setup.Setup.{Setup}

-- the request has this type and this code
abbrev pub is_coded : ℕ → ℕ → Setup → Bool
is_coded type code r = r.request_type == type && r.request == code

-- the address (9.4.6), the configuration (9.4.7), a setting of an interface (9.4.10), a toggle
-- (9.4.5) and a port of a hub (11.24.2.2, 11.24.2.13) change by these alone
abbrev pub changes_kept : Setup → Bool
changes_kept r =
    is_coded DEVICE_OUT SET_ADDRESS r
    || is_coded DEVICE_OUT SET_CONFIGURATION r
    || is_coded INTERFACE_OUT SET_INTERFACE r
    || (is_coded ENDPOINT_OUT CLEAR_FEATURE r && r.value == ENDPOINT_HALT)
    || is_coded PORT_OUT CLEAR_FEATURE r
    || is_coded PORT_OUT SET_FEATURE r

-- no read is reserved; of a hub everything else is
unfoldable pub is_reserved : Bool → Setup → Bool
is_reserved to_hub r = nat_lt r.request_type DIRECTION_IN && (to_hub || changes_kept r)
