-- Which setup data the names of requests in a plan mean.
use Rattle.std.specs.Prelude.{ℕ, codes, List, Bool, true, false, ◌&&◌, ◌==◌, nat_le, Result, Ok}
use Rattle.std.specs.Prelude.{Err, if◌then◌else◌}
use Rattle.std.specs.Str.{bytes_eq}
use Rattle.usb_request.specs.{Setup, DEVICE_IN, ENDPOINT_IN, ENDPOINT_OUT, PORT_IN, PORT_OUT}
use Rattle.usb_request.specs.{GET_STATUS, CLEAR_FEATURE, SET_FEATURE, SET_ADDRESS, GET_DESCRIPTOR}
use Rattle.usb_request.specs.{SET_CONFIGURATION, SET_INTERFACE, PORT_RESET, PORT_POWER}
use Rattle.usb_request.specs.{C_PORT_CONNECTION}
use Rattle.usb_places.specs.declared.fault.WhenFault.{WhenFault}
use Rattle.usb_places.specs.declared.fault.WhenFault.TheVariants as why
use Rattle.usb_places.specs.declared.request.Request.{Request}
use Rattle.usb_places.specs.declared.request.Request.TheVariants.{GetStatus, ClearFeature}
use Rattle.usb_places.specs.declared.request.Request.TheVariants.{SetFeature, SetAddress}
use Rattle.usb_places.specs.declared.request.Request.TheVariants.{GetDescriptor, SetConfiguration}
use Rattle.usb_places.specs.declared.request.Request.TheVariants.{SetInterface, GetPortStatus}
use Rattle.usb_places.specs.declared.request.Request.TheVariants.{ClearPortFeature, SetPortFeature}
use Rattle.usb_places.specs.declared.request.Request.TheVariants.{PortReset, PortPower}
use Rattle.usb_places.specs.declared.request.Request.TheVariants.{ClearConnection}
use Rattle.usb_places.specs.declared.request.Asked.{Asked}
use Rattle.usb_places.specs.declared.request.Asked.TheVariants.{Named, Exact}

unfoldable pub request_named : List ℕ → Result Request WhenFault
request_named text =
    if bytes_eq text (codes "get_status") then Ok GetStatus
    else if bytes_eq text (codes "clear_feature") then Ok ClearFeature
    else if bytes_eq text (codes "set_feature") then Ok SetFeature
    else if bytes_eq text (codes "set_address") then Ok SetAddress
    else if bytes_eq text (codes "get_descriptor") then Ok GetDescriptor
    else if bytes_eq text (codes "set_configuration") then Ok SetConfiguration
    else if bytes_eq text (codes "set_interface") then Ok SetInterface
    else if bytes_eq text (codes "get_port_status") then Ok GetPortStatus
    else if bytes_eq text (codes "clear_port_feature") then Ok ClearPortFeature
    else if bytes_eq text (codes "set_port_feature") then Ok SetPortFeature
    else if bytes_eq text (codes "port_reset") then Ok PortReset
    else if bytes_eq text (codes "port_power") then Ok PortPower
    else if bytes_eq text (codes "clear_connection") then Ok ClearConnection
    else Err why.Request

-- the request is to a port of a hub
abbrev pub is_of_port : Request → Bool
is_of_port GetStatus = false
is_of_port ClearFeature = false
is_of_port SetFeature = false
is_of_port SetAddress = false
is_of_port GetDescriptor = false
is_of_port SetConfiguration = false
is_of_port SetInterface = false
is_of_port GetPortStatus = true
is_of_port ClearPortFeature = true
is_of_port SetPortFeature = true
is_of_port PortReset = true
is_of_port PortPower = true
is_of_port ClearConnection = true

-- a request of the standard that reads, and one that writes, with this code (9.3.1)
abbrev pub reads_by : ℕ → Setup → Bool
reads_by code s = nat_le DEVICE_IN s.request_type && nat_le s.request_type ENDPOINT_IN &&
    s.request == code

abbrev pub writes_by : ℕ → Setup → Bool
writes_by code s = nat_le s.request_type ENDPOINT_OUT && s.request == code

-- a request to a port of a hub (11.24.2), and one that sets or clears a feature of it
abbrev pub port_request : ℕ → ℕ → ℕ → Setup → Bool
port_request request_type code port s =
    s.request_type == request_type && s.request == code && s.index == port

abbrev pub feature_request : ℕ → ℕ → ℕ → Setup → Bool
feature_request code feature port s = port_request PORT_OUT code port s && s.value == feature

-- the setup data are a request of that name, of a port to this one
unfoldable pub is_request : Request → ℕ → Setup → Bool
is_request GetStatus port s = reads_by GET_STATUS s
is_request ClearFeature port s = writes_by CLEAR_FEATURE s
is_request SetFeature port s = writes_by SET_FEATURE s
is_request SetAddress port s = writes_by SET_ADDRESS s
is_request GetDescriptor port s = reads_by GET_DESCRIPTOR s
is_request SetConfiguration port s = writes_by SET_CONFIGURATION s
is_request SetInterface port s = writes_by SET_INTERFACE s
is_request GetPortStatus port s = port_request PORT_IN GET_STATUS port s
is_request ClearPortFeature port s = port_request PORT_OUT CLEAR_FEATURE port s
is_request SetPortFeature port s = port_request PORT_OUT SET_FEATURE port s
is_request PortReset port s = feature_request SET_FEATURE PORT_RESET port s
is_request PortPower port s = feature_request SET_FEATURE PORT_POWER port s
is_request ClearConnection port s = feature_request CLEAR_FEATURE C_PORT_CONNECTION port s

-- all fields are alike
abbrev pub same_setup : Setup → Setup → Bool
same_setup s t =
    s.request_type == t.request_type && s.request == t.request && s.value == t.value &&
    s.index == t.index && s.length == t.length

-- a request with these setup data is counted
abbrev pub is_asked : Asked → Setup → Bool
is_asked (Named request port) s = is_request request port s
is_asked (Exact exact) s = same_setup exact s
