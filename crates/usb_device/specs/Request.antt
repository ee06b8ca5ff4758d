-- What each request asks of a device: bytes, a change of the device or of one of its ports, or a
-- refusal (9.4, 11.24).
use Rattle.std.specs.Prelude.{ℕ, ◌-◌, ◌/◌, ◌%◌, ◌==◌, nat_lt, nat_le, if◌then◌else◌, ◌&&◌, ◌||◌}
use Rattle.std.specs.Prelude.{not, Bool, true, false, List, [], ◌∷◌, slice_get, Option, None, Some}
use Rattle.std.specs.Prelude.{Result, Ok, Err}
use Rattle.std.specs.List.{list_any}
use Rattle.usb_request.specs.{DEVICE, CONFIGURATION, STRING, HUB, GET_STATUS, CLEAR_FEATURE}
use Rattle.usb_request.specs.{SET_FEATURE, SET_ADDRESS, GET_DESCRIPTOR, GET_CONFIGURATION}
use Rattle.usb_request.specs.{SET_CONFIGURATION, GET_INTERFACE, SET_INTERFACE, DEVICE_IN}
use Rattle.usb_request.specs.{DEVICE_OUT, INTERFACE_IN, INTERFACE_OUT, ENDPOINT_IN, ENDPOINT_OUT}
use Rattle.usb_request.specs.{HUB_IN, PORT_IN, PORT_OUT, DIRECTION_IN, ENDPOINT_HALT}
use Rattle.usb_request.specs.{descriptor_value, Setup}
use Rattle.usb_descriptor.specs.{DescriptorFault, config_of, default_settings, has_interface}
use Rattle.usb_descriptor.specs.{has_setting, items_of, setting_of}
use Rattle.usb_descriptor.specs.declared.item.Item.{Item}
use Rattle.usb_port.specs.{PortCall, set_call, clear_call}
use Rattle.usb_device.specs.declared.request.Registers.{Registers}
use Rattle.usb_device.specs.declared.own_request.OwnAnswer.{OwnAnswer}
use Rattle.usb_device.specs.declared.own_request.OwnAnswer.TheVariants.{RefuseData, RefuseStatus}
use Rattle.usb_device.specs.declared.own_request.OwnAnswer.TheVariants.{Give, GiveTaken, Take}
use Rattle.usb_device.specs.declared.own_request.OwnRequest.{OwnRequest}
use Rattle.usb_device.specs.OwnRequests.{own_place}
use Rattle.usb_device.specs.DeviceSpecs.{Spec, Hub}
use Rattle.usb_device.specs.declared.bulk.ServedEndpoint.{ServedEndpoint}
use Rattle.usb_device.specs.Bulk.{has_value, served, text_of, with_interface}

pub data Outcome : Type 0 where
  -- the request is refused by STALL
  stalled : Outcome
  -- the answer is these bytes, of which the host gets as many as it wants
  answers : List ℕ → Outcome
  -- the address is taken when the status stage ends (9.4.6)
  takes_address : ℕ → Outcome
  -- the configuration is taken at once (9.4.7)
  takes_configuration : ℕ → Outcome
  -- the endpoint halts, or halts no more (9.4.9, 9.4.1)
  halts : ServedEndpoint → Outcome
  unhalts : ServedEndpoint → Outcome
  -- the answer is the status of a port, counted from 0 (11.24.2.7)
  tells_port : ℕ → Outcome
  -- a port, counted from 0, is set or cleared (11.24.2.13, 11.24.2.2)
  calls_port : PortCall → ℕ → Outcome
  -- the answer is what control writes have brought
  answers_taken : Outcome
  -- the host's data are taken, and kept, or refused at the status stage
  takes : Bool → Outcome
  -- an interface takes an alternate setting at once (9.4.10)
  takes_setting : ℕ → ℕ → Outcome
  -- the answer is whether an endpoint is halted; without one it is endpoint 0, which never is
  -- (9.4.5)
  tells_halt : Option ServedEndpoint → Outcome

-- the request has this type and this code
abbrev pub Is : Setup → ℕ → ℕ → Bool
Is r type code = r.request_type == type && r.request == code

abbrev pub unless : Bool → Outcome → Outcome
unless refused outcome = if refused then stalled else outcome

-- the text of an index, where there is one
abbrev pub text_asked : List (List ℕ) → ℕ → Outcome
text_asked texts i = elim (slice_get texts i) [ None ↦ stalled | Some text ↦ answers text ]

-- 9.4.3: the high byte of wValue is the type of the descriptor, the low byte its index
abbrev pub asked_descriptor : Spec → ℕ → Outcome
asked_descriptor s value =
    if value == descriptor_value DEVICE 0 then unless s.stalls.device (answers s.descriptor)
    else if value / 256 == CONFIGURATION then unless s.stalls.config
    (text_asked s.configs (value % 256))
    else if value / 256 == STRING then unless s.stalls.string (text_asked s.strings (value % 256))
    else stalled

-- two bytes, of which bit 0 of the first is this (9.4.5)
abbrev pub flag_bytes : Bool → List ℕ
flag_bytes flag = (if flag then 1 else 0) ∷ 0 ∷ []

-- 9.4.5: two bytes, and bit 0 of the first says that the device has its own power
abbrev pub status_bytes : Spec → List ℕ
status_bytes s = (if s.self_powered then 1 else 0) ∷ 0 ∷ []

abbrev pub asked_status : Spec → Setup → Outcome
asked_status s r = if r.value == 0 && r.index == 0 then answers (status_bytes s) else stalled

-- 9.4.6
abbrev pub asked_address : Setup → Outcome
asked_address r = if nat_le r.value 127 && r.length == 0 then takes_address r.value else stalled

-- a number of one byte that is 0 or the value of a configuration
abbrev pub is_value : List (List ℕ) → ℕ → Bool
is_value configs value = nat_lt value 256 && (value == 0 || list_any (has_value value) configs)

-- 9.4.7: a device without an address cannot be configured
abbrev pub asked_configuration : Spec → Registers → Setup → Outcome
asked_configuration s g r = if not (g.address == 0) && is_value s.configs r.value &&
    r.length == 0 then takes_configuration r.value else stalled

-- 9.4.1, 9.4.9: ENDPOINT_HALT of an endpoint that is served
abbrev pub endpoint_of : Spec → Registers → Setup → Option ServedEndpoint
endpoint_of s g r = if r.value == ENDPOINT_HALT && r.length == 0 then served s g r.index else None

abbrev pub on_endpoint : (ServedEndpoint → Outcome) → Option ServedEndpoint → Outcome
on_endpoint f None = stalled
on_endpoint f (Some endpoint) = f endpoint

-- 9.4.5: an endpoint that is served, or endpoint 0, which is named with either direction
abbrev pub is_endpoint_0 : ℕ → Bool
is_endpoint_0 index = index == 0 || index == DIRECTION_IN

abbrev pub told_halt : Option ServedEndpoint → Outcome
told_halt None = stalled
told_halt (Some endpoint) = tells_halt (Some endpoint)

abbrev pub asked_endpoint_status : Spec → Registers → Setup → Outcome
asked_endpoint_status s g r =
    if not (r.value == 0) then stalled
    else if is_endpoint_0 r.index then tells_halt None
    else told_halt (served s g r.index)

-- the items of the configuration; none where there is none, or where its text is no good
abbrev pub items_in_text : Result (List ℕ) DescriptorFault → List Item
items_in_text (Err fault) = []
items_in_text (Ok text) = items_of text

abbrev pub items_at : Spec → Registers → List Item
items_at s g =
    if g.configuration == 0 then [] else items_in_text (config_of (text_of s g))

-- 9.4.5: of an interface all bits of the status are 0
abbrev pub asked_interface_status : Spec → Registers → Setup → Outcome
asked_interface_status s g r =
    if r.value == 0 && has_interface r.index (items_at s g) then answers (flag_bytes false)
    else stalled

-- 9.4.4
abbrev pub asked_setting : Spec → Registers → Setup → Outcome
asked_setting s g r =
    if r.value == 0 && has_interface r.index (items_at s g)
    then answers (setting_of g.settings r.index ∷ []) else stalled

-- 9.4.10: wIndex names the interface, wValue its setting
abbrev pub asked_interface : Spec → Registers → Setup → Outcome
asked_interface s g r =
    if r.length == 0 && has_setting r.index r.value (items_at s g)
    then takes_setting r.index r.value else stalled

-- 11.24.2.5
abbrev pub asked_hub_descriptor : Option Hub → Setup → Outcome
asked_hub_descriptor None r = stalled
asked_hub_descriptor (Some hub) r = if r.value == descriptor_value HUB 0 then answers hub.descriptor
    else stalled

-- the port of a configured hub that wIndex names, counted from 0
abbrev pub port_named : Option Hub → Registers → ℕ → Option ℕ
port_named None g index = None
port_named (Some hub) g index = if not (g.configuration == 0) && nat_le 1 index &&
    nat_le index hub.ports then Some (index - 1) else None

abbrev pub told_port : Option ℕ → Outcome
told_port None = stalled
told_port (Some i) = tells_port i

abbrev pub called_at : Option PortCall → Option ℕ → Outcome
called_at None i = stalled
called_at (Some c) None = stalled
called_at (Some c) (Some i) = calls_port c i

-- 11.24.2.7
abbrev pub asked_port_status : Spec → Registers → Setup → Outcome
asked_port_status s g r = told_port (port_named s.hub g r.index)

-- 11.24.2.13, 11.24.2.2: the feature of wValue of the port of wIndex
abbrev pub port_feature : Option PortCall → Spec → Registers → Setup → Outcome
port_feature call s g r = if r.length == 0 then called_at call (port_named s.hub g r.index)
    else stalled

-- what a row of the device's own requests asks
abbrev pub asked_by_answer : OwnAnswer → Outcome
asked_by_answer RefuseData = stalled
asked_by_answer RefuseStatus = takes false
asked_by_answer (Give bytes) = answers bytes
asked_by_answer GiveTaken = answers_taken
asked_by_answer Take = takes true

abbrev pub asked_by_row : Option OwnRequest → Outcome
asked_by_row None = stalled
asked_by_row (Some row) = asked_by_answer row.answer

abbrev pub asked_at : List OwnRequest → Option ℕ → Outcome
asked_at rows None = stalled
asked_at rows (Some i) = asked_by_row (slice_get rows i)

-- a configured device answers requests of its own, by the first row that the setup data fit
abbrev pub asked_own : List OwnRequest → Registers → Setup → Outcome
asked_own rows g r = if g.configuration == 0 then stalled else asked_at rows (own_place rows r)

-- what each request asks: a device's own requests come last, so that no function plays a hub
unfoldable pub outcome : Spec → Registers → Setup → Outcome
outcome s g r =
    if Is r DEVICE_IN GET_DESCRIPTOR then asked_descriptor s r.value
    else if Is r DEVICE_IN GET_STATUS then unless s.stalls.status (asked_status s r)
    else if Is r DEVICE_IN GET_CONFIGURATION then answers (g.configuration ∷ [])
    else if Is r DEVICE_OUT SET_ADDRESS then unless s.stalls.address (asked_address r)
    else if Is r DEVICE_OUT SET_CONFIGURATION then unless s.stalls.set_config
    (asked_configuration s g r)
    else if Is r INTERFACE_IN GET_STATUS then asked_interface_status s g r
    else if Is r INTERFACE_IN GET_INTERFACE then asked_setting s g r
    else if Is r INTERFACE_OUT SET_INTERFACE then unless s.stalls.interface (asked_interface s g r)
    else if Is r ENDPOINT_IN GET_STATUS then asked_endpoint_status s g r
    else if Is r ENDPOINT_OUT CLEAR_FEATURE then on_endpoint unhalts (endpoint_of s g r)
    else if Is r ENDPOINT_OUT SET_FEATURE then on_endpoint halts (endpoint_of s g r)
    else if Is r HUB_IN GET_DESCRIPTOR then unless s.stalls.hub (asked_hub_descriptor s.hub r)
    else if Is r PORT_IN GET_STATUS then asked_port_status s g r
    else if Is r PORT_OUT SET_FEATURE then port_feature (set_call r.value) s g r
    else if Is r PORT_OUT CLEAR_FEATURE then port_feature (clear_call r.value) s g r
    else asked_own s.requests g r

-- the registers once the setup data is accepted
abbrev pub registers_at_setup : Registers → Outcome → Registers
registers_at_setup g (takes_configuration c) =
    record g { configuration = c; settings = default_settings }
registers_at_setup g (takes_setting interface setting) = with_interface interface setting g
registers_at_setup g o = g

-- the address that is taken at the end of the status stage
abbrev pub address_at_end : Outcome → Option ℕ
address_at_end (takes_address a) = Some a
address_at_end o = None
