-- What a device answers to each packet, and what it is then (8.5).
use Rattle.std.specs.Prelude.{ℕ, true, false, ◌+◌, ◌-◌, ◌==◌, nat_lt, not}
use Rattle.std.specs.Prelude.{if◌then◌else◌, ◌&&◌, ◌||◌, Bool, List, [], ◌∷◌, length, Option, None}
use Rattle.std.specs.Prelude.{Some, is_some, map, get_or, slice_get}
use Rattle.usb_packet.specs.{TokenKind, OutTok, InTok, SetupTok, Toggle, Zero, One, Packet, Token}
use Rattle.usb_packet.specs.{Payload, is_same}
use Rattle.usb_packet.specs.declared.Packet.TheVariants as packet
use Rattle.usb_request.specs.{DIRECTION_IN, Setup, setup_of}
use Rattle.usb_descriptor.specs.{default_settings, max_of_usable}
use Rattle.usb_device.specs.declared.answer.Answer.{Answer}
use Rattle.usb_device.specs.declared.answer.Answer.TheVariants.{Ack, Nak, Stall, Data}
use Rattle.usb_device.specs.declared.request.Registers.{Registers}
use Rattle.usb_device.specs.declared.transfer.RememberedPacket.{RememberedPacket}
use Rattle.usb_device.specs.declared.transfer.RememberedPacket.TheVariants.{Nothing, SetupSeen}
use Rattle.usb_device.specs.declared.transfer.RememberedPacket.TheVariants.{OutSeen, AckAwaited}
use Rattle.usb_device.specs.declared.transfer.InEndpoint.{InEndpoint}
use Rattle.usb_device.specs.declared.transfer.InEndpoint.TheVariants as by
use Rattle.usb_device.specs.declared.bulk.EndpointState.{EndpointState}
use Rattle.usb_device.specs.declared.bulk.ServedEndpoint.{ServedEndpoint}
use Rattle.usb_device.specs.declared.bulk.ServedEndpoint.TheVariants.{BulkOut, BulkIn, Changes}
use Rattle.usb_port.specs.{PortState}
use Rattle.usb_device.specs.DeviceSpecs.{Spec, hub_ports}
use Rattle.usb_device.specs.declared.ends.InEnd.{InEnd}
use Rattle.usb_device.specs.declared.endpoint_spec.EndpointData.{EndpointData}
use Rattle.usb_device.specs.declared.endpoint_spec.EndpointData.TheVariants as content
use Rattle.usb_device.specs.declared.endpoint_spec.EndpointSpec.{EndpointSpec}
use Rattle.usb_device.specs.Bulk.{rested, turned, halted, bulk_at}
use Rattle.usb_device.specs.Bulk.{served_at, is_numbered, is_of_setting, tells_changes}
use Rattle.usb_device.specs.Bulk.{change_bits, change_bytes, status_number, with_interface}
use Rattle.usb_device.specs.EndpointSpecs.{endpoint_row, packet_in, place_behind}
use Rattle.usb_device.specs.Ends.{OutEnd, no_out, no_in, rested_out, rested_in, with_at, taken_on}
use Rattle.usb_device.specs.Ends.{begun_if, given_on, hesitated, numbered_from, plugged_out}
use Rattle.usb_device.specs.Ends.{plugged_in_end, end_numbers}
use Rattle.usb_device.specs.Request.{Outcome, stalled, answers, takes_address, takes_configuration}
use Rattle.usb_device.specs.Request.{halts, unhalts, tells_port, calls_port, outcome}
use Rattle.usb_device.specs.Request.{answers_taken, takes, takes_setting, tells_halt}
use Rattle.usb_device.specs.Request.{address_at_end, flag_bytes, registers_at_setup}
use Rattle.usb_device.specs.declared.write.WriteData.{WriteData}
use Rattle.usb_device.specs.declared.write.WriteData.TheVariants.{Wrong, TooLong, Repeat, Next}
use Rattle.usb_device.specs.Transfer.{Stage, idle, refused, reading, read, ending}
use Rattle.usb_device.specs.Transfer.{max_packet, packet_at, toggle_at, Write, writing, judged}
use Rattle.usb_device.specs.Transfer.{is_next, is_done, reads, reads_port, writes, written_on}
use Rattle.usb_device.specs.Transfer.{taken_with}

pub record State : Type 0 where
  pub spec : Spec
  pub registers : Registers
  -- what the packet before left
  pub memory : RememberedPacket
  -- how many NAKs are still to be given in this transfer
  pub naks : ℕ
  pub stage : Stage
  -- the OUT and the IN endpoints, by their numbers
  pub outs : List OutEnd
  pub ins : List InEnd
  -- the status endpoint of a hub: its state, and the bits that were given and not yet acknowledged
  pub changes : EndpointState
  pub held : Option ℕ
  -- what control writes have brought since the plug
  pub taken : List ℕ

abbrev pub Reply : Type 0
Reply = Option Answer × State

abbrev pub payload : Toggle → List ℕ → Answer
payload t bytes = Data t (record { items = bytes })

-- nothing is remembered of the packet before
abbrev pub forgotten : State → State
forgotten d = record d { memory = Nothing }

-- the endpoint of a direction with this number
abbrev pub out_end : State → ℕ → OutEnd
out_end d e = get_or d.outs e no_out

abbrev pub in_end : State → ℕ → InEnd
in_end d e = get_or d.ins e no_in

-- the device with another one there
abbrev pub with_out : State → ℕ → OutEnd → State
with_out d e end = record d { outs = with_at no_out e end d.outs }

abbrev pub with_in : State → ℕ → InEnd → State
with_in d e end = record d { ins = with_at no_in e end d.ins }

abbrev pub endpoint_state : State → ServedEndpoint → EndpointState
endpoint_state d (BulkOut e) = (out_end d e).state
endpoint_state d (BulkIn e) = (in_end d e).state
endpoint_state d Changes = d.changes

abbrev pub with_endpoint_state : State → ServedEndpoint → EndpointState → State
with_endpoint_state d (BulkOut e) state = with_out d e (record (out_end d e) { state = state })
with_endpoint_state d (BulkIn e) state = with_in d e (record (in_end d e) { state = state })
with_endpoint_state d Changes state = record d { changes = state }

-- the endpoint begins again, as a configuration leaves it
abbrev pub begun_again : State → ServedEndpoint → State
begun_again d (BulkOut e) = with_out d e (rested_out (out_end d e))
begun_again d (BulkIn e) = with_in d e (rested_in (in_end d e))
begun_again d Changes = record d { changes = rested }

-- the status of an endpoint, or of endpoint 0 (9.4.5)
abbrev pub told_bytes : State → Option ServedEndpoint → List ℕ
told_bytes d None = flag_bytes false
told_bytes d (Some endpoint) = flag_bytes (endpoint_state d endpoint).halted

-- the stage that a request begins, by the ports of the device and what the device was before
abbrev pub first_stage : List PortState → State → ℕ → Outcome → Stage
first_stage row d wanted stalled = refused
first_stage row d wanted (answers bytes) = reads wanted bytes
first_stage row d wanted (tells_port i) = reads_port wanted (slice_get row i)
first_stage row d wanted answers_taken = reads wanted d.taken
first_stage row d wanted (takes kept) = writes wanted kept
first_stage row d wanted (tells_halt endpoint) = reads wanted (told_bytes d endpoint)
first_stage row d wanted o = ending (address_at_end o)

-- each endpoint that the interface has before or after it takes a setting begins again, and no
-- other
abbrev pub outs_set : State → ℕ → ℕ → List OutEnd
outs_set d interface setting = numbered_from (λ e.
    begun_if (is_of_setting d.spec d.registers interface setting false e) rested_out) 0 d.outs

abbrev pub ins_set : State → ℕ → ℕ → List InEnd
ins_set d interface setting = numbered_from (λ e.
    begun_if (is_of_setting d.spec d.registers interface setting true e) rested_in) 0 d.ins

-- what a request makes of the endpoints (9.1.1.5, 9.4.5)
abbrev pub with_endpoints : State → Outcome → State
with_endpoints d stalled = d
with_endpoints d (answers bytes) = d
with_endpoints d (takes_address a) = d
with_endpoints d (takes_configuration c) = record d {
  outs = map rested_out d.outs;
  ins = map rested_in d.ins;
  changes =
      rested;
  held = None;
}
with_endpoints d (halts endpoint) = with_endpoint_state d endpoint
    (halted (endpoint_state d endpoint))
with_endpoints d (unhalts endpoint) = begun_again d endpoint
with_endpoints d (tells_port i) = d
with_endpoints d (calls_port c i) = d
with_endpoints d answers_taken = d
with_endpoints d (takes kept) = d
with_endpoints d (takes_setting interface setting) =
    record d { outs = outs_set d interface setting; ins = ins_set d interface setting }
with_endpoints d (tells_halt endpoint) = d

-- the configuration is taken, and each interface has setting 0
abbrev pub configured : State → ℕ → State
configured d c = record d {
  registers = record d.registers { configuration = c; settings = default_settings };
}

-- an interface takes a setting
abbrev pub set_to : State → ℕ → ℕ → State
set_to d interface setting =
    record d { registers = with_interface interface setting d.registers }

-- a request begins a transfer, and ends the one before
abbrev pub begun : State → List PortState → ℕ → Outcome → State
begun d row wanted o = record (with_endpoints d o) {
  registers = registers_at_setup d.registers o;
  naks = d.spec.naks;
  stage = first_stage row d wanted o;
}

-- the setup data is accepted
abbrev pub accepted : State → List PortState → Setup → State
accepted d row r = begun d row r.length (outcome d.spec d.registers r)

-- the device has a NAK to give
abbrev pub is_busy : State → Bool
is_busy d = d.spec.busy || nat_lt 0 d.naks

-- one NAK fewer is to be given
abbrev pub nak_row : State → Reply
nak_row d = (Some Nak, record d { naks = d.naks - 1 })

abbrev pub unless_busy : State → Reply → Reply
unless_busy d row = if is_busy d then nak_row d else row

-- data, of which an ACK is awaited
abbrev pub gives : State → InEndpoint → Toggle → List ℕ → Reply
gives d endpoint t bytes = (Some (payload t bytes), record d { memory = AckAwaited endpoint })

-- the status stage of a control write: STALL before all bytes have come, and if they are not kept
abbrev pub write_status_row : State → Write → Reply
write_status_row d w = if is_done w then gives d by.Control One [] else (Some Stall, d)

-- IN 0: the next packet of a control read, or the status stage of another request
abbrev pub in_row : State → Stage → Reply
in_row d idle = (None, d)
in_row d refused = (Some Stall, d)
in_row d (reading answer wanted k) = elim (packet_at (max_packet d.spec) wanted answer k) [
  | None ↦
      (None, d)
  | Some bytes ↦ gives d by.Control (toggle_at k) bytes
]
in_row d read = (None, d)
in_row d (ending a) = gives d by.Control One []
in_row d (writing w) = write_status_row d w

-- the status stage of a control read, also where the last ACK was not seen
abbrev pub status_row : State → Toggle → List ℕ → Reply
status_row d Zero bytes = (Some Ack, d)
status_row d One [] = (Some Ack, record d { stage = read })
status_row d One (b ∷ bytes) = (Some Stall, d)

-- one more packet of a control write has come; if it is the last, the bytes are kept at once
abbrev pub wrote : State → Write → List ℕ → State
wrote d w bytes = record d {
  stage = writing (written_on w bytes);
  taken = taken_with d.taken (written_on w bytes);
}

-- data of a control write, by what the packet is to it
abbrev pub write_row : State → Write → List ℕ → WriteData → Reply
write_row d w bytes Wrong = (Some Stall, d)
write_row d w bytes TooLong = (None, d)
write_row d w bytes Repeat = (Some Ack, d)
write_row d w bytes Next = (Some Ack, wrote d w bytes)

-- OUT 0 with good data
abbrev pub out_row : State → Stage → Toggle → List ℕ → Reply
out_row d idle t bytes = (None, d)
out_row d refused t bytes = (Some Stall, d)
out_row d (reading answer wanted k) t bytes = status_row d t bytes
out_row d read t bytes = status_row d t bytes
out_row d (ending a) t bytes = (None, d)
out_row d (writing w) t bytes = write_row d w bytes (judged (max_packet d.spec) w t bytes)

-- data on endpoint 0 that a control write takes
abbrev pub stage_takes : State → Stage → Toggle → List ℕ → Bool
stage_takes d (writing w) t bytes = is_next (judged (max_packet d.spec) w t bytes)
stage_takes d stage t bytes = false

-- the host's ACK of what was given on endpoint 0
abbrev pub ack_row : State → Stage → State
ack_row d (reading answer wanted k) =
    if is_some (packet_at (max_packet d.spec) wanted answer k) then record d {
      stage =
          reading answer wanted (k + 1);
    } else d
ack_row d (ending None) = record d { stage = idle }
ack_row d (ending (Some a)) = record d {
  registers = record d.registers { address = a };
  stage =
      idle;
}
ack_row d (writing w) = record d { stage = idle }
ack_row d stage = d

-- the first bulk endpoint of a direction
abbrev pub bulk_of : State → Bool → Option (ℕ × ℕ)
bulk_of d is_in = bulk_at d.spec d.registers is_in

-- the maximum packet of the endpoint with this number, if it is served
abbrev pub out_max : State → ℕ → Option ℕ
out_max d e = max_of_usable (served_at d.spec d.registers false e)

abbrev pub in_max : State → ℕ → Option ℕ
in_max d e = max_of_usable (served_at d.spec d.registers true e)

-- what an IN endpoint gives: what its row says, else the source of the device if it is the first
-- bulk one
abbrev pub data_by : Option EndpointSpec → List ℕ → Bool → EndpointData
data_by None source first = content.Source (if first then source else [])
data_by (Some row) source first = row.data

abbrev pub in_data : State → ℕ → EndpointData
in_data d e = data_by (endpoint_row d.spec.endpoints (DIRECTION_IN + e)) d.spec.source
    (is_numbered e (bulk_of d true))

-- its packet at a place, where packets have at most so many bytes, and the place behind it
abbrev pub next_packet : State → ℕ → ℕ → ℕ → Option (List ℕ)
next_packet d e most place = packet_in (in_data d e) most place

abbrev pub next_place : State → ℕ → ℕ → ℕ → ℕ
next_place d e most place = place_behind (in_data d e) most place

-- a NAK of an endpoint that has a packet, or that could take one
abbrev pub in_hesitates : State → ℕ → State
in_hesitates d e = with_in d e (record (in_end d e) { pace = hesitated (in_end d e).pace })

abbrev pub out_hesitates : State → ℕ → State
out_hesitates d e = with_out d e (record (out_end d e) { pace = hesitated (out_end d e).pace })

-- IN of an endpoint that is not halted, by its next packet
abbrev pub given_row : State → ℕ → Option (List ℕ) → Reply
given_row d e None = (Some Nak, d)
given_row d e (Some bytes) =
    if nat_lt 0 (in_end d e).pace.naks then (Some Nak, in_hesitates d e)
    else gives d (by.Bulk e) (in_end d e).state.toggle bytes

-- IN of an endpoint
abbrev pub source_row : State → ℕ → ℕ → Reply
source_row d e max =
    if (in_end d e).state.halted then (Some Stall, d)
    else given_row d e (next_packet d e max (in_end d e).place)

-- the host's ACK of what an endpoint gave
abbrev pub in_ack_row : State → ℕ → Option ℕ → State
in_ack_row d e None = d
in_ack_row d e (Some max) =
    with_in d e (given_on (next_place d e max (in_end d e).place) (in_end d e))

-- IN of a configured hub's status endpoint with no bits that are still to be acknowledged: the
-- ports with a change
abbrev pub new_changes_row : State → ℕ → Reply
new_changes_row d bits = if bits == 0 then (Some Nak, d) else gives (record d { held = Some bits })
    by.Changes d.changes.toggle (change_bytes (hub_ports d.spec.hub) bits)

-- IN of that endpoint: the bits that were given before, until the host's ACK of them is seen
abbrev pub held_row : State → List PortState → Option ℕ → Reply
held_row d row None = new_changes_row d (change_bits (hub_ports d.spec.hub) row)
held_row d row (Some bits) =
    gives d by.Changes d.changes.toggle (change_bytes (hub_ports d.spec.hub) bits)

-- IN of that endpoint
abbrev pub changes_row : State → List PortState → Reply
changes_row d row = if d.changes.halted then (Some Stall, d) else held_row d row d.held

-- the host's ACK of what was given
abbrev pub acknowledged : State → InEndpoint → State
acknowledged d by.Control = ack_row d d.stage
acknowledged d (by.Bulk e) = in_ack_row d e (in_max d e)
acknowledged d by.Changes = record d { changes = turned d.changes; held = None }

-- the plan says when this OUT endpoint halts: in a row of its own, or as the first bulk one
abbrev pub out_halts : State → ℕ → Bool
out_halts d e = is_some (endpoint_row d.spec.endpoints e) || is_numbered e (bulk_of d false)

-- a packet joins the sink of an endpoint
abbrev pub sunk : State → ℕ → List ℕ → State
sunk d e bytes = with_out d e (taken_on (out_halts d e) bytes (out_end d e))

-- the next packet for an endpoint that is not halted
abbrev pub taken_row : State → ℕ → List ℕ → Reply
taken_row d e bytes =
    if nat_lt 0 (out_end d e).pace.naks then (Some Nak, out_hesitates d e)
    else (Some Ack, sunk d e bytes)

-- OUT of an endpoint
abbrev pub sink_row : State → ℕ → ℕ → Toggle → List ℕ → Reply
sink_row d e max t bytes =
    if (out_end d e).state.halted then (Some Stall, d)
    else if nat_lt max (length bytes) then (None, d)
    else if is_same t (out_end d e).state.toggle then taken_row d e bytes
    else (Some Ack, d)

-- the packet makes the sink grow
abbrev pub sinks : State → ℕ → ℕ → Toggle → List ℕ → Bool
sinks d e max t bytes = not (out_end d e).state.halted && not (nat_lt max (length bytes)) &&
    is_same t (out_end d e).state.toggle && not (nat_lt 0 (out_end d e).pace.naks)

-- IN of an endpoint that is neither endpoint 0 nor a hub's status endpoint, by its maximum packet
abbrev pub in_end_row : State → ℕ → Option ℕ → Reply
in_end_row d e None = (None, d)
in_end_row d e (Some max) = source_row d e max

-- OUT of an endpoint that is not endpoint 0, by its maximum packet
abbrev pub out_end_row : State → ℕ → Option ℕ → Toggle → List ℕ → Reply
out_end_row d e None t bytes = (None, d)
out_end_row d e (Some max) t bytes = sink_row d e max t bytes

abbrev pub end_sinks : State → ℕ → Option ℕ → Toggle → List ℕ → Bool
end_sinks d e None t bytes = false
end_sinks d e (Some max) t bytes = sinks d e max t bytes

-- IN of an endpoint that is not endpoint 0
abbrev pub in_other_row : State → List PortState → ℕ → Reply
in_other_row d row e =
    if e == status_number d.spec d.registers && tells_changes d.spec d.registers
    then changes_row d row else in_end_row d e (in_max d e)

-- a token for this device
abbrev pub token_row : State → List PortState → TokenKind → ℕ → Reply
token_row d row SetupTok e = (None, if e == 0 then record d { memory = SetupSeen } else d)
token_row d row OutTok e = (None, record d { memory = OutSeen e })
token_row d row InTok e = if e == 0 then unless_busy d (in_row d d.stage) else in_other_row d row e

-- data after an OUT token
abbrev pub data_row : State → ℕ → Toggle → List ℕ → Reply
data_row d e t bytes = if e == 0 then unless_busy d (out_row d d.stage t bytes) else out_end_row d
    e (out_max d e) t bytes

-- setup data
abbrev pub setup_row : State → List PortState → List ℕ → Reply
setup_row d row bytes = if length bytes == 8 then (Some Ack, accepted d row (setup_of bytes))
    else (None, d)

-- data, by what the packet before left
abbrev pub payload_row : State → List PortState → RememberedPacket → Toggle → List ℕ → Reply
payload_row d row SetupSeen Zero bytes = setup_row d row bytes
payload_row d row (OutSeen e) t bytes = data_row d e t bytes
payload_row d row m t bytes = (None, d)

-- data are taken by a control write or by the sink, which wants memory
abbrev pub out_sinks : State → ℕ → Toggle → List ℕ → Bool
out_sinks d e t bytes = if e == 0 then not (is_busy d) && stage_takes d d.stage t bytes
    else end_sinks d e (out_max d e) t bytes

abbrev pub payload_sinks : State → RememberedPacket → Toggle → List ℕ → Bool
payload_sinks d (OutSeen e) t bytes = out_sinks d e t bytes
payload_sinks d m t bytes = false

-- an OUT token for another endpoint than 0 came before
abbrev pub is_other_out : RememberedPacket → Bool
is_other_out (OutSeen e) = not (e == 0)
is_other_out m = false

-- the host's ACK, by what the packet before left
abbrev pub after_memory : State → RememberedPacket → State
after_memory d (AckAwaited endpoint) = acknowledged d endpoint
after_memory d m = d

-- any packet, by what the packet before left
abbrev pub answered : State → List PortState → RememberedPacket → Packet → Reply
answered d row m (Token kind a e) = if a == d.registers.address then token_row d row kind e
    else (None, d)
answered d row m (Payload t bytes) = payload_row d row m t bytes.items
answered d row m packet.Ack = (None, after_memory d m)
answered d row m p = (None, d)

abbrev pub packet_sinks : State → Packet → Bool
packet_sinks d (Payload t bytes) = payload_sinks d d.memory t bytes.items
packet_sinks d p = false

-- the packet brings data that the device takes, which wants memory
abbrev pub sink_grows : State → Packet → Bool
sink_grows d p = not d.spec.silent && packet_sinks d p

-- what a device with these ports answers to a packet, and what it is then
unfoldable pub received : State → List PortState → Packet → Reply
received d row p = if d.spec.silent then (None, d) else answered (forgotten d) row d.memory p

-- what a device is after bytes that spell no packet
unfoldable pub unread : State → State
unread d = if d.spec.silent then d else forgotten d

-- no address, no configuration, and no setting but 0
abbrev pub at_reset : Registers
at_reset = record { address = 0; configuration = 0; settings = default_settings }

-- a device that was just plugged
unfoldable pub fresh : Spec → State
fresh s = record {
  spec = s;
  registers = at_reset;
  memory =
      Nothing;
  naks = 0;
  stage = idle;
  outs = map (plugged_out s) end_numbers;
  ins = map (plugged_in_end s) end_numbers;
  changes = rested;
  held =
      None;
  taken = [];
}

-- a bus reset (9.1.1.3); the endpoints besides endpoint 0, and what control writes have taken, stay
unfoldable pub reset_state : State → State
reset_state d = record d {
  registers = at_reset;
  memory = Nothing;
  naks = 0;
  stage = idle;
  held = None;
}

-- an ACK of what endpoint 0 gave is awaited
abbrev pub awaits_control : RememberedPacket → Bool
awaits_control (AckAwaited by.Control) = true
awaits_control m = false

-- an address is taken when the status stage ends
abbrev pub ends_with_address : Stage → Bool
ends_with_address (ending (Some a)) = true
ends_with_address stage = false

-- it gave the status stage of SET_ADDRESS, and takes the address at the host's ACK (9.4.6)
unfoldable pub awaits_address : State → Bool
awaits_address d = awaits_control d.memory && ends_with_address d.stage
