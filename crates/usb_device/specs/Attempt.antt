-- What a whole attempt does to the device that it speaks to: each packet of it comes whole, broken
-- or not at all (8.5).
use Rattle.std.specs.Prelude.{ℕ, nat_le, nat_lt, ◌==◌, if◌then◌else◌, ◌&&◌, Bool, true, false, List}
use Rattle.std.specs.Prelude.{[], length, Option, None, Some}
use Rattle.usb_packet.specs.{OutTok, InTok, SetupTok, Toggle, Zero, One, Packet, Token, Payload}
use Rattle.usb_packet.specs.declared.Packet.TheVariants as packet
use Rattle.usb_request.specs.{setup_of}
use Rattle.usb_device.specs.declared.answer.Answer.{Answer}
use Rattle.usb_device.specs.declared.answer.Answer.TheVariants.{Ack, Nak, Stall, Data}
use Rattle.usb_device.specs.Transfer.{Stage, idle, refused, reading, read, ending, writing}
use Rattle.usb_device.specs.Transfer.{max_packet, packet_at, toggle_at, Write, is_done}
use Rattle.usb_device.specs.declared.transfer.InEndpoint.{InEndpoint}
use Rattle.usb_device.specs.declared.transfer.InEndpoint.TheVariants as by
use Rattle.usb_port.specs.{PortState}
use Rattle.usb_device.specs.DeviceSpecs.{hub_ports}
use Rattle.usb_device.specs.Bulk.{tells_changes, change_bits, change_bytes, status_number}
use Rattle.usb_device.specs.Rows.{State, Reply, received, unread, forgotten, accepted, payload}
use Rattle.usb_device.specs.Rows.{is_busy, nak_row, data_row, acknowledged, in_end, in_max}
use Rattle.usb_device.specs.Rows.{next_packet, in_hesitates}

-- how a packet comes: as it was sent, as bytes that spell none, or not at all
pub data Way : Type 0 where
  whole : Way
  broken : Way
  lost : Way

abbrev pub is_whole : Way → Bool
is_whole whole = true
is_whole broken = false
is_whole lost = false

-- a packet of the host at a device with these ports
abbrev pub through : Way → State → List PortState → Packet → Reply
through whole d row p = received d row p
through broken d row p = (None, unread d)
through lost d row p = (None, d)

-- what the host hears of an answer
abbrev pub heard : Way → Option Answer → Option Answer
heard way answer = if is_whole way then answer else None

-- the host acknowledges data of at most max bytes
abbrev pub is_good : ℕ → Option Answer → Bool
is_good max (Some (Data t bytes)) = nat_le (length bytes.items) max
is_good max answer = false

-- a token and data from the host, and the answer
abbrev pub sends : State → List PortState → Packet → Packet → Way → Way → Way → Reply
sends d row token text token_way text_way answer_way =
    let end = through text_way (through token_way d row token).1 row text in
    (heard answer_way end.0, forgotten end.1)

-- where the host acknowledges what it hears, its ACK comes to the device
abbrev pub acked : List PortState → ℕ → Way → Way → Reply → Reply
acked row max answer_way ack_way reply =
    let hears = heard answer_way reply.0 in (
      hears,
      forgotten (if is_good max hears then (through ack_way reply.1 row packet.Ack).1
          else reply.1),
    )

-- the three kinds of attempt
abbrev pub setup_exchange : State → List PortState → ℕ → List ℕ → Way → Way → Way → Reply
setup_exchange d row a bytes = sends d row (Token SetupTok a 0)
    (Payload Zero (record { items = bytes }))

abbrev pub out_exchange : State → List PortState → ℕ → ℕ → Toggle → List ℕ → Way → Way → Way → Reply
out_exchange d row a e t bytes = sends d row (Token OutTok a e)
    (Payload t (record { items = bytes }))

abbrev pub in_exchange : State → List PortState → ℕ → ℕ → ℕ → Way → Way → Way → Reply
in_exchange d row a e max token_way answer_way ack_way =
    acked row max answer_way ack_way (through token_way d row (Token InTok a e))

-- SETUP: the setup data is accepted where token and data come whole, whether the host hears of it
-- or not
abbrev pub setup_law : State → List PortState → List ℕ → Way → Way → Way → Reply
setup_law d row bytes t1 t2 t3 = if is_whole t1 &&
    is_whole t2 then (heard t3 (Some Ack), accepted d row (setup_of bytes)) else (None, d)

-- OUT: its row where token and data come whole, whether the host hears of it or not
abbrev pub out_law : State → ℕ → Toggle → List ℕ → Way → Way → Way → Reply
out_law d e t bytes t1 t2 t3 =
    if is_whole t1 && is_whole t2 then (
      heard t3 (data_row d e t bytes).0,
      forgotten (data_row d e t bytes).1,
    ) else (None, d)

-- data that is given: what gave it goes on where the host got it whole, it was not too long, and
-- the ACK came whole
abbrev pub gave : State → InEndpoint → ℕ → Toggle → List ℕ → Way → Way → Reply
gave d endpoint max t bytes t2 t3 = (
  heard t2 (Some (payload t bytes)),
  if is_whole t2 && nat_le (length bytes) max &&
      is_whole t3 then forgotten (acknowledged d endpoint) else d,
)

-- the status stage of a control write
abbrev pub write_status_law : State → Write → ℕ → Way → Way → Reply
write_status_law d w max t2 t3 = if is_done w then gave d by.Control max One [] t2 t3
    else (heard t2 (Some Stall), d)

-- IN of a device that is not busy, by where its transfer stands
abbrev pub in_stage_law : State → Stage → ℕ → Way → Way → Reply
in_stage_law d idle max t2 t3 = (None, d)
in_stage_law d refused max t2 t3 = (heard t2 (Some Stall), d)
in_stage_law d (reading answer wanted k) max t2 t3 =
    elim (packet_at (max_packet d.spec) wanted answer k) [
      | None ↦ (None, d)
      | Some bytes ↦
          gave d by.Control max (toggle_at k) bytes t2 t3
    ]
in_stage_law d read max t2 t3 = (None, d)
in_stage_law d (ending a) max t2 t3 = gave d by.Control max One [] t2 t3
in_stage_law d (writing w) max t2 t3 = write_status_law d w max t2 t3

-- IN of an endpoint that is not halted, by its next packet
abbrev pub given_law : State → ℕ → Option (List ℕ) → ℕ → Way → Way → Reply
given_law d e None max t2 t3 = (heard t2 (Some Nak), d)
given_law d e (Some bytes) max t2 t3 =
    if nat_lt 0 (in_end d e).pace.naks then (heard t2 (Some Nak), in_hesitates d e)
    else gave d (by.Bulk e) max (in_end d e).state.toggle bytes t2 t3

-- IN of an endpoint whose packets have at most this many bytes
abbrev pub source_law : State → ℕ → ℕ → ℕ → Way → Way → Reply
source_law d e most max t2 t3 =
    if (in_end d e).state.halted then (heard t2 (Some Stall), d)
    else given_law d e (next_packet d e most (in_end d e).place) max t2 t3

-- IN of a configured hub's status endpoint with no bits that are still to be acknowledged
abbrev pub new_changes_law : State → ℕ → ℕ → Way → Way → Reply
new_changes_law d bits max t2 t3 =
    if bits == 0 then (heard t2 (Some Nak), d) else gave (record d { held = Some bits }) by.Changes
    max d.changes.toggle (change_bytes (hub_ports d.spec.hub) bits) t2 t3

abbrev pub held_law : State → List PortState → Option ℕ → ℕ → Way → Way → Reply
held_law d row None max t2 t3 =
    new_changes_law d (change_bits (hub_ports d.spec.hub) row) max t2 t3
held_law d row (Some bits) max t2 t3 =
    gave d by.Changes max d.changes.toggle (change_bytes (hub_ports d.spec.hub) bits) t2 t3

-- IN of that endpoint
abbrev pub changes_law : State → List PortState → ℕ → Way → Way → Reply
changes_law d row max t2 t3 = if d.changes.halted then (heard t2 (Some Stall), d) else held_law d
    row d.held max t2 t3

-- IN of an endpoint that is neither endpoint 0 nor a hub's status endpoint, by its maximum packet
abbrev pub in_end_law : State → ℕ → Option ℕ → ℕ → Way → Way → Reply
in_end_law d e None max t2 t3 = (None, d)
in_end_law d e (Some most) max t2 t3 = source_law d e most max t2 t3

-- IN of an endpoint that is not endpoint 0
abbrev pub in_other_law : State → List PortState → ℕ → ℕ → Way → Way → Reply
in_other_law d row e max t2 t3 =
    if e == status_number d.spec d.registers && tells_changes d.spec d.registers
    then changes_law d row max t2 t3 else in_end_law d e (in_max d e) max t2 t3

-- IN of endpoint 0: a NAK where the device is busy
abbrev pub in_control_law : State → ℕ → Way → Way → Reply
in_control_law d max t2 t3 = if is_busy d then (heard t2 (Some Nak), (nak_row d).1)
    else in_stage_law d d.stage max t2 t3

-- IN: nothing where the token does not come whole
abbrev pub in_law : State → List PortState → ℕ → ℕ → Way → Way → Way → Reply
in_law d row e max t1 t2 t3 =
    if is_whole t1 then (if e == 0 then in_control_law d max t2 t3 else in_other_law d row e max t2
    t3) else (None, d)

-- the packet is a token for the device
abbrev pub is_own : State → Packet → Bool
is_own d (Token kind a e) = a == d.registers.address
is_own d p = false
