-- Where a control transfer stands, and the packets of an answer (8.5.3).
use Rattle.std.specs.Prelude.{ℕ, zero, suc, ◌+◌, ◌*◌, ◌/◌, ◌%◌, ◌==◌, nat_lt, if◌then◌else◌, ◌&&◌}
use Rattle.std.specs.Prelude.{◌||◌, not, Bool, true, false, List, [], ◌++◌, length, take, drop}
use Rattle.std.specs.Prelude.{Option, None, Some, unwrap_or}
use Rattle.arrayvec.specs.ArrayVec.{ArrayVec}
use Rattle.usb_packet.specs.{Toggle, Zero, One, other, is_same}
use Rattle.usb_descriptor.specs.{max_packet_0}
use Rattle.usb_device.specs.DeviceSpecs.{Spec}
use Rattle.usb_port.specs.{PortState, status_of}
use Rattle.usb_device.specs.declared.write.WriteData.{WriteData}
use Rattle.usb_device.specs.declared.write.WriteData.TheVariants.{Wrong, TooLong, Repeat, Next}

-- a control write (8.5.3)
pub record Write : Type 0 where
  -- how many bytes the host sends: wLength
  pub wanted : ℕ
  -- those that have come
  pub got : List ℕ
  -- the toggle of the next packet
  pub toggle : Toggle
  -- whether they are kept, or refused at the status stage
  pub kept : Bool

pub data Stage : Type 0 where
  -- no transfer, or one without a data stage that is over
  idle : Stage
  -- the request is refused
  refused : Stage
  -- a control read: the whole answer, how many bytes the host wants, and how many packets it
  -- acknowledged
  reading : List ℕ → ℕ → ℕ → Stage
  -- a control read that is over
  read : Stage
  -- the status stage of a transfer without a data stage, and the address that is taken at its end
  ending : Option ℕ → Stage
  -- a control write in its data stage, or in its status stage if all bytes have come
  writing : Write → Stage

-- a control read begins; where the host wants no byte, there is no data stage
abbrev pub reads : ℕ → List ℕ → Stage
reads wanted bytes = if wanted == 0 then ending None else reading bytes wanted 0

-- the status of a port is read
abbrev pub reads_port : ℕ → Option PortState → Stage
reads_port wanted None = refused
reads_port wanted (Some p) = reads wanted (status_of p)

-- a control write begins; if the host sends no byte, there is no data stage
abbrev pub first_write : ℕ → Bool → Write
first_write wanted kept = record { wanted = wanted; got = []; toggle = One; kept = kept }

abbrev pub ends_if : Bool → Stage
ends_if kept = if kept then ending None else refused

abbrev pub writes : ℕ → Bool → Stage
writes wanted kept = if wanted == 0 then ends_if kept else writing (first_write wanted kept)

-- the most data bytes of a packet on endpoint 0 (5.5.3): what the device descriptor says, where the
-- speed allows it
abbrev pub max_packet : Spec → ℕ
max_packet s =
    let m = max_packet_0 s.descriptor in
    if not s.low && (m == 16 || m == 32 || m == 64) then m else 8

-- how many packets carry len bytes (5.5.3): full ones and what is left; where len is less than
-- wanted, the last is not full, so perhaps empty
abbrev pub packet_count : ℕ → ℕ → ℕ → ℕ
packet_count max wanted len = len / max +
    (if len % max == 0 && not (nat_lt len wanted) then 0 else 1)

-- the bytes of packet k of an answer, counted from 0
abbrev pub packet_at : ℕ → ℕ → List ℕ → ℕ → Option (List ℕ)
packet_at max wanted answer k =
    let bytes = take wanted answer in
    if nat_lt k (packet_count max wanted (length bytes)) then Some (take max (drop (k * max) bytes))
    else None

-- what is in the room, where a packet was put there
abbrev pub put_if : Bool → ArrayVec ℕ → Option (List ℕ)
put_if true room = Some room.items
put_if false room = None

-- the first k packets of an answer, end to end
abbrev pub packets_joined : ℕ → ℕ → List ℕ → ℕ → List ℕ
packets_joined max wanted answer zero = []
packets_joined max wanted answer (suc k) =
    packets_joined max wanted answer k ++ unwrap_or (packet_at max wanted answer k) []

-- the data stage begins with DATA1 (8.6.1)
abbrev pub toggle_at : ℕ → Toggle
toggle_at k = if k % 2 == 0 then One else Zero

-- What a packet of the host is to a control write: no packet of a data stage is empty, since the
-- length is known (9.3.5), and one of the other toggle has come before (8.6.4).
abbrev pub judged : ℕ → Write → Toggle → List ℕ → WriteData
judged max w t bytes =
    if length bytes == 0 then Wrong
    else if nat_lt max (length bytes) then TooLong
    else if not (is_same t w.toggle) then Repeat
    else if nat_lt w.wanted (length w.got + length bytes) then Wrong
    else Next

abbrev pub is_next : WriteData → Bool
is_next Next = true
is_next data_packet = false

-- after one more packet
abbrev pub written_on : Write → List ℕ → Write
written_on w bytes = record w { got = w.got ++ bytes; toggle = other w.toggle }

-- all bytes have come
abbrev pub has_all : Write → Bool
has_all w = length w.got == w.wanted

-- its status stage is good (8.5.3.1)
abbrev pub is_done : Write → Bool
is_done w = has_all w && w.kept

-- what control writes have brought with this one, where they brought these bytes before it
abbrev pub taken_with : List ℕ → Write → List ℕ
taken_with old w = if is_done w then old ++ w.got else old
