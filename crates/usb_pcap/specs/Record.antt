-- The packets of an attempt as they went over the wire, and their records in a pcap file.
use Rattle.std.specs.Prelude.{◌≡◌, ℕ, ◌-◌, ◌*◌, ◌/◌, ◌%◌, ◌<◌, Bool, true, false, List, [], ◌∷◌}
use Rattle.std.specs.Prelude.{◌++◌, length, Option, Some, None, ⊤}
use Rattle.std.specs.Int.{to_le_bytes, w32}
use Rattle.usb_packet.specs.{Packet, Pre, Spells, flipped}
use Rattle.usb_world.specs.{Exchange, ExchangeAnswer, Mark, Whole, Lost, PreLost, Flipped, Outgoing}
use Rattle.usb_world.specs.declared.exchange.ExchangeAnswer.TheVariants.{Nothing, One, Collision}

-- ---- the packets of an attempt, each with what damage did to it

-- what damage did to the PRE before a packet, and to the packet itself
abbrev pub pre_mark : Mark → Mark
pre_mark Whole = Whole
pre_mark Lost = Whole
pre_mark PreLost = Lost
pre_mark (Flipped bit) = Whole

abbrev pub own_mark : Mark → Mark
own_mark Whole = Whole
own_mark Lost = Lost
own_mark PreLost = Whole
own_mark (Flipped bit) = Flipped bit

abbrev pub pre_packets : Bool → Mark → List (Packet × Mark)
pre_packets false mark = []
pre_packets true mark = (Pre, pre_mark mark) ∷ []

-- a packet of the host, and PRE before it
abbrev pub host_packets : Bool → Outgoing → List (Packet × Mark)
host_packets pre s = pre_packets pre s.mark ++ (s.packet, own_mark s.mark) ∷ []

abbrev pub next_packets : Bool → Option Outgoing → List (Packet × Mark)
next_packets pre None = []
next_packets pre (Some s) = host_packets pre s

-- the answer of one device; of two at once no byte is known
abbrev pub answer_packets : ExchangeAnswer → Mark → List (Packet × Mark)
answer_packets Nothing mark = []
answer_packets Collision mark = []
answer_packets (One p) mark = (p, mark) ∷ []

-- the token, the host's data, the answer and the host's ACK
abbrev pub attempt_packets : Bool → Exchange → List (Packet × Mark)
attempt_packets pre x = host_packets pre x.token ++ next_packets pre x.payload ++ answer_packets
    x.answer x.answer_mark ++ next_packets pre x.reply

-- ---- their bytes

-- the bytes as damage leaves them; of a lost packet the last bit is flipped, which is one of its
-- check
abbrev pub damaged : Mark → List ℕ → List ℕ
damaged Whole bytes = bytes
damaged PreLost bytes = bytes
damaged Lost bytes = flipped bytes (8 * length bytes - 1)
damaged (Flipped bit) bytes = flipped bytes bit

-- a flipped bit is one of these
abbrev pub HasBit : Mark → List ℕ → Type 0
HasBit Whole bytes = ⊤
HasBit Lost bytes = ⊤
HasBit PreLost bytes = ⊤
HasBit (Flipped bit) bytes = bit < 8 * length bytes

-- ---- the file

-- little endian, microseconds, version 2.4, at most 65535 bytes a packet,
-- LINKTYPE_USB_2_0_FULL_SPEED
abbrev pub header : List ℕ
header =
    to_le_bytes w32 0xa1b2c3d4 ++ 2 ∷ 0 ∷ 4 ∷ 0 ∷ to_le_bytes w32 0 ++ to_le_bytes w32 0 ++
    to_le_bytes w32 65535 ++ to_le_bytes w32 294

-- a packet's time, that of its attempt's number in microseconds, and its length, twice
abbrev pub record_head : ℕ → ℕ → List ℕ
record_head number size = to_le_bytes w32 (number / 1000000) ++ to_le_bytes w32 (number % 1000000)
    ++ to_le_bytes w32 size ++ to_le_bytes w32 size

-- the record of a packet in the attempt of this number
pub record IsRecord (number : ℕ) (packet : Packet × Mark) (bytes : List ℕ) : Type 0 where
  pub spelling : List ℕ
  pub spelled : Spells spelling packet.0
  pub has_bit : HasBit packet.1 spelling
  pub written : bytes ≡ record_head number (length spelling) ++ damaged packet.1 spelling

-- the record of each packet, one after the other
abbrev pub AreRecords : ℕ → List (Packet × Mark) → List ℕ → Type 0
AreRecords number [] bytes = bytes ≡ []
AreRecords number (packet ∷ packets) bytes =
    (first : List ℕ) × (rest : List ℕ) × IsRecord number packet first
    × AreRecords number packets rest × (bytes ≡ first ++ rest)

-- behind the bytes stand the records of these packets
pub record AppendsRecords (number : ℕ) (packets : List (Packet × Mark)) (before after : List ℕ) :
    Type 0 where
  pub bytes : List ℕ
  pub records : AreRecords number packets bytes
  pub appended : after ≡ before ++ bytes
