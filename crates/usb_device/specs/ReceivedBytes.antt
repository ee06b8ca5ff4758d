-- Bytes at a device.
use Rattle.std.specs.Prelude.{◌≡◌, ℕ, List, Option, None, Some, true, ⊤}
use Rattle.arrayvec.specs.ArrayVec.{ArrayVec}
use Rattle.usb_packet.specs.{Spells, Packet}
use Rattle.usb_packet.specs.declared.Packet.TheVariants as packet
use Rattle.usb_device.specs.declared.answer.Answer.{Answer}
use Rattle.usb_device.specs.declared.answer.Answer.TheVariants.{Ack, Nak, Stall, Data}
use Rattle.usb_device.specs.Rows.{received, unread, sink_grows}
use Rattle.usb_device.specs.Effects.{asks}
use Rattle.usb_device.specs.Tree.{Plugged, row_of, acted}

abbrev pub packet_of : Answer → Packet
packet_of Ack = packet.Ack
packet_of Nak = packet.Nak
packet_of Stall = packet.Stall
packet_of (Data t bytes) = packet.Payload t bytes

-- the bytes of an answer
abbrev pub Answers : Option (ArrayVec ℕ) → Option Answer → Type 0
Answers None None = ⊤
Answers (Some bytes) (Some answer) = Spells bytes.items (packet_of answer)
Answers None (Some answer) = ⊥
Answers (Some bytes) None = ⊥

-- a packet at a device that has no other above or below it: its answer, what it is then, and what
-- its ports are
abbrev pub answer_to : Plugged → Packet → Option Answer
answer_to t p = (received t.own (row_of t.ports) p).0

abbrev pub after_receiving : Plugged → Packet → Plugged
after_receiving t p = record {
  own = (received t.own (row_of t.ports) p).1;
  ports =
      acted (asks t.own p) t.ports;
}

abbrev pub received_by : Plugged → Packet → Option Answer × Plugged
received_by t p = (answer_to t p, after_receiving t p)

-- the packet that the bytes spell is answered; where they spell none, nothing is
pub record AnswersPacket (bytes : List ℕ) (old : Plugged) (answer : Option (ArrayVec ℕ))
    (new : Plugged) : Type 0 where
  pub whole : (p : Packet) → Spells bytes p → Answers answer (answer_to old p)
      × (new ≡ after_receiving old p)
  pub broken : ((p : Packet) → Spells bytes p → ⊥) → (answer ≡ None)
      × (new ≡ record old { own = unread old.own })

-- the bytes spell a packet that makes the sink grow
abbrev pub GrowsBy : List ℕ → Plugged → Type 0
GrowsBy bytes old = (p : Packet) × Spells bytes p × (sink_grows old.own p ≡ true)
