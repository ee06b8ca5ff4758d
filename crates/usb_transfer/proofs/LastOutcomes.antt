-- What outcomes are by how they are heard, and by what was answered.
use Rattle.std.proofs.Common.{◌≡◌, sym, ℕ, List, [], Option, None, Some, Result, Ok, Err, arith}
use Rattle.arrayvec.specs.ArrayVec.{ArrayVec}
use Rattle.usb_packet.specs.{Toggle}
use Rattle.usb_device.specs.{Answer, taken_of}
use Rattle.usb_world.specs.{Outcome, got}
use Rattle.usb_world.specs.declared.types.Outcome.TheVariants.{Payload, Ack, Nak, Stall}
use Rattle.usb_transfer.specs.{HeardOutcome, Moved, NotReady, Refused, TransFault, heard_as}
use Rattle.usb_transfer.specs.{polled_as, heard_when_sent, set_up_as, packed, IsNoEnd}

-- What an outcome is by how it is heard

pub heard_moved : (t : Toggle) (o : Outcome) (bytes : ArrayVec ℕ) → Moved bytes ≡ heard_as t o
    → o ≡ Payload t bytes
heard_moved t o bytes e = grind arith

pub heard_as-nak : (t : Toggle) (o : Outcome) → NotReady ≡ heard_as t o → o ≡ Nak
heard_as-nak t o e = grind arith

pub heard_stall : (t : Toggle) (o : Outcome) → Refused ≡ heard_as t o → o ≡ Stall
heard_stall t o e = grind arith

pub sent_stall : (o : Outcome) → Refused ≡ heard_when_sent o → o ≡ Stall
sent_stall o e = grind arith

-- a read is done by the awaited packet with just these bytes, and so is a poll
pub read_last : (toggle : Toggle) (o : Outcome) (bytes : List ℕ)
    → heard_as toggle o ≡ Moved (packed bytes) → o ≡ Payload toggle (packed bytes)
read_last toggle o bytes e = heard_moved toggle o (packed bytes) (sym e)

pub polled_last : (toggle : Toggle) (o : Outcome) (bytes : List ℕ)
    → polled_as toggle o ≡ Moved (packed bytes) → o ≡ Payload toggle (packed bytes)
polled_last toggle o bytes e = grind arith

-- what was sent is done by ACK, and so are setup data
pub sent_last : (o : Outcome) (bytes : ArrayVec ℕ) → heard_when_sent o ≡ Moved bytes → o ≡ Ack
sent_last o bytes e = grind arith

pub set_up_last : (o : Outcome) (bytes : ArrayVec ℕ) → set_up_as o ≡ Moved bytes → o ≡ Ack
set_up_last o bytes e = grind arith

-- and brings no data
pub sent_empty : (o : Outcome) (bytes : List ℕ) → heard_when_sent o ≡ Moved (packed bytes)
    → bytes ≡ []
sent_empty o bytes e = grind arith

pub set_up_empty : (o : Outcome) (bytes : List ℕ) → set_up_as o ≡ Moved (packed bytes) → bytes ≡ []
set_up_empty o bytes e = grind arith

-- The packet that the host hears

abbrev pub packet_heard : HeardOutcome → Option (List ℕ)
packet_heard (Moved b) = Some b.items
packet_heard h = None

pub heard_taken : (awaited : Toggle) (max : ℕ) (o : Option Answer)
    → packet_heard (heard_as awaited (got max o)) ≡ taken_of awaited max o
heard_taken awaited max o = grind arith

pub no_packet : (h : HeardOutcome) → IsNoEnd h → packet_heard h ≡ None
no_packet h n = grind arith

-- the packet that came with an answer
abbrev pub packet_of : {A : Type 0} → (A → Option (List ℕ)) → Result A TransFault → Option (List ℕ)
packet_of got (Ok x) = got x
packet_of got (Err fault) = None

abbrev pub packet_in : Result (List ℕ) TransFault → Option (List ℕ)
packet_in result = packet_of (λ bytes. Some bytes) result
