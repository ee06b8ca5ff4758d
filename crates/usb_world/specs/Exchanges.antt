-- The packets of an attempt, what the devices make of them, and what the host makes of the answers
-- (8.5).
use Rattle.std.specs.Prelude.{ℕ, ◌+◌, Bool, false, not, ◌&&◌, List, [], ◌∷◌, ◌++◌, length, nat_le}
use Rattle.std.specs.Prelude.{if◌then◌else◌, Option, Some, None}
use Rattle.usb_packet.specs.{Packet, Token, Ack, Nak, Stall, Pre}
use Rattle.usb_packet.specs.declared.Packet.TheVariants as packet
use Rattle.usb_device.specs.{Answer, Sent, packet_of, Ports, has_loss, clears_change}
use Rattle.usb_device.specs.declared.delivery.Content.TheVariants as content
use Rattle.usb_world.specs.PlainAttempts.{Attempt}
use Rattle.usb_world.specs.declared.types.Outcome.{Outcome}
use Rattle.usb_world.specs.declared.types.Outcome.TheVariants as outcome
use Rattle.usb_world.specs.declared.damage.Damage.{Damage}
use Rattle.usb_world.specs.declared.damage.Harm.{Harm}
use Rattle.usb_world.specs.declared.exchange.Exchange.{Exchange}
use Rattle.usb_world.specs.declared.exchange.ExchangeAnswer.{ExchangeAnswer}
use Rattle.usb_world.specs.declared.exchange.ExchangeAnswer.TheVariants.{Nothing, One, Collision}
use Rattle.usb_world.specs.declared.wire.Mark.{Mark}
use Rattle.usb_world.specs.declared.wire.Mark.TheVariants.{Whole, Lost, PreLost, Flipped}
use Rattle.usb_world.specs.declared.wire.Outgoing.{Outgoing}
use Rattle.usb_world.specs.Wire.{harm_to, mark_of, is_read, marked, marked_some}
use Rattle.usb_world.specs.AttemptPackets.{after_sent, answers_to, after_attempt}

-- of no attempt yet
abbrev pub blank : Exchange
blank = record {
  token = record { packet = Pre; mark = Lost };
  payload = None;
  answer = Nothing;
  answer_mark = Whole;
  reply = None;
  address_lost = false;
  change_cleared = false;
}

unfoldable pub token_of : Attempt → Packet
token_of a = Token a.kind a.addr a.ep

-- the host's data, for SETUP and OUT
unfoldable pub payload_of : Attempt → Option Packet
payload_of a = elim a.payload [ None ↦ None | Some p ↦ Some (packet.Payload p.0 p.1) ]

-- the place of the answer among the packets of an attempt: after the token, or after the host's
-- data
unfoldable pub answer_place : Option Outgoing → ℕ
answer_place None = 2
answer_place (Some s) = 3

-- the mark that a harm leaves on the answer of one device
unfoldable pub answer_mark : Option Harm → ExchangeAnswer → Mark
answer_mark harm Nothing = Whole
answer_mark harm Collision = Whole
answer_mark harm (One p) = mark_of harm false p

-- the host's ACK, where it answers
abbrev pub ack_if : Bool → Option Packet
ack_if acknowledged = if acknowledged then Some Ack else None

-- data of at most `max` bytes that the host reads are answered by ACK
unfoldable pub reply_of : ExchangeAnswer → Mark → ℕ → Option Packet
reply_of (One (packet.Payload toggle bytes)) mark max =
    if is_read mark && nat_le (length bytes.items) max then Some Ack else None
reply_of _ mark max = None

-- what the host gets of an answer that it reads
abbrev pub outcome_heard : ExchangeAnswer → ℕ → Outcome
outcome_heard (One (packet.Payload toggle bytes)) max =
    if nat_le (length bytes.items) max then outcome.Payload toggle bytes else outcome.Nothing
outcome_heard (One Ack) max = outcome.Ack
outcome_heard (One Nak) max = outcome.Nak
outcome_heard (One Stall) max = outcome.Stall
outcome_heard _ max = outcome.Nothing

-- what the host gets: nothing of an answer that it does not read
unfoldable pub outcome_of : ExchangeAnswer → Mark → ℕ → Outcome
outcome_of answer mark max = if not (is_read mark) then outcome.Nothing else outcome_heard answer
    max

-- a packet as damage leaves it, on its way to the devices
abbrev pub sent_as : Bool → Bool → Mark → Packet → Option Sent
sent_as low pre Whole p = Some (record { low = low; pre = pre; content = content.Whole p })
sent_as low pre Lost p = None
sent_as low pre PreLost p = Some (record { low = low; pre = false; content = content.Whole p })
sent_as low pre (Flipped bit) p = Some (record { low = low; pre = pre; content = content.Broken })

abbrev pub goes_out : Attempt → Option Outgoing → Option Sent
goes_out a None = None
goes_out a (Some s) = sent_as a.low a.pre s.mark s.packet

-- two answers collide
abbrev pub heard_all : List Answer → ExchangeAnswer
heard_all [] = Nothing
heard_all (x ∷ []) = One (packet_of x)
heard_all (x ∷ y ∷ more) = Collision

-- the packets of an attempt, as its damage leaves them
abbrev pub token_out : Attempt → Option Damage → Option Sent
token_out a damage = goes_out a (Some (marked damage 1 a.pre (token_of a)))

abbrev pub payload_in : Attempt → Option Damage → Option Outgoing
payload_in a damage = marked_some damage 2 a.pre (payload_of a)

abbrev pub payload_out : Attempt → Option Damage → Option Sent
payload_out a damage = goes_out a (payload_in a damage)

-- what is answered
abbrev pub heard_in : Attempt → Option Damage → Ports → ExchangeAnswer
heard_in a damage k = heard_all (answers_to (token_out a damage) k ++ answers_to
    (payload_out a damage) (after_sent (token_out a damage) k))

abbrev pub place_of_answer : Attempt → Option Damage → ℕ
place_of_answer a damage = answer_place (payload_in a damage)

abbrev pub mark_in : Attempt → Option Damage → Ports → Mark
mark_in a damage k = answer_mark (harm_to damage (place_of_answer a damage)) (heard_in a damage k)

-- the host's ACK of the answer
abbrev pub reply_in : Attempt → Option Damage → Ports → Option Outgoing
reply_in a damage k = marked_some damage (place_of_answer a damage + 1) a.pre
    (reply_of (heard_in a damage k) (mark_in a damage k) a.max)

abbrev pub reply_out : Attempt → Option Damage → Ports → Option Sent
reply_out a damage k = goes_out a (reply_in a damage k)

-- the devices when the host's ACK goes out
abbrev pub answered_in : Attempt → Option Damage → Ports → Ports
answered_in a damage k = after_sent (payload_out a damage) (after_sent (token_out a damage) k)

-- a packet that devices can read
abbrev pub readable : Option Sent → Option Sent
readable None = None
readable (Some q) = elim q.content [ content.Whole p ↦ Some q | content.Broken ↦ None ]

-- the host's ACK went out, and a device did not read it that awaits it to take its address (9.4.6)
abbrev pub is_lost : Option Outgoing → Option Sent → Ports → Bool
is_lost None q k = false
is_lost (Some s) q k = has_loss (after_sent (readable q) k)

unfoldable pub lost_in : Attempt → Option Damage → Ports → Bool
lost_in a damage k = is_lost (reply_in a damage k) (reply_out a damage k) (answered_in a damage k)

-- a hub clears a change of connection at a packet
abbrev pub clears_at : Option Sent → Ports → Bool
clears_at None k = false
clears_at (Some q) k = clears_change q false k

abbrev pub cleared_in : Attempt → Option Damage → Ports → Bool
cleared_in a damage k = clears_at (payload_out a damage) (after_sent (token_out a damage) k)

-- the token, the host's data, the answer to them, and the host's ACK
unfoldable pub exchange_in : Attempt → Option Damage → Ports → Exchange
exchange_in a damage k = record {
  token = marked damage 1 a.pre (token_of a);
  payload = payload_in a damage;
  answer = heard_in a damage k;
  answer_mark = mark_in a damage k;
  reply = reply_in a damage k;
  address_lost = lost_in a damage k;
  change_cleared = cleared_in a damage k;
}

-- the root ports after its packets, with all that is plugged
abbrev pub ended_in : Attempt → Option Damage → Ports → Ports
ended_in a damage k = after_sent (reply_out a damage k) (answered_in a damage k)

-- the same after the attempt
unfoldable pub ports_in : Attempt → Option Damage → Ports → Ports
ports_in a damage k = after_attempt (token_out a damage) (payload_out a damage)
    (reply_out a damage k) k
