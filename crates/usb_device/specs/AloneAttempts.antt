-- A whole attempt at one device, of which nothing is damaged: token, the host's data, ACK (8.5).
use Rattle.std.specs.Prelude.{ℕ, nat_le, length, if◌then◌else◌, ◌&&◌, Bool, false, [], Option}
use Rattle.std.specs.Prelude.{None, Some}
use Rattle.usb_packet.specs.declared.Packet.TheVariants as packet
use Rattle.usb_device.specs.declared.answer.Answer.{Answer}
use Rattle.usb_device.specs.declared.answer.Answer.TheVariants.{Ack, Nak, Stall, Data}
use Rattle.usb_device.specs.declared.answer.AnswerPid.{AnswerPid}
use Rattle.usb_device.specs.declared.alone.HostSide.{HostSide}
use Rattle.usb_device.specs.declared.alone.DeviceSide.{DeviceSide}
use Rattle.usb_device.specs.declared.delivery.Content.TheVariants.{Whole}
use Rattle.usb_device.specs.declared.delivery.Heard.{Heard}
use Rattle.usb_device.specs.declared.delivery.Heard.TheVariants.{NoAnswer, One, Collision}
use Rattle.usb_device.specs.declared.delivery.Sent.{Sent}
use Rattle.usb_device.specs.declared.effect.Effect.{Effect}
use Rattle.usb_device.specs.declared.effect.Effect.TheVariants.{Leaves}
use Rattle.usb_device.specs.declared.hearing.HeardPid.{HeardPid}
use Rattle.usb_device.specs.declared.hearing.HeardPid.TheVariants as heard
use Rattle.usb_device.specs.Rows.{State, received, forgotten, awaits_address}
use Rattle.usb_device.specs.Tree.{Plugged, Place, empty, full}
use Rattle.usb_device.specs.Delivery.{heard_from, both, effect_of, taken_sent}
use Rattle.usb_device.specs.StoppedPackets.{IsRefused}

-- the packets that the host sends beside its data
abbrev pub token_sent : HostSide → Sent
token_sent x =
    record { low = x.low; pre = x.pre; content = Whole (packet.Token x.kind x.addr x.ep) }

abbrev pub ack_sent : HostSide → Sent
ack_sent x = record { low = x.low; pre = x.pre; content = Whole packet.Ack }

-- a packet, or none, at a device: what it is then, its answer, what it asks of its ports, and that
-- it refuses memory for it
abbrev pub after_packet_at : Option Sent → Bool → Plugged → Plugged
after_packet_at None deep t = t
after_packet_at (Some q) deep t = (taken_sent q deep t).1

abbrev pub answer_from : Option Sent → Bool → Plugged → Option Answer
answer_from None deep t = None
answer_from (Some q) deep t = (taken_sent q deep t).0

abbrev pub asked_from : Option Sent → Bool → Plugged → Effect
asked_from None deep t = Leaves
asked_from (Some q) deep t = effect_of q deep t.own

abbrev pub RefusedFrom : Option Sent → Bool → Plugged → Type 0
RefusedFrom None deep t = ⊥
RefusedFrom (Some q) deep t = IsRefused q deep t.own

-- what is asked of ports, as it is told
abbrev pub with_asked : Effect → DeviceSide → DeviceSide
with_asked e side = record side { effect = e }

-- a device that hears the host's ACK
abbrev pub after_ack : State → State
after_ack s = (received s [] packet.Ack).1

-- the device after the token, and after the host's data
abbrev pub after_token : HostSide → Bool → Plugged → Plugged
after_token x deep t = (taken_sent (token_sent x) deep t).1

abbrev pub after_data : HostSide → Option Sent → Bool → Plugged → Plugged
after_data x o deep t = after_packet_at o deep (after_token x deep t)

-- what is heard of both
unfoldable pub heard_of_both : HostSide → Option Sent → Bool → Plugged → Heard
heard_of_both x o deep t =
    both (heard_from (taken_sent (token_sent x) deep t).0)
    (heard_from (answer_from o deep (after_token x deep t)))

abbrev pub heard_pid : Option AnswerPid → HeardPid
heard_pid None = heard.Nothing
heard_pid (Some pid) = heard.One pid

-- the host takes data of at most `max` bytes
abbrev pub takes_data : ℕ → Heard → Bool
takes_data max NoAnswer = false
takes_data max Collision = false
takes_data max (One Ack) = false
takes_data max (One Nak) = false
takes_data max (One Stall) = false
takes_data max (One (Data toggle bytes)) = nat_le (length bytes.items) max

abbrev pub acknowledges : HostSide → Option Sent → Bool → Plugged → Bool
acknowledges x o deep t = takes_data x.max (heard_of_both x o deep t)

-- the device after the host's ACK, where it sends one
unfoldable pub after_reply : HostSide → Option Sent → Bool → Plugged → Plugged
after_reply x o deep t =
    if acknowledges x o deep t then (taken_sent (ack_sent x) deep (after_data x o deep t)).1 else
    after_data x o deep t

-- what became of it
unfoldable pub side_of : HostSide → Option Sent → Bool → Plugged → DeviceSide
side_of x o deep t = record {
  acknowledged = acknowledges x o deep t;
  effect = asked_from o deep (after_token x deep t);
  address_lost = acknowledges x o deep t && awaits_address (after_reply x o deep t).own;
  address = Some (after_reply x o deep t).own.registers.address;
}

-- the device forgets what it remembers
abbrev pub forgot : Plugged → Plugged
forgot t = record t { own = forgotten t.own }

-- The same at a path, where a device is or is not.

abbrev pub no_side : DeviceSide
no_side = record { acknowledged = false; effect = Leaves; address_lost = false; address = None }

abbrev pub heard_at : HostSide → Option Sent → Bool → Option Plugged → Heard
heard_at x o deep None = NoAnswer
heard_at x o deep (Some t) = heard_of_both x o deep t

abbrev pub side_at : HostSide → Option Sent → Bool → Option Plugged → DeviceSide
side_at x o deep None = no_side
side_at x o deep (Some t) = side_of x o deep t

abbrev pub RefusedAt : HostSide → Option Sent → Bool → Option Plugged → Type 0
RefusedAt x o deep None = ⊥
RefusedAt x o deep (Some t) = RefusedFrom o deep (after_token x deep t)

-- the device on a port, after something that changes it
abbrev pub with_own : (Plugged → Plugged) → Place → Place
with_own f (empty b) = empty b
with_own f (full b s a) =
    full b (f (record { own = s; ports = a })).own (f (record { own = s; ports = a })).ports

-- after the attempt, and after one at whose data memory was refused
abbrev pub left_in : HostSide → Option Sent → Bool → Place → Place
left_in x o deep = with_own (λ t. forgot (after_reply x o deep t))

abbrev pub cut_in : HostSide → Bool → Place → Place
cut_in x deep = with_own (λ t. forgot (after_token x deep t))
