-- One reachable device holds the address of an attempt: the attempt is an exchange with that device
-- alone.
use Rattle.std.specs.Prelude.{◌≡◌, ℕ, nat_le, ◌&&◌, ◌||◌, not, if◌then◌else◌, Bool, false, List}
use Rattle.std.specs.Prelude.{length, Option, None, Some}
use Rattle.usb_packet.specs.{Toggle, Zero, OutTok, InTok, SetupTok}
use Rattle.usb_port.specs.{PortState}
use Rattle.usb_device.specs.{Answer, Content, Sent, Effect, Leaves, asked_by_setup, State, Reply}
use Rattle.usb_device.specs.{Way, lost, is_whole, out_law, in_law, Ports, hears}
use Rattle.usb_device.specs.declared.answer.Answer.TheVariants as answer
use Rattle.usb_device.specs.declared.delivery.Content.TheVariants as content
use Rattle.usb_request.specs.{setup_of}
use Rattle.usb_device.specs.Attempt.{whole, broken}
use Rattle.usb_world.specs.PlainAttempts.{Attempt}
use Rattle.usb_world.specs.declared.types.Outcome.{Outcome}
use Rattle.usb_world.specs.declared.types.Outcome.TheVariants as outcome
use Rattle.usb_world.specs.declared.damage.Damage.{Damage}
use Rattle.usb_world.specs.declared.wire.Mark.{Mark}
use Rattle.usb_world.specs.declared.wire.Mark.TheVariants as mark
use Rattle.usb_world.specs.Exchanges.{token_out, payload_out, reply_out, mark_in}
use Rattle.usb_world.specs.AttemptPackets.{IsSettled}
use Rattle.usb_world.specs.FoundHolder.{Found}
use Rattle.usb_world.specs.Worlds.{World}
use Rattle.usb_world.specs.Steps.{at_attempt, attempt, after}

-- how a packet of the host comes to a device: not at all where it does not go out, or the device
-- does not hear it
abbrev pub content_way : Content → Way
content_way (content.Whole p) = whole
content_way content.Broken = broken

abbrev pub way_to : Bool → State → Option Sent → Way
way_to deep s None = lost
way_to deep s (Some q) = if hears q deep s then content_way q.content else lost

-- how the answer comes to the host
abbrev pub way_back : Mark → Way
way_back mark.Whole = whole
way_back mark.Lost = lost
way_back mark.PreLost = whole
way_back (mark.Flipped bit) = broken

-- what the host gets of what it hears: data that are too long are nothing
abbrev pub got : ℕ → Option Answer → Outcome
got max None = outcome.Nothing
got max (Some answer.Ack) = outcome.Ack
got max (Some answer.Nak) = outcome.Nak
got max (Some answer.Stall) = outcome.Stall
got max (Some (answer.Data toggle bytes)) = if nat_le (length bytes.items) max then outcome.Payload
    toggle bytes else outcome.Nothing

-- the ways of the four packets of an attempt: token, the host's data, answer and the host's ACK
abbrev pub token_way : Attempt → Option Damage → Bool → State → Way
token_way a damage deep s = way_to deep s (token_out a damage)

abbrev pub payload_way : Attempt → Option Damage → Bool → State → Way
payload_way a damage deep s = way_to deep s (payload_out a damage)

abbrev pub answer_way : Attempt → Option Damage → Ports → Way
answer_way a damage k = way_back (mark_in a damage k)

abbrev pub reply_way : Attempt → Option Damage → Ports → Bool → State → Way
reply_way a damage k deep s = way_to deep s (reply_out a damage k)

abbrev pub out_alone : Attempt → Option Damage → Ports → Bool → State → Toggle → List ℕ → Reply
out_alone a damage k deep s toggle bytes = out_law s a.ep toggle bytes (token_way a damage deep s)
    (payload_way a damage deep s) (answer_way a damage k)

abbrev pub in_alone : Attempt → Option Damage → Ports → Bool → State → List PortState → Reply
in_alone a damage k deep s row = in_law s row a.ep a.max (token_way a damage deep s)
    (answer_way a damage k) (reply_way a damage k deep s)

-- the three kinds of attempt
pub record IsSetup (a : Attempt) (bytes : List ℕ) : Type 0 where
  pub kind : a.kind ≡ SetupTok
  pub ep : a.ep ≡ 0
  pub payload : a.payload ≡ Some (Zero, record { items = bytes })
  pub whole : length bytes ≡ 8

pub record IsOut (a : Attempt) (toggle : Toggle) (bytes : List ℕ) : Type 0 where
  pub kind : a.kind ≡ OutTok
  pub payload : a.payload ≡ Some (toggle, record { items = bytes })

pub record IsIn (a : Attempt) : Type 0 where
  pub kind : a.kind ≡ InTok
  pub payload : a.payload ≡ None

-- a device hears the packets of an attempt: they are at its speed, and at low speed with PRE where
-- it stands deep
abbrev pub hears_attempt : Attempt → Bool → State → Bool
hears_attempt a deep s = if a.low then s.spec.low && (not deep || a.pre) else not s.spec.low

-- Worlds

-- an attempt is made, by devices that remember nothing
pub record IsMade (a : Attempt) (w : World) : Type 0 where
  pub sound : w.fault ≡ None
  pub within : w.attempts ≡ w.limit → ⊥
  pub settled : IsSettled w.roots

-- the device that holds its address when it is made; and no address is held twice
pub record HolderIn (a : Attempt) (w : World) : Type 0 where
  pub made : IsMade a w
  pub single : (after (attempt a) w).shared ≡ false
  pub found : Found a.addr (at_attempt w).roots
  pub open found use *

-- one that is not silent
pub record AttemptAnswerer (a : Attempt) (w : World) : Type 0 where
  pub holder : HolderIn a w
  pub loud : holder.own.spec.silent ≡ false

-- what SETUP makes the device ask of its ports: what the setup data say, where they are accepted
abbrev pub setup_asked : Attempt → Option Damage → Bool → State → List ℕ → Effect
setup_asked a damage deep s bytes = if is_whole (token_way a damage deep s) &&
    is_whole (payload_way a damage deep s) then asked_by_setup s (setup_of bytes) else Leaves
