-- What an outcome means to the host that made the attempt.
use Rattle.std.specs.Prelude.{ℕ, Bool, true, false, if◌then◌else◌, [], Option, Some, None, Result}
use Rattle.std.specs.Prelude.{Ok, Err}
use Rattle.usb_packet.specs.{Toggle, other, is_same}
use Rattle.usb_world.specs.{Outcome}
use Rattle.usb_world.specs.declared.types.Outcome.TheVariants.{Payload, Ack, Nak, Stall, Nothing}
use Rattle.arrayvec.specs.ArrayVec.{ArrayVec}
use Rattle.usb_transfer.specs.declared.heard_outcome.HeardKind.{HeardKind}
use Rattle.usb_transfer.specs.declared.heard_outcome.HeardKind.TheVariants as kind
use Rattle.usb_transfer.specs.declared.heard_outcome.HeardOutcome.{HeardOutcome}
use Rattle.usb_transfer.specs.declared.heard_outcome.HeardOutcome.TheVariants.{Moved, NotReady}
use Rattle.usb_transfer.specs.declared.heard_outcome.HeardOutcome.TheVariants.{Repeat, Refused}
use Rattle.usb_transfer.specs.declared.heard_outcome.HeardOutcome.TheVariants.{Lost}

-- what is heard, with the bytes that are in the room
abbrev pub heard_with : HeardKind → ArrayVec ℕ → HeardOutcome
heard_with kind.Moved bytes = Moved bytes
heard_with kind.NotReady bytes = NotReady
heard_with kind.Repeat bytes = Repeat
heard_with kind.Refused bytes = Refused
heard_with kind.Lost bytes = Lost

-- to a host that awaits a packet of a toggle
abbrev pub heard_as : Toggle → Outcome → HeardOutcome
heard_as awaited (Payload given bytes) = if is_same awaited given then Moved bytes else Repeat
heard_as awaited Ack = Lost
heard_as awaited Nak = NotReady
heard_as awaited Stall = Refused
heard_as awaited Nothing = Lost

-- to a host that polls a NAK is an answer, which ends the poll as STALL does (5.7)
abbrev pub polled : HeardOutcome → HeardOutcome
polled (Moved bytes) = Moved bytes
polled NotReady = Refused
polled Repeat = Repeat
polled Refused = Refused
polled Lost = Lost

abbrev pub polled_as : Toggle → Outcome → HeardOutcome
polled_as awaited o = polled (heard_as awaited o)

-- to a host that has sent a packet
abbrev pub heard_when_sent : Outcome → HeardOutcome
heard_when_sent (Payload given bytes) = Lost
heard_when_sent Ack = Moved (record { items = [] })
heard_when_sent Nak = NotReady
heard_when_sent Stall = Refused
heard_when_sent Nothing = Lost

-- to a host that has sent setup data: whatever is not ACK is an error (8.5.3)
abbrev pub set_up_as : Outcome → HeardOutcome
set_up_as (Payload given bytes) = Lost
set_up_as Ack = Moved (record { items = [] })
set_up_as Nak = Lost
set_up_as Stall = Lost
set_up_as Nothing = Lost

abbrev pub acks : Outcome → Bool
acks (Payload given bytes) = false
acks Ack = true
acks Nak = false
acks Stall = false
acks Nothing = false

-- the toggle after a poll: it changes where a packet came
abbrev pub toggle_after : {A E : Type 0} → Toggle → Result (Option A) E → Toggle
toggle_after toggle (Ok (Some packet)) = other toggle
toggle_after toggle (Ok None) = toggle
toggle_after toggle (Err fault) = toggle
