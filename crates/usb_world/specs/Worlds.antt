-- What a bus stands for: its root ports with all that is plugged, the events to come, and its
-- counts.
use Rattle.std.specs.Prelude.{◌≡◌, ℕ, ◌+◌, ◌-◌, ◌<◌, ◌≤◌, List, [], ◌∷◌, length, Bool, true, false}
use Rattle.std.specs.Prelude.{Option, None, Some, Result, Ok, Err, slice_index_or, ⊤, if◌then◌else◌}
use Rattle.std.specs.Prelude.{is_some}
use Rattle.arrayvec.specs.ArrayVec.{ArrayVec}
use Rattle.usb_packet.specs.{Toggle, Zero, One, TokenKind, OutTok, InTok, SetupTok}
use Rattle.usb_port.specs.{PortState, off}
use Rattle.usb_device.specs.{Spec, Ports, row_of}
use Rattle.usb_world.specs.declared.damage.Damage.{Damage}
use Rattle.usb_world.specs.declared.event.Event.{Event}
use Rattle.usb_world.specs.declared.losses.Losses.{Losses}
use Rattle.usb_world.specs.PlainAttempts.{Attempt}
use Rattle.usb_world.specs.declared.types.Outcome.{Outcome}
use Rattle.usb_world.specs.declared.types.Outcome.TheVariants.{Payload, Ack, Nak, Stall, Nothing}
use Rattle.usb_world.specs.declared.types.BusFault.{BusFault}
use Rattle.usb_world.specs.declared.types.BusFault.TheVariants.{Limit}

pub record World : Type 0 where
  pub roots : Ports
  pub devices : List Spec  -- those that a plan names
  pub left : List Event  -- the events to come
  pub taken : ℕ  -- how many events came
  pub attempts : ℕ
  pub attempts_then : ℕ  -- the attempts made when the last event came
  pub limit : ℕ
  pub damages : List Damage
  pub losses : Losses
  pub shared : Bool  -- at some attempt two reachable devices held one address
  pub fault : Option BusFault

-- the root ports, port 1 first
abbrev pub root_row : World → List PortState
root_row w = row_of w.roots

-- how many events are to come
abbrev pub to_come : World → ℕ
to_come w = length w.left

abbrev pub roots_of : World → ℕ
roots_of w = length (root_row w)

abbrev pub IsRootPort : World → ℕ → Type 0
IsRootPort w port = (1 ≤ port) × (port ≤ length (root_row w))

-- the port of a number from 1
unfoldable pub root_port_at : World → ℕ → PortState
root_port_at w port = slice_index_or (root_row w) (port - 1) off

-- SETUP and OUT send data, IN does not
abbrev pub sends_data : TokenKind → Bool
sends_data OutTok = true
sends_data SetupTok = true
sends_data InTok = false

-- what each kind sends: SETUP its eight bytes in DATA0 (8.5.3), OUT no more than the maximum packet
abbrev pub FitsPayload : TokenKind → ℕ → Option (Toggle × ArrayVec ℕ) → Type 0
FitsPayload SetupTok max (Some (Zero, bytes)) = length bytes.items ≡ 8
FitsPayload SetupTok max (Some (One, bytes)) = ⊥
FitsPayload SetupTok max None = ⊥
FitsPayload OutTok max (Some (toggle, bytes)) = length bytes.items ≤ max
FitsPayload OutTok max None = ⊥
FitsPayload InTok max payload = ⊤

pub record IsAttempt (a : Attempt) : Type 0 where
  pub addr_fits : a.addr < 128
  pub ep_fits : a.ep < 16
  pub max_least : 1 ≤ a.max
  pub max_most : a.max ≤ 64
  pub pre_low : a.pre ≡ true → a.low ≡ true
  pub payload_sent : is_some a.payload ≡ sends_data a.kind
  pub payload_fits : FitsPayload a.kind a.max a.payload

-- 1 where C_PORT_CONNECTION is set
unfoldable pub change_of : PortState → ℕ
change_of p = if p.connection_changed then 1 else 0

-- how many root ports have C_PORT_CONNECTION set
unfoldable pub changes : List PortState → ℕ
changes [] = 0
changes (p ∷ ps) = change_of p + changes ps

-- at most n attempts were made, within the limit; each event that was taken set at most one change
-- bit
pub record AttemptsWithin (n : ℕ) (old new : World) : Type 0 where
  pub limit : new.limit ≡ old.limit
  pub roots : roots_of new ≡ roots_of old
  pub later : old.attempts ≤ new.attempts
  pub most : new.attempts ≤ old.attempts + n
  pub within : old.attempts ≤ old.limit → new.attempts ≤ new.limit
  pub events : new.taken + to_come new ≡ old.taken + to_come old
  pub onward : old.taken ≤ new.taken
  pub served : changes (root_row new) + to_come new ≤ changes (root_row old) + to_come old

-- one attempt: made, or refused with a fault that stays
pub record Made (old new : World) : Type 0 where
  pub sound : old.fault ≡ None
  pub one : new.attempts ≡ old.attempts + 1
  pub still : new.fault ≡ None

pub record HasFault (fault : BusFault) (new : World) : Type 0 where
  pub told : new.fault ≡ Some fault
  pub at_limit : fault ≡ Limit → new.attempts ≡ new.limit

abbrev pub AttemptEnds : World → Result Outcome BusFault → World → Type 0
AttemptEnds old (Ok outcome) new = Made old new
AttemptEnds old (Err fault) new = HasFault fault new

-- data that came are at most the endpoint's maximum
abbrev pub FitsMaximum : ℕ → Outcome → Type 0
FitsMaximum max (Payload toggle bytes) = length bytes.items ≤ max
FitsMaximum max Ack = ⊤
FitsMaximum max Nak = ⊤
FitsMaximum max Stall = ⊤
FitsMaximum max Nothing = ⊤

abbrev pub AnswerFits : ℕ → Result Outcome BusFault → Type 0
AnswerFits max (Ok outcome) = FitsMaximum max outcome
AnswerFits max (Err fault) = ⊤

pub record Attempted (a : Attempt) (old : World) (result : Result Outcome BusFault) (new : World) :
    Type 0 where
  pub spends : AttemptsWithin 1 old new
  pub ends : AttemptEnds old result new
  pub fits : AnswerFits a.max result
  pub again : (fault : BusFault) → old.fault ≡ Some fault → (result ≡ Err fault) × (new ≡ old)
