-- The record of an answer.
use Rattle.std.specs.Prelude.{◌≡◌, ◌≢◌, ℕ, ◌+◌, ◌*◌, ◌<◌, ◌≤◌, List, [], ◌∷◌, ◌++◌, length}
use Rattle.std.specs.Prelude.{slice_index}
use Rattle.usb_packet.specs.{Toggle, Zero, One}
use Rattle.usb_world.specs.{Outcome}
use Rattle.usb_world.specs.declared.types.Outcome.TheVariants.{Payload, Ack, Nak, Stall, Nothing}
use Rattle.usb_dialogue.specs.Statuses.{AreStatuses, statuses_bytes}
use Rattle.usb_dialogue.specs.declared.answer.Answer.{Answer}
use Rattle.usb_dialogue.specs.declared.fault.DriverFault.{DriverFault}
use Rattle.usb_dialogue.specs.declared.fault.DriverFault.TheVariants as fault

-- what came
abbrev pub came_number : Outcome → ℕ
came_number Nothing = 0
came_number Ack = 1
came_number Nak = 2
came_number Stall = 3
came_number (Payload toggle bytes) = 4

abbrev pub toggle_number : Toggle → ℕ
toggle_number Zero = 0
toggle_number One = 1

abbrev pub came_toggle : Outcome → ℕ
came_toggle (Payload toggle bytes) = toggle_number toggle
came_toggle other = 0

abbrev pub came_data : Outcome → List ℕ
came_data (Payload toggle bytes) = bytes.items
came_data other = []

-- an answer brings at most 64 bytes (8.4.4)
pub record IsAnswer (a : Answer) : Type 0 where
  pub few : length (came_data a.outcome) ≤ 64
  pub statuses : AreStatuses a.statuses

-- what came, its toggle, how many bytes of data, the statuses, and the data
abbrev pub answer_record : Answer → List ℕ
answer_record a =
    came_number a.outcome ∷ came_toggle a.outcome
    ∷ length (came_data a.outcome) ∷ 0
    ∷ (statuses_bytes a.statuses ++ came_data a.outcome)

-- how many bytes of data a record says that it has
abbrev pub said_length : List ℕ → ℕ
said_length bytes = slice_index bytes 2 + 256 * slice_index bytes 3

-- no record of an answer has that length
pub data WrongAnswerLength (bytes : List ℕ) : Type 0 where
  short : length bytes < 32 → WrongAnswerLength bytes
  other : 32 + said_length bytes ≢ length bytes → WrongAnswerLength bytes
  none : slice_index bytes 0 < 4 → 32 < length bytes → WrongAnswerLength bytes

-- no answer has that toggle
pub data NoToggle (bytes : List ℕ) : Type 0 where
  more : 1 < slice_index bytes 1 → NoToggle bytes
  alone : slice_index bytes 0 < 4 → slice_index bytes 1 ≢ 0 → NoToggle bytes

-- why bytes are no record of an answer
abbrev pub AnswerFault : List ℕ → DriverFault → Type 0
AnswerFault bytes fault.Kind = 4 < slice_index bytes 0
AnswerFault bytes fault.Length = WrongAnswerLength bytes
AnswerFault bytes fault.TooMuch = (slice_index bytes 0 ≡ 4) × (32 + 64 < length bytes)
AnswerFault bytes fault.Number = NoToggle bytes
AnswerFault bytes fault.Memory = ⊥
AnswerFault bytes fault.OutOfTurn = ⊥
AnswerFault bytes fault.Roots = ⊥

-- of private functions: what came, with its toggle and its data
pub record Came (kind toggle : ℕ) (bytes : List ℕ) (outcome : Outcome) : Type 0 where
  pub number : kind ≡ came_number outcome
  pub turned : toggle ≡ came_toggle outcome
  pub carried : bytes ≡ came_data outcome
  pub few : length (came_data outcome) ≤ 64

pub data NoCameToggle (kind toggle : ℕ) : Type 0 where
  more : 1 < toggle → NoCameToggle kind toggle
  alone : kind < 4 → toggle ≢ 0 → NoCameToggle kind toggle

abbrev pub CameFault : ℕ → ℕ → List ℕ → DriverFault → Type 0
CameFault kind toggle bytes fault.Length = (kind < 4) × (0 < length bytes)
CameFault kind toggle bytes fault.TooMuch = (kind ≡ 4) × (64 < length bytes)
CameFault kind toggle bytes fault.Number = NoCameToggle kind toggle
CameFault kind toggle bytes fault.Kind = ⊥
CameFault kind toggle bytes fault.Memory = ⊥
CameFault kind toggle bytes fault.OutOfTurn = ⊥
CameFault kind toggle bytes fault.Roots = ⊥
