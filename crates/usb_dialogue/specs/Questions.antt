-- The record of a question.
use Rattle.std.specs.Prelude.{ℕ, ◌+◌, ◌-◌, List, [], ◌∷◌, ◌++◌, length, replicate}
use Rattle.std.specs.Prelude.{Bool, true, false, ⊤}
use Rattle.usb_packet.specs.{Speed, Toggle, Zero, One, speed_has_pre, speed_is_low}
use Rattle.usb_world.specs.{Destination, FitsMaximum, Outcome, destination_of}
use Rattle.usb_world.specs.declared.types.Attempt.{Attempt as AnAttempt}
use Rattle.usb_world.specs.declared.types.Attempt.TheVariants as token
use Rattle.usb_dialogue.specs.declared.question.Question.{Question}
use Rattle.usb_dialogue.specs.declared.question.Question.TheVariants.{Attempt, Set, Clear, Restart}
use Rattle.usb_dialogue.specs.declared.question.Question.TheVariants.{Ins}

abbrev pub token_number : AnAttempt → ℕ
token_number (token.Setup to bytes) = 1
token_number (token.Out to toggle bytes) = 2
token_number (token.In to) = 3

-- the bytes that it sends
abbrev pub sent_bytes : AnAttempt → List ℕ
sent_bytes (token.Setup to bytes) = bytes
sent_bytes (token.Out to toggle bytes) = bytes.items
sent_bytes (token.In to) = []

-- whether they go in DATA1; setup data go in DATA0 (8.5.3)
abbrev pub is_one : Toggle → Bool
is_one Zero = false
is_one One = true

abbrev pub sends_one : AnAttempt → Bool
sends_one (token.Setup to bytes) = false
sends_one (token.Out to toggle bytes) = is_one toggle
sends_one (token.In to) = false

abbrev pub flag : Bool → ℕ → ℕ
flag true bit = bit
flag false bit = 0

-- low speed, PRE (8.6.5), DATA1
abbrev pub flags_by : Speed → Bool → ℕ
flags_by speed one =
    flag (speed_is_low speed) 1 + flag (speed_has_pre speed) 2 + flag one 4

abbrev pub attempt_flags : AnAttempt → ℕ
attempt_flags a = flags_by (destination_of a).speed (sends_one a)

-- eight bytes, then data, and zeros up to 72
abbrev pub question_record : List ℕ → List ℕ → List ℕ
question_record head sent = head ++ sent ++ replicate (64 - length sent) 0

abbrev pub attempt_head : AnAttempt → List ℕ
attempt_head a =
    token_number a ∷ (destination_of a).address ∷ (destination_of a).number
    ∷ attempt_flags a ∷ (destination_of a).max
    ∷ length (sent_bytes a) ∷ 0 ∷ 0 ∷ []

-- a row of INs: the toggle of its first packet, and the most packets
abbrev pub row_head : Destination → Toggle → ℕ → List ℕ
row_head to toggle most =
    7 ∷ to.address ∷ to.number ∷ flags_by to.speed (is_one toggle) ∷ to.max ∷ 0 ∷ most ∷ 0 ∷ []

-- a head of a kind and two numbers
abbrev pub call_head : ℕ → ℕ → ℕ → List ℕ
call_head kind first second = kind ∷ first ∷ second ∷ 0 ∷ 0 ∷ 0 ∷ 0 ∷ 0 ∷ []

abbrev pub question_bytes : Question → List ℕ
question_bytes (Attempt a) = question_record (attempt_head a) (sent_bytes a)
question_bytes (Set port feature) = question_record (call_head 4 port feature) []
question_bytes (Clear port feature) = question_record (call_head 5 port feature) []
question_bytes (Restart address endpoint) = question_record (call_head 6 address endpoint) []
question_bytes (Ins to toggle most) = question_record (row_head to toggle most) []

-- an answer to it has no more data than the endpoint's maximum packet (8.7.4); what comes of any
-- other question is not read
abbrev pub FitsQuestion : Question → Outcome → Type 0
FitsQuestion (Attempt a) outcome = FitsMaximum (destination_of a).max outcome
FitsQuestion (Ins to toggle most) outcome = FitsMaximum to.max outcome
FitsQuestion other outcome = ⊤
