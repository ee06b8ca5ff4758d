-- A bus of what was heard: what it asks, and what it hears.
use Rattle.std.specs.Prelude.{◌≡◌, ℕ, ◌+◌, ◌-◌, ◌≤◌, List, [], length, Bool, true, false}
use Rattle.std.specs.Prelude.{Option, Some, None, slice_get, slice_index_or, Result, Ok}
use Rattle.std.specs.Prelude.{Err, nat_lt, if◌then◌else◌}
use Rattle.usb_bus.specs.{IsDestination}
use Rattle.usb_device.specs.{new_ports}
use Rattle.usb_port.specs.{IsClearFeature, IsSetFeature}
use Rattle.usb_request.specs.{DIRECTION_IN, is_endpoint_address}
use Rattle.usb_world.specs.{BusFault, IsAttempt, Outcome, World, attempt_data, destination_of}
use Rattle.usb_world.specs.{no_losses}
use Rattle.usb_world.specs.declared.types.Attempt.{Attempt as AnAttempt}
use Rattle.usb_world.specs.declared.types.BusFault.TheVariants as bus
use Rattle.usb_world.specs.declared.types.Outcome.TheVariants.{Payload, Ack, Nak, Stall, Nothing}
use Rattle.usb_dialogue.specs.declared.answer.Answer.{Answer}
use Rattle.usb_dialogue.specs.declared.progress.Progress.{Progress}
use Rattle.usb_dialogue.specs.declared.question.Question.{Question}
use Rattle.usb_dialogue.specs.declared.question.Question.TheVariants.{Attempt, Set, Clear, Restart}
use Rattle.usb_dialogue.specs.declared.question.Question.TheVariants.{Ins}

-- what a controller with this number of root ports may be asked
abbrev pub IsQuestion : ℕ → Question → Type 0
IsQuestion roots (Attempt a) = IsAttempt (attempt_data a)
IsQuestion roots (Set port feature) = (1 ≤ port) × (port ≤ roots) × IsSetFeature feature
IsQuestion roots (Clear port feature) = (1 ≤ port) × (port ≤ roots) × IsClearFeature feature
IsQuestion roots (Restart address endpoint) =
    (address ≤ 127) × (is_endpoint_address endpoint ≡ true)
IsQuestion roots (Ins to toggle most) = IsDestination to × (1 ≤ most) × (most ≤ 64)

-- the attempts of one answer to it; each attempt of a row has its own
abbrev pub attempts_in : Question → ℕ
attempts_in (Attempt a) = 1
attempts_in (Set port feature) = 0
attempts_in (Clear port feature) = 0
attempts_in (Restart address endpoint) = 0
attempts_in (Ins to toggle most) = 1

-- how many attempts a question that waits is
abbrev pub pending : Option Question → ℕ
pending (Some q) = attempts_in q
pending None = 0

-- the attempts that were asked for, answered or not
abbrev pub spent_in : Progress → ℕ
spent_in p = p.attempts + pending p.asked

-- a bus that waits for an answer has failed
abbrev pub failed_by : Option Question → Option BusFault
failed_by (Some q) = Some bus.Failed
failed_by None = None

-- the next answer, unless a question waits
abbrev pub next_answer : Option Question → List Answer → ℕ → Option Answer
next_answer (Some q) answers used = None
next_answer None answers used = slice_get answers used

abbrev pub answer_for : List Answer → Progress → Option Answer
answer_for answers p = next_answer p.asked answers p.used

-- the first question that finds no answer waits
abbrev pub waits : Option Question → Question → Option Question
waits (Some q) question = Some q
waits None question = Some question

-- an answer is used, and the root ports show what came with it
abbrev pub with_answer : Option Answer → Question → Progress → Progress
with_answer (Some a) q p = record {
  used = p.used + 1;
  statuses = a.statuses;
  attempts = p.attempts + attempts_in q;
  asked = None;
}
with_answer None q p = record p { asked = waits p.asked q }

-- a question is asked: it takes the next answer, or waits; after one that waits nothing is asked
abbrev pub asked_on : List Answer → Progress → Question → Progress
asked_on answers p q = with_answer (answer_for answers p) q p

-- more data than the endpoint's maximum packet are none (8.7.4)
abbrev pub within : ℕ → Outcome → Outcome
within most (Payload toggle bytes) =
    if nat_lt most (length bytes.items) then Nothing else Payload toggle bytes
within most Ack = Ack
within most Nak = Nak
within most Stall = Stall
within most Nothing = Nothing

-- what an attempt gives
abbrev pub outcome_by : ℕ → Option Answer → Result Outcome BusFault
outcome_by most (Some a) = Ok (within most a.outcome)
outcome_by most None = Err bus.Failed

abbrev pub attempt_gives : List Answer → Progress → AnAttempt → Result Outcome BusFault
attempt_gives answers p a = outcome_by (destination_of a).max (answer_for answers p)

-- nothing was asked yet
abbrev pub begun_at : List (List ℕ) → Progress
begun_at statuses = record { used = 0; statuses = statuses; attempts = 0; asked = None }

-- so a call goes: what it asks takes the answers in their order, each once
pub data Hears (roots : ℕ) (begun : List (List ℕ)) (answers : List Answer) : Progress → Type 0 where
  begins : Hears roots begun answers (begun_at begun)
  asks : {p : Progress} (q : Question) → Hears roots begun answers p → IsQuestion roots q
      → Hears roots begun answers (asked_on answers p q)

-- what a root port shows
abbrev pub status_shown : List (List ℕ) → ℕ → List ℕ
status_shown statuses port = slice_index_or statuses (port - 1) []

-- bEndpointAddress (9.6.6)
abbrev pub endpoint_of : ℕ → Bool → ℕ
endpoint_of number true = number + DIRECTION_IN
endpoint_of number false = number

abbrev pub restart_of : ℕ → ℕ → Bool → Question
restart_of address number is_in = Restart address (endpoint_of number is_in)

-- the world of a bus that has none
pub no_world : World
no_world = record {
  roots = new_ports 0;
  devices = [];
  left = [];
  taken = 0;
  attempts = 0;
  attempts_then = 0;
  limit = 0;
  damages = [];
  losses = no_losses;
  shared = false;
  fault = None;
}
