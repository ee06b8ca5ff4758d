-- A row of INs over what was heard: what it asks, and what comes of it.
use Rattle.std.specs.Prelude.{◌≡◌, ℕ, ◌+◌, ◌-◌, ◌<◌, List, [], ◌++◌, length, false, Ok, Err}
use Rattle.usb_bus.specs.{RowDone, RowEnd, Answered, Faulted, Whole, is_full}
use Rattle.usb_packet.specs.{Toggle, flips}
use Rattle.usb_world.specs.{Destination}
use Rattle.usb_world.specs.declared.types.Attempt.TheVariants.{In}
use Rattle.usb_world.specs.declared.types.Outcome.TheVariants.{Payload}
use Rattle.usb_dialogue.specs.Hearing.{asked_on, attempt_gives}
use Rattle.usb_dialogue.specs.declared.answer.Answer.{Answer}
use Rattle.usb_dialogue.specs.declared.progress.Progress.{Progress}
use Rattle.usb_dialogue.specs.declared.question.Question.TheVariants.{Ins}

-- the next attempt of a row asks for all that is left of it, from the toggle that is due
abbrev pub row_asked : List Answer → Destination → Toggle → ℕ → ℕ → Progress → Progress
row_asked answers to first most moved p =
    asked_on answers p (Ins to (flips moved first) (most - moved))

-- this number of attempts were each answered by a full packet of the toggle that was due; these
-- bytes came
pub data FullHeard (answers : List Answer) (to : Destination) (first : Toggle) (most : ℕ)
    (old : Progress) : ℕ → List ℕ → Progress → Type 0 where
  none_heard : FullHeard answers to first most old 0 [] old
  one_heard : {n : ℕ} {got : List ℕ} {p : Progress} (bytes : List ℕ)
      → FullHeard answers to first most old n got p
      → attempt_gives answers p (In to) ≡ Ok (Payload (flips n first) (record { items = bytes }))
      → length bytes ≡ to.max
      → FullHeard answers to first most old (n + 1) (got ++ bytes)
      (row_asked answers to first most n p)

-- what ended the row: nothing, or its next attempt, which gave no such packet
abbrev pub EndsHeard : List Answer → Destination → Toggle → ℕ → ℕ → RowEnd → Progress → Progress
    → Type 0
EndsHeard answers to first most moved Whole old new = (moved ≡ most) × (new ≡ old)
EndsHeard answers to first most moved (Answered outcome) old new = (moved < most)
    × (is_full to.max (flips moved first) outcome ≡ false)
    × (attempt_gives answers old (In to) ≡ Ok outcome)
    × (new ≡ row_asked answers to first most moved old)
EndsHeard answers to first most moved (Faulted fault) old new = (moved < most)
    × (attempt_gives answers old (In to) ≡ Err fault)
    × (new ≡ row_asked answers to first most moved old)

-- so a row goes: each packet is one answer that was heard
pub record HearsIns (answers : List Answer) (to : Destination) (first : Toggle) (most : ℕ)
    (old : Progress) (done : RowDone) (got : List ℕ) (new : Progress) : Type 0 where
  pub mid : Progress
  pub came : FullHeard answers to first most old done.moved got mid
  pub ends : EndsHeard answers to first most done.moved done.end mid new
