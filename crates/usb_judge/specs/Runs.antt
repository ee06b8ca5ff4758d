-- A run: the attempts that a host has made, the newest first, and what it says of an endpoint.
use Rattle.std.specs.Prelude.{◌≡◌, ℕ, ◌==◌, ◌&&◌, if◌then◌else◌, List, [], ◌∷◌, Bool, false}
use Rattle.std.specs.Prelude.{Option, None, Some, option_map}
use Rattle.std.specs.List.{list_any}
use Rattle.usb_packet.specs.{Toggle}
use Rattle.usb_world.specs.{Outcome}
use Rattle.usb_world.specs.declared.types.Attempt.{Attempt}
use Rattle.usb_world.specs.declared.types.Attempt.TheVariants.{Setup, Out, In}
use Rattle.usb_world.specs.declared.types.Outcome.TheVariants as outcome
use Rattle.usb_judge.specs.declared.outs.Unanswered.{Unanswered}
use Rattle.usb_judge.specs.Answers.{after_attempt, is_of, left_by}

-- an attempt, and what the host got
pub record Made : Type 0 where
  pub attempt : Attempt
  pub outcome : Outcome

-- what is kept after a run
abbrev pub left_after : List Made → List Unanswered
left_after [] = []
left_after (m ∷ run) = after_attempt (left_after run) m.attempt m.outcome

-- What a run says of an endpoint: nothing if it left no packet without an answer, or has
-- acknowledged one since. Else the toggle of the last packet without one, if that was an OUT and no
-- SETUP went to the address since.

abbrev pub after_setup : ℕ → Attempt → Option (Option Toggle) → Option (Option Toggle)
after_setup address (Setup to bytes) said =
    if to.address == address then option_map (λ toggle. None) said else said
after_setup address (Out to toggle bytes) said = said
after_setup address (In to) said = said

abbrev pub after_got : Option Toggle → Outcome → Option (Option Toggle) → Option (Option Toggle)
after_got toggle outcome.Nothing said = Some toggle
after_got toggle outcome.Ack said = None
after_got toggle other said = said

abbrev pub after_packet : ℕ → ℕ → Option Unanswered → Outcome → Option (Option Toggle)
    → Option (Option Toggle)
after_packet address number None o said = said
after_packet address number (Some u) o said =
    if is_of address number u then after_got u.toggle o said else said

abbrev pub said_at : ℕ → ℕ → List Made → Option (Option Toggle)
said_at address number [] = None
said_at address number (m ∷ run) = after_packet address number (left_by m.attempt) m.outcome
    (after_setup address m.attempt (said_at address number run))

-- That is what is kept of it

abbrev pub is_with : ℕ → ℕ → (Option Toggle → Bool) → Unanswered → Bool
is_with address number test u = is_of address number u && test u.toggle

abbrev pub passes : (Option Toggle → Bool) → Option (Option Toggle) → Bool
passes test None = false
passes test (Some toggle) = test toggle

-- whatever is asked of the toggle
abbrev pub Keeps : List Unanswered → ℕ → ℕ → Option (Option Toggle) → Type 0
Keeps left address number said = (test : Option Toggle → Bool)
    → list_any (is_with address number test) left ≡ passes test said
