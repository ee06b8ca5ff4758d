-- What went between two states of a bus: the steps of its world, and the text that they wrote.
use Rattle.std.specs.Prelude.{◌≡◌, ◌≤◌, ◌+◌, ℕ, List, Option, None, Some, Result, Err, OnOk, IfOk}
use Rattle.std.specs.Prelude.{IsSome}
use Rattle.usb_port.specs.{PortCall}
use Rattle.usb_world.specs.{Attempt, BusFault, Limit, Memory, Failed, Outcome, World}
use Rattle.usb_world.specs.{IsAttempt, Attempted, AttemptsWithin, AttemptFails, TookEvent, after}
use Rattle.usb_world.specs.{attempt, event, outcome_in, root_call}
use Rattle.usb_world.specs.declared.event.Ask.{Ask}
use Rattle.usb_bus.specs.Lines.{lines_between, next_due, step_lines}
use Rattle.usb_bus.specs.Written.{WritesText}

-- an attempt was made, or the bus gave it up: what is so of the world then, what the host got, and
-- what was written
pub record Attempts (a : Attempt) (old : World) (before : Option (List ℕ))
    (result : Result Outcome BusFault) (new : World) (now : Option (List ℕ)) : Type 0 where
  pub counts : Attempted a old result new
  pub exact : OnOk result (new ≡ after (attempt a) old)
  pub outcome : IfOk result (λ outcome. outcome ≡ outcome_in a old)
  pub fails : old.fault ≡ None → AttemptFails a old result new
  pub text : WritesText result before now (step_lines a old new)

-- the next event came at once, or the bus told its fault: what is so of the world then, and what
-- was written
pub record TakesEvent (old : World) (before : Option (List ℕ))
    (result : Result (Option (Option Ask)) BusFault) (new : World) (now : Option (List ℕ)) : Type 0
  where
    pub took : TookEvent old result new
    pub asked : IfOk result (λ due. due ≡ next_due old)
    pub exact : OnOk result (new ≡ after event old)
    pub kept : result ≡ Err Memory → old.fault ≡ None → new ≡ record old { fault = Some Memory }
    pub cut : result ≡ Err Failed → old.fault ≡ None
        → new ≡ record (after event old) { fault = Some Failed }
    pub limit : result ≡ Err Limit → IsSome old.fault
    pub text : WritesText result before now (lines_between old new)

-- attempts and root calls, one after the other, and no line but theirs was written
pub data Traced (old : World) (before : Option (List ℕ)) : World → Option (List ℕ) → Type 0 where
  still : Traced old before old before
  attempted : {w v : World} {t s : Option (List ℕ)} (a : Attempt) (result : Result Outcome BusFault)
      → IsAttempt a → Traced old before w t → Attempts a w t result v s → Traced old before v s
  called : {w : World} {t : Option (List ℕ)} (c : PortCall) (port : ℕ) → Traced old before w t
      → Traced old before (after (root_call c port) w) t

-- at most n attempts were made, and what was written is the text of the steps
pub record StepRun (n : ℕ) (old : World) (before : Option (List ℕ)) (new : World)
    (now : Option (List ℕ)) : Type 0 where
  pub spends : AttemptsWithin n old new
  pub traced : Traced old before new now

abbrev pub Steps : {S : Type 0} → (S → World) → (S → Option (List ℕ)) → ℕ → S → S → Type 0
Steps world trace n old new = StepRun n (world old) (trace old) (world new) (trace new)

-- over any bus, modelled or not: at most n attempts were made, and the root ports are as many
abbrev pub Spends : {S : Type 0} → (S → ℕ) → (S → ℕ) → ℕ → S → S → Type 0
Spends spent ports n old new = (spent new ≤ spent old + n) × (ports new ≡ ports old)
