-- What a transaction attempted, what the host got of it, and what each answer says of that (8.5,
-- 8.6).
use Rattle.std.specs.Prelude.{◌≡◌, ℕ, ◌+◌, ◌<◌, List, [], ◌∷◌, Option, Some, None, Result, Ok, Err}
use Rattle.std.specs.Prelude.{⊤}
use Rattle.usb_world.specs.{Attempt, BusFault, Outcome, World, Made, Attempted, IsAttempt, attempt}
use Rattle.usb_world.specs.{after, outcome_in, AttemptFails}
use Rattle.usb_world.specs.declared.types.Outcome.TheVariants.{Nak, Stall}
use Rattle.usb_packet.specs.{Toggle}
use Rattle.usb_transfer.specs.declared.heard_outcome.HeardOutcome.{HeardOutcome}
use Rattle.usb_transfer.specs.declared.heard_outcome.HeardOutcome.TheVariants.{Moved, NotReady}
use Rattle.usb_transfer.specs.declared.heard_outcome.HeardOutcome.TheVariants.{Repeat, Refused}
use Rattle.usb_transfer.specs.declared.heard_outcome.HeardOutcome.TheVariants.{Lost}
use Rattle.usb_transfer.specs.declared.trans_fault.TransFault.{TransFault}
use Rattle.usb_transfer.specs.declared.trans_fault.TransFault.TheVariants.{Stalled, Busy, NoAnswer}
use Rattle.usb_transfer.specs.declared.trans_fault.TransFault.TheVariants.{Bus}
use Rattle.usb_transfer.specs.HeardOutcomes.{polled_as}
use Rattle.usb_transfer.specs.Transactions.{packed, error_limit, wait_limit}

-- the same attempt was made again and again, and this is what the host got, the last of it first
pub data AttemptLog (a : Attempt) (old : World) : List Outcome → World → Type 0 where
  start : AttemptLog a old [] old
  next : {outcomes : List Outcome} (w : World) → AttemptLog a old outcomes w
      → Made w (after (attempt a) w) → AttemptLog a old (outcome_in a w ∷ outcomes)
      (after (attempt a) w)

-- an error is one more of those running; anything else ends their row
abbrev pub errors_with : HeardOutcome → ℕ → ℕ
errors_with (Moved bytes) n = 0
errors_with NotReady n = 0
errors_with Repeat n = 0
errors_with Refused n = 0
errors_with Lost n = n + 1

-- a NAK and a repeat are one wait more
abbrev pub waits_with : HeardOutcome → ℕ → ℕ
waits_with (Moved bytes) n = n
waits_with NotReady n = n + 1
waits_with Repeat n = n + 1
waits_with Refused n = n
waits_with Lost n = n

-- how many errors run at the end, to a host that hears outcomes as `hear` says
unfoldable pub errors_running : (Outcome → HeardOutcome) → List Outcome → ℕ
errors_running hear [] = 0
errors_running hear (o ∷ outcomes) = errors_with (hear o) (errors_running hear outcomes)

-- how many NAKs and repeats there were
unfoldable pub waits_in : (Outcome → HeardOutcome) → List Outcome → ℕ
waits_in hear [] = 0
waits_in hear (o ∷ outcomes) = waits_with (hear o) (waits_in hear outcomes)

-- neither the packet, or its acknowledgement, nor STALL
abbrev pub IsNoEnd : HeardOutcome → Type 0
IsNoEnd (Moved bytes) = ⊥
IsNoEnd NotReady = ⊤
IsNoEnd Repeat = ⊤
IsNoEnd Refused = ⊥
IsNoEnd Lost = ⊤

-- the transaction goes on over these: nothing ended it, never did too many errors run, and there
-- were fewer waits than end it
unfoldable pub KeepsTrying : (Outcome → HeardOutcome) → List Outcome → Type 0
KeepsTrying hear [] = ⊤
KeepsTrying hear (o ∷ outcomes) = IsNoEnd (hear o)
    × (errors_running hear (o ∷ outcomes) < error_limit)
    × (waits_in hear (o ∷ outcomes) < wait_limit) × KeepsTrying hear outcomes

-- what an answer says of the last outcome, and of those before it
abbrev pub LastOutcome : (Outcome → HeardOutcome) → Result (List ℕ) TransFault → Outcome
    → List Outcome → Type 0
LastOutcome hear (Ok bytes) last outcomes = hear last ≡ Moved (packed bytes)
LastOutcome hear (Err Stalled) last outcomes = last ≡ Stall
LastOutcome hear (Err Busy) last outcomes = waits_in hear (last ∷ outcomes) ≡ wait_limit
LastOutcome hear (Err NoAnswer) last outcomes = errors_running hear (last ∷ outcomes) ≡ error_limit
LastOutcome hear (Err (Bus fault)) last outcomes = ⊥

-- the transaction went on until its last outcome, which the answer tells
pub record TransactionDone (hear : Outcome → HeardOutcome) (a : Attempt) (old : World)
    (result : Result (List ℕ) TransFault) (new : World) : Type 0 where
  pub outcomes : List Outcome
  pub last : Outcome
  pub trail : AttemptLog a old (last ∷ outcomes) new
  pub onward : KeepsTrying hear outcomes
  pub tells : LastOutcome hear result last outcomes

-- it went on until the bus refused one more attempt
pub record BusFailed (hear : Outcome → HeardOutcome) (a : Attempt) (old : World) (fault : BusFault)
    (new : World) : Type 0 where
  pub outcomes : List Outcome
  pub mid : World
  pub trail : AttemptLog a old outcomes mid
  pub onward : KeepsTrying hear outcomes
  pub fits : IsAttempt a
  pub refused : Attempted a mid (Err fault) new
  pub fails : mid.fault ≡ None → AttemptFails a mid (Err fault) new

-- a transaction of one attempt that is made until an end, to a host that hears outcomes as `hear`
-- says
abbrev pub Transacted : (Outcome → HeardOutcome) → Attempt → World → Result (List ℕ) TransFault
    → World → Type 0
Transacted hear a old (Ok bytes) new = TransactionDone hear a old (Ok bytes) new
Transacted hear a old (Err Stalled) new = TransactionDone hear a old (Err Stalled) new
Transacted hear a old (Err Busy) new = TransactionDone hear a old (Err Busy) new
Transacted hear a old (Err NoAnswer) new = TransactionDone hear a old (Err NoAnswer) new
Transacted hear a old (Err (Bus fault)) new = BusFailed hear a old fault new

-- Polls: a NAK is an answer, and ends them

-- the poll went on until a NAK
pub record Waiting (toggle : Toggle) (a : Attempt) (old new : World) : Type 0 where
  pub outcomes : List Outcome
  pub trail : AttemptLog a old (Nak ∷ outcomes) new
  pub onward : KeepsTrying (polled_as toggle) outcomes

abbrev pub Polled : Toggle → Attempt → World → Result (Option (List ℕ)) TransFault → World → Type 0
Polled toggle a old (Ok None) new = Waiting toggle a old new
Polled toggle a old (Ok (Some bytes)) new = Transacted (polled_as toggle) a old (Ok bytes) new
Polled toggle a old (Err fault) new = Transacted (polled_as toggle) a old (Err fault) new
