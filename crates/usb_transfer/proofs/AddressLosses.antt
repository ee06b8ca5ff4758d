-- Address losses over a transaction, seen from the device at the target's address.
use Rattle.usb_device.specs.{Location, Stage, ending, State, ends_with_address}
use Rattle.std.proofs.Common.{arith, ◌≡◌, ◌≢◌, ℕ, true, false, List, [], Some, Result, Ok, Err}
use Rattle.std.proofs.Common.{refl, ◌∙◌}
use Rattle.usb_packet.specs.{Toggle, One}
use Rattle.usb_request.specs.{setup_of}
use Rattle.usb_world.specs.{Attempt, Outcome, TookOrLost, IsMade, World, attempt, after, outcome_in}
use Rattle.usb_world.specs.{Relation, EachWas, IsSettled}
use Rattle.usb_world.specs.declared.types.Outcome.TheVariants.{Payload}
use Rattle.usb_world.proofs.Interface.{CountsNone, Counts, EndsWithAddress, StaysEndless, brings}
use Rattle.usb_world.proofs.Interface.{each_counts, got_it, got_none, in_counts, made_of}
use Rattle.usb_world.proofs.Interface.{out_counts, set_up_counts, false_true, not-true}
use Rattle.usb_transfer.specs.{Target, TransFault, heard_as, is_at, begins_no_stretch, LossesIn}
use Rattle.usb_transfer.specs.{LosesNone, AttemptLog, start, next, IsNoEnd, LastOutcome}
use Rattle.usb_transfer.specs.{TransactionDone, packed, setup_attempt, in_attempt, out_attempt}
use Rattle.usb_transfer.proofs.DeviceRuns.{Any, EachIf, IsEnd, RunThrough, at_end, at_from}
use Rattle.usb_transfer.proofs.DeviceRuns.{each_device, over_last, tells_end}
use Rattle.usb_transfer.proofs.LastOutcomes.{read_last}
use Rattle.usb_transfer.proofs.Trails.{trail_settled}

-- Attempts that count nothing

trail_counts : {a : Attempt} {old new : World} {outcomes : List Outcome}
    → ((w : World) → IsMade a w → CountsNone a w) → IsSettled old.roots
    → AttemptLog a old outcomes new → new.losses ≡ old.losses
trail_counts each settled start = refl
trail_counts {a} each settled (next w t made) = each w (made_of a w (trail_settled t settled) made)
    ∙ trail_counts each settled t

pub set_up_losses : (t : Target) (bytes : List ℕ) (old new : World) {outcomes : List Outcome}
    → begins_no_stretch (setup_of bytes) ≡ true → IsSettled old.roots
    → AttemptLog (setup_attempt t bytes) old outcomes new → new.losses ≡ old.losses
set_up_losses t bytes old new h h1 h2 = grind (arith, not-true, set_up_counts, trail_counts)

pub out_losses : (t : Target) (ep : ℕ) (toggle : Toggle) (bytes : List ℕ) (old new : World)
    {outcomes : List Outcome} → IsSettled old.roots
    → AttemptLog (out_attempt t ep toggle bytes) old outcomes new → new.losses ≡ old.losses
out_losses t ep toggle bytes old new h h1 = grind (arith, out_counts, trail_counts)

pub other_losses : (t : Target) (ep : ℕ) (old new : World) {outcomes : List Outcome} → ep ≢ 0
    → IsSettled old.roots → AttemptLog (in_attempt t ep) old outcomes new → new.losses ≡ old.losses
other_losses t ep old new other h h1 = grind (arith, in_counts, trail_counts)

-- IN of endpoint 0

abbrev Did : Target → World → Relation
Did t w j s v = is_at s t ≡ true → Counts (in_attempt t 0) w s v

module _ (t : Target) (old : World) (settled : IsSettled old.roots) {new : World}
    (single : new.shared ≡ false) where
  -- each device at the target's address over it
  over : {hear : _} (Last : Outcome → List Outcome → Type 0)
      → {result : Result (List ℕ) TransFault} (e : TransactionDone hear (in_attempt t 0) old result
      new) → Last e.last e.outcomes → EachIf Any
      (RunThrough (Did t) (in_attempt t 0) hear Last ⊥ old new) old new
  over {hear} Last e is =
      over_last {a = in_attempt t 0} (record {
        Did = Did t;
        Of = Any;
        back = λ w j u v d h. tt;
        does = λ w m u j v on there h. each_counts (in_attempt t 0) w m
            (grind arith) refl u j v on there;
      }) old settled hear Last ⊥ single e.trail e.onward is

module _ (t : Target) {hear : _} {Last : Outcome → List Outcome → Type 0} {old new : World}
    {j : Location} {s v : State} (x : RunThrough (Did t) (in_attempt t 0) hear Last ⊥ old new j s v)
    (at : is_at s t ≡ true) where
  -- a device that is to take no address loses none
  none_lost : ((n : ℕ) → s.stage ≢ ending (Some n)) → new.losses ≡ old.losses
  none_lost f =
      at_end hear (λ outcomes w u. StaysEndless s u × (w.losses ≡ old.losses))
      ((endless s.stage f, refl), refl) (grind (arith, at_from)) (λ y. new.losses ≡ old.losses) v
      (grind (arith, at_from)) (grind arith)
      x
    where
      endless : (g : Stage) → ((n : ℕ) → g ≢ ending (Some n)) → ends_with_address g ≡ false
      endless (ending (Some n)) f = absurd (f n refl)
      endless g f = refl

abbrev Answers : Result (List ℕ) TransFault → Outcome → List Outcome → Type 0
Answers result o outcomes = IsEnd (heard_as One) result o outcomes
    × LastOutcome (heard_as One) result o outcomes

-- one that is to take one does so or loses it where the host gets its packet
module _ (t : Target) (result : Result (List ℕ) TransFault) {old new : World} {j : Location}
    {s v : State} (x : RunThrough (Did t) (in_attempt t 0) (heard_as One) (Answers result) ⊥ old new
    j s v) (at : is_at s t ≡ true)
    (n : ℕ) (stage : s.stage ≡ ending (Some n)) where
  abbrev a : Attempt
  a = in_attempt t 0

  abbrev Stays : World → State → Type 0
  Stays w u = (u.stage ≡ s.stage) × (u.registers ≡ s.registers) × (w.losses ≡ old.losses)

  abbrev Fits : State → Type 0
  Fits y = ((bytes : List ℕ) → result ≡ Ok bytes → TookOrLost n old new s y)
      × ((fault : TransFault) → result ≡ Err fault → new.losses ≡ old.losses)

  stays_on : (w : World) (u y : State) → Stays w u → EndsWithAddress a w n u y
      → IsNoEnd (heard_as One (outcome_in a w)) → Stays (after (attempt a) w) y
  stays_on w u y i h c = grind (arith, got_it, got_none)

  took_from : (w : World) (u : State) → Stays w u → new ≡ after (attempt a) w
      → TookOrLost n w (after (attempt a) w) u v → TookOrLost n old new s v
  took_from w u i e h = grind arith

  unended : (fault : TransFault) (outcomes : List Outcome)
      → Answers (Err fault) (Payload One (packed [])) outcomes → ⊥
  unended fault outcomes c = grind arith

  fits : (outcomes : List Outcome) (w : World) (u : State) → Stays w u → EndsWithAddress a w n u v
      → Answers result (outcome_in a w) outcomes → new ≡ after (attempt a) w → Fits v
  fits outcomes w u i h c is =
      grind (arith, brings, false_true, got_it, got_none, read_last, took_from, unended)

  ends_lost : Fits v
  ends_lost =
      at_end (heard_as One) (λ outcomes w u. Stays w u) (refl, refl, refl)
      (grind (arith, at_from, stays_on)) Fits v
      (grind (arith, at_from, fits)) (grind arith) x

pub in_losses : (t : Target) (result : Result (List ℕ) TransFault) (old new : World)
    → IsSettled old.roots → TransactionDone (heard_as One) (in_attempt t 0) old result new
    → new.shared ≡ false → EachWas (LossesIn t result old new) old new
in_losses t result old new settled e single =
    each_device old new
    (λ j s v x. record {
      done = λ at n stage. (ends_lost t result x at n stage).0;
      failed = λ at n stage. (ends_lost t result x at n stage).1;
      none = none_lost t x;
    })
    (over t old settled single (Answers result) e (
      tells_end (heard_as One) result e.last e.outcomes e.onward e.tells,
      e.tells,
    ))

-- in a read a device that is to take no address loses none
pub read_losses : (t : Target) (awaited : Toggle) (result : Result (List ℕ) TransFault)
    (old new : World) → IsSettled old.roots
    → TransactionDone (heard_as awaited) (in_attempt t 0) old result new → new.shared ≡ false
    → EachWas (LosesNone t old new) old new
read_losses t awaited result old new settled e single =
    each_device old new (λ j s v x. none_lost t x) (over t old settled single (λ o outcomes. Unit
    {0}) e tt)
