-- The attempts of a transaction: as a course of the world, what they keep of it, and over which
-- damages errors run.
use Rattle.std.proofs.Common.{◌≡◌, ◌≢◌, ℕ, zero, suc, ◌+◌, ◌<◌, ◌≤◌, List, [], ◌∷◌, false, Option}
use Rattle.std.proofs.Common.{None, Some, Result, Ok, Err, refl, ◌∙◌, arith}
use Rattle.usb_packet.specs.{Toggle}
use Rattle.usb_world.specs.{Damage, Attempt, BusFault, Outcome, damage_of, World, Made, Step}
use Rattle.usb_world.specs.{attempt, after, outcome_in, damage_in, Course, here, IsSettled}
use Rattle.usb_world.proofs.Interface.{course_then, cut_or_same, made_damages, made_unshared}
use Rattle.usb_world.proofs.Interface.{settled_course}
use Rattle.usb_transfer.specs.{HeardOutcome, Lost, TransFault, Bus, IsOnly, TransactionAttempts}
use Rattle.usb_transfer.specs.{NoThreeDamaged, IsNotOfBus, AttemptLog, start, next, errors_with}
use Rattle.usb_transfer.specs.{errors_running, waits_in, IsNoEnd, KeepsTrying, TransactionDone}
use Rattle.usb_transfer.specs.{BusFailed, Transacted, Polled}

-- A trail is a course of steps each of which is the attempt

pub trail_course : {K : Step → World → Type 0} {a : Attempt} {old new : World}
    {outcomes : List Outcome} → ((w : World) → Made w (after (attempt a) w) → K (attempt a) w)
    → AttemptLog a old outcomes new → Course K old new
trail_course {K} {a} {old} each start = here old
trail_course {K} {a} each (next w t made) =
    course_then (attempt a) (trail_course each t) (each w made)

pub only_course : (a : Attempt) (outcomes : List Outcome) (old new : World)
    → AttemptLog a old outcomes new → Course (IsOnly a) old new
only_course a outcomes old new r = trail_course (λ w made. refl) r

pub trail_settled : {a : Attempt} {old new : World} {outcomes : List Outcome}
    → AttemptLog a old outcomes new → IsSettled old.roots → IsSettled new.roots
trail_settled t = grind (arith, only_course, settled_course)

-- no two reachable devices held one address before it
pub trail_unshared : {a : Attempt} {old new : World} {outcomes : List Outcome}
    → AttemptLog a old outcomes new → new.shared ≡ false → old.shared ≡ false
trail_unshared start h = h
trail_unshared {a} (next w t made) h = trail_unshared t (made_unshared a w made h).before

pub trail_damages : {a : Attempt} {old new : World} {outcomes : List Outcome}
    → AttemptLog a old outcomes new → new.damages ≡ old.damages
trail_damages start = refl
trail_damages {a} (next w t made) = made_damages a w made ∙ trail_damages t

-- Transactions: they went on to an end, or the bus gave up

pub as_transacted : {hear : Outcome → HeardOutcome} {a : Attempt} {old new : World}
    (result : Result (List ℕ) TransFault) → TransactionDone hear a old result new
    → Transacted hear a old result new
as_transacted result e = grind arith

pub ended_of : {hear : Outcome → HeardOutcome} {a : Attempt} {old new : World}
    (result : Result (List ℕ) TransFault) → Transacted hear a old result new → IsNotOfBus result
    → TransactionDone hear a old result new
ended_of result x n = grind arith

pub transacted_unshared : (hear : Outcome → HeardOutcome) (a : Attempt) (old new : World)
    (result : Result (List ℕ) TransFault) → Transacted hear a old result new → IsSettled old.roots
    → new.shared ≡ false → old.shared ≡ false
transacted_unshared hear a old new result x settled single =
    grind (arith, cut_or_same, trail_settled, trail_unshared)

module _ {A : Type 0} (a : Attempt) (old new : World) where
  -- where the bus did not give up
  ended_attempts : (result : Result A TransFault)
      → ((fault : BusFault) → result ≡ Err (Bus fault) → ⊥) → {outcomes : List Outcome}
      → AttemptLog a old outcomes new → TransactionAttempts (IsOnly a) old result new
  ended_attempts result sound t = grind (arith, only_course)

  -- and where it did
  cut_attempts : {hear : Outcome → HeardOutcome} (fault : BusFault) → BusFailed hear a old fault new
      → TransactionAttempts {A = A} (IsOnly a) old (Err (Bus fault)) new
  cut_attempts fault x = grind (arith, only_course)

pub transacted_attempts : (hear : Outcome → HeardOutcome) (a : Attempt)
    (result : Result (List ℕ) TransFault) (old new : World) → Transacted hear a old result new
    → TransactionAttempts (IsOnly a) old result new
transacted_attempts hear a (Err (Bus fault)) old new x = cut_attempts a old new fault x
transacted_attempts hear a result old new x = grind (arith, ended_attempts)

pub polled_attempts : (toggle : Toggle) (a : Attempt) (result : Result (Option (List ℕ)) TransFault)
    (old new : World) → Polled toggle a old result new
    → TransactionAttempts (IsOnly a) old result new
polled_attempts toggle a (Err (Bus fault)) old new x = cut_attempts a old new fault x
polled_attempts toggle a (Ok None) old new x = grind (arith, ended_attempts)
polled_attempts toggle a (Ok (Some bytes)) old new x = grind (arith, ended_attempts)
polled_attempts toggle a result old new x = grind (arith, ended_attempts)

-- attempts over which a transaction goes on have fewer waits than end it
pub few_waits : (hear : Outcome → HeardOutcome) (outcomes : List Outcome)
    → KeepsTrying hear outcomes → waits_in hear outcomes < 256
unfolding KeepsTrying waits_in
few_waits hear [] g = omega arith
few_waits hear (o ∷ outcomes) g = g.2

-- the last of too many waits, and of three errors, ends none
pub last_waited : (hear : Outcome → HeardOutcome) (o : Outcome) (outcomes : List Outcome)
    → KeepsTrying hear outcomes → waits_in hear (o ∷ outcomes) ≡ 256 → IsNoEnd (hear o)
unfolding waits_in
last_waited hear o outcomes g e = grind (arith, few_waits)

pub last_erred : (hear : Outcome → HeardOutcome) (o : Outcome) (outcomes : List Outcome)
    → errors_running hear (o ∷ outcomes) ≡ 3 → IsNoEnd (hear o)
unfolding errors_running
last_erred hear o outcomes e = grind arith

-- Damaged attempts running

-- the last n of this many attempts were damaged
pub record LostRun (damages : List Damage) (n attempts : ℕ) : Type 0 where
  pub enough : n ≤ attempts
  pub each : (m k : ℕ) → m + k ≡ attempts → k < n → damage_of damages m ≢ None

pub lost_run_none : (damages : List Damage) (attempts : ℕ) → LostRun damages 0 attempts
lost_run_none damages attempts = grind arith

-- there are at most two
pub run_short : (old : World) (n attempts : ℕ) → NoThreeDamaged old → LostRun old.damages n attempts
    → n < 3
run_short old (suc (suc (suc n))) (suc (suc m)) never r =
    absurd (never m (r.each m 2 (omega arith) (omega arith))
    (r.each (m + 1) 1 (omega arith) (omega arith)) (r.each (m + 2) 0 (omega arith) (omega arith)))
run_short old n attempts never r = omega (arith, r.enough)

module _ {a : Attempt} {old w : World} {outcomes : List Outcome} (t : AttemptLog a old outcomes w)
    (made : Made w (after (attempt a) w)) where
  -- a damaged attempt more, whatever came of it
  pub damaged_more : (n : ℕ) → damage_in w ≢ None → LostRun old.damages n w.attempts
      → LostRun old.damages (n + 1) (after (attempt a) w).attempts
  damaged_more n d r = record { enough = omega (arith, r.enough, made.one); each = each_one }
    where
      each_one : (m k : ℕ) → m + k ≡ (after (attempt a) w).attempts → k < n + 1
          → damage_of old.damages m ≢ None
      each_one m zero e lt = grind (arith, trail_damages)
      each_one m (suc k) e lt = r.each m k (omega (arith, e, made.one)) (omega (arith, lt))

  -- errors run only over damaged attempts, where no attempt that is not damaged is one
  pub lost_more : (hear : Outcome → HeardOutcome)
      → (damage_in w ≡ None → hear (outcome_in a w) ≢ Lost)
      → LostRun old.damages (errors_running hear outcomes) w.attempts
      → LostRun old.damages (errors_running hear (outcome_in a w ∷ outcomes))
      (after (attempt a) w).attempts
  unfolding errors_running
  lost_more hear c r = by_heard (hear (outcome_in a w)) c
    where
      by_heard : (h : HeardOutcome) → (damage_in w ≡ None → h ≢ Lost)
          → LostRun old.damages (errors_with h (errors_running hear outcomes))
          (after (attempt a) w).attempts
      by_heard Lost c = search damaged_more
      by_heard h c = grind (arith, lost_run_none)
