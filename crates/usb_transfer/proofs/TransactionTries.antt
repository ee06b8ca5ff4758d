-- How a transaction goes on, try by try, how it ends, and how many attempts it makes.
use Rattle.std.proofs.Common.{◌≡◌, refl, sym, ◌∙◌, arith, ℕ, ◌+◌, ◌*◌, ◌<◌, ◌≤◌, length, List, []}
use Rattle.std.proofs.Common.{◌∷◌, true, false, Option, None, Some, Result, Ok, Err}
use Rattle.arrayvec.specs.ArrayVec.{ArrayVec}
use Rattle.usb_packet.specs.{Toggle}
use Rattle.usb_world.specs.{Attempt, BusFault, Outcome, World, AttemptsWithin, IsAttempt}
use Rattle.usb_world.specs.declared.types.Outcome.TheVariants.{Nak, Stall}
use Rattle.usb_world.proofs.Interface.{spends_none, spends_then, spends_wider}
use Rattle.usb_bus.specs.{Attempts, Traced, still, attempted, StepRun}
use Rattle.usb_transfer.specs.{HeardOutcome, Moved, Refused, Repeat, Lost, Tries, HearsAs}
use Rattle.usb_transfer.specs.{TransFault, Stalled, Busy, NoAnswer, Bus, heard_as, polled_as}
use Rattle.usb_transfer.specs.{set_up_as, acks, AttemptLog, start, next, errors_with, waits_with}
use Rattle.usb_transfer.specs.{errors_running, waits_in, IsNoEnd, KeepsTrying, LastOutcome}
use Rattle.usb_transfer.specs.{TransactionDone, BusFailed, Transacted, Waiting, Polled, packed}
use Rattle.usb_transfer.specs.{AttemptsMade, Ends, transaction_bound}
use Rattle.usb_transfer.proofs.LastOutcomes.{heard_moved}

-- One more attempt, and what the host got

trail_more : {a : Attempt} {old mid new : World} {outcomes : List Outcome} {o : Outcome}
    {before now : Option (List ℕ)} → AttemptLog a old outcomes mid
    → Attempts a mid before (Ok o) new now → AttemptLog a old (o ∷ outcomes) new
trail_more t made = rw (made.exact, made.outcome) (next _ t (grind arith))

-- It goes on: so many errors run, after so many NAKs and repeats; between the worlds lie at most
-- three attempts for each of these and one for each error running
pub record TryingOn (hear : Outcome → HeardOutcome) (a : Attempt) (errors waits : ℕ)
    (old now : World) : Type 0 where
  pub fits : IsAttempt a
  pub outcomes : List Outcome
  pub trail : AttemptLog a old outcomes now
  pub onward : KeepsTrying hear outcomes
  running : errors_running hear outcomes ≡ errors
  waited : waits_in hear outcomes ≡ waits
  pub spends : AttemptsWithin (3 * waits + errors) old now

trying_none : {hear : Outcome → HeardOutcome} {a : Attempt} (w : World) → IsAttempt a
    → TryingOn hear a 0 0 w w
unfolding errors_running waits_in KeepsTrying
trying_none w fits = record {
  fits = fits;
  outcomes = [];
  trail = start;
  onward = tt;
  running = refl;
  waited = refl;
  spends = spends_none w;
}

going_more : {hear : Outcome → HeardOutcome} {a : Attempt} {o : Outcome} {errors waits : ℕ}
    {old mid new : World} {before now : Option (List ℕ)} (e w : ℕ)
    → TryingOn hear a errors waits old mid → Attempts a mid before (Ok o) new now → IsNoEnd (hear o)
    → errors_with (hear o) errors ≡ e → waits_with (hear o) waits ≡ w → e < 3 → w < 256
    → 3 * waits + errors + 1 ≤ 3 * w + e → TryingOn hear a e w old new
unfolding errors_running waits_in KeepsTrying
going_more {hear} {a} {o} {errors} {waits} {old} {mid} {new} e w g made on x y few calm le =
    record {
      fits = g.fits;
      outcomes = o ∷ g.outcomes;
      trail = trail_more g.trail made;
      onward = grind arith;
      running = running;
      waited = waited;
      spends = grind (arith, spends_then, spends_wider);
    }
  where
    running : errors_with (hear o) (errors_running hear g.outcomes) ≡ e
    running = grind arith

    waited : waits_with (hear o) (waits_in hear g.outcomes) ≡ w
    waited = grind arith

going_cut_off : {hear : Outcome → HeardOutcome} {a : Attempt} {fault : BusFault} {errors waits : ℕ}
    {old mid new : World} {before now : Option (List ℕ)} → TryingOn hear a errors waits old mid
    → Attempts a mid before (Err fault) new now → BusFailed hear a old fault new
going_cut_off = grind arith

-- A loop of tries: how it stands, with what it wrote

pub record TryStands (hear : Outcome → HeardOutcome) (a : Attempt) (t : Tries) (old : World)
    (first : Option (List ℕ)) (now : World) (text : Option (List ℕ)) : Type 0 where
  pub few : t.errors < 3
  pub calm : t.waits < 256
  pub going : TryingOn hear a t.errors t.waits old now
  pub traced : Traced old first now text

pub stands_new : {hear : Outcome → HeardOutcome} {a : Attempt} {text : Option (List ℕ)} (t : Tries)
    (w : World) → IsAttempt a → t ≡ record { errors = 0; waits = 0 } → TryStands hear a t w text w
    text
stands_new t w fits is = rw is (record {
  few = omega arith;
  calm = omega arith;
  going = trying_none w fits;
  traced = still;
})

module _ {hear : Outcome → HeardOutcome} {a : Attempt} {t : Tries} {old mid : World}
    {first before : Option (List ℕ)} (s : TryStands hear a t old first mid before) where
  -- its last attempt
  pub went_last : {b : Attempt} {r : Result Outcome BusFault} {new : World} {now : Option (List ℕ)}
      → IsAttempt b → Attempts b mid before r new now → StepRun transaction_bound old first new now
  went_last {b} {r} {new} fits x = record {
    spends = grind (arith, spends_then, spends_wider);
    traced = attempted b r fits s.traced x;
  }

  pub told_cut : {fault : BusFault} {new : World} {now : Option (List ℕ)}
      → Attempts a mid before (Err fault) new now → Transacted hear a old (Err (Bus fault)) new
  told_cut x = going_cut_off s.going x

  module _ {o : Outcome} {new : World} {now : Option (List ℕ)}
      (made : Attempts a mid before (Ok o) new now) where
    ended : (result : Result (List ℕ) TransFault) → LastOutcome hear result o s.going.outcomes
        → TransactionDone hear a old result new
    ended result tells = grind (arith, trail_more)

    pub told_moved : (bytes : ArrayVec ℕ) → hear o ≡ Moved bytes
        → Transacted hear a old (Ok bytes.items) new
    told_moved bytes is = ended (Ok bytes.items) is

    pub told_stalled : o ≡ Stall → Transacted hear a old (Err Stalled) new
    told_stalled is = ended (Err Stalled) is

-- An outcome that is to be heard, of the last attempt of a loop of tries

pub record Pending (hear : Outcome → HeardOutcome) (a : Attempt) (t : Tries) (o : Outcome)
    (old : World) (first : Option (List ℕ)) (now : World) (text : Option (List ℕ)) : Type 0 where
  pub mid : World
  pub before : Option (List ℕ)
  pub stands : TryStands hear a t old first mid before
  pub made : Attempts a mid before (Ok o) now text

pub pending_first : {hear : Outcome → HeardOutcome} {a : Attempt} {o : Outcome} {w v : World}
    {before now : Option (List ℕ)} (t : Tries) → IsAttempt a → t ≡ record { errors = 0; waits = 0 }
    → Attempts a w before (Ok o) v now → Pending hear a t o w before v now
pending_first t fits is made = search stands_new

-- one try more is one attempt more of those that the tries allow
pub try_more : (h : HeardOutcome) (errors waits : ℕ) → IsNoEnd h → errors < 3
    → 3 * waits + errors + 1 ≤ 3 * waits_with h waits + errors_with h errors
try_more h errors waits on few = grind arith

module _ {hear : Outcome → HeardOutcome} {a : Attempt} {t : Tries} {o : Outcome} {old now : World}
    {first text : Option (List ℕ)} (p : Pending hear a t o old first now text) (u : Tries) where
  -- it ends nothing
  pub heard_on : HearsAs t (hear o) (Ok None) u → TryStands hear a u old first now text
  heard_on (on, is, few, calm) =
      let errors : errors_with (hear o) t.errors < 3 = grind arith in
      let waits : waits_with (hear o) t.waits < 256 = grind arith in
      rw is (record {
        few = errors;
        calm = waits;
        going = grind (arith, going_more, try_more);
        traced = attempted a (Ok o) p.stands.going.fits p.stands.traced p.made;
      })

  pub heard_last : StepRun transaction_bound old first now text
  heard_last = search went_last

  pub heard_packet : (bytes : ArrayVec ℕ) → HearsAs t (hear o) (Ok (Some bytes)) u
      → Transacted hear a old (Ok bytes.items) now
  heard_packet bytes x = told_moved p.stands p.made bytes x

  pub heard_fault : (fault : TransFault) → (Refused ≡ hear o → o ≡ Stall)
      → HearsAs t (hear o) (Err fault) u → Transacted hear a old (Err fault) now
  unfolding waits_in errors_running
  heard_fault Stalled stall x = told_stalled p.stands p.made (stall (sym x))
  heard_fault Busy stall x =
      ended p.stands p.made (Err Busy) (grind arith)
  heard_fault NoAnswer stall x =
      ended p.stands p.made (Err NoAnswer) (grind arith)
  heard_fault (Bus fault) stall x = absurd x

-- An outcome that was heard as an error, or as a repeat
module _ {hear : Outcome → HeardOutcome} {a : Attempt} {t : Tries} {o : Outcome} {old mid new :
    World}
    {first before now : Option (List ℕ)} (s : TryStands hear a t old first mid before)
    (made : Attempts a mid before (Ok o) new now) (u : Tries) where
  abbrev pending : Pending hear a t o old first new now
  pending = record { mid = mid; before = before; stands = s; made = made }

  module _ (lost : Lost ≡ hear o) (is : u ≡ record t { errors = t.errors + 1 }) where
    pub stands_error : u.errors < 3 → TryStands hear a u old first new now
    stands_error few = heard_on pending u (grind arith)

    pub told_silent : u.errors ≡ 3 → Transacted hear a old (Err NoAnswer) new
    told_silent third = heard_fault pending u NoAnswer (λ e. cc (lost ∙ sym e)) (grind arith)

  module _ (again : Repeat ≡ hear o) (is : u ≡ record t { errors = 0; waits = t.waits + 1 }) where
    pub stands_waited : u.waits < 256 → TryStands hear a u old first new now
    stands_waited calm = heard_on pending u (grind arith)

    pub told_busy : u.waits ≡ 256 → Transacted hear a old (Err Busy) new
    told_busy full = heard_fault pending u Busy (λ e. cc (again ∙ sym e)) (grind arith)

-- the bus gave up the first attempt
module _ {a : Attempt} {w v : World} {before now : Option (List ℕ)} (fits : IsAttempt a) where
  pub went_once : {b : Attempt} {r : Result Outcome BusFault} → IsAttempt b
      → Attempts b w before r v now → StepRun transaction_bound w before v now
  went_once sound x =
      went_last (stands_new {hear = set_up_as} (grind arith) w fits refl) sound
      x

  pub cut_at_once : {hear : Outcome → HeardOutcome} {fault : BusFault}
      → Attempts a w before (Err fault) v now → Transacted hear a w (Err (Bus fault)) v
  cut_at_once x = told_cut (stands_new (grind arith) w fits refl) x

-- a poll that a NAK ended
pub told_waiting : {toggle : Toggle} {a : Attempt} {t : Tries} {o : Outcome} {old mid new : World}
    {first before now : Option (List ℕ)} → TryStands (polled_as toggle) a t old first mid before
    → Attempts a mid before (Ok o) new now → o ≡ Nak → Waiting toggle a old new
told_waiting s made is = grind (arith, trail_more)

-- Setup data: three attempts at most

set_up_lost : (o : Outcome) → acks o ≡ false → Lost ≡ set_up_as o
set_up_lost o e = grind arith

set_up_moved : (o : Outcome) → acks o ≡ true → set_up_as o ≡ Moved (packed [])
set_up_moved o e = grind arith

-- after n attempts none of which was acknowledged
pub record SetUpStands (a : Attempt) (n : ℕ) (old : World) (first : Option (List ℕ)) (now : World)
    (text : Option (List ℕ)) : Type 0 where
  pub spends : AttemptsWithin n old now
  pub going : n < 3 → TryingOn set_up_as a n 0 old now
  pub ended : n ≡ 3 → TransactionDone set_up_as a old (Err NoAnswer) now
  pub traced : Traced old first now text

pub set_up_new : {a : Attempt} {text : Option (List ℕ)} (w : World) → IsAttempt a
    → SetUpStands a 0 w text w text
set_up_new w fits = record {
  spends = spends_none w;
  going = λ n. trying_none w fits;
  ended = grind arith;
  traced = still;
}

module _ {a : Attempt} {n : ℕ} {old mid : World} {first before : Option (List ℕ)} (few : n < 3)
    (s : SetUpStands a n old first mid before) where
  pub set_up_went : {b : Attempt} {r : Result Outcome BusFault} {new : World}
      {now : Option (List ℕ)}
      → IsAttempt b → Attempts b mid before r new now → StepRun 3 old first new now
  set_up_went {b} {r} {new} fits x = record {
    spends = grind (arith, spends_then, spends_wider);
    traced = attempted b r fits s.traced x;
  }

  set_up_ended : {o : Outcome} {new : World} {now : Option (List ℕ)}
      (result : Result (List ℕ) TransFault) → Attempts a mid before (Ok o) new now
      → LastOutcome set_up_as result o (s.going few).outcomes
      → TransactionDone set_up_as a old result new
  set_up_ended result made tells = grind (arith, trail_more)

  pub set_up_again : {o : Outcome} {new : World} {now : Option (List ℕ)}
      → Attempts a mid before (Ok o) new now → acks o ≡ false
      → SetUpStands a (n + 1) old first new now
  unfolding errors_running
  set_up_again {o} {new} made not =
      let lost : Lost ≡ set_up_as o = set_up_lost o not in
      record {
        spends = grind (arith, spends_then);
        going = grind (arith, going_more, s.going);
        ended = grind (arith, set_up_ended, s.going);
        traced = attempted a (Ok o) (s.going few).fits s.traced made;
      }

  pub set_up_told : {o : Outcome} {new : World} {now : Option (List ℕ)}
      → Attempts a mid before (Ok o) new now → acks o ≡ true
      → Transacted set_up_as a old (Ok []) new
  set_up_told made is = grind (arith, set_up_ended, set_up_moved)

  pub set_up_cut : {fault : BusFault} {new : World} {now : Option (List ℕ)}
      → Attempts a mid before (Err fault) new now → Transacted set_up_as a old (Err (Bus fault)) new
  set_up_cut x = going_cut_off (s.going few) x

-- all three
pub set_up_spent : {a : Attempt} {n : ℕ} {old now : World} {first text : Option (List ℕ)} → n ≤ 3
    → SetUpStands a n old first now text → StepRun 3 old first now text
set_up_spent = grind (arith, spends_wider)

-- How many attempts came before each answer

-- a trail is as long as its outcomes are many
record Lasted (n : ℕ) (old new : World) : Type 0 where
  least : old.attempts + n ≤ new.attempts
  sound : new.fault ≡ None → old.fault ≡ None

trail_lasted : {a : Attempt} {old new : World} {outcomes : List Outcome}
    → AttemptLog a old outcomes new → Lasted (length outcomes) old new
trail_lasted start = grind arith
trail_lasted (next w t made) = let x = trail_lasted t in grind arith

trail_worked : {a : Attempt} {old new : World} {last : Outcome} {outcomes : List Outcome} (n : ℕ)
    → n ≤ length (last ∷ outcomes) → AttemptLog a old (last ∷ outcomes) new → AttemptsMade n old new
trail_worked n le trail = grind (arith, trail_lasted)

-- an outcome is at most one error and one wait
one_each : (h : HeardOutcome) (n m k : ℕ) → n ≤ k → m ≤ k → (errors_with h n ≤ k + 1)
    × (waits_with h m ≤ k + 1)
one_each h n m k x y = (grind arith, grind arith)

fits_length : (hear : Outcome → HeardOutcome) (outcomes : List Outcome)
    → (errors_running hear outcomes ≤ length outcomes) × (waits_in hear outcomes ≤ length outcomes)
unfolding errors_running waits_in
fits_length hear [] = (omega arith, omega arith)
fits_length hear (o ∷ outcomes) = let le = fits_length hear outcomes in let one =
    one_each (hear o) _ _ (length outcomes) le.0 le.1 in grind arith

module _ (hear : Outcome → HeardOutcome) (a : Attempt) (old new : World) where
  pub ends_of : (result : Result (List ℕ) TransFault) → Transacted hear a old result new
      → Ends old result new
  ends_of (Err Busy) x = trail_worked 256 (let le = (fits_length hear (x.last ∷ x.outcomes)).1 in
      omega (arith, le, x.tells)) x.trail
  ends_of (Err NoAnswer) x = grind (arith, fits_length, trail_worked)
  ends_of (Err (Bus fault)) x = x.refused.ends
  ends_of _ x = trail_worked 1 (omega arith) x.trail

pub poll_ends : (toggle : Toggle) (a : Attempt) (old new : World)
    (result : Result (Option (List ℕ)) TransFault) → Polled toggle a old result new
    → Ends old result new
poll_ends toggle a old new (Ok None) x = trail_worked 1 (omega arith) x.trail
poll_ends toggle a old new (Ok (Some bytes)) x = search ends_of
poll_ends toggle a old new (Err fault) x = search ends_of

-- data that were read fit
pub read_fits : {a : Attempt} (toggle : Toggle) (o : Outcome) (bytes : ArrayVec ℕ) {mid new : World}
    {before now : Option (List ℕ)} → Moved bytes ≡ heard_as toggle o
    → Attempts a mid before (Ok o) new now → length bytes.items ≤ a.max
read_fits toggle o bytes e made = grind (arith, heard_moved)
