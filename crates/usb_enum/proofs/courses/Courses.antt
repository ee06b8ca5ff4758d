-- What went between two states of a bus: as a course of steps, what it keeps, and how it joins.
use Rattle.std.proofs.Common.{arith, ◌≡◌, ℕ, List, Option, None, Some, Result, Err, refl, sym}
use Rattle.std.proofs.Common.{subst, false, ◌+◌, ◌≤◌}
use Rattle.usb_world.specs.{Attempt, BusFault, Outcome, Step, AnyStep, Course, here, attempt, after}
use Rattle.usb_world.specs.{World, after_event, with_attempt}
use Rattle.usb_world.proofs.Interface.{between_course, course_then, course_joined}
use Rattle.usb_bus.specs.{Attempts, Traced, still, attempted, called, StepRun}
use Rattle.usb_enum.specs.{IsInOrder, IsOrderly, IsRegular, KeepingSteps, Leads, Went}
use Rattle.usb_transfer.specs.{NoThreeDamaged}
use Rattle.usb_transfer.proofs.Interface.{never_three}
use Rattle.usb_bus.proofs.Interface.{OverFaults, over_traced, went_then, went_wider}

-- the bus was at work, and these were its steps
pub record AtWork (old new : World) : Type 0 where
  pub sound : old.fault ≡ None
  pub course : Course AnyStep old new

-- so it was, where it is at work in the end
abbrev pub OnlyLater : World → World → Type 0
OnlyLater w v = v.fault ≡ None → AtWork w v

-- a fault that was told is told again
pub sound_before : (w v : World) {A : Type 0} (result : Result A BusFault) → v.fault ≡ None
    → ((fault : BusFault) → w.fault ≡ Some fault → (result ≡ Err fault) × (v ≡ w)) → w.fault ≡ None
sound_before w v result h again = grind arith

pub attempt_sound : {a : Attempt} {w v : World} {t s : Option (List ℕ)}
    {result : Result Outcome BusFault} → Attempts a w t result v s → v.fault ≡ None → w.fault ≡ None
attempt_sound made h = grind arith

pub attempt_after : {a : Attempt} {w v : World} {t s : Option (List ℕ)}
    (result : Result Outcome BusFault) → Attempts a w t result v s → v.fault ≡ None
    → v ≡ after (attempt a) w
attempt_after result made h = grind arith

pub traced_only_later : {old : World} {t : Option (List ℕ)} {new : World} {s : Option (List ℕ)}
    → Traced old t new s → OnlyLater old new
unfolding after
traced_only_later {old} still h = record { sound = h; course = here old }
traced_only_later {old} (attempted a result fits before made) h =
    let work = traced_only_later before (attempt_sound made h) in
    record {
      sound = work.sound;
      course =
          subst (Course AnyStep old) (sym (attempt_after result made h)) (search course_then);
    }
traced_only_later (called c port before) h =
    let work = traced_only_later before h in search course_then

-- behind a fault no attempt is made
pub traced_faulted : {w : World} {t : Option (List ℕ)} {v : World} {s : Option (List ℕ)}
    → Traced w t v s → (fault : BusFault) → w.fault ≡ Some fault
    → (v.attempts ≡ w.attempts) × (v.fault ≡ Some fault)
unfolding after
traced_faulted still fault e = (refl, e)
traced_faulted (attempted {w = m} {v = v} a result fits before made) fault e =
    let so_far = traced_faulted before fault e in
    grind arith
traced_faulted (called c port before) fault e = traced_faulted before fault e

pub went_sound : (n : ℕ) (old new : World) {t s : Option (List ℕ)} → StepRun n old t new s
    → new.fault ≡ None → old.fault ≡ None
went_sound n old new went h = (traced_only_later went.traced h).sound

pub went_course : (n : ℕ) (old new : World) {t s : Option (List ℕ)} → StepRun n old t new s
    → new.fault ≡ None → Course AnyStep old new
went_course n old new went h = (traced_only_later went.traced h).course

-- what is in order stays so

pub orderly_on : {K : Step → World → Type 0} {old new : World} → IsOrderly old → Course K old new
    → IsOrderly new
orderly_on was course = between_course course was

pub traced_in_order : {old : World} {t : Option (List ℕ)} {new : World} {s : Option (List ℕ)}
    → Traced old t new s → IsInOrder old → IsInOrder new
traced_in_order traced order = grind (arith, orderly_on, traced_only_later)

pub went_in_order : (n : ℕ) (old new : World) {t s : Option (List ℕ)} → StepRun n old t new s
    → IsInOrder old → IsInOrder new
went_in_order n old new went = traced_in_order went.traced

pub regular_order : {w : World} → IsInOrder w → IsRegular w
regular_order order = order

same_damages : OverFaults (λ w v. v.damages ≡ w.damages)
unfolding after_event with_attempt
same_damages = grind arith

pub went_three : (n : ℕ) (old new : World) {t s : Option (List ℕ)} → StepRun n old t new s
    → NoThreeDamaged old → NoThreeDamaged new
went_three n old new went = never_three old new (over_traced same_damages went.traced)

unshared_back : OverFaults (λ w v. v.shared ≡ false → w.shared ≡ false)
unfolding after_event with_attempt
unshared_back = grind arith

pub went_unshared : {n : ℕ} {old new : World} {t s : Option (List ℕ)} → StepRun n old t new s
    → new.shared ≡ false → old.shared ≡ false
went_unshared went = over_traced unshared_back went.traced

-- What led to a last request

pub leads_none : (w : World) → Leads w w
leads_none w = record { sound = λ none. none; course = λ none. here w }

pub leads_then : {old mid new : World} → Leads old mid → Leads mid new → Leads old new
leads_then first next = grind (arith, course_joined)

-- What went

pub went_steps : {n : ℕ} {old new : World} {a b : Option (List ℕ)} → StepRun n old a new b
    → Went old new
went_steps {n} {old} {new} run = record {
  led = search (went_course, went_sound);
  order = traced_in_order run.traced;
  unshared = went_unshared run;
  three = went_three n old new run;
  faulted = grind (arith, traced_faulted);
}

pub went_on : {old mid new : World} → Went old mid → Went mid new → Went old new
went_on first next = record {
  led = leads_then first.led next.led;
  order = λ order. next.order (first.order order);
  unshared = λ single. first.unshared (next.unshared single);
  three = λ few. next.three (first.three few);
  faulted = λ fault before. next.faulted fault (first.faulted fault before);
}

pub keeping : {K : World → World → Type 0} {n : ℕ} {old new : World} {a b : Option (List ℕ)}
    → StepRun n old a new b → K old new → KeepingSteps K n old a new b
keeping run keeps = search went_steps

pub went_on_more : (k : ℕ) {m n : ℕ} {a b c : World} {t r s : Option (List ℕ)} → StepRun m a t b r
    → StepRun n b r c s → m + n ≤ k → StepRun k a t c s
went_on_more k {m} {n} p q le = went_wider (m + n) k (went_then m n p q) le
