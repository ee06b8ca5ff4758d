-- A world that follows another plan goes the way of that plan.
use Rattle.std.proofs.Common.{◌≡◌, ◌≢◌, ◌≤◌, ◌<◌, ◌+◌, ◌-◌, Bool, true, false, List, [], ◌∷◌, ◌++◌}
use Rattle.std.proofs.Common.{Option, None, Some, if◌then◌else◌, drop, length, arith, refl, ap, sym}
use Rattle.std.proofs.Common.{subst, ◌∙◌, ⊎_elim}
use Rattle.std.specs.Prelude.{⊤, not, ◌==◌, ◌&&◌, nat_le, nat_lt}
use Rattle.std.proofs.lemmas.Bool.{leb-true, ltb-true, ltb-false}
use Rattle.std.proofs.lemmas.List.{length-drop}
use Rattle.usb_world.proofs.Interface.{decided, over_ready}
use Rattle.usb_world.specs.{Attempt, BusFault, Event, PlanData, Step, World, after}
use Rattle.usb_world.specs.{after_due_events, after_event, after_first_event, at_attempt, attempt}
use Rattle.usb_world.specs.{attempted, damage_of, event, event_taken, is_due, opening, report}
use Rattle.usb_world.specs.{root_call, Limit, waits, with_attempt}
use Rattle.usb_sim.specs.{followed}
use Rattle.usb_bench_laws.specs.{AgreeIn, AllCome, Comes, IsToCome, Plays, follows, goes_on, run}
use Rattle.usb_bench_laws.specs.{world_after}
use Rattle.usb_bench_laws.specs.Runs.{begins}
use Rattle.usb_bench_laws.proofs.Lists.{same_next}
use Rattle.usb_bench_laws.proofs.Later.{IsOf, Later, joined_later, later, later_events, later_made}
use Rattle.usb_bench_laws.proofs.Later.{of_event, of_opening, of_run, of_step, of_steps}

-- the first of these events is not due
abbrev NotDue : List Event → World → Type 0
NotDue [] v = ⊤
NotDue (e ∷ events) v = is_due e v ≡ false

not_due : (e : Event) (v w : World) → v.attempts_then ≤ v.attempts → v.attempts < w.attempts
    → v.attempts_then ≡ w.attempts_then
    → (waits e.action ≡ false → w.attempts - w.attempts_then ≤ e.after) → is_due e v ≡ false
not_due e v w last more same h = split (waits e.action) h
  where
    split : (b : Bool) → (b ≡ false → w.attempts - w.attempts_then ≤ e.after)
        → (not b && nat_le e.after (v.attempts - v.attempts_then)) ≡ false
    split true h = refl
    split false h = ⊎_elim
        (λ y. absurd (omega (arith, h refl, leb-true e.after (v.attempts - v.attempts_then) y)))
        (λ y. y) (decided (nat_le e.after (v.attempts - v.attempts_then)))

module _ (p q : PlanData) (w : World) (agree : AgreeIn p q w) (ends : w.taken ≤ length p.events)
  where
    -- an event that comes on the way is the other plan's too
    same_event : (v : World) (e : Event) (events : List Event) → IsOf p v → v.left ≡ e ∷ events
        → v.taken < w.taken → drop v.taken q.events ≡ e ∷ drop (v.taken + 1) q.events
    same_event v e events is h l =
        same_next w.taken v.taken p.events q.events e events agree.events l (cc)

    -- where the plan has no more events, as many came as in the end
    all_came : (v : World) → IsOf p v → Later v w → v.left ≡ [] → v.taken ≡ w.taken
    all_came v is on h =
        omega (arith, length-drop v.taken p.events, ap length is.left, ap length h, on.taken, ends)

    -- once as many came as in the end, none of the other plan's is due at an attempt
    none_due : (v : World) → IsOf p v → Later v w → v.attempts < w.attempts → v.taken ≡ w.taken
        → NotDue (drop v.taken q.events) v
    none_due v is on more same =
        subst (λ n. NotDue (drop n q.events) v) (sym same)
        (first (drop w.taken q.events) agree.next)
      where
        first : (events : List Event) → IsToCome events w → NotDue events v
        first [] h = tt
        first (e ∷ events) h = not_due e v w is.last more (on.last same) h

    -- nor is any where the plan's next event is not
    next_waits : (v : World) (e : Event) (events : List Event) → IsOf p v → v.left ≡ e ∷ events
        → Later v w → v.attempts < w.attempts → is_due e v ≡ false
        → NotDue (drop v.taken q.events) v
    next_waits v e events is h on more d = by (nat_lt v.taken w.taken) refl
      where
        by : (b : Bool) → nat_lt v.taken w.taken ≡ b → NotDue (drop v.taken q.events) v
        by true y =
            let next = same_event v e events is h (ltb-true v.taken w.taken y) in
            subst (λ l. NotDue l v) (sym next) d
        by false y =
            none_due v is on more (omega (arith, on.taken, ltb-false v.taken w.taken y))

    -- at an attempt the same events come
    still : (events : List Event) (v : World) → NotDue events v
        → after_due_events events (followed q v) ≡ followed q v
    unfolding after_due_events
    still [] v h = refl
    still (e ∷ events) v h = ap (λ b. if b then after_due_events events
        (after_event e events (followed q v)) else followed q v) h

    due : (events : List Event) (v : World) → IsOf p v → v.left ≡ events
        → Later (after_due_events events v) w → v.attempts < w.attempts
        → after_due_events (drop v.taken q.events) (followed q v)
        ≡ followed q (after_due_events events v)
    unfolding after_due_events after_event at_attempt
    due [] v is h on more =
        still (drop v.taken q.events) v (none_due v is on more (all_came v is on h))
    due (e ∷ events) v is h on more =
        split (is_due e v) refl on (λ l. due events (after_event e events v)
        (of_event p e events v h is) refl l more)
      where
        split : (b : Bool) → is_due e v ≡ b
            → Later (if b then after_due_events events (after_event e events v) else v) w
            → (Later (after_due_events events (after_event e events v)) w
            → after_due_events (drop (v.taken + 1) q.events)
            (after_event e (drop (v.taken + 1) q.events) (followed q v))
            ≡ followed q (after_due_events events (after_event e events v)))
            → after_due_events (drop v.taken q.events) (followed q v)
            ≡ followed q (if b then after_due_events events (after_event e events v) else v)
        split true d on more_come =
            let past : Later (after_event e events v)
            (after_due_events events (after_event e events v)) =
            over_ready later_events (after_event e events v) in
            let next = same_event v e events is h (omega (arith, past.taken, on.taken)) in
            let rest = drop (v.taken + 1) q.events in
            ap (λ l. after_due_events l (followed q v)) next
            ∙ ap (λ b. if b then after_due_events rest (after_event e rest (followed q v))
            else followed q v) d
            ∙ more_come on
        split false d on more_come =
            still (drop v.taken q.events) v (next_waits v e events is h on more d)

    -- an attempt
    same_damage : (a : Attempt) (v : World) → IsOf p v → v.attempts < w.attempts
        → with_attempt a (followed q v) ≡ followed q (with_attempt a v)
    unfolding with_attempt
    same_damage a v is more =
        let d : damage_of q.damages (v.attempts + 1) ≡ damage_of v.damages (v.attempts + 1) =
        sym (agree.damages (v.attempts + 1) (omega arith) (omega (arith, more)))
        ∙ ap (λ l. damage_of l (v.attempts + 1)) (sym is.damages) in
        rw d refl

    made : (a : Attempt) (v : World) → IsOf p v → Later (with_attempt a (at_attempt v)) w
        → with_attempt a (at_attempt (followed q v)) ≡ followed q (with_attempt a (at_attempt v))
    unfolding with_attempt at_attempt
    made a v is on =
        let past : Later v (at_attempt v) = over_ready later_events v in
        let its : IsOf p (at_attempt v) = over_ready (of_steps p).events v is in
        let more : (at_attempt v).attempts < w.attempts = omega (arith, on.attempts) in
        let before : Later (at_attempt v) w = joined_later _ _ w (later_made a (at_attempt v)) on in
        ap (with_attempt a) (due v.left v is refl before (omega (arith, past.attempts, more)))
        ∙ same_damage a (at_attempt v) its more

    same_attempt : (a : Attempt) (v : World) → IsOf p v → Later (after (attempt a) v) w
        → after (attempt a) (followed q v) ≡ followed q (after (attempt a) v)
    unfolding after
    same_attempt a v is on = by_fault v.fault on
      where
        by_limit : (b : Bool)
            → Later (if b then record v { fault = Some Limit } else with_attempt a (at_attempt v)) w
            → (if b then record (followed q v) { fault = Some Limit }
            else with_attempt a (at_attempt (followed q v)))
            ≡ followed q
            (if b then record v { fault = Some Limit } else with_attempt a (at_attempt v))
        by_limit true on = refl
        by_limit false on = made a v is on

        by_fault : (f : Option BusFault) → Later (attempted a f v) w
            → attempted a f (followed q v) ≡ followed q (attempted a f v)
        by_fault (Some f) on = refl
        by_fault None on = by_limit (v.attempts == v.limit) on

    -- an event that is asked for
    none_left : (v : World) → IsOf p v → Later v w → v.left ≡ []
        → (drop w.taken q.events ≢ [] → v.taken ≡ v.taken + 1) → drop v.taken q.events ≡ []
    none_left v is on h asked =
        subst (λ n. drop n q.events ≡ []) (sym (all_came v is on h))
        (split (drop w.taken q.events) asked)
      where
        split : (events : List Event) → (events ≢ [] → v.taken ≡ v.taken + 1) → events ≡ []
        split [] asked = refl
        split (e ∷ events) asked =
            absurd (omega (arith, asked (λ (y : e ∷ events ≡ []). cc y)))

    came : (events : List Event) (v : World) → IsOf p v → v.left ≡ events
        → Later (after_first_event events v) w
        → (drop w.taken q.events ≢ [] → (after_first_event events v).taken ≡ v.taken + 1)
        → after_first_event (drop v.taken q.events) (followed q v)
        ≡ followed q (after_first_event events v)
    unfolding after_event
    came [] v is h on asked =
        ap (λ l. after_first_event l (followed q v)) (none_left v is on h asked)
    came (e ∷ events) v is h on asked =
        ap (λ l. after_first_event l (followed q v))
        (same_event v e events is h (omega (arith, on.taken)))

    same_step : (s : Step) (v : World) → IsOf p v → Later (after s v) w
        → (drop w.taken q.events ≢ [] → Comes s v)
        → after s (followed q v) ≡ followed q (after s v)
    unfolding after
    same_step (attempt a) v is on asked = same_attempt a v is on
    same_step (root_call c n) v is on asked = refl
    same_step event v is on asked = by_fault v.fault on asked
      where
        by_fault : (f : Option BusFault) → Later (event_taken f v) w
            → (drop w.taken q.events ≢ [] → f ≡ None → (event_taken f v).taken ≡ v.taken + 1)
            → event_taken f (followed q v) ≡ followed q (event_taken f v)
        by_fault (Some f) on asked = refl
        by_fault None on asked = came v.left v is refl on (λ some. asked some refl)
    same_step (report line) v is on asked = refl

-- Steps

along : (p q : PlanData) (steps : List Step) (v : World) → IsOf p v
    → AgreeIn p q (world_after steps v)
    → (drop (world_after steps v).taken q.events ≢ [] → AllCome steps v)
    → world_after steps (followed q v) ≡ followed q (world_after steps v)
unfolding world_after
along p q [] v is agree asked = refl
along p q (s ∷ steps) v is agree asked =
    let w = world_after steps (after s v) in
    ap (world_after steps) (same_step p q w agree (of_run p (s ∷ steps) v is).taken s v is
    (later steps (after s v)) (λ some. (asked some).0))
    ∙ along p q steps (after s v) (of_step p s v is) agree (λ some. (asked some).1)

same_opening : (p q : PlanData) → p.limit ≡ q.limit → p.roots ≡ q.roots → p.devices ≡ q.devices
    → opening q ≡ followed q (opening p)
same_opening p q limit roots devices = cc

pub from_start : (p q : PlanData) (steps : List Step) → AgreeIn p q (run p steps)
    → (drop (run p steps).taken q.events ≢ [] → AllCome steps (opening p))
    → run q steps ≡ followed q (run p steps)
from_start p q steps agree asked =
    ap (world_after steps) (same_opening p q agree.limit agree.roots agree.devices)
    ∙ along p q steps (opening p) (of_opening p) agree asked

-- What comes in the plan's run comes in the other's

comes_too : (q : PlanData) (s : Step) (v : World)
    → after s (followed q v) ≡ followed q (after s v) → Comes s v → Comes s (followed q v)
comes_too q (attempt a) v same h = tt
comes_too q (root_call c n) v same h = tt
comes_too q event v same h = λ sound. ap (λ u. u.taken) same ∙ h sound
comes_too q (report line) v same h = tt

all_along : (p q : PlanData) (steps : List Step) (v : World) → IsOf p v
    → AgreeIn p q (world_after steps v) → AllCome steps v → AllCome steps (followed q v)
unfolding world_after
all_along p q [] v is agree asked = tt
all_along p q (s ∷ steps) v is agree asked =
    let w = world_after steps (after s v) in
    let same : after s (followed q v) ≡ followed q (after s v) =
    same_step p q w agree (of_run p (s ∷ steps) v is).taken s v is (later steps (after s v))
    (λ _. asked.0) in (
      comes_too q s v same asked.0,
      subst (AllCome steps) (sym same)
          (all_along p q steps (after s v) (of_step p s v is) agree asked.1),
    )

pub all_too : (p q : PlanData) (steps : List Step) → AgreeIn p q (run p steps)
    → AllCome steps (opening p) → AllCome steps (opening q)
all_too p q steps agree asked =
    subst (AllCome steps) (sym (same_opening p q agree.limit agree.roots agree.devices))
    (all_along p q steps (opening p) (of_opening p) agree asked)

-- Plans that are followed one after the other

pub one_more : (steps : List Step) (s : Step) (w : World)
    → world_after (steps ++ s ∷ []) w ≡ after s (world_after steps w)
unfolding world_after
one_more [] s w = refl
one_more (t ∷ steps) s w = one_more steps s (after t w)

pub one_more_comes : (steps : List Step) (s : Step) (w : World) → AllCome steps w
    → Comes s (world_after steps w) → AllCome (steps ++ s ∷ []) w
unfolding world_after
one_more_comes [] s w all h = (h, tt)
one_more_comes (t ∷ steps) s w all h = (all.0, one_more_comes steps s (after t w) all.1 h)

-- the world is the plan's own, and each event that was asked for came there
record IsRun (p : PlanData) (steps : List Step) (w : World) : Type 0 where
  is : w ≡ run p steps
  all : AllCome steps (opening p)

run_of : {p : PlanData} {steps : List Step} {w : World} → Plays p steps w → IsRun p steps w
unfolding world_after
run_of (begins p) = record { is = refl; all = tt }
run_of (goes_on {p} {steps} {w} plays s h) =
    let before = run_of plays in
    record {
      is = ap (after s) before.is ∙ sym (one_more steps s (opening p));
      all = one_more_comes steps s (opening p) before.all (subst (Comes s) before.is h);
    }
run_of (follows {p} {steps} {w} plays q agree) =
    let before = run_of plays in
    let its : AgreeIn p q (run p steps) = subst (AgreeIn p q) before.is agree in
    record {
      is = ap (followed q) before.is ∙ sym (from_start p q steps its (λ _. before.all));
      all = all_too p q steps its before.all;
    }

pub from_last_start : (p : PlanData) (steps : List Step) (w : World) → Plays p steps w
    → w ≡ run p steps
from_last_start p steps w plays = (run_of plays).is
