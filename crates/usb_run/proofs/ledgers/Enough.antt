-- A plan of at most 127 plugs whose limit is its bound never comes to its limit.
use Rattle.std.proofs.Common.{◌≡◌, ◌≢◌, ◌≤◌, ℕ, zero, suc, ◌+◌, ◌*◌, refl, subst, arith, inl, inr}
use Rattle.std.proofs.Common.{List, [], ◌∷◌, ap, cond}
use Rattle.std.proofs.Common.{length, false, Option, Result, Err, IfErr}
use Rattle.std.proofs.Math.Nat.{le_trans}
use Rattle.std.specs.List.{sum_by}
use Rattle.std.proofs.lemmas.List.Sums.{sum_by-cons}
use Rattle.usb_world.specs.{Event, PlanData}
use Rattle.usb_host.specs.{Weights, event_weight, look_weight, plug_events, HostState}
use Rattle.usb_plan.specs.{bound_of, enough_for, greatest_total, is_look, looks_in, moved}
use Rattle.usb_run.specs.{Item, Report, RunFault, LimitReached, Mode, Tree, IsCaused, EndsWell}
use Rattle.usb_run.specs.{Opens, RunsTo, itself, never}
use Rattle.usb_run.proofs.ledgers.Ledgers.{Paid, carries_paid, event_pays, most_owed, opens_paid}
use Rattle.usb_run.proofs.ledgers.PlanWeights.{bound_uncut, weights}
use Rattle.usb_run.proofs.ledgers.RunBounds.{run_few}
use Rattle.usb_run.proofs.ledgers.Sums.{none_enough, within_enough}
use Rattle.usb_run.proofs.ledgers.VoidRuns.{Void, carries_void, opens_void}

-- what all events pay, and what they pay for looks besides
pays_all : (c : Weights) (plan : PlanData) (events : List Event)
    → sum_by (event_pays c plan) events
    ≡ 1000 * sum_by moved events + look_weight c * length plan.events * looks_in events
pays_all c plan [] = omega arith
pays_all c plan (e ∷ events) =
    let room : ℕ = look_weight c * length plan.events in
    omega (
      arith,
      sum_by-cons (event_pays c plan) e events,
      sum_by-cons moved e events,
      ap (λ n. room * n) (sum_by-cons (λ x. cond (is_look x) 1 0) e events),
      pays_all c plan events,
    )

most_is : (c : Weights) (plan : PlanData) → most_owed c plan + event_weight c
    ≡ (event_weight c + c.polls) * length plan.events + (1000 * sum_by moved plan.events
    + look_weight c * length plan.events * looks_in plan.events) + c.polls + event_weight c
most_is c plan = omega (arith, pays_all c plan plan.events)

-- the attempts of a run, and two more
run_enough : {A E : Type 0} (mode : Mode) (words : RunFault → E) (CutsAt : E → Type 0)
    (plan : PlanData) (before : Option (List ℕ)) (first last : HostState) (items : List Item)
    (result : Result A E) → plug_events plan.events ≤ 127 → Opens plan before first
    → RunsTo mode words CutsAt false first items result last
    → last.world.attempts + 2 ≤ enough_for (length plan.events) (looks_in plan.events)
    (greatest_total plan.devices plan.events) (sum_by moved plan.events)
run_enough mode words CutsAt plan before first last items result few opens ends =
    split (length plan.events) refl
  where
    c : Weights
    c = weights plan

    v : ℕ
    v = length plan.events

    l : ℕ
    l = looks_in plan.events

    w : ℕ
    w = greatest_total plan.devices plan.events

    m : ℕ
    m = sum_by moved plan.events

    split : (n : ℕ) → length plan.events ≡ n → last.world.attempts + 2 ≤ enough_for v l w m
    split zero e = none_enough v l w m last.world.attempts
        (run_few 0 Void Void (λ due h. ⊥) carries_void mode words CutsAt false first items result
        last ends (opens_void plan before first e opens))
    split (suc n) e = within_enough v l w m last.world.attempts (event_weight c) (look_weight c)
        (omega (arith, e)) refl (omega arith)
        (subst (λ n. last.world.attempts ≤ n) (most_is c plan)
        (run_few (most_owed c plan + event_weight c) (Paid c plan c.polls) (Paid c plan 0) _
        (carries_paid c plan) mode words CutsAt false first items result last ends
        (opens_paid plan few before first opens)))

pub not_limited : {A E : Type 0} (mode : Mode) (words : RunFault → E) (CutsAt : E → Type 0)
    (plan : PlanData) (before : Option (List ℕ)) (first last : HostState) (items : List Item)
    (result : Result A E)
    → plug_events plan.events ≤ 127 → bound_of plan ≤ plan.limit → Opens plan before first
    → RunsTo mode words CutsAt false first items result last → last.world.limit ≡ plan.limit
    → IsCaused LimitReached last.world → ⊥
not_limited mode words CutsAt plan before first last items result few below opens ends limit
    caused =
    let within : last.world.attempts + 2 ≤ plan.limit =
    le_trans (run_enough mode words CutsAt plan before first last items result few opens ends)
    (bound_uncut plan opens.rules below) in
    absurd (omega (arith, within, limit, caused.0))

-- in `run`
pub ends_enough : (plan : PlanData) (result : Result Report RunFault) → EndsWell plan result
    → plug_events plan.events ≤ 127 → bound_of plan ≤ plan.limit → result ≢ Err LimitReached
ends_enough plan result (inl refused) few below is = cc (refused, is)
ends_enough plan result (inr runs) few below is =
    not_limited Tree itself never plan runs.before runs.first runs.last runs.finishes.items result
    few below runs.opens runs.finishes.ends runs.limit
    (subst (λ (r : Result Report RunFault). IfErr r (λ fault. IsCaused fault runs.last.world)) is
    runs.finishes.caused)
