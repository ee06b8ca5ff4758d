-- What was left to do pays for a round.
use Rattle.std.proofs.Common.{◌≡◌, refl, sym, subst, arith, ℕ, Bool, List, None, Result, Ok, Err}
use Rattle.usb_world.specs.{PlanData}
use Rattle.usb_host.specs.{ServesEach, ServesHubs, Affords, Costs, PaysRound, RootsPaid, RoundPaid}
use Rattle.usb_host.specs.{Stops, StopsWithin, Weights, event_weight, hubs_most, HostState, Waits}
use Rattle.usb_host.specs.{HostSteps, either, LooksKeep, NoneWait, PartStays, HostFault, Round}
use Rattle.usb_host.specs.{Worked, Quiet}
use Rattle.usb_host.proofs.StepSums.{went_before}
use Rattle.usb_host.proofs.rests.RestingRounds.{done}
use Rattle.usb_host.proofs.payments.Payments.{few_stop, pays_none, stops_after, part_works}
use Rattle.usb_host.proofs.payments.Payments.{works_on}

pub affords_on : {n : ℕ} {c : Weights} (plan : PlanData) {a b : HostState} → HostSteps n a b
    → PartStays a b → Affords c plan a → b.world.fault ≡ None → Affords c plan b
affords_on plan went stays x still = record {
  works = works_on went x.works (stays.sound.sound x.works.sound) still;
  few = x.few;
  plugs = grind arith;
}

-- where no device waits nothing is looked at again
none_wait : (c : Weights) {plan : PlanData} (h : HostState) → Affords c plan h → NoneWait h.entries
none_wait c h x = x.plugs.none_waits x.few

pub one_waits : {a b : HostState} {path : List ℕ} → b ≡ a → Waits path b → NoneWait a.entries → ⊥
one_waits same waits none = grind arith

module _ {result : Result Round HostFault} {a b : HostState} (x : ServesEach a result b) where
  pub roots_end_pay : (c : Weights) (plan : PlanData) → Affords c plan a → Stops c a b
  roots_end_pay c plan w = grind arith

module _ {roots : Round} {a b : HostState} (x : ServesEach a (Ok roots) b) where
  roots_cost : (c : Weights) (plan : PlanData) → Affords c plan a → b.world.fault ≡ None
      → Costs c 0 a b
  roots_cost c plan w still = grind arith

  module _ {result : Result Round HostFault} {d : HostState} (y : ServesHubs b result d) where
    pub hubs_end_pay : (c : Weights) (plan : PlanData) → Affords c plan a → Stops c a d
    hubs_end_pay c plan w =
        stops_after c a b d 0 (hubs_most c) (event_weight c) y.keeps.part.goes.went
        (roots_end_pay x c plan w) (roots_cost c plan w)
        (λ still. y.pays.stops c plan (part_works x.part w.works still)) (omega arith)

  module _ {hubs : Round} {d : HostState} (y : ServesHubs b (Ok hubs) d) where
    before : d.world.fault ≡ None → b.world.fault ≡ None
    before h = search went_before

    both_paid : (c : Weights) (roots : Round) (hubs : Round) → RootsPaid c roots a b
        → RoundPaid c hubs b d → RoundPaid c (either roots hubs) a d
    both_paid c roots hubs p q = grind arith

    all_paid : (c : Weights) (plan : PlanData) → Affords c plan a → d.world.fault ≡ None
        → RoundPaid c (either roots hubs) a d
    all_paid c plan w still =
        both_paid c roots hubs (x.pays.pays c plan w.works (before still))
        (y.pays.pays c plan (part_works x.part w.works (before still)) still)

    hubs_cost : (c : Weights) (plan : PlanData) → Affords c plan a → d.world.fault ≡ None
        → Costs c c.polls a d
    hubs_cost c plan w still = pick (either roots hubs) (all_paid c plan w still)
      where
        pick : (round : Round) → RoundPaid c round a d → Costs c c.polls a d
        pick Worked p = pays_none c a d 0 c.polls p
        pick Quiet p = p

    affords_then : (c : Weights) (plan : PlanData) → Affords c plan a → d.world.fault ≡ None
        → Affords c plan d
    affords_then c plan w still = search (affords_on, before)

    waits_none : (c : Weights) (plan : PlanData) → Affords c plan a → d.world.fault ≡ None
        → NoneWait d.entries
    waits_none c plan w still = none_wait c d (affords_then c plan w still)

    module _ {result : Result Round HostFault} {e : HostState} (z : LooksKeep d result e) where
      pub looks_end_pay : (c : Weights) (plan : PlanData) → Affords c plan a → Stops c a e
      looks_end_pay c plan w =
          stops_after c a d e c.polls 0 (event_weight c) z.part.goes.went (hubs_end_pay y c plan w)
          (hubs_cost c plan w)
          (λ still. subst (λ (h : HostState). StopsWithin c 0 d h)
          (sym (z.idle (waits_none c plan w still)).1)
          (few_stop c 0 d d (omega arith) (omega arith))) (omega arith)

    -- all was done
    pub parts_pay : {looks : Round} {e : HostState} → LooksKeep d (Ok looks) e → (c : Weights)
        (plan : PlanData) → Affords c plan a
        → PaysRound c plan a (Ok (either (either roots hubs) looks)) e
    parts_pay {looks = looks} {e = e} z c plan w = record {
      most = looks_end_pay z c plan w;
      pays = λ still.
          let idle = z.idle (waits_none c plan w (here still)) in
          let paid : RoundPaid c (either roots hubs) a e =
          rw idle.1 (all_paid c plan w (here still)) in
          rw (either_quiet (either roots hubs) looks idle.0) paid;
      plugs = λ still.
          rw (sym (z.idle (waits_none c plan w (here still))).1) at
          (affords_then c plan w (here still)).plugs;
    }
      where
        here : e.world.fault ≡ None → d.world.fault ≡ None
        here = went_before z.part.goes.went

        either_quiet : (r s : Round) → done s ≡ done Quiet → either r s ≡ r
        either_quiet Worked s is = refl
        either_quiet Quiet s is = cc is

-- A whole round

-- only the host's own stop is new
pub pays_stopped : (c : Weights) (plan : PlanData) (result : Result Round HostFault)
    (a b : HostState) (stopped : Bool) → PaysRound c plan a result b
    → PaysRound c plan a result (record b { stopped = stopped })
pays_stopped c plan result a b stopped x = grind arith

-- a host that has stopped does nothing
pub stopped_pays : (c : Weights) (plan : PlanData) {fault : HostFault} (h : HostState)
    → PaysRound c plan h (Err fault) h
stopped_pays c plan h = grind arith
