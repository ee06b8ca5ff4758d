-- What the poll of a hub leaves, and what follows it.
use Rattle.std.proofs.Common.{◌≡◌, ◌∙◌, ◌+◌, ◌≤◌, ◌≢◌, ◌⊎◌, ap, arith, inl, inr, refl, ℕ, List}
use Rattle.std.proofs.Common.{Option, None, Some, Result, Ok, Err, IsOk, IsSome, true}
use Rattle.arrayvec.specs.ArrayVec.{ArrayVec}
use Rattle.usb_world.proofs.Interface.{decided}
use Rattle.usb_world.specs.{pending, BusFault, PlanData, World}
use Rattle.usb_device.specs.{told_bits}
use Rattle.usb_bus.specs.{StepRun}
use Rattle.usb_transfer.specs.{NoThreeDamaged, ByteTold, PipeFault}
use Rattle.usb_hub.specs.{KeepsAll, KeepsBy, unmarked, NoHubFailed}
use Rattle.usb_hub.proofs.Interface.{few-none}
use Rattle.usb_transfer.specs.declared.fault.PipeFault.TheVariants.{Bus}
use Rattle.usb_enum.specs.{Finding, HubFacts}
use Rattle.usb_enum.specs.declared.finding.Finding.TheVariants.{Device}
use Rattle.usb_table.specs.{BitsOf, GoesThrough, HubTold, KeepsPolled, Pipes, PipesPolled}
use Rattle.usb_table.specs.{finding_at, hub_facts_at, hub_facts_in, pipes_at, TablePolls}
use Rattle.usb_host.specs.{NoneHears, ServesPorts, AddsNoWork, Agrees, Costs, DropsOne, HostFault}
use Rattle.usb_host.specs.{HostInvariant, HostProgress, HostRuns, HostState, HostSteps, HubPaid}
use Rattle.usb_host.specs.{IsDroppable, KeepsBulk, KeepsInvariant, PartStays, Pays, PaysPart}
use Rattle.usb_host.specs.{PolledOnce, Quiet, ServesHub, ServesTold, ShowsTold, StaysOwned}
use Rattle.usb_host.specs.{StaysWhere, StopsWithin, ToldPaid, Weights, Worked, WorksOn}
use Rattle.usb_host.specs.{asked_failed, asked_none, asked_some, by_rest, drop_bound, drop_failed}
use Rattle.usb_host.specs.{hubs, not_heard, poll_failed, poll_most, port_failed, table_in}
use Rattle.usb_host.specs.{told_most, told_none, told_some}
use Rattle.usb_host.proofs.devices.Owners.{dropped_hub_owned, single_then, stays_owned_then}
use Rattle.usb_host.proofs.RoundLoops.{hub_fails}
use Rattle.usb_host.proofs.StepSums.{goes_wider, host_goes_then, went_before}
use Rattle.usb_host.proofs.devices.Pipes.{bulk_stays, where_polled, where_stays}
use Rattle.usb_host.proofs.devices.Plugs.{plugs_kept}
use Rattle.usb_host.proofs.entries.Roots.{accounted}
use Rattle.usb_host.proofs.knowledge.ChangeWords.{none_own}
use Rattle.usb_host.proofs.knowledge.Soundness.{PipeCall, but_under, caused_under, in_sync-sets}
use Rattle.usb_host.proofs.knowledge.Soundness.{known_under, occupied_under, part_then}
use Rattle.usb_host.proofs.knowledge.Soundness.{sound_dropped, sound_under, stays_under}
use Rattle.usb_host.proofs.knowledge.Soundness.{truthful_under}
use Rattle.usb_host.proofs.knowledge.SettledListings.{reached_there}
use Rattle.usb_host.proofs.knowledge.ToldBits.{poll_shows}
use Rattle.usb_host.proofs.payments.Payments.{few_stop, pays_where, plain_costs, plain_pays}
use Rattle.usb_host.proofs.payments.Payments.{ports_after, stops_after, works_on, works_on-ports}
use Rattle.usb_host.proofs.rests.Polls.{HubThere, heard_at, hub_there, poll_silent, reached_at}

-- a hub that is listed was polled, as the table tells it
pub record HubPoll (hub : List ℕ) (a : HostState)
    (answer : Result (Option (ArrayVec ℕ)) PipeFault) (b : HostState) : Type 0 where
  pub agrees : Agrees a.options a.entries a.addresses
  pub listed : IsSome (hub_facts_at hub a.entries)
  pub once : PolledOnce hub a answer b
  pub went : HostSteps 768 a b
  pub through : GoesThrough hub (table_in a) (table_in b)
  pub keeps : KeepsPolled hub (table_in a) a.world answer (table_in b) b.world

-- where the pipes are new, nothing else is
pub polled_by : {hub : List ℕ} {a b : HostState}
    {answer told : Result (Option (ArrayVec ℕ)) PipeFault} → answer ≡ told
    → Agrees a.options a.entries a.addresses → IsSome (hub_facts_at hub a.entries) → record b {
      entries = a.entries;
    } ≡ record a {
      world = b.world;
      trace = b.trace;
      counts = b.counts;
      pipes = b.pipes;
    } → GoesThrough hub (table_in a) (table_in b)
    → TablePolls hub (table_in a) a.world a.trace answer (table_in b) b.world b.trace
    → HubPoll hub a told b
polled_by is agrees listed rest through polls = grind arith

-- where the bus is at work, a poll that failed was not answered
not_failed : (pipes left : Pipes) (fault : PipeFault) (old new : World)
    → PipesPolled pipes old (Err fault) left new → new.fault ≡ None
    → NoHubFailed {A = Option (ArrayVec ℕ)} (Err fault) → ⊥
not_failed pipes left fault old new x still served = grind arith

hub_listed : (o : Option Finding) → IsSome (hub_facts_in o) → IsSome o
hub_listed o some = grind arith

some_facts : (o : Option HubFacts) → IsSome o → (facts : HubFacts) × (o ≡ Some facts)
some_facts None some = absurd (cc some)
some_facts (Some facts) some = (facts, refl)

part_where : (a c : HostState) → c.options ≡ a.options → (HostInvariant a → PartStays a c)
    → PartStays a c
part_where a c options f = record {
  sound = record {
    options = options;
    sound = λ s. (f s).sound.sound s;
    caused = λ s fair q. (f s).sound.caused s fair q;
  };
  bulk = λ s still. (f s).bulk s still;
  plugs = λ s still. (f s).plugs s still;
}

drop_stop : (c : Weights) {w : World} {t : Option (List ℕ)} (a d : HostState)
    → StepRun 768 a.world a.trace w t → StepRun drop_bound w t d.world d.trace
    → StopsWithin c (poll_most c) a d
drop_stop c a d first second = grind arith

module _ {hub : List ℕ} {answer : Result (Option (ArrayVec ℕ)) PipeFault} {a b : HostState}
    (poll : HubPoll hub a answer b) where
  same : b.entries ≡ a.entries
  same = grind arith

  agrees_on : Agrees b.options b.entries b.addresses
  agrees_on = grind arith

  before : b.world.fault ≡ None → a.world.fault ≡ None
  before = went_before poll.went

  goes : HostRuns 768 a b
  goes = grind arith

  -- What it keeps

  called : PipeCall 768 hub (IsOk answer) a b
  called = search in_sync-sets

  owned : StaysOwned a b
  owned = stays_under called

  stays : HostInvariant a → a.world.fault ≡ None → StaysWhere (Unit {0}) a b
  stays s still = where_polled hub a b answer poll.through poll.once.through (grind arith)

  bulk : HostInvariant a → b.world.fault ≡ None → KeepsBulk a b
  bulk s still =
      bulk_stays a b (where_stays a b tt (stays s (before still)))
      (by_rest (poll.keeps.levels.worlds.rests still) (grind arith))

  sound : IsOk answer → KeepsInvariant a b
  sound ok = sound_under called (λ still. ok)

  part : IsOk answer → PartStays a b
  part ok = search (bulk, plugs_kept, sound)

  facts : (facts : HubFacts) × (hub_facts_at hub a.entries ≡ Some facts)
  facts = search some_facts

  there : HubThere hub a.entries facts.0
  there = hub_there hub a.entries facts.0 facts.1

  still_listed : IsSome (finding_at hub b.entries)
  still_listed = search (hub_listed, same)

  droppable : HostInvariant a → IsDroppable hub b
  droppable s = search (agrees_on, but_under, called, occupied_under, still_listed)

  -- a hub that does not answer is not reached, or a change is pending on the way to it
  pends : (b.world.fault ≡ None → NoHubFailed answer → ⊥) → HostInvariant a
      → b.world.fault ≡ None → NoThreeDamaged a.world → pending b.world.roots hub ≡ true
  pends failed s still few = elim (decided (pending b.world.roots hub)) [
    | inl is ↦ is
    | inr none ↦
        let fits = accounted b agrees_on (owned.rooted s.rooted) in
        let known = known_under called s still in
        let truthful = truthful_under called s still in
        let found : finding_at hub b.entries ≡ Some (Device there.device) = search there in
        let on = reached_at b.world fits known truthful hub found none in
        absurd (grind (arith, heard_at))
  ]

  -- What was done

  -- an attempt was made, and what came after it took nothing back
  on_by : (c : HostState) → a.world.attempts + 1 ≤ b.world.attempts → AddsNoWork b c
      → HostProgress a c
  on_by c more holds = grind arith

  tells : IsOk answer → HostInvariant a → b.world.fault ≡ None
      → HubTold hub a.world answer b.world
  tells ok s still = grind arith

  none_hears : (b.world.fault ≡ None → NoHubFailed answer → ⊥) → HostInvariant a
      → b.world.fault ≡ None → NoneHears hub a b.world
  none_hears failed s still = grind arith

  -- What it costs

  poll_stop : (c : Weights) (n : ℕ) → 768 ≤ n → StopsWithin c n a b
  poll_stop c n le = few_stop c n a b (omega (arith, poll.went.spends.most)) poll.went.spends.onward

  module _ {c : Weights} {plan : PlanData} (w : WorksOn c plan a) (still : b.world.fault ≡ None)
    where
      all : KeepsBy unmarked unmarked unmarked a.world b.world
      all = (poll.keeps.levels.worlds.backlog still).all (works_on-ports w) unmarked unmarked
          unmarked
          few-none

      no_more : hubs b.entries ≡ hubs a.entries
      no_more = ap hubs same

      -- it adds nothing but events
      costs : Costs c 768 a b
      costs = plain_costs c 768 a b (omega (arith, poll.went.spends.most)) all.looks all.strays
          (omega (arith, no_more)) all.onward

      -- an event came
      paid : a.world.taken + 1 ≤ b.world.taken → Pays c (c.polls + 32768) a b
      paid came =
          plain_pays c 768 (c.polls + 32768) 0 0 0 1 a b (omega (arith, poll.went.spends.most))
          (omega (arith, all.looks)) (omega (arith, all.strays)) (omega (arith, no_more)) came
          (omega arith)

      -- the hub did not answer, and was dropped
      drop_paid : (d : HostState) → HostSteps drop_bound b d → KeepsAll b.world d.world
          → hubs d.entries + 1 ≤ hubs b.entries → Pays c c.polls a d
      drop_paid d second drops fewer =
          let then : KeepsBy unmarked unmarked unmarked b.world d.world =
          search (few-none, ports_after, drops.all) in
          plain_pays c 11968 c.polls 0 0 1 0 a d
          (omega (arith, poll.went.spends.most, second.spends.most))
          (omega (arith, all.looks, then.looks)) (omega (arith, all.strays, then.strays))
          (omega (arith, no_more)) (omega (arith, all.onward, then.onward)) (omega arith)

  -- it told of changes
  module _ (ok : IsOk answer) (d : HostState) {n : ℕ} (second : HostSteps n b d) where
    works : {c : Weights} {plan : PlanData} → WorksOn c plan a → b.world.fault ≡ None
        → WorksOn c plan b
    works w still = works_on poll.went w ((sound ok).sound w.sound) still

    told_stop : {bits : ℕ} {result : Result (Unit {0}) HostFault}
        → PaysPart told_most (λ c done. ToldPaid hub bits c) b result d
        → (c : Weights) (plan : PlanData) → WorksOn c plan a → StopsWithin c (poll_most c) a d
    told_stop x c plan w =
        stops_after c a b d 768 (told_most c) (poll_most c) second
        (poll_stop c (poll_most c) (omega arith)) (costs w)
        (λ still. x.stops c plan (works w still)) (omega arith)

    told_paid : {bits : ℕ} (c : Weights) {plan : PlanData} → WorksOn c plan a → b.world.fault ≡ None
        → ToldPaid hub bits c b d → ShowsTold hub bits b ⊎ (a.world.taken + 1 ≤ b.world.taken)
        → Pays c c.polls a d
    told_paid c w still x (inl shows) = grind (arith, costs)
    told_paid c w still x (inr came) = grind (arith, paid)

-- It told nothing

pub poll_quiet : {hub : List ℕ} {a b : HostState} → HubPoll hub a (Ok None) b
    → ServesHub hub a (Ok Quiet) b
poll_quiet {hub = hub} {a = a} {b = b} poll = record {
  keeps = record {
    part = record {
      goes = goes_wider (goes poll) (omega arith);
      owned = owned poll;
      sound = part poll refl;
    };
    calm = grind arith;
    silent = λ s is still none.
        poll_silent b (agrees_on poll) ((sound poll refl).sound s) still hub
        (pipes_at hub (table_in a)) a.world (rw (same poll) poll.through.fits) poll.once.through
        none;
  };
  polls = record {
    did = poll.once.remains;
    polled = λ s still. told_none poll.once (tells poll refl s still).tells;
    order = asked_none poll.once;
  };
  fails = tt;
  pays = record {
    stops = grind arith;
    pays = λ c plan w still. grind (arith, costs, reached_there);
  };
}

-- It told of changes

module _ {hub : List ℕ} {packet : ArrayVec ℕ} {byte : ℕ} {a b : HostState}
    (poll : HubPoll hub a (Ok (Some packet)) b) (read : byte ≡ told_bits packet.items)
    (still : b.world.fault ≡ None) where
  told : HostInvariant a → ByteTold (BitsOf hub a.world b.world) packet.items
  told s = (tells poll refl s still).tells

  -- they are of ports: the hub itself has no change
  of_ports : HostInvariant a → byte ≢ 1
  of_ports s = grind (arith, none_own)

  -- the ports of which it told show their changes, or an event came
  shows : HostInvariant a → ShowsTold hub byte b ⊎ (a.world.taken + 1 ≤ b.world.taken)
  shows s =
      let t = told s in
      let facts = some_facts (hub_facts_at hub b.entries) (search same) in
      rw (read ∙ t.is) (poll_shows hub a b (agrees_on poll) s ((sound poll refl).sound s)
      (before poll still) still facts.0 (search hub_there)
      (tells poll refl s still).reached t.bits t.so t.so.came t.some)

-- the ports were served
pub poll_served : {hub : List ℕ} {packet : ArrayVec ℕ} {byte : ℕ} {a b d : HostState}
    → ServesTold hub byte b (Ok tt) d → HubPoll hub a (Ok (Some packet)) b
    → byte ≡ told_bits packet.items → b.world.fault ≡ None
    → a.world.attempts + 1 ≤ b.world.attempts → ServesHub hub a (Ok Worked) d
poll_served {hub = hub} {packet = packet} {byte = byte} {a = a} {b = b} {d = d} y poll read still
    more = record {
      keeps = record {
        part = record {
          goes = host_goes_then (goes poll) y.goes (omega arith);
          owned = stays_owned_then (owned poll) y.owned;
          sound = part_where a d (y.goes.options ∙ (goes poll).options) (λ s. part_then 768 a b d
              poll.went y.goes.went (part poll refl) (ports s).part.sound);
        };
        calm = λ is. absurd (cc is);
        silent = λ s is. absurd (cc is);
      };
      polls = record {
        did = on_by poll d more y.holds;
        polled = λ s on.
            let t = told poll read still s in
            told_some packet b poll.once t (rw (read ∙ t.is) at
            ((ports s).served ((sound poll refl).sound s)));
        order = asked_some packet b poll.once (rw read at y.order);
      };
      fails = tt;
      pays = pays_where (HubPaid hub) (λ s. record {
        stops = told_stop poll refl d y.goes.went (ports s).pays;
        pays = λ c plan w on. told_paid poll refl d y.goes.went c w still
            ((ports s).pays.pays c plan (works poll refl d y.goes.went w still) on)
            (shows poll read still s);
      });
    }
  where
    ports : HostInvariant a → ServesPorts hub byte b (Ok tt) d
    ports s = y.ports (of_ports poll read still s)

-- the host stopped at one of them
pub poll_unserved : {hub : List ℕ} {packet : ArrayVec ℕ} {byte : ℕ} {a b d : HostState}
    {fault : HostFault} → ServesTold hub byte b (Err fault) d → HubPoll hub a (Ok (Some packet)) b
    → byte ≡ told_bits packet.items → b.world.fault ≡ None → ServesHub hub a (Err fault) d
poll_unserved {hub = hub} {packet = packet} {byte = byte} {a = a} {b = b} {d = d} {fault = fault} y
    poll read still = record {
      keeps = hub_fails (record {
        goes = host_goes_then (goes poll) y.goes (omega arith);
        owned = single_then (owned poll) y.owned;
        sound = tt;
      });
      polls = tt;
      fails = λ s none.
          let t = told poll read still s in
          port_failed packet b poll.once t (bulk poll s still) (rw (read ∙ t.is) at
          ((ports s).fails ((sound poll refl).sound s) still));
      pays = pays_where (HubPaid hub) (λ s. record {
        stops = told_stop poll refl d y.goes.went (ports s).pays;
        pays = λ c plan w on. tt;
      });
    }
  where
    ports : HostInvariant a → ServesPorts hub byte b (Err fault) d
    ports s = y.ports (of_ports poll read still s)

-- It did not answer

-- the bus made no more steps
pub poll_cut : {hub : List ℕ} {why : BusFault} {a b : HostState} → HubPoll hub a (Err (Bus why)) b
    → {fault : HostFault} → ServesHub hub a (Err fault) b
poll_cut {hub = hub} {why = why} poll = record {
  keeps = hub_fails (record {
    goes = goes_wider (goes poll) (omega arith);
    owned = record { single = λ o. ((owned poll).stays o).single };
    sound = tt;
  });
  polls = tt;
  fails = λ s none. poll_failed why poll.once (stays poll s none);
  pays = grind arith;
}

module _ {hub : List ℕ} {why : PipeFault} {a b : HostState} (poll : HubPoll hub a (Err why) b)
  where
    failed : b.world.fault ≡ None → NoHubFailed {A = Option (ArrayVec ℕ)} (Err why) → ⊥
    failed h h1 = grind arith

-- it was dropped
pub poll_lost : {hub : List ℕ} {why : PipeFault} {a b d : HostState} → DropsOne hub b (Ok tt) d
    → HubPoll hub a (Err why) b → a.world.attempts + 1 ≤ b.world.attempts
    → ServesHub hub a (Ok Worked) d
poll_lost {hub = hub} {why = why} {a = a} {b = b} {d = d} y poll more = record {
  keeps = record {
    part = record {
      goes = host_goes_then (goes poll) y.goes (omega arith);
      owned = dropped_hub_owned hub a d (still_listed poll) (owned poll) y.owned;
      sound = sound_dropped (Ok tt) 768 a b d (goes poll) y.goes (droppable poll)
          (caused_under (called poll)) (bulk poll)
          (plugs_kept a b poll.went.spends.onward (same poll)) y.sound (pends poll (failed poll));
    };
    calm = λ is. absurd (cc is);
    silent = λ s is. absurd (cc is);
  };
  polls = record {
    did = on_by poll d more y.holds;
    polled = λ s still. not_heard why b poll.once
        (search (failed, none_hears, went_before)) y.owned.lost;
    order = asked_failed why b poll.once y.owned.lost;
  };
  fails = tt;
  pays = record {
    stops = λ c plan w. drop_stop c a d poll.went y.goes.went;
    pays = λ c plan w still. drop_paid poll w
        (went_before y.goes.went still) d y.goes.went
        (y.sound.backlog (droppable poll w.sound) still) (y.hubs (rw (same poll) poll.listed));
  };
}

-- the host stopped as it was to be dropped
pub poll_undropped : {hub : List ℕ} {why : PipeFault} {a b d : HostState} {fault : HostFault}
    → DropsOne hub b (Err fault) d → HubPoll hub a (Err why) b
    → (a.world.fault ≡ None → b.world.fault ≡ None) → ServesHub hub a (Err fault) d
poll_undropped {hub = hub} {why = why} {a = a} {b = b} {d = d} y poll works = record {
  keeps = hub_fails (record {
    goes = host_goes_then (goes poll) y.goes (omega arith);
    owned = dropped_hub_owned hub a d (still_listed poll) (owned poll) y.owned;
    sound = tt;
  });
  polls = tt;
  fails = λ s none. drop_failed why b poll.once (bulk poll s (works none))
      (search (droppable, y.bulk));
  pays = search drop_stop;
}
