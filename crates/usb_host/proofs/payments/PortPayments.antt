-- What was left to do pays for a look at a port, and for its handling.
use Rattle.std.proofs.Common.{◌≡◌, inl, inr, ap, sym, ◌∙◌, ℕ, true, List, None, Result, Ok, Err}
use Rattle.std.proofs.Common.{◌⊎◌, refl, arith, ◌+◌, ◌*◌, false, OnOk, ◌≤◌, subst, [], ◌∷◌, ◌++◌}
use Rattle.std.proofs.Common.{Option, Some, IsSome, IsSomeAnd, IfOk}
use Rattle.usb_port.specs.{PortStatus, parent_of, port_on_hub, IsPath}
use Rattle.usb_world.specs.{AtPorts, World, PlanData}
use Rattle.usb_hub.specs.{KeepsFound, PaysLook, KeepsAll, KeepsBy, unmarked, KeepsPlain, PaysBare}
use Rattle.usb_hub.specs.{OwesAnew, PortStatusAt}
use Rattle.usb_enum.specs.{EnumFault, ParentLost, IsOrderly, HasPlanWithin, read_bound}
use Rattle.usb_enum.proofs.Interface.{went_course}
use Rattle.usb_world.proofs.Interface.{course_joined, way_shorter, decided}
use Rattle.usb_table.specs.{KnownPort, Entries, without, known_port, port_below, hub_facts_at}
use Rattle.usb_host.specs.{ChangeCleared, ClearsConnection, FindsNone, LookPaid, LookPays, unseen}
use Rattle.usb_host.specs.{clearing_bound, HostState, claims, ClearsChange, StandsAt, HostSteps}
use Rattle.usb_host.specs.{HostInvariant, ClearsReset, ServePaid, ServePays, found, bare, tidied}
use Rattle.usb_host.specs.{calm, deciding_bound, IsOwned, Tidies, Watches, OnlyBusSteps}
use Rattle.usb_host.specs.{below_known, hubs, Pays, PaysPart, PortPaid, Weights, WorksOn}
use Rattle.usb_host.specs.{handling_most, hub_weight, paid, idle, EndsAs, FinishesAt, HandlesNumber}
use Rattle.usb_host.specs.{HandlesPort, HasHub, ServesPort, StaysOrForgets, port_known, HostFault}
use Rattle.usb_host.specs.{Round, Worked, Quiet, Costs, LooksAt, PaysLookOver, look_cost}
use Rattle.usb_host.proofs.StepSums.{went_before}
use Rattle.usb_host.proofs.payments.Backlogs.{told_pays_bare, told_keeps, told_looks, plain_of}
use Rattle.usb_host.proofs.payments.Backlogs.{told_resets, told_steady}
use Rattle.usb_host.proofs.PortLocations.{stands_at-claim, parent_length}
use Rattle.usb_bus.proofs.Interface.{went_then, went_wider}
use Rattle.usb_transfer.specs.{write_bound}
use Rattle.usb_host.proofs.devices.Owners.{owned_rests}
use Rattle.usb_host.proofs.entries.KindCounts.{hubs-rest, none_rests}
use Rattle.usb_host.proofs.knowledge.HandledPorts.{rests_stands}
use Rattle.std.proofs.Math.Nat.{mul-le-mul_left}
use Rattle.usb_hub.proofs.Interface.{few-none, devices_in-plan}
use Rattle.usb_host.proofs.RoundLoops.{part-fails, part-none, part-wider}
use Rattle.usb_host.proofs.payments.Payments.{few_stop, looks_pay, plain_costs, plain_pays}
use Rattle.usb_host.proofs.payments.Payments.{works_on-plan, ports_after, works_on-ports, sums_anew}
use Rattle.usb_host.proofs.knowledge.Places.{finding-kept}

-- What a look at a port, and the serving of one, pay of what is left to do.

-- A look

-- a plan goes on
pub plan_within-went : (most : ℕ) {n : ℕ} (a b : HostState) → HostSteps n a b
    → (a.world.fault ≡ None → HasPlanWithin most a.world) → b.world.fault ≡ None
    → HasPlanWithin most b.world
plan_within-went most {n = n} a b went plan still =
    let h : HasPlanWithin most a.world = plan (went_before went still) in
    record {
      planned = record {
        plan = h.planned.plan;
        is = h.planned.is;
        paths = h.planned.paths;
        course =
            course_joined h.planned.course (search (went_course, a.world, b.world));
      };
      plugs = h.plugs;
    }

-- a device was seen there, whatever the answer is
pub look_seen : {before : World} (a : HostState) (result : Result (Unit {0}) EnumFault)
    (d : HostState) → PaysLook before d.world → LookPays before a result d
look_seen a result d x = grind arith

module _ {path : List ℕ} {port : KnownPort} (a b : HostState) (s : StandsAt path port a)
    (went : HostSteps clearing_bound a b) (i : HostInvariant a) (before : World)
    (status : PortStatus) (ports : AtPorts before.left)
    (told : PortStatusAt path status before a.world) where
  -- the hub was lost as the change was cleared
  pub look_lost : FindsNone clearing_bound a b → (fault : EnumFault)
      → ClearsChange port.port a.world (Err fault) b.world → LookPays before a (Err fault) b
  look_lost none ParentLost x = inr (
    told_keeps ports told (search (stands_at-claim, x.backlog)),
    none,
  )
  look_lost none _ x = tt

  module _ (changed : status.connection_changed ≡ true) (second : PortStatus)
      (cleared : ClearsConnection port.port second a.world b.world) (c : HostState)
      (others : c ≡ record b { entries = c.entries; pipes = c.pipes; addresses = c.addresses })
    where
      same : c.world ≡ b.world
      same = ap (λ (h : HostState). h.world) others

      at_port : ChangeCleared path second a.world b.world
      at_port = search stands_at-claim

      orderly : b.world.fault ≡ None → IsOrderly a.world
      orderly still = i.order (went_before went still)

      -- what was found is entered, or is not
      pub look_pays : (n : ℕ) (result : Result (Unit {0}) EnumFault) (d : HostState)
          → HostSteps n c d → second.connected ≡ true → KeepsFound path c.world d.world
          → d.world.fault ≡ None → LookPays before a result d
      look_pays n result d then on keeps still =
          let still_b : b.world.fault ≡ None = ap (λ (w : World). w.fault) (sym same)
          ∙ (went_before then still) in
          look_seen a result d
          (told_looks path status before a.world ports told changed second b.world at_port
          (orderly still_b) on d.world (rw same at keeps))

      -- nothing was seen
      pub look_bare : FindsNone clearing_bound a c → c.world.fault ≡ None → LookPaid before a c
      look_bare gone still =
          unseen (rw same (told_pays_bare path status before a.world ports told changed second
          b.world at_port (orderly (search same)))) gone

-- Serving

module _ {path : List ℕ} {port : KnownPort} {a b : HostState} (s : StandsAt path port a)
    (r : OnlyBusSteps a b) (went : HostSteps (read_bound 4) a b) (i : HostInvariant a)
    (ports : AtPorts a.world.left) where
  few : FindsNone deciding_bound a b
  few = grind arith

  -- the hub was lost as it was asked for the status
  pub status_lost : (fault : EnumFault) → Watches port.port a.world (Err fault) b.world
      → ServePays path a (Err fault) b
  status_lost ParentLost x = inr (plain_of ports (x.backlog tt), few)
  status_lost _ x = tt

  module _ {status : PortStatus} (x : Watches port.port a.world (Ok status) b.world) where
    pub told_there : PortStatusAt path status a.world b.world
    told_there = x.told (claims a.entries) path (stands_at-claim s) i.owned status refl

    -- a change of connection was told
    then_none : (c : HostState) → FindsNone clearing_bound b c → FindsNone deciding_bound a c
    then_none c then = record {
      went = went_then (read_bound 4) clearing_bound went then.went;
      hubs = omega (arith, hubs-rest a r, then.hubs);
    }

    pub after_look : (result : Result (Unit {0}) EnumFault) (c : HostState)
        → LookPays a.world b result c → ServePays path a result c
    after_look result c y = grind (arith, then_none)

    -- none was
    module _ (off : status.connection_changed ≡ false) (c : HostState)
        (then : FindsNone (2 * write_bound) b c) where
      all_few : FindsNone deciding_bound a c
      all_few = record {
        went = went_wider (read_bound 4 + 2 * write_bound) deciding_bound
            (search went_then) (omega arith);
        hubs = omega (arith, hubs-rest a r, then.hubs);
      }

      owned : IsOwned b
      owned = owned_rests a r x.addresses i.owned

      stands : StandsAt path port b
      stands = rests_stands s r went

      pub after_tidy : IsOrderly a.world → (result : Result (Unit {0}) EnumFault)
          → Tidies port.port b.world result c.world
          → OnOk result (status.reset_changed ≡ true → ClearsReset port.port b.world c.world)
          → (status.enable_changed ≡ false → status.reset_changed ≡ false → (result ≡ Ok tt)
          × (c ≡ b)) → ServePays path a result c
      after_tidy order (Ok done) t reset quiet = elim (decided status.reset_changed) [
        | inl e ↦ tidied (search (owned, stands, stands_at-claim, told_resets, told_there))
            all_few
        | inr e ↦
            let same : c ≡ b = (quiet (told_steady path told_there order) e).1 in
            calm status b.world told_there off e
            (told_keeps ports told_there
            (t.backlog (claims b.entries) path (stands_at-claim stands) owned tt))
            (rw same (none_rests a went r))
      ]
      after_tidy order (Err ParentLost) t reset quiet =
          inr (
            told_keeps ports told_there
                (t.backlog (claims b.entries) path (stands_at-claim stands) owned tt),
            all_few,
          )
      after_tidy order _ t reset quiet = tt

-- What was left to do pays for the handling of a port, and what a look costs where nothing was
-- reported.

-- The hub of a port

pub has_by : (path : List ℕ) (es : Entries) (port : KnownPort) (above : Option (List ℕ))
    → port_below above (port_on_hub path) es ≡ Some port → IsSome above
    → IsSomeAnd above (λ hub. IsSome (hub_facts_at hub es))
has_by path es port above known some = grind arith

hub_facts-without : (path : List ℕ) (es : Entries) (above : Option (List ℕ))
    → parent_of path ≡ above → IsSomeAnd above (λ hub. IsSome (hub_facts_at hub es))
    → IsSomeAnd above (λ hub. IsSome (hub_facts_at hub (without path es)))
hub_facts-without path es None is h = h
hub_facts-without path es (Some hub) is h = grind (arith, finding-kept, parent_length, way_shorter)

-- it is listed yet where the port was forgotten
pub has_hub : (path : List ℕ) (old new : Entries) → StaysOrForgets path old new → HasHub path old
    → HasHub path new
has_hub path old new (inl same) h = rw same h
has_hub path old new (inr gone) h = rw gone (search hub_facts-without)

-- A port was served

bare_pays : (c : Weights) (a b : HostState) → FindsNone deciding_bound a b
    → PaysBare a.world b.world → Pays c (c.polls + 28768) a b
bare_pays c a b f x = elim x.paid [
  | inl look ↦ plain_pays c 7200 (c.polls + 28768) 1 0 0 0 a b (omega (arith, f.went.spends.most))
      look (omega (arith, x.strays)) (omega (arith, f.hubs)) (omega (arith, f.went.spends.onward))
      (omega arith)
  | inr more ↦ elim more [
    | inl stray ↦ plain_pays c 7200 (c.polls + 28768) 0 1 0 0 a b
        (omega (arith, f.went.spends.most)) (omega (arith, x.looks)) stray (omega (arith, f.hubs))
        (omega (arith, f.went.spends.onward)) (omega arith)
    | inr came ↦ plain_pays c 7200 (c.polls + 28768) 0 0 0 1 a b (omega (arith, f.went.spends.most))
        (omega (arith, x.looks)) (omega (arith, x.strays)) (omega (arith, f.hubs)) came
        (omega arith)
  ]
]

module _ (c : Weights) (path : List ℕ) (a b : HostState) (few : b.world.attempts
    ≤ a.world.attempts + (257200 + 100 * c.most)) (on : a.world.taken ≤ b.world.taken)
    (more : hubs b.entries ≤ hubs a.entries + 1) where
  pub port_paid : ServePaid path a b → PortPaid c path a b
  port_paid (found x) = paid (looks_pay c (257200 + 100 * c.most) (c.polls + 28768) a b few x.looks
      x.strays on (omega (arith, mul-le-mul_left (hub_weight c) more)))
  port_paid (bare x f) = paid (bare_pays c a b f x)
  port_paid (tidied x f) = grind (arith, bare_pays)
  port_paid (calm status mid told off steady x f) =
      idle status mid told off steady (search plain_costs)

  -- A hub that is lost was dropped

  few_found : ServePaid path a b ⊎ (KeepsPlain a.world b.world × FindsNone deciding_bound a b)
      → PaysLook a.world b.world ⊎ (KeepsPlain a.world b.world
      × (b.world.attempts ≤ a.world.attempts + 7200) × (hubs b.entries ≤ hubs a.entries))
  few_found h = grind arith

  pub lost_paid : (d : HostState) → ServePaid path a b
      ⊎ (KeepsPlain a.world b.world × FindsNone deciding_bound a b) → AtPorts b.world.left
      → KeepsAll b.world d.world → d.world.attempts ≤ b.world.attempts + 11200
      → hubs d.entries + 1 ≤ hubs b.entries → Pays c (c.polls + 28768) a d
  lost_paid d served ports keeps dropped fewer = elim (few_found served) [
    | inl x ↦ looks_pay c (268400 + 100 * c.most) (c.polls + 28768) a d (omega arith)
        (omega (arith, x.looks, all.looks, all.onward)) (omega (arith, x.strays, all.strays))
        (omega (arith, all.onward)) (omega (arith, mul-le-mul_left (hub_weight c) (kept x)))
    | inr x ↦ plain_pays c 18400 (c.polls + 28768) 0 0 1 0 a d (omega (arith, x.1))
        (omega (arith, x.0.looks, all.looks)) (omega (arith, x.0.strays, all.strays))
        (omega (arith, x.2)) (omega (arith, all.onward)) (omega arith)
  ]
    where
      all : KeepsBy unmarked unmarked unmarked b.world d.world
      all = search (few-none, keeps.all)

      kept : PaysLook a.world b.world → hubs d.entries ≤ hubs a.entries
      kept x = omega arith

-- A port was handled

module _ {path : List ℕ} {port : KnownPort} {a b : HostState} (s : StandsAt path port a) where
  few_served : (c : Weights) {plan : PlanData} {served : Result (Unit {0}) EnumFault}
      → ServesPort path port a served b → WorksOn c plan a
      → b.world.attempts ≤ a.world.attempts + (257200 + 100 * c.most)
  few_served c x w = search (works_on-plan, x.pays.few)

  done_pays : {d : HostState} (c : Weights) (plan : PlanData) → WorksOn c plan a
      → d.world.fault ≡ None
      → (served : Result (Unit {0}) EnumFault) (result : Result (Unit {0}) HostFault)
      → EndsAs served result → ServesPort path port a served b
      → FinishesAt path served b result d → IfOk result (λ done. PortPaid c path a d)
  done_pays c plan w still (Ok done) (Ok x) ends serves finishes =
      search (few_served, port_paid, went_before, works_on-ports, finishes.left, serves.pays.pays)
  done_pays {d = d} c plan w still (Err ParentLost) (Ok x) ends serves finishes =
      let first = serves.requested.goes.went in
      let here = went_before finishes.goes.went still in
      let has : HasHub path a.entries =
      has_by path a.entries port (parent_of path) s.known (grind arith) in
      paid
      (lost_paid c path a b (few_served c serves w) first.spends.onward serves.hubs d
      (serves.pays.pays w.sound (works_on-ports w) here) (ports_after plan a b first w here)
      (grind arith)
      (omega (arith, finishes.goes.went.spends.most))
      (search (has_hub, finishes.fewer, serves.served)))
  done_pays c plan w still (Ok done) (Err other) ends serves finishes = tt
  done_pays c plan w still (Err fault) (Err other) ends serves finishes = tt
  done_pays c plan w still _ (Ok x) ends serves finishes = absurd (cc ends)

  pub handling_pays : {served : Result (Unit {0}) EnumFault}
      {result : Result (Unit {0}) HostFault} {d : HostState} → EndsAs served result
      → ServesPort path port a served b → FinishesAt path served b result d
      → PaysPart handling_most (λ c done. PortPaid c path) a result d
  handling_pays {served = served} {result = result} {d = d} ends serves finishes =
      let first = serves.requested.goes.went in
      let second = finishes.goes.went in
      record {
        stops = λ c plan w. few_stop c (handling_most c) a d
            (omega (arith, few_served c serves w, second.spends.most))
            (omega (arith, first.spends.onward, second.spends.onward));
        pays = λ c plan w still. done_pays c plan w still served result ends serves finishes;
      }

-- A port of a hub

pub number_handled : {hub : List ℕ} {number : ℕ} (p : List ℕ) {due : Type 0} {a b : HostState}
    → p ≡ hub ++ number ∷ [] → due → HandlesPort p due a (Ok tt) b
    → HandlesNumber hub number a (Ok Worked) b
number_handled p {a = a} {b = b} is on x = record {
  part = part-wider Round x.part (omega arith);
  handled = record {
    did = x.handled.advances on;
    served = λ s. port_known (rw is at (x.handled.served s));
    order = below_known (rw is at x.handled.order);
  };
  cut = tt;
  pays = record {
    stops = x.pays.stops;
    pays = λ c plan w still.
        subst (λ (q : List ℕ). PortPaid c q a b) is (x.pays.pays c plan w still);
  };
}

pub number_stops : {hub : List ℕ} (number : ℕ) (p : List ℕ) {due : Type 0} {a b : HostState}
    {fault : HostFault} → p ≡ hub ++ number ∷ [] → HandlesPort p due a (Err fault) b
    → HandlesNumber hub number a (Err fault) b
number_stops number p {a = a} {b = b} is x = record {
  part = part-fails x.part (omega arith);
  handled = tt;
  cut = grind arith;
  pays = search x.pays.stops;
}

-- none is known there
pub number_unknown : {hub : List ℕ} {number : ℕ} {h : HostState}
    → (IsPath (hub ++ number ∷ []) → known_port (hub ++ number ∷ []) h.entries ≡ None)
    → HandlesNumber hub number h (Ok Quiet) h
number_unknown {h = h} unknown = record {
  part = part-none;
  handled = grind arith;
  cut = tt;
  pays = grind arith;
}

-- Where nothing was reported

-- a look is owed again for each device, of which there are no more than events
pub anew_costs : (c : Weights) (plan : PlanData) (a d : HostState) → WorksOn c plan a
    → OwesAnew a.world d.world → d.world.attempts ≤ a.world.attempts + handling_most c
    → hubs d.entries ≤ hubs a.entries + 1 → a.world.taken ≤ d.world.taken
    → Costs c (look_cost c plan) a d
anew_costs c plan a d w x few more on = search (devices_in-plan, sums_anew)

-- and then the hub was dropped
anew_then : (a b d : HostState) → AtPorts b.world.left → OwesAnew a.world b.world
    → KeepsAll b.world d.world → OwesAnew a.world d.world
anew_then a b d ports x keeps = grind (arith, few-none)

module _ {path : List ℕ} {port : KnownPort} {a b d : HostState} (s : StandsAt path port a) where
  few_over : (c : Weights) {plan : PlanData} {served : Result (Unit {0}) EnumFault}
      {result : Result (Unit {0}) HostFault} → WorksOn c plan a → LooksAt path port a served b
      → FinishesAt path served b result d
      → d.world.attempts ≤ a.world.attempts + handling_most c
  few_over c {plan = plan} w x y = omega (
    arith,
    x.pays.few w.sound c.most (λ still. works_on-plan c plan a w),
    y.goes.went.spends.most,
  )

  over_costs : (c : Weights) (plan : PlanData) → WorksOn c plan a → d.world.fault ≡ None
      → (served : Result (Unit {0}) EnumFault) (result : Result (Unit {0}) HostFault)
      → EndsAs served result → LooksAt path port a served b → FinishesAt path served b result d
      → OnOk result (Costs c (look_cost c plan) a d)
  over_costs c plan w still (Ok done) (Ok tt) ends x y =
      search (anew_costs, few_over, went_before, works_on-ports, y.left, x.pays.anew)
  over_costs c plan w still (Err ParentLost) (Ok tt) ends x y =
      let first = x.requested.goes.went in
      let here = went_before y.goes.went still in
      let has : HasHub path a.entries = has_by path a.entries port (parent_of path) s.known
      (grind arith) in
      let gone : StaysOrForgets path a.entries b.entries = search x.looked in
      let fewer = y.fewer refl (search has_hub) in
      anew_costs c plan a d w
      (anew_then a b d (ports_after plan a b first w here)
      (x.pays.anew w.sound (works_on-ports w) tt here) (grind arith))
      (few_over c w x y) (omega (arith, fewer, x.hubs))
      (omega (arith, first.spends.onward, y.goes.went.spends.onward))
  over_costs c plan w still (Ok done) (Err other) ends x y = tt
  over_costs c plan w still (Err fault) (Err other) ends x y = tt
  over_costs c plan w still _ (Ok tt) ends x y = absurd (cc ends)

  pub look_over_pays : {served : Result (Unit {0}) EnumFault} {result : Result (Unit {0}) HostFault}
      → EndsAs served result → LooksAt path port a served b → FinishesAt path served b result d
      → PaysLookOver a result d
  look_over_pays {served = served} {result = result} ends x y = record {
    stops = λ c plan w. few_stop c (handling_most c) a d (few_over c w x y) (grind arith);
    pays = search over_costs;
  }
