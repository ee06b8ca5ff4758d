-- What the parts of a round leave, and its loops, one turn after the other.
use Rattle.std.proofs.Common.{◌≡◌, ◌+◌, ◌≤◌, arith, ap, ℕ, List, Result, Ok, Err, ◌∙◌, refl, sym}
use Rattle.std.proofs.Common.{subst, Bool, false, Option, None, Some, is_err, [], IfOk, OnErr, ◌⊎◌}
use Rattle.std.proofs.Common.{◌-◌, ◌*◌, ◌<◌, below_more, true, ◌∷◌, IfSome}
use Rattle.usb_host.specs.{Agrees, hub_poll_bound, hubs_bound, looks_bound, round_bound}
use Rattle.usb_host.specs.{roots_bound, HostState, either, Part, PartsKeep, RootsRest, HubKeeps}
use Rattle.usb_host.specs.{HubsKeep, LooksKeep, NoneWait, HostFault, Round, Quiet, HostWorks}
use Rattle.usb_host.specs.{Affords, Weights, Waits, HostProgress, Did, Remains, DidParts}
use Rattle.usb_host.specs.{LookedAgain, LookedOnce, LooksAgain, ServesEach, ServesHubs, WentByParts}
use Rattle.usb_host.specs.{next_device, HostInvariant, PartsFail, StopsIn, Worked, hubs_failed}
use Rattle.usb_host.specs.{looks_failed, PaysPart, handling_bound, RootsPaid, IsRooted, AddsNoWork}
use Rattle.usb_host.specs.{HandlesNumber, HandlesPort, HubsPolled, LooksOnceMore, RootsServed}
use Rattle.usb_host.specs.{ServedTold, ServesHub, ServesPorts, bit_clear, bit_set, next_hub}
use Rattle.usb_host.specs.{no_device, no_hub, no_root, none_yet, root_changed, root_steady}
use Rattle.usb_host.specs.{handling_most, BitsHandledSo, HubsAsked, RootsHandledSo, WaitingAsked}
use Rattle.usb_host.specs.{bit_handled, bit_unset, bits_begun, hub_asked, hubs_begun, root_handled}
use Rattle.usb_host.specs.{root_unchanged, roots_begun, waiting_begun, waiting_next, Stops}
use Rattle.usb_host.proofs.devices.Owners.{single_then, stays_owned_then}
use Rattle.usb_host.proofs.rests.RestingRounds.{done, ok_is, quiet_first, quiet_second, at_rest}
use Rattle.usb_host.proofs.rests.RestingRounds.{none_next, none_shows, none_changed, Polled}
use Rattle.usb_host.proofs.rests.RestingRounds.{calm_then, none_waits, polled_all, polled_then}
use Rattle.usb_host.proofs.StepSums.{host_goes_none, host_goes_then, goes_wider, did_then}
use Rattle.usb_host.proofs.StepSums.{went_before}
use Rattle.usb_host.proofs.knowledge.Soundness.{part_none, part_then}
use Rattle.usb_table.specs.{ComesAfter, is_hub, is_waiting, IsLast, IsNext}
use Rattle.usb_world.specs.{PlanData, changes, root_row, here, root_port_at, roots_of}
use Rattle.usb_host.proofs.payments.RoundPayments.{hubs_end_pay, looks_end_pay, parts_pay}
use Rattle.usb_host.proofs.payments.RoundPayments.{roots_end_pay, one_waits}
use Rattle.usb_port.specs.{IsPath, has_bit, IsFull}
use Rattle.usb_hub.specs.{TouchesNoPort}
use Rattle.usb_host.proofs.payments.HubPayments.{HubsSoFar, hubs_all, hubs_failed_pay, hubs_next}
use Rattle.usb_host.proofs.payments.HubPayments.{ToldSoFar, root_shows, roots_failed_pay}
use Rattle.usb_host.proofs.payments.HubPayments.{roots_next, told_all, told_clear, told_failed}
use Rattle.usb_host.proofs.payments.HubPayments.{told_next, told_so_far_none}
use Rattle.usb_host.proofs.entries.Ranks.{rank_after, rank_after_most, rank_more, rank_most}
use Rattle.usb_host.proofs.entries.Ranks.{rank_within, rank_rises}

-- What the parts of a round keep.

-- One part after another

pub part-none : {A : Type 0} {n : ℕ} {x : A} {h : HostState} → Part n h (Ok x) h
part-none = search (host_goes_none, part_none)

pub part-then : {A B : Type 0} {k m n : ℕ} {a b c : HostState} {x : A} (result : Result B HostFault)
    → Part m a (Ok x) b → Part n b result c → m + n ≤ k → Part k a result c
part-then {m = m} {a = a} {b = b} {c = c} (Ok y) p q le =
    search (host_goes_then, part_then, stays_owned_then, p.goes, p.owned, p.goes.went)
part-then (Err fault) p q le = search (host_goes_then, single_then, p.goes)

pub part-wider : {A : Type 0} (B : Type 0) {k m : ℕ} {a b : HostState} {x : A} {y : B}
    → Part m a (Ok x) b → m ≤ k → Part k a (Ok y) b
part-wider B p le = search goes_wider

pub part-fails : {A B : Type 0} {k m : ℕ} {a b : HostState} {fault : HostFault}
    → Part {A = A} m a (Err fault) b → m ≤ k → Part {A = B} k a (Err fault) b
part-fails p le = search goes_wider

-- Parts that failed

module _ {fault : HostFault} {a c : HostState} where
  pub hub_fails : {hub : List ℕ} → Part {A = Round} hub_poll_bound a (Err fault) c
      → HubKeeps hub a (Err fault) c
  hub_fails x = grind arith

  hubs_fail : Part {A = Round} hubs_bound a (Err fault) c → HubsKeep a (Err fault) c
  hubs_fail x = grind arith

  looks_fail : Part {A = Round} looks_bound a (Err fault) c → (NoneWait a.entries → ⊥)
      → LooksKeep a (Err fault) c
  looks_fail x waits = grind arith

-- All parts

pub parts_keep : (roots hubs looks : Round) (a b c d : HostState)
    → (done roots ≡ done Quiet → RootsRest a b) → Part roots_bound a (Ok roots) b
    → HubsKeep b (Ok hubs) c → LooksKeep c (Ok looks) d
    → PartsKeep a (Ok (either (either roots hubs) looks)) d
parts_keep roots hubs looks a b c d none x y z = record {
  part = part-then (Ok (either (either roots hubs) looks))
      (part-then {k = roots_bound + hubs_bound} (Ok hubs) x y.part (omega arith))
      (part-wider Round {k = looks_bound} {y = either (either roots hubs) looks} z.part
      (omega arith)) (omega arith);
  rest = λ s is taken still.
      let all : either (either roots hubs) looks ≡ Quiet = grind arith in
      let both : either roots hubs ≡ Quiet = search quiet_first in
      at_rest a b c d (search quiet_first) y.part.sound.sound
      (rw (quiet_second roots hubs both) at y)
      (rw (quiet_second (either roots hubs) looks all) at z)
      s taken still;
}

-- How the parts of a round join as what was done in it.

-- A second look

either_worked : (r : Round) → either r Worked ≡ Worked
either_worked r = grind arith

pub looked_then : (last : Option (List ℕ)) (path : List ℕ) (before round : Round)
    (a b c : HostState) → LookedAgain last before a b → Waits path b → ComesAfter last path
    → round ≡ Worked → LookedOnce path b c → LookedAgain (Some path) (either before round) a c
looked_then last path before round a b c looked waits after is once =
    rw (ap (either before) is ∙ either_worked before) (next_device last path before looked waits
    after once)

-- The parts

parts_failed : {fault : HostFault} {a b : HostState} → Part {A = Round} round_bound a (Err fault) b
    → ((c : Weights) (plan : PlanData) → Affords c plan a → Stops c a b)
    → (a.entries ≡ [] → changes (root_row a.world) ≡ 0 → ⊥) → (HostInvariant a
    → a.world.fault ≡ None → PartsFail a b)
    → WentByParts a (Err fault) b
parts_failed part stops idle fails = grind arith

module _ {a b : HostState} where
  -- the root ports failed
  pub parts_rootless : {fault : HostFault} → ServesEach a (Err fault) b
      → WentByParts a (Err fault) b
  parts_rootless {fault = fault} x =
      parts_failed (part-fails {k = round_bound} x.part (omega arith)) (roots_end_pay x)
      (grind arith) (grind arith)

  module _ {roots : Round} (x : ServesEach a (Ok roots) b)
      (working : a.world.fault ≡ None → b.world.fault ≡ None) {d : HostState} where
    -- the hubs failed
    pub parts_hubless : {fault : HostFault} → ServesHubs b (Err fault) d
        → WentByParts a (Err fault) d
    parts_hubless {fault = fault} y =
        parts_failed (part-fails {k = round_bound}
        (part-then {k = roots_bound + hubs_bound} _ x.part y.keeps.part (omega arith))
        (omega arith)) (hubs_end_pay x y) (grind arith)
        (λ i none. hubs_failed roots b (x.serves.served i) (x.part.sound.bulk i (working none))
        (grind arith))

    module _ {hubs : Round} (y : ServesHubs b (Ok hubs) d)
        (on : b.world.fault ≡ None → d.world.fault ≡ None) (f : HostState) where
      both_served : Part (roots_bound + hubs_bound) a (Ok hubs) d
      both_served = part-then (Ok hubs) x.part y.keeps.part (omega arith)

      -- the second looks failed
      pub parts_lookless : {fault : HostFault} → LooksAgain d (Err fault) f
          → WentByParts a (Err fault) f
      parts_lookless {fault = fault} z =
          parts_failed (part-then {k = round_bound} _ both_served z.keeps.part (omega arith))
          (looks_end_pay x y z.keeps) (grind arith)
          (λ i none.
          let still = on (working none) in
          looks_failed roots hubs b d (x.serves.served i)
          (y.polls (x.part.sound.sound.sound i) still) (both_served.sound.bulk i still)
          (z.fails (both_served.sound.sound.sound i) still))

      -- all was done
      pub parts_made : {looks : Round} → LooksAgain d (Ok looks) f
          → WentByParts a (Ok (either (either roots hubs) looks)) f
      parts_made {looks = looks} z = record {
        keeps = parts_keep roots hubs looks a b d f (λ is. x.serves.none (ok_is roots Quiet is))
            x.part y.keeps z.keeps;
        did = did_then (either roots hubs) looks a d f both_served.goes z.keeps.part.goes
            (search did_then) z.did;
        none = grind arith;
        parts = λ s still.
            let before = x.part.sound.sound.sound s in
            record {
              roots = roots;
              first = b;
              served = x.serves.served s;
              hubs = hubs;
              second = d;
              polled = y.polls before
                  (went_before z.keeps.part.goes.went still);
              looks = looks;
              looked = z.looked (grind arith);
              is = refl;
            };
        fails = tt;
        order = search z.order;
        pays = parts_pay x y z.keeps;
        idle = grind arith;
      }

did_worked : (r : Round) (a b : HostState) → Did r a b → r ≡ Worked → HostProgress a b
did_worked r a b did is = grind arith

did_quiet : (r : Round) (a b : HostState) → Did r a b → r ≡ Quiet → Remains a b
did_quiet r a b did is = grind arith

-- one that failed stops
pub parts_stopped : (result : Result Round HostFault) (a b : HostState) (stopped : Bool)
    → stopped ≡ is_err result → WentByParts a result b → OnErr result (a.stopped ≡ false
    → HostInvariant a → a.world.fault ≡ None → StopsIn a (record b { stopped = stopped }))
parts_stopped (Ok round) a b stopped is went = tt
parts_stopped (Err fault) a b stopped is went = λ going i none. record {
  left = b;
  fails = went.fails i none;
  stops = grind arith;
}

-- a host that has not stopped goes on
pub parts_done : (result : Result Round HostFault) (a b : HostState) (stopped : Bool)
    → a.stopped ≡ false → stopped ≡ is_err result → WentByParts a result b → HostWorks a result b
    → IfOk result (λ round. DidParts round a (record b { stopped = stopped }))
parts_done (Ok round) a b stopped going is went works =
    subst (λ (x : Bool). DidParts round a (record b { stopped = x })) (grind arith) (record {
      did = search (did_quiet, did_worked, went.none);
      parts = λ s still. went.parts s (works still);
      order = went.order;
    })
parts_done (Err fault) a b stopped going is went works = tt

-- What the loops of a round leave, one turn after the other.

-- Root ports

-- the root ports below a number were handled
pub record RootsHandled (n : ℕ) (round : Round) (a b : HostState) : Type 0 where
  pub part : Part ((n - 1) * handling_bound) a (Ok round) b
  pub did : Did round a b
  pub same : round ≡ Quiet → b ≡ a
  pub unchanged : round ≡ Quiet → (k : ℕ) → 1 ≤ k → k < n
      → (root_port_at a.world k).connection_changed ≡ false
  pub served : HostInvariant a → RootsServed n round a b
  pub order : RootsHandledSo n round a b
  pub pays : PaysPart handling_most RootsPaid a (Ok round) b
  pub idle : changes (root_row a.world) ≡ 0 → round ≡ Quiet

pub roots_begin : (h : HostState) → RootsHandled 1 Quiet h h
roots_begin h = record {
  part = part-none;
  did = refl;
  same = λ quiet. refl;
  unchanged = grind arith;
  served = λ s. no_root h;
  order = roots_begun h;
  pays = grind arith;
  idle = λ none. refl;
}

module _ {n : ℕ} {round : Round} {a b : HostState} (x : RootsHandled n round a b)
    (least : 1 ≤ n) where
  -- the next one had not changed
  pub roots_steady : (root_port_at b.world n).connection_changed ≡ false
      → RootsHandled (n + 1) round a b
  roots_steady steady = record {
    part = part-wider Round x.part (omega arith);
    did = x.did;
    same = x.same;
    unchanged = λ quiet k first below.
        let here = ap (λ (h : HostState). (root_port_at h.world n).connection_changed)
        (sym (x.same quiet)) ∙ steady in
        below_more (λ k. 1 ≤ k → (root_port_at a.world k).connection_changed ≡ false) n
        (λ k lt first. x.unchanged quiet k first lt) (λ first. here) k below first;
    served = λ s. root_steady n round (x.served s) steady;
    order = root_unchanged n round x.order steady;
    pays = x.pays;
    idle = x.idle;
  }

  module _ {d : HostState} (on : (root_port_at b.world n).connection_changed ≡ true) where
    -- it had, and was handled
    pub roots_handled : n ≤ roots_of b.world
        → HandlesPort (n ∷ []) ((root_port_at b.world n).connection_changed ≡ true) b (Ok tt) d
        → RootsHandled (n + 1) Worked a d
    roots_handled most y = record {
      part = part-then (Ok Worked) x.part
          (part-wider Round {k = handling_bound} {y = Worked} y.part (omega arith)) (omega arith);
      did = grind arith;
      same = λ quiet. absurd (cc quiet);
      unchanged = λ quiet. absurd (cc quiet);
      served = λ s.
          root_changed n round (x.served s) on (y.handled.served (x.part.sound.sound.sound s));
      order = root_handled n round x.order on y.handled.order;
      pays = search (root_shows, roots_next, y.pays);
      idle = grind (arith, none_shows);
    }

    pub roots_cut : n ≤ 7 → (a.world.fault ≡ None → b.world.fault ≡ None) → {fault : HostFault}
        → HandlesPort (n ∷ []) ((root_port_at b.world n).connection_changed ≡ true) b (Err fault) d
        → ServesEach a (Err fault) d
    roots_cut most works y = record {
      part = part-fails (part-then {k = n * handling_bound} _ x.part y.part (omega arith))
          (omega arith);
      serves = tt;
      fails = λ i none. record {
        number = n;
        round = round;
        mid = b;
        served = x.served i;
        changed = on;
        bulk = x.part.sound.bulk i (works none);
        cut = y.cut (x.part.sound.sound.sound i);
      };
      pays = roots_failed_pay x.part y.part x.pays y.pays;
      idle = grind (arith, none_shows);
    }

-- all of them were
pub roots_end : {n : ℕ} (round : Round) {a b : HostState} → RootsHandled n round a b → n ≤ 8
    → n ≡ roots_of a.world + 1 → ServesEach a (Ok round) b
roots_end {n = n} round {a = a} {b = b} x most end = record {
  part = part-wider Round x.part (omega arith);
  serves = record {
    did = x.did;
    none = grind (arith, none_changed);
    served = grind arith;
    order = grind arith;
  };
  fails = tt;
  pays = x.pays;
  idle = grind arith;
}

-- Ports of which a hub told

-- those below a number were handled
pub record PortsHandled (hub : List ℕ) (bits n : ℕ) (a b : HostState) : Type 0 where
  pub part : Part {A = Unit {0}} ((n - 1) * handling_bound) a (Ok tt) b
  pub holds : AddsNoWork a b
  pub served : HostInvariant a → ServedTold hub bits n a b
  pub order : BitsHandledSo hub bits n a b
  pub pays : ToldSoFar hub bits n a b

pub ports_begin : {hub : List ℕ} {bits : ℕ} (h : HostState) → PortsHandled hub bits 1 h h
ports_begin h = record {
  part = part-none;
  holds = omega arith;
  served = λ s. none_yet h;
  order = bits_begun h;
  pays = told_so_far_none h;
}

module _ {hub : List ℕ} {bits n : ℕ} {a b : HostState} (x : PortsHandled hub bits n a b)
    (least : 1 ≤ n) where
  -- of the next one it did not tell
  pub ports_clear : has_bit bits n ≡ false → PortsHandled hub bits (n + 1) a b
  ports_clear off = record {
    part = part-wider (Unit {0}) x.part (omega arith);
    holds = x.holds;
    served = λ s. bit_clear n (x.served s) off;
    order = bit_unset n x.order off;
    pays = told_clear bits n a b off x.pays;
  }

  module _ (most : n ≤ 15) {d : HostState} where
    -- it did, and that was handled
    pub ports_handled : {round : Round} → has_bit bits n ≡ true → HandlesNumber hub n b (Ok round) d
        → PortsHandled hub bits (n + 1) a d
    ports_handled {round = round} on y = record {
      part = part-then (Ok tt) x.part
          (part-wider (Unit {0}) {k = handling_bound} {y = tt} y.part (omega arith)) (omega arith);
      holds = grind arith;
      served = λ s. bit_set n (x.served s) on (y.handled.served (x.part.sound.sound.sound s));
      order = bit_handled n x.order on y.handled.order;
      pays = search told_next;
    }

    pub ports_cut : (a.world.fault ≡ None → b.world.fault ≡ None) → {fault : HostFault}
        → has_bit bits n ≡ true → HandlesNumber hub n b (Err fault) d
        → ServesPorts hub bits a (Err fault) d
    ports_cut works on y = record {
      part = part-fails (part-then {k = n * handling_bound} _ x.part y.part (omega arith))
          (omega arith);
      holds = tt;
      served = tt;
      order = tt;
      fails = λ i none. record {
        number = n;
        mid = b;
        served = x.served i;
        told = on;
        bulk = x.part.sound.bulk i (works none);
        cut = y.cut (x.part.sound.sound.sound i);
      };
      pays = told_failed least most x.part y.part x.pays y.pays;
    }

pub ports_end : {hub : List ℕ} (bits : ℕ) {n : ℕ} {a b : HostState} → PortsHandled hub bits n a b
    → n ≡ 16 → ServesPorts hub bits a (Ok tt) b
ports_end {hub = hub} bits {a = a} {b = b} x end = record {
  part = part-wider (Unit {0}) x.part (omega arith);
  holds = x.holds;
  served = grind arith;
  order = grind arith;
  fails = tt;
  pays = told_all a b (rw end at x.pays);
}

-- Hubs

-- those up to a path were polled
pub record HubsHandled (last : Option (List ℕ)) (round : Round) (a b : HostState) : Type 0 where
  pub part : Part (rank_after last * hub_poll_bound) a (Ok round) b
  pub did : Did round a b
  pub calm : round ≡ Quiet → b.world.fault ≡ None → TouchesNoPort a.world b.world
  pub polled : HostInvariant a → round ≡ Quiet → b.world.fault ≡ None
      → b.world.taken ≡ a.world.taken → Polled last b
  pub polls : HostInvariant a → b.world.fault ≡ None → HubsPolled last round a b
  pub order : HubsAsked last round a b
  pub pays : HubsSoFar last round a b

pub hubs_begin : (h : HostState) → HubsHandled None Quiet h h
hubs_begin h = record {
  part = part-none;
  did = refl;
  calm = λ quiet still x. here h.world;
  polled = grind arith;
  polls = λ s still. no_hub h;
  order = hubs_begun h;
  pays = grind arith;
}

module _ {last : Option (List ℕ)} {hub : List ℕ} {round : Round} {a b d : HostState}
    (x : HubsHandled last round a b) (before : IfSome last IsPath) (path : IsPath hub)
    (next : IsNext is_hub last b.entries hub) where
  pub hubs_handled : {one : Round} → ServesHub hub b (Ok one) d
      → HubsHandled (Some hub) (either round one) a d
  hubs_handled {one = one} y =
      let first = x.part.goes in
      let second = y.keeps.part.goes in
      record {
        part = part-then (Ok (either round one)) x.part
            (part-wider Round {k = hub_poll_bound} {y = either round one} y.keeps.part
            (omega arith)) (rank_more hub_poll_bound last hub before path next.stands.after);
        did = did_then round one a b d first second x.did y.polls.did;
        calm = λ quiet still.
            calm_then round one a b d first
            second quiet still x.calm y.keeps.calm;
        polled = λ s quiet still taken.
            polled_then round one a b d first
            second quiet still next taken s x.part.sound.sound y.polls.did x.polled
            y.keeps;
        polls = λ s still.
            next_hub last hub round one
            (x.polls s (went_before second.went still)) next
            (y.polls.polled (x.part.sound.sound.sound s) still);
        order = hub_asked last hub round one x.order next y.polls.order;
        pays = hubs_next hub (omega (arith, rank_rises last hub before path next.stands.after))
            x.part
            y.keeps.part x.pays y.pays;
      }

  pub hubs_cut : (a.world.fault ≡ None → b.world.fault ≡ None) → {fault : HostFault}
      → ServesHub hub b (Err fault) d → (a.entries ≡ [] → b ≡ a) → ServesHubs a (Err fault) d
  hubs_cut works y idle = record {
    keeps = hubs_fail (part-fails {k = hubs_bound}
        (part-then {k = rank_after (Some hub) * hub_poll_bound} _ x.part y.keeps.part
        (search rank_more))
        (search (rank_most, rank_within)));
    did = tt;
    polls = tt;
    order = tt;
    fails = λ i none. record {
      last = last;
      round = round;
      mid = b;
      polled = x.polls i (works none);
      hub = hub;
      next = next;
      bulk = x.part.sound.bulk i (works none);
      fails = y.fails (x.part.sound.sound.sound i) (works none);
    };
    pays = hubs_failed_pay hub x.part y.keeps.part x.pays y.pays;
    idle = λ none. search none_next;
  }

pub hubs_all_handled : (last : Option (List ℕ)) (round : Round) {a b : HostState}
    → HubsHandled last round a b → IfSome last IsPath → IsLast is_hub last b.entries
    → Agrees b.options b.entries b.addresses → (a.entries ≡ [] → (round ≡ Quiet) × (b ≡ a))
    → ServesHubs a (Ok round) b
hubs_all_handled last round {a = a} {b = b} x path none agrees idle = record {
  keeps = search (ok_is, part-wider, polled_all, rank_after_most, rank_within, x.calm, x.polled);
  did = x.did;
  polls = grind arith;
  order = grind arith;
  fails = tt;
  pays = hubs_all last round a b x.pays;
  idle = grind arith;
}

-- Devices that wait

-- those up to a path were looked at
pub record WaitingHandled (last : Option (List ℕ)) (round : Round) (a b : HostState) : Type 0 where
  pub part : Part (rank_after last * handling_bound) a (Ok round) b
  pub did : Did round a b
  pub none : IsRooted a → round ≡ Quiet → (b ≡ a) × (last ≡ None)
  pub looked : HostInvariant a → LookedAgain last round a b
  pub order : WaitingAsked last round a b

pub waiting_begin : (h : HostState) → WaitingHandled None Quiet h h
waiting_begin h = record {
  part = part-none;
  did = refl;
  none = λ r quiet. (refl, refl);
  looked = λ s. no_device h;
  order = waiting_begun h;
}

module _ {last : Option (List ℕ)} {path : List ℕ} {round : Round} {a b d : HostState}
    (x : WaitingHandled last round a b) (before : IfSome last IsPath) (is : IsPath path)
    (waits : Waits path b) (after : ComesAfter last path) where
  pub waiting_handled : {one : Round} → LooksOnceMore path b (Ok one) d
      → WaitingHandled (Some path) (either round one) a d
  waiting_handled {one = one} y = record {
    part = part-then (Ok (either round one)) x.part
        (part-wider Round {k = handling_bound} {y = either round one} y.part (omega arith))
        (rank_more handling_bound last path before is after);
    did = did_then round one a b d x.part.goes y.part.goes x.did y.did.did;
    none = λ r quiet. absurd (y.did.some (x.part.owned.rooted r) (quiet_second round one quiet));
    looked = λ s.
        let once = y.looked (x.part.sound.sound.sound s) in
        looked_then last path round one a b d (x.looked s) waits after once.0 once.1;
    order = waiting_next last path round one x.order waits after y.order;
  }

  pub waiting_cut : (a.world.fault ≡ None → b.world.fault ≡ None) → {fault : HostFault}
      → LooksOnceMore path b (Err fault) d → (NoneWait a.entries → b ≡ a)
      → LooksAgain a (Err fault) d
  waiting_cut works y idle = record {
    keeps = looks_fail (part-fails {k = looks_bound}
        (part-then {k = rank_after (Some path) * handling_bound} _ x.part y.part (search rank_more))
        (search (rank_most, rank_within)))
        (search one_waits);
    did = tt;
    looked = tt;
    order = tt;
    fails = λ i none. record {
      last = last;
      round = round;
      mid = b;
      looked = x.looked i;
      path = path;
      waits = waits;
      after = after;
      bulk = x.part.sound.bulk i (works none);
      cut = y.cut (x.part.sound.sound.sound i);
    };
  }

pub waiting_end : {last : Option (List ℕ)} {round : Round} {a b : HostState}
    → WaitingHandled last round a b → IfSome last IsPath → Agrees b.options b.entries b.addresses
    → (IsFull b.addresses ⊎ IsLast is_waiting last b.entries)
    → (NoneWait a.entries → (round ≡ Quiet) × (b ≡ a)) → LooksAgain a (Ok round) b
waiting_end {last = last} {round = round} x path agrees all idle = record {
  keeps = record {
    part = search (part-wider, rank_after_most, rank_within);
    rest = λ r is.
        let rests = x.none r (ok_is round Quiet is) in (
          rests.0,
          none_waits agrees (rw rests.1 at all),
        );
    idle = grind arith;
  };
  did = x.did;
  looked = grind arith;
  order = grind arith;
  fails = tt;
}
