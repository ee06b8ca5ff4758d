-- What looks at ports leave and report.
use Rattle.std.proofs.Common.{◌≡◌, ◌≢◌, ◌∙◌, inl, inr, ap, arith, refl, sym, ℕ, List, Bool, true}
use Rattle.std.proofs.Common.{false, Result, Ok, Err, OnOk, Some}
use Rattle.usb_world.specs.{PlanData, is_way}
use Rattle.usb_table.specs.{NoPort, KnownPort, Entries, finding_at, without}
use Rattle.usb_host.specs.{Affords, Bus, CutAt, HostFault, HostState, HostWorks, Look, LookCosts}
use Rattle.usb_host.specs.{LookDid, LookKeeps, LookMade, LookTells, LooksOver, StopsAsLook}
use Rattle.usb_host.specs.{PartFaultAllowed, ReportsPort, StandsNowhere, StaysOwned, StaysSingle}
use Rattle.usb_host.specs.{Weights, handling_bound, is_final, EndsAs, FinishesAt, HostProgress}
use Rattle.usb_host.specs.{LookedThere, LooksAt, LooksOnceMore, Round, StandsAt, Waits, Worked}
use Rattle.usb_host.specs.{ChangesNear, DropsNear, EntriesStay, Entered, is_last_fault}
use Rattle.usb_host.specs.declared.fault.HostFault.TheVariants.{Stopped, Transfer, Memory}
use Rattle.usb_host.proofs.StepSums.{host_goes_none}
use Rattle.usb_host.proofs.devices.Owners.{stays_owned_none}
use Rattle.usb_host.proofs.knowledge.Soundness.{part_none}
use Rattle.usb_enum.specs.{EnumFault, Finding, Lost}
use Rattle.usb_host.proofs.HostProgress.{handled}
use Rattle.usb_host.proofs.PortServes.{done_by, look_finished}
use Rattle.usb_host.proofs.RoundLoops.{part-wider}
use Rattle.usb_host.proofs.payments.PortPayments.{look_over_pays}
use Rattle.usb_host.proofs.Services.{looked_left, port_cut, handled_once}
use Rattle.std.specs.BTreeMap.{insert_entry}
use Rattle.usb_port.specs.{parent_of, path_cmp}
use Rattle.usb_world.proofs.Interface.{false_true, way_itself, way_parent, way_trans}
use Rattle.usb_enum.specs.declared.finding.Finding.TheVariants.{Refused}
use Rattle.usb_host.proofs.entries.Agreements.{lookup-insert_entry_elsewhere}
use Rattle.usb_host.proofs.entries.Agreements.{lookup-insert_entry_here}
use Rattle.usb_host.proofs.knowledge.Places.{finding-kept, untied}

-- What a look reports, and what it leaves.

-- What is left

stays_single : {a d : HostState} → StaysOwned a d → StaysSingle a d
stays_single x = record { single = λ o. (x.stays o).single }

none_costs : (result : Result Look HostFault) (h : HostState) (c : Weights) (plan : PlanData)
    → Affords c plan h → LookCosts c plan h result h
none_costs result h c plan w = grind arith

-- no port has the path
pub made_unknown : {path : List ℕ} {h : HostState} → StandsNowhere path h
    → LookMade path h (Err (Transfer NoPort)) h
made_unknown {path = path} {h = h} none = record {
  went = (host_goes_none {n = handling_bound} {h = h}).went;
  going = refl;
  told = tt;
  works = λ sound none. none;
  did = (refl, inl (none, refl));
  single = stays_single stays_owned_none;
  owned = λ goes. stays_owned_none;
  sound = λ goes. part_none h;
  costs = search none_costs;
}

module _ {path : List ℕ} {a d : HostState} where
  -- the host stopped in it
  pub made_stops : (fault : HostFault) → PartFaultAllowed true fault d
      → HostWorks {A = Unit {0}} a (Err fault) d → LooksOver path a (Err fault) d
      → LookMade path a (Err fault) d
  made_stops Stopped told works x = absurd told
  made_stops (Transfer fault) told works x = absurd told
  made_stops (Bus fault) told works x = record {
    went = x.part.goes.went;
    going = x.part.goes.going;
    told = told.0 refl;
    works = works;
    did = x.cut;
    single = x.part.owned;
    owned = λ goes. absurd (cc goes);
    sound = λ goes. absurd (cc goes);
    costs = grind arith;
  }
  made_stops Memory told works x = grind arith

  module _ (x : LooksOver path a (Ok tt) d) where
    over_costs : (result : Result Look HostFault) (c : Weights) (plan : PlanData) → Affords c plan a
        → LookCosts c plan a result d
    over_costs result c plan w = grind arith

    -- what is listed was reported
    pub made_known : (result : Result Look HostFault) → HostWorks {A = Unit {0}} a (Ok tt) d
        → ReportsPort path d result → LookMade path a result d
    made_known (Ok look) works reports = grind (arith, stays_single)
    made_known (Err (Transfer fault)) works reports = grind (arith, stays_single)
    made_known (Err Stopped) works reports = absurd reports
    made_known (Err (Bus fault)) works reports = absurd reports
    made_known (Err Memory) works reports = absurd reports

-- With the host's stop

pub cut_stopped : {path : List ℕ} {a b : HostState} (stopped : Bool) → CutAt path a b
    → CutAt path a (record b { stopped = stopped })
cut_stopped stopped x = record {
  entries = x.entries;
  bulk = record {
    each = grind arith;
  };
}

pub look_stops : {A : Type 0} {result : Result A HostFault} {a : HostState} (b : HostState)
    → a.stopped ≡ false → result ≢ Err Stopped → b.stopped ≡ is_final result
    → StopsAsLook a result b
look_stops b going other stops = grind arith

module _ {path : List ℕ} {result : Result Look HostFault} {a b : HostState} (stopped : Bool)
    (going : a.stopped ≡ false) (stops : stopped ≡ is_final result)
    (m : LookMade path a result b) where
  abbrev look_end : HostState
  look_end = record b { stopped = stopped }

  same_end : is_final result ≡ false → look_end ≡ b
  same_end goes = grind arith

  end_keeps : LookKeeps a result look_end
  end_keeps = record {
    owning = grind arith;
    sound = λ goes. rw (same_end goes) (m.sound goes);
    costs = grind arith;
  }

  pub look_tells : result ≢ Err Stopped → LookTells path a result look_end
  look_tells other = record {
    stopped = search look_stops;
    went = m.went;
    told = m.told;
    works = m.works;
    did = λ going. end_did result stops m.did same_end;
    keeps = end_keeps;
  }
    where
      end_did : (result : Result Look HostFault) → stopped ≡ is_final result
          → LookDid path a result b → (is_final result ≡ false → look_end ≡ b)
          → LookDid path a result look_end
      end_did (Ok look) stops x same = rw (same refl) x
      end_did (Err (Transfer fault)) stops x same = rw (same refl) x
      end_did (Err Stopped) stops x same = x
      end_did (Err (Bus fault)) stops x same = λ i. cut_stopped stopped (x i)
      end_did (Err Memory) stops x same = λ i. cut_stopped stopped (x i)

-- the host had stopped
pub stopped_tells : (path : List ℕ) (h : HostState) → h.stopped ≡ true
    → StopsAsLook {A = Look} h (Err Stopped) h → LookTells path h (Err Stopped) h
stopped_tells path h on stops = record {
  stopped = stops;
  went = (host_goes_none {n = handling_bound} {h = h}).went;
  told = tt;
  works = λ sound none. none;
  did = λ going. absurd (cc (on, going));
  keeps = grind (arith, part_none);
}

-- What the enumeration of a port anew leaves.

on_due : {Due : Type 0} (P : Type 0) (result : Result (Unit {0}) HostFault)
    → OnOk result (Due → P) → Due → OnOk result P
on_due P result by due = grind arith

module _ {path : List ℕ} {port : KnownPort} {a b d : HostState} (s : StandsAt path port a) where
  looked_there : (served : Result (Unit {0}) EnumFault) (result : Result (Unit {0}) HostFault)
      → EndsAs served result → FinishesAt path served b result d → LooksAt path port a served b
      → OnOk result (LookedThere path a d)
  looked_there served (Ok tt) ends y x = record {
    port = port;
    stands = s;
    order = done_by _ path served (Ok tt) a b d s.known ends y.left x.order;
    looked = λ i. handled_once path served a b d ends y.left (x.looked i.owned);
  }
  looked_there served (Err fault) ends y x = tt

  pub looks_over : (served : Result (Unit {0}) EnumFault) (result : Result (Unit {0}) HostFault)
      → EndsAs served result → FinishesAt path served b result d → LooksAt path port a served b
      → LooksOver path a result d
  looks_over served result ends y x = record {
    part = look_finished s ends y x;
    on = λ waits. on_due (HostProgress a d) result
        (handled result served a b d ends y.holds x.on) (inr waits);
    looked = search looked_there;
    cut = port_cut path served result a b d y.goes.went ends y.left
        (λ i. looked_left path served a b (x.looked i.owned)) x.sound.cut
        (λ i. y.drops.cut (x.sound.sound i));
    pays = look_over_pays s ends x y;
  }

-- A device that waits

module _ {path : List ℕ} {a d : HostState} where
  pub waited_fails : {fault : HostFault} → LooksOver path a (Err fault) d
      → LooksOnceMore path a (Err fault) d
  waited_fails x = grind arith

  pub waited : Waits path a → LooksOver path a (Ok tt) d → LooksOnceMore path a (Ok Worked) d
  waited waits x = record {
    part = part-wider Round x.part (omega arith);
    did = record { did = x.on waits; some = λ r is. cc is };
    looked = λ i. (refl, x.looked.looked i);
    order = x.looked.order;
    cut = tt;
  }

-- Which entries change where a port is handled.

-- Elsewhere entries stay

pub stay_same : (path : List ℕ) {es fs : Entries} → fs ≡ es → EntriesStay path es fs
stay_same path is other away = ap (finding_at other) is

pub stay_without : (path : List ℕ) (es : Entries) {fs : Entries} → fs ≡ without path es
    → EntriesStay path es fs
stay_without path es is = grind (arith, finding-kept)

pub stay_entered : (path : List ℕ) (f : Finding) (es : Entries) {fs : Entries}
    → fs ≡ insert_entry path_cmp es path f → EntriesStay path es fs
stay_entered path f es is = grind (arith, lookup-insert_entry_elsewhere, untied)

pub stay_then : (path : List ℕ) (es fs gs : Entries) → EntriesStay path es fs
    → EntriesStay path fs gs → EntriesStay path es gs
stay_then path es fs gs first then = grind arith

-- one may be entered
pub stay_found : (path : List ℕ) (c d : HostState) (result : Result (Unit {0}) EnumFault)
    → Entered path c result d → EntriesStay path c.entries d.entries
stay_found path c d result e = grind (arith, stay_entered)

-- A hub is dropped

pub part_final : (modelled : Bool) (fault : HostFault) (h : HostState)
    → PartFaultAllowed modelled fault h → is_last_fault fault ≡ true
part_final modelled fault h told = grind arith

module _ {A : Type 0} {result : Result A HostFault} where
  pub drops_none : (hub : List ℕ) {es fs : Entries} → fs ≡ es → is_final result ≡ true
      → DropsNear hub result es fs
  drops_none hub is stops = record {
    on = hub;
    way = way_itself hub;
    rest = stay_same hub is;
    lost = λ goes. false_true (sym goes ∙ stops);
  }

  pub drops_gone : {hub : List ℕ} (lost : List ℕ) (es : Entries) {fs : Entries}
      → is_way lost hub ≡ true → fs ≡ without lost es → is_final result ≡ true
      → DropsNear hub result es fs
  drops_gone lost es way is stops = grind (arith, stay_without)

  pub drops_listed : {hub : List ℕ} (lost : List ℕ) (es fs gs : Entries)
      → is_way lost hub ≡ true → fs ≡ without lost es
      → gs ≡ insert_entry path_cmp fs lost (Refused Lost) → DropsNear hub result es gs
  drops_listed lost es fs gs way gone is = record {
    on = lost;
    way = way;
    rest = stay_then lost es fs gs (stay_without lost es gone) (search stay_entered);
    lost = grind (arith, lookup-insert_entry_here);
  }

  -- of the hub of a port
  pub drops_above : {path : List ℕ} {es fs : Entries} (hub : List ℕ) → parent_of path ≡ Some hub
      → DropsNear hub result es fs → DropsNear path result es fs
  drops_above hub is x = grind (arith, way_parent, way_trans)

  -- after the port was handled
  pub near_then : (path : List ℕ) (es fs gs : Entries) → EntriesStay path es fs
      → ChangesNear path result fs gs → ChangesNear path result es gs
  near_then path es fs gs first h = grind (arith, way_trans)
