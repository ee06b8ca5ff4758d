-- What is left where a hub is dropped.
use Rattle.std.proofs.Common.{◌≡◌, ◌-◌, ◌*◌, ◌≤◌, arith, refl, ap, subst, true, false, Bool, ℕ}
use Rattle.std.proofs.Common.{List, length, Option, None, Some, Result, Ok, Err, IsSome, IsSomeAnd}
use Rattle.arrayvec.specs.ArrayVec.{ArrayVec}
use Rattle.usb_port.specs.{parent_of, IsPath}
use Rattle.usb_world.specs.{is_way, pending, here}
use Rattle.usb_hub.specs.{KeepsAddresses, ControlCourse, KeepsDevices, KeepsAll}
use Rattle.usb_hub.proofs.Interface.{keeps_none, keeps_then, keeps_devices_none, all_none, all_then}
use Rattle.usb_transfer.specs.{write_bound}
use Rattle.usb_enum.specs.{Lost, ParentLost}
use Rattle.usb_enum.specs.declared.finding.Finding.TheVariants.{Refused}
use Rattle.usb_enum.proofs.Interface.{devices_then}
use Rattle.usb_table.specs.{without, entered, is_waiting}
use Rattle.usb_host.specs.{drop_bound, DropsHub, HostState, IsOwnedBut, Climbs, DisablesOnWay}
use Rattle.usb_host.specs.{Forgets, AddsNoWork, HostRuns, OnlyBusSteps, waiting, DropsOne}
use Rattle.usb_host.specs.{FinishesAt, CausesBut, DropsSound, IsDroppable, IsFairTo, table_in}
use Rattle.usb_host.specs.{HostFault}
use Rattle.usb_host.proofs.devices.Pipes.{bulk_none, stay_forgotten, stay_joined, stay_rests}
use Rattle.usb_host.proofs.devices.Pipes.{stays_where}
use Rattle.usb_host.proofs.devices.Causes.{lost_drops}
use Rattle.usb_host.proofs.PortLocations.{parent_length}
use Rattle.usb_host.proofs.knowledge.HandledPorts.{climb_caused, climb_sound, done_caused}
use Rattle.usb_host.proofs.knowledge.HandledPorts.{top_absurd}
use Rattle.usb_host.proofs.devices.Owners.{LostListed, bares_above, drop_ends, drop_not_done}
use Rattle.usb_host.proofs.devices.Owners.{but_above}
use Rattle.usb_host.proofs.entries.KindCounts.{hubs-dropped, of_kind-without, waiting-entered_other}
use Rattle.usb_host.proofs.StepSums.{goes_forgotten, host_goes_none, host_goes_then, went_before}
use Rattle.usb_host.proofs.HostProgress.{rests_holds}
use Rattle.usb_host.proofs.Services.{forgets_there, loses_parent}
use Rattle.usb_world.proofs.Interface.{course_joined, way_parent}
use Rattle.usb_host.proofs.entries.Roots.{root_parent}

-- The way up

-- each port from the first one up to the path could not be told to pass nothing on
pub record ClimbedTo (first path : List ℕ) (a b : HostState) : Type 0 where
  pub goes : HostRuns ((7 - length path) * write_bound) a b
  pub keeps : KeepsAddresses a.world b.world
  pub devices : KeepsDevices a.world b.world
  pub control : b.world.fault ≡ None → ControlCourse a.world b.world
  pub sound : IsDroppable first a → IsDroppable path b
  pub backlog : IsDroppable first a → b.world.fault ≡ None → KeepsAll a.world b.world
  pub caused : IsDroppable first a → IsFairTo a.world b.world → pending a.world.roots first ≡ true
      → CausesBut a.options first a.world a.entries
      → (pending b.world.roots path ≡ true) × CausesBut b.options path b.world b.entries

pub climbed_none : (first : List ℕ) (h : HostState) → ClimbedTo first first h h
climbed_none first h = record {
  goes = host_goes_none;
  keeps = keeps_none h.world;
  devices = keeps_devices_none h.world;
  control = λ still. here h.world;
  sound = λ d. d;
  backlog = λ d still. all_none h.world;
  caused = λ d fair pends caused. (pends, caused);
}

module _ {first path : List ℕ} {a b c : HostState} (x : ClimbedTo first path a b)
    (most : length path ≤ 7) {result : Result Bool HostFault}
    (y : DisablesOnWay path b result c) where
  climb_goes : 1 ≤ length path → HostRuns drop_bound a c
  climb_goes least = host_goes_then x.goes y.goes (omega arith)

  climb_devices : KeepsDevices a.world c.world
  climb_devices = search devices_then

  climb_control : c.world.fault ≡ None → ControlCourse a.world c.world
  climb_control still =
      course_joined (x.control (went_before y.goes.went still))
      (y.control still)

  climb_keeps : KeepsAddresses a.world c.world
  climb_keeps = grind (arith, keeps_then)

  climb_backlog : IsDroppable first a → c.world.fault ≡ None → KeepsAll a.world c.world
  climb_backlog d still =
      all_then (x.backlog d (went_before y.goes.went still))
      (y.backlog (x.sound d) still)

  pub climbed_on : {above : List ℕ} → result ≡ Ok false → parent_of path ≡ Some above
      → ClimbedTo first above a c
  climbed_on is parent =
      record {
        goes = host_goes_then x.goes y.goes (omega (arith, parent_length path parent));
        keeps = climb_keeps;
        devices = climb_devices;
        control = climb_control;
        sound = λ d. climb_sound b c parent y is (x.sound d);
        backlog = climb_backlog;
        caused = λ d fair pends caused.
            climb_caused b c x.goes.went y.goes.went parent y is (x.sound d) fair
            (λ before. x.caused d before pends caused);
      }

  module _ (least : 1 ≤ length path) where
    pub climb_fails : {fault : HostFault} → Climbs first a (Err fault) c
    climb_fails =
        grind (arith, climb_backlog, climb_control, climb_devices, climb_goes, climb_keeps)

    module _ (on : is_way path first ≡ true) (r : OnlyBusSteps a b) where
      -- the port was told to pass nothing on
      pub climb_done : result ≡ Ok true → Climbs first a (Ok path) c
      climb_done is = record {
        goes = climb_goes least;
        bares = bares_above first path a b on r x.keeps (y.owned.done is);
        devices = climb_devices;
        control = climb_control;
        sound = λ d. y.done (x.sound d) is;
        backlog = climb_backlog;
        caused = λ d fair pends caused.
            done_caused b c x.goes.went y.goes.went y is (x.sound d) fair
            (λ before. x.caused d before pends caused);
      }

      -- it is a root port, and those are told
      pub climb_top : result ≡ Ok false → parent_of path ≡ None → Climbs first a (Ok path) c
      climb_top is root = record {
        goes = climb_goes least;
        bares = bares_above first path a b on r x.keeps (y.owned.none is root);
        devices = climb_devices;
        control = climb_control;
        sound = λ d. absurd (top_absurd root y is (x.sound d));
        backlog = climb_backlog;
        caused = grind arith;
      }

-- A hub is dropped

not_dropped : {hub : List ℕ} {fault : HostFault} {a b : HostState} → DropsSound hub a (Err fault) b
not_dropped = grind arith

-- no port was told
pub drop_untold : (hub : List ℕ) {fault : HostFault} {a b : HostState} → OnlyBusSteps a b
    → Climbs hub a (Err fault) b → DropsOne hub a (Err fault) b
drop_untold hub {fault = fault} {a = a} {b = b} r x = record {
  goes = x.goes;
  holds = rests_holds a b x.goes r;
  hubs = tt;
  owned = owned;
  sound = not_dropped;
  cut = grind (arith, forgets_there);
  bulk = λ d. stays_where a b (stay_rests a b r x.devices (owned.ends d.but.owned));
}
  where
    owned : DropsHub hub a (Err fault) b
    owned = drop_not_done hub a b x.bares

module _ {hub lost : List ℕ} {a b c : HostState} (r : OnlyBusSteps a b)
    (x : Climbs hub a (Ok lost) b) (f : Forgets lost b c) where
  forgot_goes : HostRuns drop_bound a c
  forgot_goes = goes_forgotten a x.goes f.others

  forgot_holds : AddsNoWork a c
  forgot_holds =
      let before : waiting b.entries ≡ waiting a.entries = grind arith in
      let left : waiting c.entries ≡ waiting (without lost b.entries) = ap waiting f.rest in
      rw (ap (λ (h : HostState). h.world) f.others) (omega (
        arith,
        of_kind-without is_waiting lost b.entries,
        x.goes.went.spends.served,
        x.goes.went.spends.later,
      ))

  -- there is no memory to list it as lost
  pub drop_unlisted : {fault : HostFault} → DropsOne hub a (Err fault) c
  drop_unlisted =
      let single = λ (o : IsOwnedBut hub a). (x.bares.bares o).single in
      record {
        goes = forgot_goes;
        holds = forgot_holds;
        hubs = tt;
        owned = grind arith;
        sound = not_dropped;
        cut = grind arith;
        bulk = λ p. search (stay_forgotten, stay_joined, stay_rests, stays_where);
      }

  pub drop_done : (d : HostState)
      → d ≡ record c { entries = d.entries; pipes = d.pipes; addresses = d.addresses }
      → IsPath lost → (said : ArrayVec ℕ)
      → table_in d ≡ entered lost (Refused Lost) said (table_in c) → DropsOne hub a (Ok tt) d
  drop_done d others path said table =
      let listed : LostListed lost b d = record {
        path = path;
        left = c;
        forgot = f;
        others = others;
        said = said;
        table = table;
      } in
      let more = waiting-entered_other lost (Refused Lost) c.entries refl in
      let drops = drop_ends listed r x.goes.went.spends.roots x.bares in
      record {
        goes = goes_forgotten a forgot_goes others;
        holds = grind (arith, forgot_holds);
        hubs = search hubs-dropped;
        owned = drops;
        sound = search lost_drops;
        cut = tt;
        bulk = λ p. tt;
      }

-- A port was handled

pub finish_done : (path : List ℕ) (h : HostState) → FinishesAt path (Ok tt) h (Ok tt) h
finish_done path h = record {
  goes = host_goes_none;
  holds = omega arith;
  drops = grind (arith, bulk_none);
  left = refl;
  fewer = λ is. absurd (cc is);
}

-- its hub was lost, and is dropped
pub finish_lost : (path : List ℕ) {hub : List ℕ} {a b : HostState}
    {result : Result (Unit {0}) HostFault} → parent_of path ≡ Some hub → DropsOne hub a result b
    → FinishesAt path (Err ParentLost) a result b
finish_lost path {hub = hub} {a = a} {b = b} {result = result} above x =
    let at = λ (p : IsSomeAnd (parent_of path) (λ hub. IsDroppable hub a)).
    subst (λ o. IsSomeAnd o (λ hub. IsDroppable hub a)) above p in
    record {
      goes = x.goes;
      holds = x.holds;
      drops = record {
        owned = record {
          ends = search (but_above, way_parent, x.owned.ends);
          rooted = grind (arith, root_parent);
        };
        sound = λ p. x.sound.sound (at p);
        backlog = λ p. x.sound.backlog (at p);
        bulk = λ p. x.sound.bulk (at p);
        cut = λ p. x.bulk (at p);
        plugs = x.sound.plugs;
        caused = grind arith;
      };
      left = loses_parent path hub a.entries b.entries result above x.owned.lost x.cut;
      fewer = grind arith;
    }

-- a port whose hub was lost is no root port
pub no_parent : (o : Option (List ℕ)) {P : Type 0} → o ≡ None → IsSome o → P
no_parent o is some = grind arith
