-- What a look at a port leaves, its serving and its handling.
use Rattle.std.proofs.Common.{◌≡◌, ◌∙◌, ◌⊎◌, ◌+◌, ◌≤◌, arith, inl, ap, refl, subst, true, false}
use Rattle.std.proofs.Common.{Bool, ℕ, List, None, Result, Ok, Err, OnOk, OnErr, ◌*◌, [], ◌∷◌, ◌++◌}
use Rattle.std.proofs.Common.{Some}
use Rattle.arrayvec.specs.ArrayVec.{ArrayVec}
use Rattle.usb_port.specs.{PortStatus, IsFull}
use Rattle.usb_hub.specs.{Isolates, StillWorks, KeepsAll, KeepsFound}
use Rattle.usb_enum.specs.{enumeration_bound, widest_enumeration, FaultAllowedAt, EnumFault, Memory}
use Rattle.usb_enum.specs.{Finding, IsFound, IsSaid, read_bound, ParentLost, Bus}
use Rattle.usb_table.specs.{KnownPort, without, known_port, tier_of, Table, entered, said_at}
use Rattle.usb_table.specs.{accepted_device_at}
use Rattle.usb_table.proofs.Interface.{known_port-without, said_at-entered}
use Rattle.usb_host.specs.{PaysAtLook, hubs, clearing_bound, HostState, IsOwned, KeepsPort}
use Rattle.usb_host.specs.{StaysOwned, StaysWhere, claims, FindsSound, IsOpen, ServesSound}
use Rattle.usb_host.specs.{KeepsPlugs, MovesNoBulk, Entered, Forgets, Gained, IsPortAt, Requested}
use Rattle.usb_host.specs.{ProgressOrLost, StandsAt, Waits, HostRuns, HostSteps, OnlyBusSteps}
use Rattle.usb_host.specs.{waiting, ClearsError, ClearsPort, Discovers, LookedOrLost}
use Rattle.usb_host.specs.{LooksAfterError, LooksAt, RenewsPort, HostInvariant, EntersFound}
use Rattle.usb_host.specs.{FindsAnew, first_failed, next_done, table_in, drop_bound, handling_bound}
use Rattle.usb_host.specs.{look_bound, was_disabled, PortOwned, Watches, EndsAs, IsDue}
use Rattle.usb_host.specs.{StandsNowhere, ClearsOwn, SettlesPort, ShowsPort, TidiesPort, EndsAt}
use Rattle.usb_host.specs.{FinishesAt, HandlesPort, LooksOnceMore, ServesOwn, ServesPort, Part}
use Rattle.usb_host.specs.{HostFault, DoneAt, OwnHandled, OwnServed, Quiet, all_done, at_connection}
use Rattle.usb_host.specs.{at_error, at_others, hub_failed, by_both, own_known}
use Rattle.usb_hub.proofs.Interface.{anew_owed, found_all, found_then, keeps_then}
use Rattle.usb_host.proofs.devices.Pipes.{bulk_stays, bulk_then, stays_where, where_joined}
use Rattle.usb_host.proofs.devices.Pipes.{stay_joined}
use Rattle.usb_host.proofs.devices.Causes.{cleared_caused, entered_finds, forgot_caused}
use Rattle.usb_host.proofs.devices.Causes.{unentered_finds, unfound_finds, causes_rests}
use Rattle.usb_host.proofs.devices.Causes.{tidied_caused, watched_caused}
use Rattle.usb_host.proofs.StepSums.{EnumerationAt, enumeration_goes, goes_forgotten}
use Rattle.usb_host.proofs.StepSums.{host_goes_none, went_before, host_goes_then, no_work_then}
use Rattle.usb_host.proofs.devices.Fairness.{fair_after, fair_before}
use Rattle.usb_host.proofs.devices.Owners.{found_ends, found_fails, found_lost, rests_keeps_port}
use Rattle.usb_host.proofs.devices.Owners.{stays_keeps_port, port_then, stays_bare, port_finished}
use Rattle.usb_host.proofs.devices.Owners.{stays_rests}
use Rattle.usb_host.proofs.entries.KindCounts.{hubs-found, hubs-gone, hubs-rest, none_rests}
use Rattle.usb_host.proofs.payments.PortPayments.{look_bare, look_lost, look_pays, plan_within-went}
use Rattle.usb_host.proofs.payments.PortPayments.{handling_pays, after_look, after_tidy}
use Rattle.usb_host.proofs.payments.PortPayments.{status_lost, told_there}
use Rattle.usb_host.proofs.HostProgress.{enters_few, enters_other, without_rests, looks, served_any}
use Rattle.usb_host.proofs.HostProgress.{failed_on_way, lost_on, handled, looked_on, rests_holds}
use Rattle.usb_host.proofs.HostProgress.{status_lost_on}
use Rattle.usb_host.proofs.devices.Plugs.{plugs_forgot, plugs_found, plugs_kept, plugs_rests}
use Rattle.usb_host.proofs.devices.Plugs.{plugs_then}
use Rattle.usb_host.proofs.devices.UnmovedBulk.{cleared_unmoved, shown_unmoved, tidied_unmoved}
use Rattle.usb_host.proofs.PortRequests.{goes_as, requested-fails, requested-then, requested-wider}
use Rattle.usb_host.proofs.PortRequests.{shows_shown, shows_watches}
use Rattle.usb_host.proofs.knowledge.HandledPorts.{cleared_lost, cleared_stay, forgot_open}
use Rattle.usb_host.proofs.knowledge.HandledPorts.{forgot_sound, forgot_stay, finished_sound}
use Rattle.usb_host.proofs.knowledge.HandledPorts.{rests_stands, tidied_port, tidied_stay}
use Rattle.usb_host.proofs.knowledge.HandledPorts.{watched_lost, watched_sound, watched_stay}
use Rattle.usb_host.proofs.Services.{cleared_failed, found_failed, renews_by, cut_after, on_errors}
use Rattle.usb_host.proofs.Services.{port_cut, served_left, handled_at, handles_at, serves_looked}
use Rattle.usb_host.proofs.Services.{serves_tidied, status_failed}
use Rattle.usb_host.proofs.PortLocations.{stands_at-claim}
use Rattle.usb_transfer.specs.{write_bound}
use Rattle.usb_host.proofs.rests.ClearedPorts.{failed_served, none_failed, watched_plain}
use Rattle.usb_host.proofs.RoundLoops.{part-none}
use Rattle.usb_host.proofs.entries.Roots.{waits_somewhere}

-- What a look at a port leaves.

-- What is there is found

module _ {path : List ℕ} {port : KnownPort} {a b : HostState} (same : b.stopped ≡ a.stopped) where
  found_goes : {result : Result Finding EnumFault}
      → EnumerationAt (enumeration_bound port.port) path port result a b
      → HostRuns widest_enumeration a b
  found_goes e = enumeration_goes port.port a b e.stands.askable e.went same e.options

  pub discover_fails : {fault : EnumFault}
      → EnumerationAt (enumeration_bound port.port) path port (Err fault) a b
      → b.entries ≡ a.entries → b.pipes ≡ a.pipes → b.addresses ≡ a.addresses
      → FaultAllowedAt port.port fault b.world → Discovers path port a (Err fault) b
  discover_fails e entries pipes pool told = search (found_fails, found_goes, unfound_finds)

  -- for what was found there is no memory
  pub discover_lost : {f : Finding}
      → EnumerationAt (enumeration_bound port.port) path port (Ok f) a b
      → b.entries ≡ a.entries → b.pipes ≡ a.pipes → Discovers path port a (Err Memory) b
  discover_lost e entries pipes = search (found_goes, found_lost, unentered_finds)

  pub discover_done : {f : Finding}
      → EnumerationAt (enumeration_bound port.port) path port (Ok f) a b
      → IsFound a.addresses b.options (tier_of path) port.supply f → (said : ArrayVec ℕ)
      → IsSaid port.port a.addresses said.items a.world b.world f
      → table_in b ≡ entered path f said (table_in a) → Discovers path port a (Ok tt) b
  discover_done {f = f} e is said says table =
      let owned = found_ends e (ap (λ (t : Table). t.entries) table) in
      record {
        requested = grind (arith, found_goes);
        owned = owned;
        sound = entered_finds e said table owned;
        gave = record {
          finding = f;
          gave = e.gives;
          is = is;
          entries = ap (λ (t : Table). t.entries) table;
          said = said.items;
          says = says;
          keeps = λ cause same. ap (λ (t : Table). said_at path t) table
              ∙ ap (λ (g : Finding). said_at path (entered path g said (table_in a))) same
              ∙ said_at-entered path cause said (table_in a);
        };
      }

-- What was there is forgotten

-- the port stands where it stood
pub forgot_placed : {modelled : Bool} {path : List ℕ} {port : KnownPort} {a b : HostState}
    → Forgets path a b → IsPortAt modelled path port a → IsPortAt modelled path port b
forgot_placed f s = grind (arith, known_port-without)

entered_few : (path : List ℕ) (c d : HostState) (result : Result (Unit {0}) EnumFault)
    → Entered path c result d → waiting d.entries ≤ waiting c.entries + 1
entered_few path c d result e = grind (arith, enters_few)

entered_other : (path : List ℕ) (c d : HostState) (result : Result (Unit {0}) EnumFault)
    → Entered path c result d → (IsFull c.addresses → ⊥) → waiting d.entries ≤ waiting c.entries
entered_other path c d result e free = grind (arith, enters_other)

pub entered_hubs : (path : List ℕ) (c d : HostState) (result : Result (Unit {0}) EnumFault)
    → Entered path c result d → hubs d.entries ≤ hubs c.entries + 1
entered_hubs path c d result e = grind (arith, hubs-found)

module _ {path : List ℕ} {port : KnownPort} {on : Bool} {b d : HostState}
    {result : Result (Unit {0}) EnumFault} (x : RenewsPort path port on b result d) where
  renew_cases : (P : Result (Unit {0}) EnumFault → HostState → Type 0)
      → (on ≡ true → P result d) → (on ≡ false → P (Ok tt) x.mid) → P result d
  renew_cases P found none = grind arith

  -- after a request
  module _ {n : ℕ} {a : HostState} (r : OnlyBusSteps a b) (goes : HostRuns n a b) where
    forgot_goes : HostRuns n a x.mid
    forgot_goes = goes_forgotten a goes x.forgot.others

    renew_requested : {k : ℕ} → StillWorks a.world b.world → n + widest_enumeration ≤ k
        → Requested port.port k a result d
    renew_requested {k = k} works le =
        let first : Requested {A = Unit {0}} port.port n a (Ok tt) x.mid = grind arith in
        renew_cases (λ q h. Requested port.port k a q h)
        (λ on. requested-then first (x.found on).requested le)
        (λ off. requested-wider first (omega arith))

    renew_on : {Due : Type 0} → (Due → Gained a.world b.world) → Due ⊎ Waits path a
        → ProgressOrLost result a d
    renew_on gains due =
        renew_cases (λ q h. ProgressOrLost q a h)
        (λ on. served_any result a d (looks goes r x.forgot (x.found on).requested.goes gains
        (entered_few path x.mid d result (x.entered on))
        (entered_other path x.mid d result (x.entered on)) due))
        (λ off. looks goes r x.forgot (host_goes_none {n = 0} {h = x.mid}) gains (omega arith) (λ
        free. omega arith)
        due)

    renew_hubs : hubs d.entries ≤ hubs a.entries + 1
    renew_hubs =
        let fewer = hubs-gone path a b x.mid r x.forgot.rest in grind (arith, entered_hubs)

    renew_owned : StandsAt path port a → Isolates port.port a.world b.world
        → KeepsPort path a result d
    renew_owned s bares =
        let gone : StaysOwned a x.mid = grind (arith, stays_bare) in
        renew_cases (λ q h. KeepsPort path a q h) (λ on. port_then gone (x.found on).owned)
        (λ off. stays_keeps_port path a gone)

-- A look

-- the change was not cleared
pub look_fails : {path : List ℕ} (port : KnownPort) {a b : HostState} {fault : EnumFault}
    → StandsAt path port a → OnlyBusSteps a b → ClearsPort port.port a (Err fault) b
    → LooksAt path port a (Err fault) b
look_fails {path = path} port {a = a} {b = b} {fault = fault} s r x =
    let went = x.requested.goes.went in
    let told = x.requested.told in
    record {
      requested = requested-fails (Unit {0}) x.requested (omega arith);
      on = λ due. lost_on PortStatus port.port a b fault r x.gains told;
      owned = grind (arith, rests_keeps_port);
      sound = record {
        sound = cleared_lost s r went fault x.keeps told;
        bulk = λ i on still. search (bulk_stays, cleared_stay, cleared_unmoved);
        cut = λ i. stays_where a b (cleared_stay s r went x.keeps i);
        plugs = λ i still. plugs_rests a b went r;
        caused = cleared_caused s r went fault x.keeps told;
      };
      renewed = tt;
      pays = record {
        pays = search (look_lost, none_rests);
        few = grind arith;
        anew = λ i ports on still. anew_owed path ports (found_all path
            (x.keeps.backlog (claims a.entries) path (stands_at-claim s) i.owned (search goes_as)));
      };
      hubs = omega (arith, hubs-rest a r);
      looked = λ o. cleared_failed s r went o fault;
      order = first_failed fault x refl;
    }

-- it was, and what was there is forgotten
module _ {path : List ℕ} {port : KnownPort} {a b c : HostState} (s : StandsAt path port a)
    (r : OnlyBusSteps a b) {status : PortStatus} (x : ClearsPort port.port a (Ok status) b)
    (f : Forgets path b c) where
  look_went : HostSteps clearing_bound a b
  look_went = x.requested.goes.went

  look_goes : HostRuns clearing_bound a c
  look_goes = search goes_forgotten

  look_unmoved : HostInvariant a → MovesNoBulk a.world c.world
  look_unmoved i = subst (MovesNoBulk a.world) (grind arith)
      (cleared_unmoved x i.owned tt)

  look_left : c.entries ≡ without path a.entries
  look_left = without_rests a r f

  -- no device is connected
  bare_sound : status.connected ≡ false → ServesSound path a (Ok tt) c
  bare_sound off = record {
    sound = λ i. forgot_sound s r look_went x.keeps f i off;
    bulk = search (bulk_stays, forgot_stay, look_unmoved);
    cut = λ i. tt;
    plugs = λ i still. plugs_forgot look_goes.went r f;
    caused = λ i fair caused. search forgot_caused;
  }

  cleared_keeps : HostInvariant a → KeepsFound path a.world c.world
  cleared_keeps i = found_all path (subst (KeepsAll a.world) (grind arith)
      (x.keeps.backlog (claims a.entries) path (stands_at-claim s) i.owned tt))

  bare_pays : PaysAtLook path a (Ok tt) c
  bare_pays = record {
    pays = λ i still before told ports at changed.
        look_bare a b s look_went i before told ports at changed status x.paid c f.others
        (record { went = look_goes.went; hubs = hubs-gone path a b c r f.rest }) still;
    few = grind arith;
    anew = λ i ports on still. anew_owed path ports (cleared_keeps i);
  }

  bare_looked : status.connected ≡ false → IsOwned a → LookedOrLost path a (Ok tt) c
  bare_looked off o = record {
    status = status;
    mid = b.world;
    cleared = x.reads (claims a.entries) path (stands_at-claim s) o;
    renewed = search (look_left, renews_by);
    found = λ on. absurd (cc (on, off));
  }

  -- one is
  module _ (on : status.connected ≡ true) where
    look_opens : HostInvariant a → IsOpen path c
    look_opens i = forgot_open s r look_went x.keeps f i on

    found_plugs : (result : Result (Unit {0}) EnumFault) (d : HostState)
        → HostSteps widest_enumeration c d → Entered path c result d → HostInvariant a
        → d.world.fault ≡ None → KeepsPlugs a d
    found_plugs (Ok done) d then e i still =
        let here = went_before then still in
        let order = i.order (went_before look_goes.went here) in
        plugs_found look_goes.went then r f
        (x.reads (claims a.entries) path (stands_at-claim s) i.owned) order on e
    found_plugs (Err fault) d then e i still =
        plugs_then clearing_bound widest_enumeration a c d look_goes.went then still
        (plugs_forgot look_goes.went r f) (plugs_kept c d then.spends.onward e)

    found_anew : (d : HostState) → d.options ≡ c.options
        → EntersFound path port c.addresses c.world c.entries d → FindsAnew path a.entries b.world d
    found_anew d width g = record {
      port = port;
      known = s.known;
      addresses = c.addresses;
      agrees = grind arith;
      found = grind arith;
    }

    found_looked : (result : Result (Unit {0}) EnumFault) (d : HostState) → Entered path c result d
        → d.options ≡ c.options
        → OnOk result (EntersFound path port c.addresses c.world c.entries d)
        → IsOwned a → LookedOrLost path a result d
    found_looked (Ok done) d e width g o = record {
      status = status;
      mid = b.world;
      cleared = x.reads (claims a.entries) path (stands_at-claim s) o;
      renewed = grind arith;
      found = λ shown. found_anew d width g;
    }
    found_looked (Err fault) d e width g o = found_failed path a c d fault look_left e

    found_cut : (result : Result (Unit {0}) EnumFault) (d : HostState)
        → FindsSound path c result d → HostInvariant a
        → OnErr result (StaysWhere (d.world.fault ≡ None) a d)
    found_cut (Ok done) d z i = tt
    found_cut (Err fault) d z i =
        where_joined a c d (λ still. tt) (stays_where {So = Unit {0}} a c (search forgot_stay))
        (z.cut (look_opens i))

    module _ {result : Result (Unit {0}) EnumFault} (d : HostState)
        (e : Entered path c result d) (z : Discovers path port c result d) where
      found_sound : ServesSound path a result d
      found_sound = record {
        sound = λ i. z.sound.sound (look_opens i);
        bulk = λ i goes still.
            bulk_then clearing_bound widest_enumeration a c d look_goes.went
            z.requested.goes.went still
            (bulk_stays a c (forgot_stay s r look_went x.keeps f i) (look_unmoved i))
            (z.sound.bulk (look_opens i) goes still);
        cut = search found_cut;
        plugs = grind (arith, found_plugs);
        caused = λ i fair caused.
            let causes = forgot_caused s r look_went x.keeps f i
            (fair_before z.requested.goes.went fair).still caused in
            z.sound.caused (look_opens i) (fair_after look_goes.went fair) (λ y away. causes y);
      }

      found_pays : PaysAtLook path a result d
      found_pays = record {
        pays = λ i still before told ports at changed.
            look_pays a b s look_went i before told ports at changed status x.paid c
            f.others widest_enumeration result d z.requested.goes.went on
            (z.sound.backlog (look_opens i) still) still;
        few = λ i most plan.
            omega (
              arith,
              look_goes.went.spends.most,
              z.sound.few (look_opens i) most (plan_within-went most a c look_goes.went plan),
            );
        anew = λ i ports on still. anew_owed path ports (found_then path (cleared_keeps i)
            (z.sound.backlog (look_opens i) still));
      }

pub look_done : {path : List ℕ} {port : KnownPort} {a b d : HostState}
    (result : Result (Unit {0}) EnumFault) {status : PortStatus} → StandsAt path port a
    → OnlyBusSteps a b → ClearsPort port.port a (Ok status) b
    → RenewsPort path port status.connected b result d → LooksAt path port a result d
look_done {path = path} {a = a} {b = b} {d = d} result {status = status} s r x y = record {
  requested = renew_requested y r x.requested.goes x.requested.works (omega arith);
  on = renew_on y r x.requested.goes x.gains;
  owned = renew_owned y r x.requested.goes s x.keeps.bares;
  sound = cases (λ q h. ServesSound path a q h)
      (λ on. found_sound s r x y.forgot on d (y.entered on) (y.found on))
      (bare_sound s r x y.forgot);
  renewed = grind arith;
  pays = cases (λ q h. PaysAtLook path a q h) (search (found_pays, y.entered, y.found))
      (λ off. bare_pays s r x y.forgot);
  hubs = renew_hubs y r x.requested.goes;
  looked = cases (λ q h. IsOwned a → LookedOrLost path a q h)
      (λ on. found_looked s r x y.forgot on result d (y.entered on)
      (y.found on).requested.goes.options (y.found on).gave)
      (bare_looked s r x y.forgot);
  order = next_done status b x y;
}
  where
    cases : (P : Result (Unit {0}) EnumFault → HostState → Type 0)
        → (status.connected ≡ true → P result d) → (status.connected ≡ false → P (Ok tt) y.mid)
        → P result d
    cases = renew_cases y

-- One after an error

pub error_look_fails : (path : List ℕ) (port : KnownPort) {a b : HostState} {fault : EnumFault}
    → OnlyBusSteps a b → ClearsError port.port a (Err fault) b
    → LooksAfterError path port a (Err fault) b
error_look_fails path port {a = a} {b = b} {fault = fault} r x = record {
  requested = requested-fails (Unit {0}) x.requested (omega arith);
  on = λ can. failed_on_way PortStatus a b fault r (x.gains can);
  owned = grind (arith, rests_keeps_port);
  order = first_failed fault x refl;
}

pub error_look_done : {path : List ℕ} {port : KnownPort} {a b d : HostState}
    {result : Result (Unit {0}) EnumFault} {status : PortStatus} → StandsAt path port a
    → OnlyBusSteps a b → ClearsError port.port a (Ok status) b
    → RenewsPort path port status.connected b result d → LooksAfterError path port a result d
error_look_done {b = b} {status = status} s r x y = record {
  requested = renew_requested y r x.requested.goes x.requested.works (omega arith);
  on = λ can. renew_on y r x.requested.goes x.gains (inl can);
  owned = renew_owned y r x.requested.goes s x.bares;
  order = next_done status b x y;
}

-- What the serving and the handling of a port leave.

-- A port is served

-- its status was not told
pub serve_fails : {path : List ℕ} (port : KnownPort) {a b : HostState} {fault : EnumFault}
    → StandsAt path port a → OnlyBusSteps a b → ShowsPort port.port a (Err fault) b
    → ServesPort path port a (Err fault) b
serve_fails {path = path} port {a = a} {b = b} {fault = fault} s r x =
    let watches = shows_watches x in
    let went = x.requested.goes.went in
    record {
      requested = requested-fails (Unit {0}) x.requested (omega arith);
      on = λ due. status_lost_on port.port a b r fault (shows_shown x);
      owned = grind (arith, rests_keeps_port);
      sound = record {
        sound = search watched_lost;
        bulk = λ i on still. search (bulk_stays, shown_unmoved, watched_stay);
        cut = search (stays_where, watched_stay);
        plugs = λ i still. plugs_rests a b went r;
        caused = search watched_caused;
      };
      pays = record {
        pays = search status_lost;
        few = grind arith;
      };
      hubs = omega (arith, hubs-rest a r);
      served = λ i. search status_failed;
      order = first_failed fault x refl;
    }

module _ {path : List ℕ} {port : KnownPort} {a b : HostState} (s : StandsAt path port a)
    (r : OnlyBusSteps a b) {status : PortStatus} (x : ShowsPort port.port a (Ok status) b) where
  shown_watches : Watches port.port a.world (Ok status) b.world
  shown_watches = shows_watches x

  shown_went : HostSteps (read_bound 4) a b
  shown_went = x.requested.goes.went

  shown_sound : HostInvariant a → HostInvariant b
  shown_sound i = watched_sound s r shown_went shown_watches i

  -- a change of connection was told
  pub serve_looked : status.connection_changed ≡ true → {result : Result (Unit {0}) EnumFault}
      {d : HostState} → LooksAt path port b result d → ServesPort path port a result d
  serve_looked changed {result = result} {d = d} y =
      let then = y.requested.goes.went in
      record {
        requested = requested-then x.requested y.requested (omega arith);
        on = λ due.
            looked_on port.port a b d result status r (shows_shown x) x.requested.goes y.on due;
        owned = search (port_then, stays_rests);
        sound = record {
          sound = λ i. y.sound.sound (shown_sound i);
          bulk = λ i on still.
              search (
                bulk_stays,
                bulk_then,
                shown_sound,
                shown_unmoved,
                shown_watches,
                watched_stay,
                y.sound.bulk,
              );
          cut = λ i. search (cut_after, shown_sound, shown_watches, watched_stay, y.sound.cut);
          plugs = search (plugs_rests, plugs_then, shown_sound, y.sound.plugs);
          caused = λ i fair caused.
              let half = fair_before {n = look_bound} {old = a.world} {mid = b.world}
              {new = d.world} then fair in
              y.sound.caused (shown_sound i) (fair_after shown_went fair)
              (causes_rests a r shown_went s.agrees half.still (shown_watches.rests tt) i caused);
        };
        pays = record {
          pays = search (after_look, shown_sound, shown_watches, told_there, y.pays.pays);
          few = λ i most plan.
              omega (
                arith,
                shown_went.spends.most,
                y.pays.few (shown_sound i) most (plan_within-went most a b shown_went plan),
              );
        };
        hubs = omega (arith, hubs-rest a r, y.hubs);
        served = λ i. search (serves_looked, shown_watches);
        order = next_done status b x (at_connection changed y);
      }

  -- none was
  module _ (steady : status.connection_changed ≡ false) {result : Result (Unit {0}) EnumFault}
      {d : HostState} (q : OnlyBusSteps b d) (y : SettlesPort port.port status b result d) where
    settled_went : HostSteps (4 * write_bound) b d
    settled_went = y.requested.goes.went

    settled_tidies : HostInvariant a → TidiesPort port.port status b result d
    settled_tidies i = y.tidies (watched_plain path a s i.owned status shown_watches)

    settled_stands : StandsAt path port b
    settled_stands = rests_stands s r shown_went

    settled_sound : ServesSound path a result d
    settled_sound = record {
      sound = λ i.
          tidied_port settled_stands q settled_went result (settled_tidies i).tidies
          y.requested.told (shown_sound i);
      bulk = λ i on still.
          bulk_stays a d (stay_joined a b d (watched_stay s r shown_went shown_watches i)
          (tidied_stay settled_stands q settled_went (settled_tidies i).tidies (shown_sound i)))
          (by_both (shown_unmoved x i.owned tt) (tidied_unmoved (settled_tidies i) on));
      cut = λ i. on_errors result _ (stays_where {So = d.world.fault ≡ None} a d (stay_joined a b d
          (watched_stay s r shown_went shown_watches i)
          (tidied_stay settled_stands q settled_went (settled_tidies i).tidies (shown_sound i))));
      plugs = search (plugs_rests, plugs_then);
      caused = λ i fair caused.
          tidied_caused settled_stands q settled_went result (settled_tidies i).tidies
          y.requested.told (shown_sound i) (fair_after shown_went fair)
          (causes_rests a r shown_went s.agrees (fair_before settled_went fair).still
          (shown_watches.rests tt) i caused);
    }

    pub serve_settled : was_disabled port.port status (accepted_device_at path b.entries) ≡ false
        → ServesPort path port a result d
    serve_settled calm = record {
      requested = requested-then x.requested y.requested (omega arith);
      on = grind arith;
      owned = grind (arith, keeps_then, rests_keeps_port);
      sound = settled_sound;
      pays = record {
        pays = λ i ports still.
            let t = settled_tidies i in
            let order = i.order (search went_before) in
            after_tidy s r shown_went i ports shown_watches steady d
            (search none_rests) order result t.tidies
            t.clears.reset t.clears.calm;
        few = grind arith;
      };
      hubs = omega (arith, hubs-rest a r, hubs-rest b q);
      served = λ i.
          serves_tidied s r shown_went i.owned shown_watches
          steady result d q (settled_tidies i).clears;
      order = next_done status b x (at_others steady calm y q);
    }

  -- its hub has disabled it on an error: no hub of a world does
  module _ (steady : status.connection_changed ≡ false)
      (failed : was_disabled port.port status (accepted_device_at path b.entries) ≡ true) where
    not_failed : HostInvariant a → ⊥
    not_failed i = grind (arith, none_failed)

    pub serve_failed : {result : Result (Unit {0}) EnumFault} {d : HostState}
        → LooksAfterError path port b result d → hubs d.entries ≤ hubs b.entries + 1
        → ServesPort path port a result d
    serve_failed {result = result} {d = d} y few = record {
      requested = requested-then x.requested y.requested (omega arith);
      on = search failed_served;
      owned = search (port_then, stays_rests);
      sound = record {
        sound = λ i. absurd (not_failed i);
        bulk = λ i. absurd (not_failed i);
        cut = λ i. absurd (not_failed i);
        plugs = λ i. absurd (not_failed i);
        caused = λ i. absurd (not_failed i);
      };
      pays = record { pays = λ i. absurd (not_failed i); few = λ i. absurd (not_failed i) };
      hubs = omega (arith, hubs-rest a r);
      served = λ i. absurd (not_failed i);
      order = next_done status b x (at_error steady failed y);
    }

-- Where its hub was lost, that was dropped

pub done_by : (Does : KnownPort → HostState → Result (Unit {0}) EnumFault → HostState → Type 0)
    (path : List ℕ) {port : KnownPort} (served : Result (Unit {0}) EnumFault)
    (result : Result (Unit {0}) HostFault) (a b d : HostState)
    → known_port path a.entries ≡ Some port → EndsAs served result
    → EndsAt path served b result d → Does port a served b → OnOk result (DoneAt Does path a d)
done_by Does path {port = port} (Ok tt) result a b d known ends left x =
    rw ends (rw left (all_done port known x))
done_by Does path {port = port} (Err ParentLost) (Ok tt) a b d known ends left x =
    hub_failed port b known x left
done_by Does path (Err ParentLost) (Err fault) a b d known ends left x = tt
done_by Does path (Err (Bus fault)) result a b d known ends left x = rw ends tt
done_by Does path (Err Memory) result a b d known ends left x = rw ends tt

-- the host stopped as the port was served
pub finish_fails : (path : List ℕ) {served : Result (Unit {0}) EnumFault} {fault : HostFault}
    (h : HostState) → (served ≡ Err ParentLost → ⊥)
    → (PortOwned path served h → h.world.shared ≡ false) → EndsAt path served h (Err fault) h
    → FinishesAt path served h (Err fault) h
finish_fails path h other single left = record {
  goes = host_goes_none;
  holds = omega arith;
  drops = grind arith;
  left = left;
  fewer = λ is. absurd (other is);
}

module _ {path : List ℕ} {port : KnownPort} {a b d : HostState} (s : StandsAt path port a)
    {served : Result (Unit {0}) EnumFault} {result : Result (Unit {0}) HostFault}
    (ends : EndsAs served result) (y : FinishesAt path served b result d) where
  -- a part of what is done at a port
  finished_part : {n : ℕ} → Requested port.port n a served b → n + drop_bound ≤ handling_bound
      → KeepsPort path a served b → ServesSound path a served b → Part handling_bound a result d
  finished_part {n = n} x le owned sound =
      let goes = host_goes_then x.goes y.goes le in search (finished_sound, port_finished)

  pub look_finished : LooksAt path port a served b → Part handling_bound a result d
  look_finished x = finished_part x.requested (omega arith) x.owned x.sound

  pub handle_finished : ServesPort path port a served b
      → HandlesPort path (IsDue a.world port.port) a result d
  handle_finished x = record {
    part = finished_part x.requested (omega arith) x.owned x.sound;
    handled = handles_at path (IsDue a.world port.port) result a d
        (handled result served a b d ends y.holds x.on) (grind (arith, handled_at))
        (search done_by);
    cut = port_cut path served result a b d y.goes.went ends y.left
        (λ i. served_left path served a b (x.served i)) x.sound.cut
        (λ i. y.drops.cut (x.sound.sound i));
    pays = handling_pays s ends x y;
  }

  -- the changes of a hub itself
  pub own_finished : OnlyBusSteps a b → ClearsOwn port.port a served b
      → ServesOwn (OwnHandled path) a result d
  own_finished r x =
      record {
        goes = host_goes_then x.requested.goes y.goes (omega arith);
        holds = no_work_then a b d (rests_holds a b x.requested.goes r) y.holds;
        owned = search (port_finished, rests_keeps_port);
        served = done_by _ path served result a b d s.known ends y.left (x, r);
      }

-- so it is by way of the first port of a hub
pub own_at : (hub : List ℕ) {a d : HostState} {result : Result (Unit {0}) HostFault}
    → ServesOwn (OwnHandled (hub ++ (1 ∷ []))) a result d → ServesOwn (OwnServed hub) a result d
own_at hub {a = a} {d = d} {result = result} x = record {
  goes = x.goes;
  holds = x.holds;
  owned = x.owned;
  served = served result x.served;
}
  where
    served : (result : Result (Unit {0}) HostFault)
        → OnOk result (OwnHandled (hub ++ (1 ∷ [])) a d) → OnOk result (OwnServed hub a d)
    served (Ok tt) y = own_known y
    served (Err fault) y = tt

-- A second look

-- the port stands nowhere
pub look_nowhere : {path : List ℕ} {h : HostState} → StandsNowhere path h → Waits path h
    → LooksOnceMore path h (Ok Quiet) h
look_nowhere {path = path} {h = h} none waits = record {
  part = part-none;
  did = grind (arith, waits_somewhere);
  looked = λ s. search waits_somewhere;
  order = (none, refl);
  cut = tt;
}
