-- What a host knows as a port is handled: as it is tidied, as its change is cleared, as what is
-- found there is entered, and as a hub that is lost is dropped.
use Rattle.usb_device.specs.{Location, State, reach, state_there}
use Rattle.std.proofs.Common.{◌≡◌, inl, inr, refl, sym, ap, subst, ◌∙◌, arith, length-append, ℕ}
use Rattle.std.proofs.Common.{Bool, true, false, List, [], ◌∷◌, length, Option, None, Some, Err}
use Rattle.std.proofs.Common.{IsSome, IsSomeAnd, ◌≤◌, ◌⊎◌, Result, Ok, IfErr, ◌+◌, ◌*◌}
use Rattle.usb_port.specs.{parent_of, port_on_hub, PortStatus, path_cmp, ClearEnable, clear_call}
use Rattle.usb_port.proofs.Interface.{rejoined}
use Rattle.usb_world.specs.{Was, World, roots_of, WorldInvariant, is_way, pending}
use Rattle.usb_world.proofs.Interface.{way_apart, way_parent, way_shorter, decided}
use Rattle.usb_hub.specs.{KeepsAddresses, StaysAs, EachElsewhere, KeepsDevices, TouchesNoPort}
use Rattle.usb_hub.specs.{CommandsPort, IsCall, PortCleared}
use Rattle.usb_hub.proofs.Interface.{is_port-spends}
use Rattle.usb_enum.specs.{EnumFault, ParentLost, Finding, IsKnownAs, IsOccupied, FaultAllowedAt}
use Rattle.usb_enum.specs.{IsOrderly, Accepted, HubFacts, Begins, IsOwn, OnlyAt, IsPlaced}
use Rattle.usb_enum.specs.{HasPlanWithin, HostOptions, Lost}
use Rattle.usb_enum.specs.declared.finding.Finding.TheVariants.{Device, Refused}
use Rattle.usb_enum.proofs.Interface.{went_in_order, regular_order, disabled_known}
use Rattle.usb_table.specs.{KnownPort, known_port, finding_at, SameDevice, without, IsListedPort}
use Rattle.usb_table.specs.{AllInSync, Entries, has_at, accepted_device_of, hub_facts_in, tier_of}
use Rattle.usb_table.specs.{InSyncAt, Table, entered}
use Rattle.usb_host.specs.{Agrees, LetsGoOn, RestElsewhere, InvariantAfterPort, HostState, StandsAt}
use Rattle.usb_host.specs.{HostSteps, OnlyBusSteps, PortsListed, KnownBut, DevicesAccurate}
use Rattle.usb_host.specs.{TruthfulBut, HostInvariant, IsSoundBut, IsDroppable, EachStill}
use Rattle.usb_host.specs.{EachStillBut, HasWay, Watches, Tidies, ClearsChange, Decides, IsOpen}
use Rattle.usb_host.specs.{claims, StaysOwned, Forgets, table_in, KeepsPort, IsAccurateAt}
use Rattle.usb_host.specs.{known_supply, KeepsBulk, StaysWhere, by_control, ServesSound, DropsLost}
use Rattle.usb_host.specs.{EndsAs, PartKeepsInvariant, HostFault, IsDroppedAt, Disabled}
use Rattle.usb_host.specs.{DisablesOnWay, DropsHub, StandsNowhere, IsFairTo, CausesBut}
use Rattle.usb_host.proofs.StepSums.{went_before, EnumerationAt}
use Rattle.usb_host.proofs.devices.Owners.{owned_rests, but_rests, stays_bare, but_all, but_above}
use Rattle.usb_host.proofs.devices.Owners.{LostListed, lost_entries, lost_options, lost_world}
use Rattle.usb_host.proofs.devices.Owners.{Opened, opened_if_owned, at_others}
use Rattle.usb_host.proofs.devices.Pipes.{level_rests, level_forgotten, AllStay, stay_forgotten}
use Rattle.usb_host.proofs.devices.Pipes.{stay_joined, stay_rests, bulk_entered, bulk_stays}
use Rattle.usb_host.proofs.devices.Pipes.{where_stays, where_unfound, level_found, level_gone}
use Rattle.usb_host.proofs.devices.Pipes.{level_but, bulk_then, level_refused}
use Rattle.usb_host.proofs.entries.Roots.{rooted_kept, accounted}
use Rattle.usb_host.proofs.knowledge.SettledListings.{listed_port, reached_there}
use Rattle.usb_host.proofs.PortLocations.{stands_at-claim, root_alone}
use Rattle.usb_host.proofs.knowledge.Places.{known_each, known_but_each, truthful_stays}
use Rattle.usb_host.proofs.knowledge.Places.{truthful_but_stays, known_stays, known_dropped}
use Rattle.usb_host.proofs.knowledge.Places.{known_vacant, truthful_dropped, finding-none}
use Rattle.usb_host.proofs.knowledge.Places.{known_found, truthful_found}
use Rattle.usb_host.proofs.rests.ClearedPorts.{known_way}
use Rattle.std.specs.BTreeMap.{insert_entry}
use Rattle.arrayvec.specs.ArrayVec.{ArrayVec}
use Rattle.usb_host.proofs.entries.Agreements.{known_entered, shorter_apart, claims_free}
use Rattle.usb_host.proofs.entries.Agreements.{claims_taken, lookup-insert_entry_here}
use Rattle.usb_host.proofs.devices.Fairness.{fair_before, fair_after}
use Rattle.usb_host.proofs.devices.Plugs.{plugs_then}
use Rattle.usb_request.specs.{PORT_ENABLE}
use Rattle.usb_bus.specs.{StepRun}
use Rattle.usb_transfer.specs.{PipeFault, FaultAfter, IsNoBusFault}
use Rattle.usb_transfer.specs.declared.fault.PipeFault.TheVariants as pipe
use Rattle.usb_hub.specs.{KeepsAll}
use Rattle.usb_host.proofs.payments.Backlogs.{call_all}

-- What a host knows as the world alone goes on, as a port is tidied, and as its change is cleared
-- and what was there is forgotten.

-- Devices

still_was : {w : World} {j : Location} (s : State) → Was StaysAs w j s → Was SameDevice w j s
still_was s x = record {
  before = x.before;
  on = x.on;
  stands = x.stands;
  so = grind arith;
}

pub kept_each_still : {w v : World} → KeepsDevices w v → v.shared ≡ false → EachStill w v
kept_each_still k single j s on at = still_was s (k.stays single j s on at)

pub each_still_but : (path : List ℕ) {w v : World} → KeepsDevices w v → v.shared ≡ false
    → EachStillBut path w v
each_still_but _ k single j s _ on at = still_was s (k.stays single j s on at)

pub elsewhere_still : (path : List ℕ) (w v : World) → EachElsewhere path StaysAs w v
    → EachStillBut path w v
elsewhere_still path w v each = search still_was

-- What is known everywhere is known elsewhere, and less is known further above

pub but_of_sound : (path : List ℕ) {h : HostState} → HostInvariant h → IsSoundBut path h
but_of_sound path s = search (but_all, s.known, s.truthful, s.level)

pub but_of_above : (path below : List ℕ) (h : HostState) → is_way path below ≡ true
    → IsSoundBut below h → IsSoundBut path h
but_of_above path below h on s = search (but_above, way_apart, s.known, s.truthful, s.level)

-- The world alone goes on

module _ {n : ℕ} (a : HostState) {b : HostState} (r : OnlyBusSteps a b) (went : HostSteps n a b)
    (k : KeepsAddresses a.world b.world) where
  same_entries : b.entries ≡ a.entries
  same_entries = ap (λ (h : HostState). h.entries) r

  same_wide : b.options ≡ a.options
  same_wide = ap (λ (h : HostState). h.options) r

  pub sound_rests : KeepsDevices a.world b.world → TouchesNoPort a.world b.world → HostInvariant a
      → HostInvariant b
  sound_rests devices rests s =
      let owned = owned_rests a r k s.owned in
      record {
        owned = owned;
        rooted = rooted_kept a b same_entries went.spends.roots s.rooted;
        order = went_in_order n a.world b.world went s.order;
        known = λ still. subst (PortsListed b.world) (sym same_entries)
            (search (known_each, went_before, s.known));
        truthful =
            λ still. rw same_wide (subst (DevicesAccurate a.options b.world) (sym same_entries)
            (truthful_stays a.world b.world a.entries (search kept_each_still)
            (s.truthful (went_before went still))));
        level = search (level_rests, went_before, s.level);
      }

  pub sound_rests_but : {path : List ℕ} → KeepsDevices a.world b.world
      → (b.world.fault ≡ None → RestElsewhere path a.world b.world) → IsSoundBut path a
      → IsSoundBut path b
  sound_rests_but {path = path} devices rests s =
      let owned = but_rests _ a b r k s.owned in
      record {
        owned = owned;
        rooted = rooted_kept a b same_entries went.spends.roots s.rooted;
        order = went_in_order n a.world b.world went s.order;
        known = λ still. subst (KnownBut path b.world) (sym same_entries)
            (search (known_but_each, went_before, s.known));
        truthful = λ still. rw same_wide
            (subst (TruthfulBut a.options path b.world) (sym same_entries)
            (truthful_but_stays path a.world b.world a.entries (search each_still_but)
            (s.truthful (went_before went still))));
        level = search (level_rests, went_before, s.level);
      }

-- A hub that is lost

pub occupied_by : (w : World) (path : List ℕ) (f : Finding) → IsKnownAs w path (Some f)
    → IsOccupied w path
occupied_by w path f h = grind (arith, reached_there)

-- the hub of a port that is known may be dropped, where what is known elsewhere than at the port is
-- so
pub droppable_above : (path hub : List ℕ) (h : HostState) → parent_of path ≡ Some hub
    → IsSome (known_port path h.entries) → Agrees h.options h.entries h.addresses
    → IsSoundBut path h → IsDroppable hub h
droppable_above path hub h above known agrees s = record {
  listed = rw found.1 refl;
  but = but_of_above hub _ h (way_parent path _ above) s;
  there = there;
}
  where
    found : (f : Finding) × (finding_at hub h.entries ≡ Some f)
    found = grind arith

    away : is_way path hub ≡ false
    away = way_shorter path hub (omega (
      arith,
      ap length (rejoined path _ above) ∙ length-append hub (port_on_hub path ∷ []),
    ))

    there : h.world.fault ≡ None → IsOccupied h.world hub
    there still =
        let port = listed_port h.world (accounted h agrees s.rooted) hub
        _ found.1 in
        occupied_by h.world hub found.0 (rw found.1 at (s.known still hub away port))

-- A request at a port failed

pub lost_sound : {path : List ℕ} {port : KnownPort} {a : HostState} (b : HostState)
    (fault : EnumFault) → StandsAt path port a → FaultAllowedAt port.port fault b.world
    → IsSome (known_port path b.entries) → Agrees b.options b.entries b.addresses
    → (LetsGoOn {A = Unit {0}} (Err fault) → IsSoundBut path b)
    → InvariantAfterPort path (Err fault) b
lost_sound b fault s told known agrees but = grind (arith, droppable_above)

-- Ports

-- A port that stands is listed

pub stands_listed : (path : List ℕ) (port : KnownPort) (h : HostState) → StandsAt path port h
    → IsListedPort (roots_of h.world) h.entries path
stands_listed path port h s = grind arith

pub stands_way : {path : List ℕ} {port : KnownPort} (h : HostState) → StandsAt path port h
    → PortsListed h.world h.entries → HasWay h.world path
stands_way {path = path} {port = port} h s known = known_way path h.world
    (finding_at path h.entries) (known path (stands_listed _ _ h s))

-- A request at the port fails, and only the world has gone on

pub rests_known : {path : List ℕ} {port : KnownPort} {a b : HostState} → OnlyBusSteps a b
    → StandsAt path port a → IsSome (known_port path b.entries)
rests_known r s = grind arith

pub rests_agrees : {path : List ℕ} {port : KnownPort} {a b : HostState} → OnlyBusSteps a b
    → StandsAt path port a → Agrees b.options b.entries b.addresses
rests_agrees r s = rw r s.agrees

-- Tidied

module _ {n : ℕ} {path : List ℕ} {port : KnownPort} {a b : HostState} (s : StandsAt path port a)
    (r : OnlyBusSteps a b) (went : HostSteps n a b) where
  pub tidied_known : Tidies port.port a.world (Ok tt) b.world → HostInvariant a
      → b.world.fault ≡ None → PortsListed b.world b.entries
  tidied_known t i still = rw (ap (λ (h : HostState). h.entries) r) known
    where
      known : PortsListed b.world a.entries
      known x listed =
          let here = rw went.spends.roots at listed in
          let was = i.known (went_before went still) x here in
          pick was (decided (is_way path x))
        where
          pick : IsKnownAs a.world x (finding_at x a.entries) → (is_way path x ≡ true)
              ⊎ (is_way path x ≡ false) → IsKnownAs b.world x (finding_at x a.entries)
          pick was (inl way) = (t.stays (claims a.entries) path (stands_at-claim s) i.owned refl x
              way).known (finding_at x a.entries) was
          pick was (inr away) = known_stays x (finding_at x a.entries) a.world b.world
              (search (stands_at-claim, t.others))
              was

  pub tidied_sound : Tidies port.port a.world (Ok tt) b.world → HostInvariant a → HostInvariant b
  tidied_sound t i =
      let owned = owned_rests a r t.addresses i.owned in
      let same = ap (λ (h : HostState). h.entries) r in
      record {
        owned = owned;
        rooted = search rooted_kept;
        order = went_in_order n a.world b.world went i.order;
        known = tidied_known t i;
        truthful = λ still. rw (ap (λ (h : HostState). h.options) r)
            (subst (DevicesAccurate a.options b.world) (sym same)
            (truthful_stays a.world b.world a.entries (kept_each_still t.devices owned.single)
            (i.truthful (went_before went still))));
        level = search (level_rests, went_before, i.level);
      }

  pub tidied_lost : (fault : EnumFault) → Tidies port.port a.world (Err fault) b.world
      → FaultAllowedAt port.port fault b.world → HostInvariant a
      → InvariantAfterPort path (Err fault) b
  tidied_lost fault t told i =
      lost_sound b fault s told (rests_known r s) (rests_agrees r s)
      (λ goes. sound_rests_but a r went t.addresses t.devices
      (λ still. t.others (claims a.entries) path (stands_at-claim s) i.owned goes)
      (but_of_sound path i))

  pub tidied_port : (result : Result (Unit {0}) EnumFault) → Tidies port.port a.world result b.world
      → IfErr result (λ fault. FaultAllowedAt port.port fault b.world) → HostInvariant a
      → InvariantAfterPort path result b
  tidied_port (Ok done) t told i = tidied_sound t i
  tidied_port (Err fault) t told i = tidied_lost fault t told i

  -- a status was told, or was not
  pub watched_sound : {status : PortStatus} → Watches port.port a.world (Ok status) b.world
      → HostInvariant a → HostInvariant b
  watched_sound w i = sound_rests a r went w.addresses w.devices (w.rests tt) i

  pub watched_lost : (fault : EnumFault) → Watches port.port a.world (Err fault) b.world
      → FaultAllowedAt port.port fault b.world → HostInvariant a
      → InvariantAfterPort path (Err fault) b
  watched_lost fault w told i =
      search (but_of_sound, lost_sound, rests_agrees, rests_known, sound_rests, w.rests)

  pub watched_stay : {result : Result PortStatus EnumFault}
      → Watches port.port a.world result b.world → HostInvariant a → AllStay a b
  watched_stay w i = stay_rests a b r w.devices (w.addresses.kept (claims a.entries) i.owned).single

  pub tidied_stay : {result : Result (Unit {0}) EnumFault} → Tidies port.port a.world result b.world
      → HostInvariant a → AllStay a b
  tidied_stay t i = stay_rests a b r t.devices (t.addresses.kept (claims a.entries) i.owned).single

  -- the port stands where it stood
  pub rests_stands : StandsAt path port b
  rests_stands = record {
    is = s.is;
    known = grind arith;
    there = search is_port-spends;
    askable = s.askable;
    agrees = rests_agrees r s;
  }

  pub cleared_stay : {fault : EnumFault} → ClearsChange port.port a.world (Err fault) b.world
      → HostInvariant a → AllStay a b
  cleared_stay x i = stay_rests a b r x.devices (x.bares.kept (claims a.entries) i.owned).single

  -- the clearing failed
  pub cleared_lost : (fault : EnumFault) → ClearsChange port.port a.world (Err fault) b.world
      → FaultAllowedAt port.port fault b.world → HostInvariant a
      → InvariantAfterPort path (Err fault) b
  cleared_lost fault x told i =
      lost_sound b fault s told (rests_known r s) (rests_agrees r s)
      (λ goes. sound_rests_but a r went x.bares x.devices
      (λ still. x.others (claims a.entries) path (stands_at-claim s) i.owned goes)
      (but_of_sound path i))

-- Cleared, and forgotten

module _ {n : ℕ} {path : List ℕ} {port : KnownPort} {a b c : HostState} {status : PortStatus}
    (s : StandsAt path port a) (r : OnlyBusSteps a b) (went : HostSteps n a b)
    (x : ClearsChange port.port a.world (Ok status) b.world) (f : Forgets path b c)
    (i : HostInvariant a) where
  world_is : c.world ≡ b.world
  world_is = ap (λ (h : HostState). h.world) f.others

  width : c.options ≡ a.options
  width = grind arith

  left : c.entries ≡ without path a.entries
  left = grind arith

  stays : StaysOwned a c
  stays = search stays_bare

  still_before : c.world.fault ≡ None → a.world.fault ≡ None
  still_before still = went_before went (grind arith)

  forgot_known : c.world.fault ≡ None → KnownBut path c.world c.entries
  forgot_known still =
      let rests = x.others (claims a.entries) path (stands_at-claim s) i.owned tt in
      let known = known_but_each path a.world b.world a.entries went.spends.roots rests
      (λ y away. i.known (still_before still) y) in
      rw world_is (rw left (search known_dropped))

  forgot_truthful : c.world.fault ≡ None → DevicesAccurate c.options c.world c.entries
  forgot_truthful still =
      let single = ap (λ (w : World). w.shared) (sym world_is) ∙ (stays.stays i.owned).single in
      let told = truthful_but_stays path a.world b.world a.entries
      (search each_still_but) (λ y away. i.truthful (still_before still) y) in
      rw (width, world_is) (rw left (search truthful_dropped))

  forgot_level : c.world.fault ≡ None → AllInSync (table_in c) c.world
  forgot_level still =
      let single = ap (λ (w : World). w.shared) (sym world_is) ∙ (stays.stays i.owned).single in
      level_forgotten f (grind (arith, level_rests, still_before))

  forgot_order : c.world.fault ≡ None → IsOrderly c.world
  forgot_order still = rw world_is (went_in_order n _ _ went i.order (search world_is))

  forgot_decides : c.world.fault ≡ None → Decides status.connected c.world path
  forgot_decides still =
      let at_b : b.world.fault ≡ None = search world_is in
      rw world_is (x.decides (claims a.entries) path (stands_at-claim s) i.owned
      (stands_way a s (i.known (still_before still))) i.order at_b)

  -- no pipe to a function but those of what is forgotten has changed
  pub forgot_stay : AllStay a c
  forgot_stay =
      let single = ap (λ (w : World). w.shared) (sym world_is) ∙ (stays.stays i.owned).single in
      search (stay_forgotten, stay_joined, stay_rests)

  pub forgot_open : status.connected ≡ true → IsOpen path c
  forgot_open on =
      let owned = stays.stays i.owned in
      record {
        owned = owned;
        but = record {
          owned = but_all owned;
          rooted = stays.rooted i.rooted;
          order = forgot_order;
          known = forgot_known;
          truthful = search forgot_truthful;
          level = search forgot_level;
        };
        there = grind (arith, forgot_decides);
      }

  pub forgot_sound : status.connected ≡ false → HostInvariant c
  forgot_sound off = record {
    owned = stays.stays i.owned;
    rooted = stays.rooted i.rooted;
    order = forgot_order;
    known = grind (arith, forgot_decides, forgot_known, known_vacant);
    truthful = forgot_truthful;
    level = forgot_level;
  }

-- What a host knows as what is found at a port is entered.

-- nothing is known of what is not listed
truthful_gone : {options : HostOptions} (path : List ℕ) (w : World) (es : Entries)
    → has_at path es ≡ false → TruthfulBut options path w es → DevicesAccurate options w es
truthful_gone {options = options} path w es gone told x = elim (decided (is_way path x)) [
  | inl way ↦ λ device s at on stands. absurd
      (cc (ap accepted_device_of (finding-none path x es gone way), at))
  | inr away ↦ told x away
]

pub supply_found : (path : List ℕ) {port : KnownPort} (f : Finding) (es : Entries)
    → known_port path es ≡ Some port → known_supply path (insert_entry path_cmp es path f)
    ≡ port.supply
supply_found path f es known = grind (arith, known_entered, shorter_apart)

hub_device : (f : Finding) (n : ℕ) → IsSomeAnd (hub_facts_in (Some f)) (λ facts. (1 ≤ n)
    × (n ≤ facts.ports)) → (device : Accepted) × (facts : HubFacts) × (f ≡ Device device)
    × (device.hub ≡ Some facts) × (1 ≤ n) × (n ≤ facts.ports)
hub_device (Refused cause) n h = absurd h
hub_device (Device device) n h = pick device.hub refl h
  where
    pick : (o : Option HubFacts) → device.hub ≡ o
        → IsSomeAnd o (λ facts. (1 ≤ n) × (n ≤ facts.ports)) → (d : Accepted) × (facts : HubFacts)
        × (Device device ≡ Device d) × (d.hub ≡ Some facts) × (1 ≤ n) × (n ≤ facts.ports)
    pick None e h = absurd h
    pick (Some facts) e h = search

module _ {n : ℕ} {path : List ℕ} {port : KnownPort} {result : Result Finding EnumFault}
    {a b : HostState} (e : EnumerationAt n path port result a b) (o : IsOpen path a) where
  before : b.world.fault ≡ None → a.world.fault ≡ None
  before = went_before e.went

  pub begins : Begins (claims a.entries) port.port path a.addresses a.world
  begins = search (claims_free, claims_taken, stands_at-claim)

  pub found_few : (most : ℕ) → (a.world.fault ≡ None → HasPlanWithin most a.world)
      → b.world.attempts ≤ a.world.attempts + (250000 + 100 * most)
  found_few most h = grind (arith, begins)

  pub found_only : b.world.fault ≡ None → OnlyAt path a.world b.world
  found_only still = grind (arith, begins)

  only_known : {es : Entries} → es ≡ a.entries → b.world.fault ≡ None → KnownBut path b.world es
  only_known same still =
      rw same (known_but_each path a.world b.world a.entries e.went.spends.roots
      (found_only still).others (o.but.known (before still)))

  only_truthful : {es : Entries} → es ≡ a.entries → b.world.fault ≡ None
      → TruthfulBut b.options path b.world es
  only_truthful same still =
      rw (e.options, same) (truthful_but_stays path a.world b.world a.entries
      (elsewhere_still path a.world b.world (found_only still).devices)
      (o.but.truthful (before still)))

  only_level : b.world.fault ≡ None → (x : List ℕ) → is_way path x ≡ false
      → InSyncAt x (table_in a) b.world
  only_level still = level_but path (table_in a) a.world b.world (found_only still).devices
      (o.but.level (before still))

  -- nothing is entered
  pub unfound_where : b.entries ≡ a.entries → b.pipes ≡ a.pipes
      → StaysWhere (b.world.fault ≡ None) a b
  unfound_where same pipes_same = where_unfound path a b same pipes_same e.away
      (λ still. (found_only still).devices) (grind (arith, begins))

  pub unfound_bulk : b.entries ≡ a.entries → b.pipes ≡ a.pipes → b.world.fault ≡ None
      → KeepsBulk a b
  unfound_bulk same pipes_same still =
      bulk_stays a b (where_stays a b still (unfound_where same pipes_same))
      (by_control (found_only still).control)

-- what is found is entered
module _ {n : ℕ} {path : List ℕ} {port : KnownPort} {f : Finding} {a b : HostState}
    (e : EnumerationAt n path port (Ok f) a b) (o : IsOpen path a) (said : ArrayVec ℕ)
    (table : table_in b ≡ entered path f said (table_in a)) where
  is : b.entries ≡ insert_entry path_cmp a.entries path f
  is = ap (λ (t : Table). t.entries) table

  owns : (device : Accepted) (s : State) → f ≡ Device device → reach b.world.roots path ≡ true
      → state_there b.world.roots path ≡ Some s
      → IsOwn b.options (tier_of path) port.supply device s
  owns device s found on stands =
      let at = begins e o in
      e.gives.own.truth (claims a.entries) path at.at at.free at.taken at.owned
      (regular_order at.order) device (ap Ok found) s on stands

  entered_known : b.world.fault ≡ None → PortsListed b.world b.entries
  entered_known still =
      let here : IsPlaced path f b.world = e.gives.places.placed (claims a.entries) path
      (begins e o) (o.there (before e o still)) still f refl in
      rw is (known_found path f a.entries e.stands.is.0 e.away b.world
      (search only_known) here.there
      (λ number has. let d : _ = hub_device f number has in
      here.below d.0 d.2 d.1 number d.3 d.4 d.5))

  told_here : b.world.fault ≡ None
      → IsAccurateAt b.options b.world (insert_entry path_cmp a.entries path f) path
  told_here still device t at on stands =
      let found : f ≡ Device device = grind (arith, lookup-insert_entry_here) in
      let own = owns device t found on stands in
      record { found = rw (supply_found path f a.entries e.stands.known) own.0; set = own.1 }

  entered_truthful : b.world.fault ≡ None → DevicesAccurate b.options b.world b.entries
  entered_truthful still =
      rw is (search (only_truthful, told_here, truthful_found, truthful_gone))

  entered_level : b.world.fault ≡ None → AllInSync (table_in b) b.world
  entered_level still =
      let order : WorldInvariant b.world = search went_in_order in
      level_found path f said b.options (tier_of path) port.supply (table_in a) b.world table
      order.sane owns (search (level_gone, only_level))

  -- a device that was found has new pipes
  pub entered_bulk : b.world.fault ≡ None → KeepsBulk a b
  entered_bulk still =
      let only = found_only e o still in
      bulk_entered path f said a b table e.away only.devices only.control
      (o.owned.so (before e o still))
      (λ device found x t is on stands.
      let own = owns device t found (search is) (search is) in
      λ number. (own.2.outs number, own.2.ins number))

  pub entered_sound : KeepsPort path a (Ok tt) b → InvariantAfterPort path (Ok tt) b
  entered_sound k =
      search (entered_known, entered_level, entered_truthful, went_in_order, k.ends, k.rooted)

-- nothing is entered: the hub is lost
pub unfound_sound : {n : ℕ} {path : List ℕ} {port : KnownPort} {fault : EnumFault}
    {a b : HostState} → EnumerationAt n path port (Err fault) a b → IsOpen path a
    → b.entries ≡ a.entries → b.pipes ≡ a.pipes → b.addresses ≡ a.addresses
    → FaultAllowedAt port.port fault b.world → KeepsPort path a (Err fault) b
    → InvariantAfterPort path (Err fault) b
unfound_sound {n = n} {path = path} {fault = ParentLost} {a = a} {b = b} e o same pipes_same
    pool_same told k =
    lost_sound b ParentLost e.stands told (grind arith)
    (grind arith)
    (λ goes. record {
      owned = k.ends o.owned;
      rooted = k.rooted o.but.rooted;
      order = went_in_order n a.world b.world e.went o.but.order;
      known = only_known e o same;
      truthful = only_truthful e o same;
      level = λ still.
          let table : table_in b ≡ table_in a = grind arith in
          rw table (only_level e o still);
    })
unfound_sound {fault = _} e o same pipes_same pool_same told k = tt

-- What a host knows as a hub that is lost is dropped.

-- A port was served, and where its hub is lost, that was dropped: what is known stays so.

-- the host goes on after it
lets_go_on_done : (served : Result (Unit {0}) EnumFault) → EndsAs served (Ok tt) → LetsGoOn served
lets_go_on_done served ends = grind arith

pub finished_sound : {path : List ℕ} (m : ℕ) {n : ℕ} (served : Result (Unit {0}) EnumFault)
    (result : Result (Unit {0}) HostFault) (a b c : HostState) → HostSteps m a b → HostSteps n b c
    → c.options ≡ a.options → EndsAs served result → ServesSound path a served b
    → DropsLost path served b result c
    → PartKeepsInvariant a result c
finished_sound m served (Err fault) a b c first second options ends x y = tt
finished_sound m {n = n} served (Ok tt) a b c first second options ends x y = record {
  sound = record {
    options = options;
    sound = λ s. y.sound (x.sound s);
    caused = λ s fair k.
        y.caused (x.sound s) (fair_after first fair) (x.caused s (fair_before second fair) k);
  };
  bulk = λ s still. bulk_then m n a b c first second still
      (x.bulk s (lets_go_on_done served ends) (went_before second still))
      (y.bulk (x.sound s) still);
  plugs = λ s still. plugs_then m n a b c first second still
      (x.plugs s (went_before second still)) y.plugs;
}

-- as long as the bus is at work, it did not give up
pub fault_after-no_bus : (A : Type 0) (fault : PipeFault) (old new : World)
    → FaultAfter 1 old fault new → new.fault ≡ None → IsNoBusFault {A = A} (Err fault)
fault_after-no_bus A fault old new told still = grind arith

-- A port is told to pass nothing on

module _ {n : ℕ} {path : List ℕ} {port : KnownPort} {a b : HostState} (s : StandsAt path port a)
    (r : OnlyBusSteps a b) (went : HostSteps n a b) (addresses : KeepsAddresses a.world b.world)
    (devices : KeepsDevices a.world b.world) (d : IsDroppable path a) where
  pub claimed : Opened path (claims a.entries) a.world
  claimed = opened_if_owned d.but.owned

  pub is_call : IsCall claimed.claims port.port path (clear_call PORT_ENABLE) ClearEnable a.world
  is_call = record {
    at = at_others (claims a.entries) claimed.claims port.port path claimed.others
        (stands_at-claim s);
    is = refl;
    alone = λ resets. absurd (cc resets);
    owned = claimed.owned;
  }

  told_but : {result : Result (Unit {0}) PipeFault}
      → CommandsPort port.port (clear_call PORT_ENABLE) a.world result b.world
      → (b.world.fault ≡ None → IsNoBusFault result) → IsSoundBut path b
  told_but calls sound = search (is_call, sound_rests_but, calls.rests)

  pub told_backlog : {result : Result (Unit {0}) PipeFault}
      → CommandsPort port.port (clear_call PORT_ENABLE) a.world result b.world → IsNoBusFault result
      → KeepsAll a.world b.world
  told_backlog calls sound = call_all (λ g. absurd (cc g)) (λ g. absurd (cc g))
      (calls.backlog claimed.claims path ClearEnable is_call sound)

  pub told_dropped : CommandsPort port.port (clear_call PORT_ENABLE) a.world (Ok tt) b.world
      → IsDroppedAt path b
  told_dropped calls = record {
    but = told_but calls (λ still. tt);
    there = λ still. disabled_known path Lost a.world b.world
        (search (is_call, calls.done))
        (d.there (went_before went still));
  }

  -- it could not be told
  pub untold_droppable : {fault : PipeFault}
      → CommandsPort port.port (clear_call PORT_ENABLE) a.world (Err fault) b.world
      → FaultAfter 1 a.world fault b.world → PortCleared port.port PORT_ENABLE a.world (Err fault)
      b.world → IsSomeAnd (parent_of path) (λ hub. IsDroppable hub b)
  untold_droppable {fault = fault} calls told cleared = by_parent (parent_of path) refl
    where
      by_parent : (o : Option (List ℕ)) → parent_of path ≡ o
          → IsSomeAnd o (λ hub. IsDroppable hub b)
      by_parent None above = grind arith
      by_parent (Some hub) above =
          search (droppable_above, fault_after-no_bus, rests_agrees, rests_known, told_but)

-- a hub that may be dropped stands at a port
pub nowhere_dropped : {path : List ℕ} {h : HostState} → StandsNowhere path h → IsDroppable path h
    → ⊥
nowhere_dropped s d = grind (arith, root_alone)

-- The hub is forgotten, and listed as lost

module _ {lost : List ℕ} {b d : HostState} (l : LostListed lost b d) (x : IsDroppedAt lost b) where
  still_there : d.world.fault ≡ None → b.world.fault ≡ None
  still_there still = ap (λ (w : World). w.fault) (sym (lost_world l)) ∙ still

  lost_known : d.world.fault ≡ None → PortsListed d.world d.entries
  lost_known still = grind (arith, known_dropped, known_found)

  lost_truthful : d.world.fault ≡ None → DevicesAccurate d.options d.world d.entries
  lost_truthful still =
      let dropped : DevicesAccurate b.options b.world l.left.entries =
      rw l.forgot.rest (truthful_dropped lost b.world b.entries
      (x.but.truthful (still_there still))) in
      rw (lost_options l, lost_world l) (rw (lost_entries l) (truthful_found lost (Refused Lost)
      l.left.entries l.path.0 l.forgot.gone b.world dropped
      (grind (arith, lookup-insert_entry_here))))

  lost_level : d.world.fault ≡ None → AllInSync (table_in d) d.world
  lost_level still =
      level_refused lost Lost l.said (table_in l.left) d.world l.table
      (rw (ap (λ (h : HostState). h.world) l.others) (level_forgotten l.forgot
      (x.but.level (still_there still))))

  pub lost_sound_there : {hub : List ℕ} {a : HostState} → IsDroppable hub a
      → DropsHub hub a (Ok tt) d → HostInvariant d
  lost_sound_there {hub = hub} p drops = record {
    owned = drops.ends p.but.owned;
    rooted = grind arith;
    order = grind arith;
    known = lost_known;
    truthful = lost_truthful;
    level = lost_level;
  }

-- On the way up

pub failed_by : {E : Type 0} {result : Result Bool E} {b c : Bool} → result ≡ Ok b → b ≡ c
    → result ≡ Ok c
failed_by was is = was ∙ ap (λ b. Ok b) is

pub climb_sound : {path above : List ℕ} (a : HostState) {result : Result Bool HostFault}
    (b : HostState) → parent_of path ≡ Some above → DisablesOnWay path a result b
    → result ≡ Ok false → IsDroppable path a → IsDroppable above b
climb_sound a b is x failed d = rw is at (x.failed d failed)

pub top_absurd : {path : List ℕ} {a : HostState} {result : Result Bool HostFault} {b : HostState}
    → parent_of path ≡ None → DisablesOnWay path a result b → result ≡ Ok false → IsDroppable path a
    → ⊥
top_absurd is x failed d = absurd (rw is at (x.failed d failed))

module _ {m n : ℕ} {path : List ℕ} where
  done_caused_by : (flag : Bool) {a : HostState} {result : Result Bool HostFault} (b : HostState)
      {first : World} {t : Option (List ℕ)} → StepRun m first t a.world a.trace → HostSteps n a b
      → DisablesOnWay path a result b → result ≡ Ok flag → IsDroppable path a
      → IsFairTo first b.world → (IsFairTo first a.world → (pending a.world.roots path ≡ true)
      × CausesBut a.options path a.world a.entries) → Disabled flag path b
  done_caused_by flag b before went x done d fair so_far =
      let so = so_far (fair_before went fair) in
      rw done at (x.caused d (fair_after before fair) so.0 so.1)

pub done_caused : {m n : ℕ} {path : List ℕ} (a : HostState) {result : Result Bool HostFault}
    (b : HostState) {first : World} {t : Option (List ℕ)} → StepRun m first t a.world a.trace
    → HostSteps n a b → DisablesOnWay path a result b → result ≡ Ok true → IsDroppable path a
    → IsFairTo first b.world → (IsFairTo first a.world → (pending a.world.roots path ≡ true)
    × CausesBut a.options path a.world a.entries) → (pending b.world.roots path ≡ true)
    × CausesBut b.options path b.world b.entries
done_caused a b before went x done d fair so_far =
    done_caused_by true b before went x done d fair so_far

pub climb_caused : {m n : ℕ} {path above : List ℕ} (a : HostState) {result : Result Bool HostFault}
    (b : HostState) {first : World} {t : Option (List ℕ)} → StepRun m first t a.world a.trace
    → HostSteps n a b → parent_of path ≡ Some above → DisablesOnWay path a result b
    → result ≡ Ok false → IsDroppable path a → IsFairTo first b.world
    → (IsFairTo first a.world → (pending a.world.roots path ≡ true)
    × CausesBut a.options path a.world a.entries) → (pending b.world.roots above ≡ true)
    × CausesBut b.options above b.world b.entries
climb_caused a b before went is x failed d fair so_far =
    rw is at (done_caused_by false b before went x failed d fair so_far)
