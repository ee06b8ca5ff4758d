-- The pipes to functions and the endpoints at their other ends, over what a host does at a port.
use Rattle.std.proofs.Common.{arith, ◌≡◌, ◌⊎◌, inl, inr, refl, sym, ap, subst, ◌∙◌, ℕ, Bool, true}
use Rattle.std.proofs.Common.{false, List, Option, None, Some, Result}
use Rattle.std.specs.BTreeMap.{is_at}
use Rattle.arrayvec.specs.ArrayVec.{ArrayVec}
use Rattle.usb_port.specs.{path_cmp}
use Rattle.usb_device.specs.{State, reach, state_there}
use Rattle.usb_world.specs.{Was, EachWas, AnyStep, Course, after, event, here, World, Consistent}
use Rattle.usb_world.specs.{is_way}
use Rattle.usb_world.proofs.Interface.{course_joined, each_wider, way_itself, at_or_below_way}
use Rattle.usb_world.proofs.Interface.{decided}
use Rattle.usb_hub.specs.{MapHolds, ControlCourse, StaysAs, EachElsewhere, EachNamedElsewhere}
use Rattle.usb_hub.specs.{KeepsDevices, TouchesNoPort}
use Rattle.usb_transfer.specs.{PipeFault}
use Rattle.usb_enum.specs.{Cause, Accepted, Finding, IsOwn, HostOptions, usual_options}
use Rattle.usb_enum.specs.declared.finding.Finding.TheVariants.{Device, Refused}
use Rattle.usb_enum.proofs.Interface.{went_course, ruled_there}
use Rattle.usb_table.specs.{Pipes, function_of, Entries, has_at, accepted_device_of}
use Rattle.usb_table.specs.{accepted_device_at, is_below_hub, SparesBulk, finding_at, new_pipes}
use Rattle.usb_table.specs.{Table, GoesThrough, entered, pipes_at, PipesPolled, is_at_or_below}
use Rattle.usb_table.specs.{AllInSync, InSyncAt, TakesOut}
use Rattle.usb_table.proofs.Interface.{path_tied, pipes_at-entered, spares-same, spares-stage}
use Rattle.usb_table.proofs.Interface.{level_beside, level_elsewhere, level_entered, level_stays}
use Rattle.usb_host.specs.{Forgets, SameFunction, EndpointsStayed, EndpointsBegan, StayedAt}
use Rattle.usb_host.specs.{RenewedAt, MovesNoBulk, NamedEndpointsStayed, StaysWhere, by_both}
use Rattle.usb_host.specs.{by_control, by_rest, KeepsBulk, HostState, claims, HostSteps}
use Rattle.usb_host.specs.{OnlyBusSteps, table_in}
use Rattle.usb_host.proofs.StepSums.{went_before}
use Rattle.usb_host.proofs.entries.Agreements.{lookup-insert_entry_elsewhere}
use Rattle.usb_host.proofs.entries.Agreements.{lookup-insert_entry_here, lookup-without}
use Rattle.usb_host.proofs.entries.Agreements.{lookup-removed}
use Rattle.usb_host.proofs.parts.Events.{event_same}
use Rattle.usb_host.proofs.knowledge.Places.{finding-kept, finding-none}
use Rattle.usb_host.proofs.knowledge.SettledListings.{reached_there}

-- The pipes to functions and the endpoints at their other ends stay as they were over what a host
-- does at its ports.

-- Pipes

same_function : {p q : Pipes} → q ≡ p → SameFunction p q
same_function e = record { same = ap function_of e }

function_joined : {p q r : Pipes} → SameFunction p q → SameFunction q r → SameFunction p r
function_joined x y = record { same = y.same ∙ x.same }

-- a poll of a hub moves no pipe to a function
polled_function : (pipes : Pipes) {left : Pipes} (old new : World)
    (result : Result (Option (ArrayVec ℕ)) PipeFault) → PipesPolled pipes old result left new
    → SameFunction pipes left
polled_function pipes old new result x = grind arith

-- The endpoints of a path

began_on : (path : List ℕ) (w v : World) → EndpointsBegan path w → EndpointsStayed path w v
    → EndpointsBegan path v
began_on path w v began stayed x s is on stands =
    let was : Was SparesBulk w x s = stayed x s is on stands in
    λ e.
    let fresh = began x was.before is was.on was.stands e in grind arith

stayed_none : (path : List ℕ) (w : World) {v : World} → v ≡ w → EndpointsStayed path w v
stayed_none path w same = subst (EndpointsStayed path w) (sym same) (grind arith)

stayed_joined : (path : List ℕ) (w u v : World) → EndpointsStayed path w u
    → EndpointsStayed path u v → EndpointsStayed path w v
stayed_joined path w u v first second x s is on stands =
    let late : Was SparesBulk u x s = second x s is on stands in
    let early : Was SparesBulk w x late.before = grind arith in grind arith

named_joined : (path : List ℕ) (w u v : World) → NamedEndpointsStayed path w u
    → NamedEndpointsStayed path u v → NamedEndpointsStayed path w v
named_joined path w u v first second x s is on stands has =
    let late : Was SparesBulk u x s = second x s is on stands has in
    let early : Was SparesBulk w x late.before = grind arith in grind arith

named_elsewhere : (first path : List ℕ) (w v : World) → EachNamedElsewhere first StaysAs w v
    → is_way first path ≡ false → NamedEndpointsStayed path w v
named_elsewhere first path w v each away x s is on stands has =
    let was : Was StaysAs w x s = grind arith in grind arith

stayed_elsewhere : (first path : List ℕ) (w v : World) → EachElsewhere first StaysAs w v
    → is_way first path ≡ false → EndpointsStayed path w v
stayed_elsewhere first path w v each away x s is on stands =
    let was : Was StaysAs w x s = grind arith in grind arith

-- Steps that move nothing

pub unmoved_none : (w : World) {v : World} → v ≡ w → MovesNoBulk w v
unmoved_none w same = subst (MovesNoBulk w) (sym same) (by_control (here w))

-- devices stay as they were, and nothing is asked of any port
pub unmoved_rests : (w v : World) → KeepsDevices w v → v.shared ≡ false → TouchesNoPort w v
    → MovesNoBulk w v
unmoved_rests w v devices single rests =
    by_rest rests (each_wider StaysAs SparesBulk (λ j s v x. spares-stage j s v x) w v
    (devices.stays single))

-- Where nothing is found anew

-- each accepted device has what it had
pub record AllStay (old new : HostState) : Type 0 where
  pub each : (path : List ℕ) (device : Accepted) → accepted_device_at path new.entries ≡ Some device
      → StayedAt path device old new

pub stay_none : (h : HostState) → AllStay h h
stay_none h = grind arith

pub stay_joined : (a b c : HostState) → AllStay a b → AllStay b c → AllStay a c
stay_joined a b c x y = record {
  each = λ path device at.
      let late : StayedAt path device b c = y.each path device at in
      let early : StayedAt path device a b = search x.each in
      record {
        listed = early.listed;
        pipes = search function_joined;
        endpoints = search (stayed_joined, a.world, b.world, c.world);
      };
}

pub bulk_stays : (a b : HostState) → AllStay a b → MovesNoBulk a.world b.world → KeepsBulk a b
bulk_stays a b x unmoved = grind arith

pub where_stays : {So : Type 0} (a b : HostState) → So → StaysWhere So a b → AllStay a b
where_stays a b so x = grind arith

-- entries and the pipes to functions are as they were
where_same : {So : Type 0} {a b : HostState} → b.entries ≡ a.entries
    → ((path : List ℕ) → SameFunction (pipes_at path (table_in a)) (pipes_at path (table_in b)))
    → EachWas SparesBulk a.world b.world → StaysWhere So a b
where_same same pipes each = record {
  each = grind arith;
}

stay_same : {a b : HostState} → b.entries ≡ a.entries
    → ((path : List ℕ) → SameFunction (pipes_at path (table_in a)) (pipes_at path (table_in b)))
    → EachWas SparesBulk a.world b.world → AllStay a b
stay_same {a} {b} same pipes each =
    where_stays a b tt (where_same {So = Unit {0}} same pipes each)

-- only the world goes on, and devices stay as they were
pub stay_rests : (a b : HostState) → OnlyBusSteps a b → KeepsDevices a.world b.world
    → b.world.shared ≡ false → AllStay a b
stay_rests a b r devices single =
    stay_same (ap (λ (h : HostState). h.entries) r) (grind arith)
    (each_wider StaysAs SparesBulk (λ j s v x. spares-stage j s v x) a.world b.world
    (devices.stays single))

-- the hub at a path is polled
pub where_polled : {So : Type 0} (hub : List ℕ) (a b : HostState)
    (result : Result (Option (ArrayVec ℕ)) PipeFault) → GoesThrough hub (table_in a) (table_in b)
    → PipesPolled (pipes_at hub (table_in a)) a.world result (pipes_at hub (table_in b)) b.world
    → EachWas SparesBulk a.world b.world → StaysWhere So a b
where_polled hub a b result goes polled each =
    where_same goes.entries (λ path. elim (decided (is_at (path_cmp hub) path)) [
      | inl tie ↦ rw (path_tied hub path tie) at (polled_function (pipes_at hub (table_in a))
          {left = pipes_at hub (table_in b)} a.world b.world result polled)
      | inr apart ↦ same_function (goes.others path apart)
    ]) each

-- an event comes
pub stay_event : (a b : HostState) → b.entries ≡ a.entries → b.pipes ≡ a.pipes
    → b.world ≡ after event a.world → AllStay a b
stay_event a b same pipes_same is =
    let table : table_in b ≡ table_in a = grind arith in
    stay_same same (λ path. same_function (ap (pipes_at path) table))
    (rw is (each_wider (λ x s v. v ≡ s) SparesBulk spares-same a.world (after event a.world)
    (event_same a.world)))

-- what is listed after what stood at a path is forgotten stands elsewhere
listed_away : (first path : List ℕ) (es : Entries) {device : Accepted} → has_at first es ≡ false
    → accepted_device_at path es ≡ Some device → is_way first path ≡ false
listed_away first path es gone at = grind (arith, finding-none)

pub stay_forgotten : {first : List ℕ} {a b : HostState} → Forgets first a b → AllStay a b
stay_forgotten {first = first} {a = a} {b = b} f = record {
  each = grind (arith, finding-kept, listed_away, stayed_none);
}

-- Where the host stopped

pub stays_where : {So : Type 0} (a b : HostState) → AllStay a b → StaysWhere So a b
stays_where a b x = grind arith

pub where_joined : {So Then : Type 0} (a b c : HostState) → (Then → So) → StaysWhere So a b
    → StaysWhere Then b c → StaysWhere Then a c
where_joined a b c back x y = record {
  each = λ path device at.
      let late = y.each path device at in
      let early = x.each path device late.listed in
      record {
        listed = early.listed;
        pipes = search function_joined;
        endpoints = λ so.
            stayed_joined path a.world b.world c.world (early.endpoints (back so))
            (late.endpoints so);
        named = search (named_joined, a.world, b.world, c.world);
      };
}

-- nothing is entered at a path of which nothing was listed
pub where_unfound : {So : Type 0} (first : List ℕ) (a b : HostState) → b.entries ≡ a.entries
    → b.pipes ≡ a.pipes → has_at first a.entries ≡ false
    → (So → EachElsewhere first StaysAs a.world b.world)
    → EachNamedElsewhere first StaysAs a.world b.world → StaysWhere So a b
where_unfound first a b same pipes_same gone each named = record {
  each = λ path device at.
      let listed : accepted_device_at path a.entries ≡ Some device = grind arith in
      record {
        listed = listed;
        pipes = search same_function;
        endpoints = λ so. stayed_elsewhere first path a.world b.world (each so)
            (listed_away first path a.entries gone listed);
        named = search (listed_away, named_elsewhere, a.world, b.world);
      };
}

-- What is entered

-- at another path
beside : (first path : List ℕ) (f : Finding) (said : ArrayVec ℕ) (a b : HostState)
    (device : Accepted) → table_in b ≡ entered first f said (table_in a)
    → is_at (path_cmp path) first ≡ false
    → accepted_device_at path b.entries ≡ Some device
    → (accepted_device_at path a.entries ≡ Some device → EndpointsStayed path a.world b.world)
    → StayedAt path device a b
beside first path f said a b device table apart at endpoints =
    grind (arith, lookup-insert_entry_elsewhere)

-- the accepted device of a finding is what was found
pub accepted_device_of-some : (f : Finding) {device : Accepted}
    → accepted_device_of (Some f) ≡ Some device → f ≡ Device device
accepted_device_of-some f e = grind arith

-- at the path itself
entered_there : (first : List ℕ) {path : List ℕ} (f : Finding) (said : ArrayVec ℕ) (a b : HostState)
    (device : Accepted) → table_in b ≡ entered first f said (table_in a) → path ≡ first
    → accepted_device_at path b.entries
    ≡ Some device → f ≡ Device device
entered_there first f said a b device table is at = grind (arith, lookup-insert_entry_here)

-- a device that is refused has no pipes
pub stay_refused : (first : List ℕ) (cause : Cause) (said : ArrayVec ℕ) (a b : HostState)
    → table_in b ≡ entered first (Refused cause) said (table_in a) → b.world ≡ a.world → AllStay a b
stay_refused first cause said a b table same =
    record {
      each = λ path device at. elim (decided (is_at (path_cmp path) first)) [
        | inl tie ↦ absurd (cc (entered_there first (Refused cause) said a b device table
            (path_tied path first tie) at))
        | inr apart ↦ beside first path (Refused cause) said a b device table apart at
            (λ listed. stayed_none path a.world same)
      ];
    }

-- whoever is reached holds the address of its entry
unreached : (w : World) (path : List ℕ) (es : Entries) → MapHolds (claims es) w
    → finding_at path es ≡ None → reach w.roots path ≡ false
unreached w path es held none = grind (arith, reached_there)

-- a device that is found where none was listed was not reached before
module _ (first : List ℕ) (f : Finding) (said : ArrayVec ℕ) (a b : HostState)
    (table : table_in b ≡ entered first f said (table_in a)) (gone : has_at first a.entries ≡ false)
    (each : EachElsewhere first StaysAs a.world b.world) where
  pub bulk_entered : ControlCourse a.world b.world → MapHolds (claims a.entries) a.world
      → ((device : Accepted) → f ≡ Device device → EndpointsBegan first b.world) → KeepsBulk a b
  bulk_entered control held began = record {
    each = λ path device at. elim (decided (is_at (path_cmp path) first)) [
      | inl tie ↦
          let is : path ≡ first = path_tied path first tie in
          inr (rw is (found device (search entered_there)))
      | inr apart ↦
          inl (search (beside, listed_away, stayed_elsewhere))
    ];
    unmoved = by_control control;
  }
    where
      found : (device : Accepted) → f ≡ Device device → RenewedAt first device a b
      found device is = record {
        moment = a.world;
        before = here a.world;
        unmoved = search unmoved_none;
        none = grind (arith, finding-none, unreached, way_itself);
        found = b.world;
        control = control;
        behind = here b.world;
        since = search stayed_none;
        pipes = same_function (ap (pipes_at first) table
            ∙ pipes_at-entered first f said (table_in a)
            ∙ ap (λ g. new_pipes g (is_below_hub first) said) is);
        endpoints = began device is;
      }

-- One part after another

pub bulk_none : (h : HostState) → KeepsBulk h h
bulk_none h = bulk_stays h h (stay_none h) (unmoved_none h.world {v = h.world} refl)

module _ (a b c : HostState) (first : Course AnyStep a.world b.world)
    (second : Course AnyStep b.world c.world) where
  stayed_then : (path : List ℕ) {device : Accepted} → StayedAt path device a b
      ⊎ RenewedAt path device a b → StayedAt path device b c → StayedAt path device a c
      ⊎ RenewedAt path device a c
  stayed_then path (inl x) y = inl (search stayed_joined)
  stayed_then path (inr x) y = inr (record {
    moment = x.moment;
    before = x.before;
    unmoved = x.unmoved;
    none = x.none;
    found = x.found;
    control = x.control;
    behind = course_joined x.behind second;
    since = stayed_joined path x.found b.world c.world x.since y.endpoints;
    pipes = function_joined x.pipes y.pipes;
    endpoints = began_on path b.world c.world x.endpoints y.endpoints;
  })

  part_then : KeepsBulk a b → (path : List ℕ) (device : Accepted) → StayedAt path device b c
      ⊎ RenewedAt path device b c → StayedAt path device a c ⊎ RenewedAt path device a c
  part_then x path device (inl y) = stayed_then path (x.each path device y.listed) y
  part_then x path device (inr y) =
      inr (record {
        moment = y.moment;
        before = course_joined first y.before;
        unmoved = by_both x.unmoved y.unmoved;
        none = y.none;
        found = y.found;
        control = y.control;
        behind = y.behind;
        since = y.since;
        pipes = y.pipes;
        endpoints = y.endpoints;
      })

  bulk_joins : KeepsBulk a b → KeepsBulk b c → KeepsBulk a c
  bulk_joins x y = record {
    each = grind (arith, part_then);
    unmoved = by_both x.unmoved y.unmoved;
  }

-- as long as the bus is at work
pub bulk_then : (m n : ℕ) (a b c : HostState) → HostSteps m a b → HostSteps n b c
    → c.world.fault ≡ None → KeepsBulk a b → KeepsBulk b c → KeepsBulk a c
bulk_then m n a b c first second still h h1 =
    search (bulk_joins, went_before, went_course, a.world, b.world, c.world)

-- only the host's own stop is new
pub bulk_stopped : (a b : HostState) (stopped : Bool) → KeepsBulk a b
    → KeepsBulk a (record b { stopped = stopped })
bulk_stopped a b stopped x = record {
  each = λ path device at. pick path device (x.each path device at);
  unmoved = x.unmoved;
}
  where
    pick : (path : List ℕ) (device : Accepted) → StayedAt path device a b
        ⊎ RenewedAt path device a b → StayedAt path device a (record b { stopped = stopped })
        ⊎ RenewedAt path device a (record b { stopped = stopped })
    pick path device (inl y) = grind arith
    pick path device (inr y) = grind arith

-- Pipes stay as far as the endpoints at their other ends over what a host does at a port.

-- Only the world goes on, and devices stay as they were

pub level_rests : (a b : HostState) → OnlyBusSteps a b → KeepsDevices a.world b.world
    → b.world.shared ≡ false → (path : List ℕ) → InSyncAt path (table_in a) a.world
    → InSyncAt path (table_in b) b.world
level_rests a b r devices single path l = grind (arith, level_stays)

-- What is taken out

-- a path that is neither at another nor below it is not one that is
is_at-not_below : (q path first : List ℕ) → is_at_or_below first path ≡ true
    → is_at_or_below q path ≡ false → is_at (path_cmp q) first ≡ false
is_at-not_below q path first on away = grind (arith, path_tied)

pub pipes_apart : (q path : List ℕ) {finding : Finding} (old new : Table)
    → TakesOut path finding old new → is_at_or_below q path ≡ false
    → pipes_at q new ≡ pipes_at q old
pipes_apart q path old new t away = grind (arith, is_at-not_below, lookup-removed)

-- Of what is not listed nothing is to be level

none_level : {path : List ℕ} {t : Table} {w : World} → finding_at path t.entries ≡ None
    → InSyncAt path t w
none_level none = grind arith

-- what stood at a path is forgotten
pub level_forgotten : {first : List ℕ} {b c : HostState} → Forgets first b c
    → ((x : List ℕ) → is_way first x ≡ false → InSyncAt x (table_in b) b.world)
    → AllInSync (table_in c) c.world
level_forgotten {first = first} {b = b} {c = c} f level x = elim (decided (is_way first x)) [
  | inl way ↦ none_level (finding-none first x c.entries f.gone way)
  | inr away ↦
      let found : finding_at x c.entries ≡ finding_at x b.entries =
      grind (arith, at_or_below_way, lookup-without) in
      subst (InSyncAt x (table_in c)) (ap (λ (h : HostState). h.world) (sym f.others)) (grind arith)
]

-- What is entered

-- where nothing was listed at the path
pub level_came : (path : List ℕ) (f : Finding) (said : ArrayVec ℕ) (t : Table) {u : Table}
    (w : World) → u ≡ entered path f said t → InSyncAt path (entered path f said t) w
    → AllInSync t w → AllInSync u w
level_came path f said t w is own others x =
    rw is (elim (decided (is_at (path_cmp x) path)) [
      | inl tie ↦ rw (path_tied x path tie) own
      | inr apart ↦ level_beside path f said t w x apart (others x)
    ])

-- a device that is refused has no pipes
pub level_refused : (path : List ℕ) (cause : Cause) (said : ArrayVec ℕ) (t : Table) {u : Table}
    (w : World) → u ≡ entered path (Refused cause) said t → AllInSync t w → AllInSync u w
level_refused path cause said t w is others =
    level_came _ (Refused cause) said t w is (level_entered path (Refused cause) said t w
    (usual_options true) 0 0
    (λ device s found. absurd (cc found))) others

-- those to a device whose finding is its own are new, as its endpoints are
pub level_found : (path : List ℕ) (f : Finding) (said : ArrayVec ℕ) (options : HostOptions)
    (tier supply : ℕ)
    (t : Table) {u : Table} (w : World) → u ≡ entered path f said t → Consistent w.roots
    → ((device : Accepted) (s : State) → f ≡ Device device → reach w.roots path ≡ true
    → state_there w.roots path ≡ Some s → IsOwn options tier supply device s) → AllInSync t w
    → AllInSync u w
level_found path f said options tier supply t w is sane own others =
    level_came _ f said t w is (level_entered path f said t w options tier supply
    (search ruled_there)) others

-- Elsewhere

pub level_but : (path : List ℕ) (t : Table) (w v : World) → EachElsewhere path StaysAs w v
    → ((x : List ℕ) → is_way path x ≡ false → InSyncAt x t w) → (x : List ℕ) → is_way path x ≡ false
    → InSyncAt x t v
level_but path t w v each level x away = search level_elsewhere

-- of what stands at a path and below it nothing is listed
pub level_gone : (path : List ℕ) (t : Table) (w : World) → has_at path t.entries ≡ false
    → ((x : List ℕ) → is_way path x ≡ false → InSyncAt x t w) → AllInSync t w
level_gone path t w gone level = grind (arith, finding-none, none_level)
