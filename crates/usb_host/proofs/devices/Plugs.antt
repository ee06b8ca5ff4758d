-- Devices stand where some were plugged, and where few were, none waits for an address.
use Rattle.std.proofs.Common.{◌≡◌, ◌≤◌, ◌<◌, ◌⊎◌, inl, inr, refl, sym, ap, subst, ◌∙◌, arith, ℕ}
use Rattle.std.proofs.Common.{zero, suc, ◌+◌, Bool, true, false, cond, List, [], ◌∷◌, length, take}
use Rattle.std.proofs.Common.{Option, None, Some, is_some, option_map, eqb, Ordering, Less, Equal}
use Rattle.std.proofs.Common.{Greater, Any}
use Rattle.std.specs.Prelude.{⊤, unwrap_or}
use Rattle.std.specs.List.{filter, list_any}
use Rattle.std.specs.BTreeMap.{insert_entry, is_at}
use Rattle.std.specs.Ordering.{match_ordering}
use Rattle.std.proofs.lemmas.List.Sums.{sum_by-cons}
use Rattle.std.proofs.lemmas.Map.Steps.{le-length_from_below}
use Rattle.usb_port.specs.{path_cmp, PortCall, ClearEnable, PortStatus, IsFull}
use Rattle.usb_device.specs.{State, state_there}
use Rattle.usb_world.specs.{Action, Plug, Unplug, Event, AtPorts, spec_of, PlanData, IsPlan}
use Rattle.usb_world.specs.{PluggedMap, device_indexed, index_at, plugged_after, plugged_by}
use Rattle.usb_world.specs.{plugged_without, AnyStep, Course, opening, World}
use Rattle.usb_world.specs.declared.event.Action.TheVariants.{Change, Ask}
use Rattle.usb_world.proofs.Interface.{course_joined, course_taken, course_wider, devices_left}
use Rattle.usb_world.proofs.Interface.{way_itself, decided}
use Rattle.usb_hub.proofs.Interface.{attached_there}
use Rattle.usb_hub.specs.{PortCallDone, PortStatusAt}
use Rattle.usb_enum.specs.{Lost, NoAddress, Accepted, Finding, IsOrderly}
use Rattle.usb_enum.specs.declared.finding.Finding.TheVariants.{Device, Refused}
use Rattle.usb_enum.proofs.Interface.{orderly_on, went_course}
use Rattle.usb_table.specs.{Entries, has_at, without, accepted_device_at, accepted_device_of}
use Rattle.usb_table.specs.{address_in, entry_address, finding_at}
use Rattle.usb_table.proofs.Interface.{path_tied}
use Rattle.usb_host.specs.{Forgets, Agrees, HostState, HasLost, HasPlugs, KeepsPlugs, PlugsAt}
use Rattle.usb_host.specs.{WasPlugged, is_plug, plug_events, EntersOne, HostSteps, OnlyBusSteps}
use Rattle.usb_host.specs.{ClearsAndReads, DoneWhere}
use Rattle.usb_host.proofs.StepSums.{went_before}
use Rattle.usb_host.proofs.entries.Agreements.{lookup-insert_entry_elsewhere, accounts_listed}
use Rattle.usb_host.proofs.entries.Agreements.{one_when, lookup-insert_entry_here}
use Rattle.usb_host.proofs.devices.Pipes.{accepted_device_of-some}
use Rattle.usb_host.proofs.knowledge.Places.{finding-dropped, finding-kept, finding-none}

-- Of some element

module _ {X : Type 0} (P : X → Type 0) where
  any_first : (x : X) (xs : List X) → P x → Any P (x ∷ xs)
  any_first x xs so = (0, x, omega arith, refl, so)

  any_later : (x : X) (xs : List X) → Any P xs → Any P (x ∷ xs)
  any_later x xs a = (suc a.0, a.1, omega (arith, a.2), a.3, a.4)

  pub any_cases : (x : X) (xs : List X) → Any P (x ∷ xs) → P x ⊎ Any P xs
  any_cases x xs a = grind arith

  pub any_none : Any P [] → ⊥
  any_none a = absurd (omega (arith, a.2))

  any_taken : (m n : ℕ) (xs : List X) → m ≤ n → Any P (take m xs) → Any P (take n xs)
  any_taken (suc m) zero (x ∷ xs) le a = absurd (omega arith)
  any_taken (suc m) (suc n) (x ∷ xs) le a = elim (any_cases x (take m xs) a) [
    | inl so ↦ any_first x (take n xs) so
    | inr more ↦ any_later x (take n xs) (any_taken m n xs (omega arith) more)
  ]
  any_taken _ n _ le a = absurd (any_none a)

  any_all : (n : ℕ) (xs : List X) → Any P (take n xs) → Any P xs
  any_all (suc n) (x ∷ xs) a = elim (any_cases x (take n xs) a) [
    | inl so ↦ any_first x xs so
    | inr more ↦ any_later x xs (any_all n xs more)
  ]
  any_all _ _ a = absurd (any_none a)

abbrev AtPath : List ℕ → Event → Type 0
AtPath path e = PlugsAt path e.action

-- what was plugged was so ever since
was_later : (events : List Event) (m n : ℕ) (path : List ℕ) → m ≤ n → WasPlugged events m path
    → WasPlugged events n path
was_later events m n path le h = search any_taken

-- What stands at a path was plugged there

-- each path at which a device is plugged is so
abbrev EachPath : (List ℕ → Type 0) → PluggedMap → Type 0
EachPath P [] = ⊤
EachPath P (x ∷ tree) = P x.0 × EachPath P tree

module _ (P : List ℕ → Type 0) where
  path_inserted : (tree : PluggedMap) (e : List ℕ) (d : ℕ) → P e → EachPath P tree
      → EachPath P (insert_entry path_cmp tree e d)
  path_inserted [] e d so each = (so, tt)
  path_inserted (x ∷ tree) e d so each = split (path_cmp e x.0) (path_inserted tree e d so each.1)
    where
      split : (r : Ordering) → EachPath P (insert_entry path_cmp tree e d)
          → EachPath P (match_ordering r ((e, d) ∷ x ∷ tree) ((x.0, d) ∷ tree)
          (x ∷ insert_entry path_cmp tree e d))
      split Less more = (so, each)
      split Equal more = each
      split Greater more = (each.0, more)

  path_filtered : (test : List ℕ × ℕ → Bool) (tree : PluggedMap) → EachPath P tree
      → EachPath P (filter test tree)
  path_filtered test [] each = tt
  path_filtered test (x ∷ tree) each = split (test x) (path_filtered test tree each.1)
    where
      split : (b : Bool) → EachPath P (filter test tree)
          → EachPath P (cond b (x ∷ filter test tree) (filter test tree))
      split true more = (each.0, more)
      split false more = more

  path_found : (tree : PluggedMap) (path : List ℕ) (i : ℕ) → EachPath P tree
      → index_at tree path ≡ Some i → P path
  path_found [] path i each e = absurd cc
  path_found (x ∷ tree) path i each e = split (is_at (path_cmp path) x.0) refl
      (path_found tree path i each.1) e
    where
      split : (b : Bool) → is_at (path_cmp path) x.0 ≡ b → (index_at tree path ≡ Some i → P path)
          → cond b (Some x.1) (index_at tree path) ≡ Some i → P path
      split true tie more e = rw (path_tied path x.0 tie) each.0
      split false tie more e = more e

  path_after : (action : Action) (tree : PluggedMap)
      → ((path : List ℕ) → PlugsAt path action → P path) → EachPath P tree
      → EachPath P (plugged_after action tree)
  unfolding plugged_without
  path_after (Change (Plug path device)) tree so each = search path_inserted
  path_after (Change (Unplug path)) tree so each = grind (arith, path_filtered)
  path_after (Ask ask) tree so each = each

  path_by : (events : List Event) (tree : PluggedMap)
      → ((path : List ℕ) → Any (AtPath path) events → P path) → EachPath P tree
      → EachPath P (plugged_by tree events)
  unfolding plugged_by
  path_by [] tree so each = each
  path_by (e ∷ events) tree so each =
      path_by events (plugged_after e.action tree) (search any_later)
      (grind (arith, path_after))

index_some : (o : Option ℕ) (s : Option State) (plan : PlanData) → is_some s ≡ true
    → option_map spec_of s ≡ device_indexed plan.devices o → (i : ℕ) × (o ≡ Some i)
index_some o s plan there is = grind arith

pub there_was_plugged : (plan : PlanData) → IsPlan plan → AtPorts plan.events → {w : World}
    → Course AnyStep (opening plan) w → (path : List ℕ) → is_some (state_there w.roots path) ≡ true
    → WasPlugged plan.events w.taken path
there_was_plugged plan is paths {w = w} course path there =
    let came : List Event = take w.taken plan.events in
    let index : (i : ℕ) × (index_at (plugged_by [] came) path ≡ Some i) =
    index_some (index_at (plugged_by [] came) path) (state_there w.roots path) plan there
    (search devices_left) in
    path_found (λ p. Any (AtPath p) came) (plugged_by [] came) path _
    (grind (arith, path_by)) index.1

-- Where all addresses are taken, at least 128 devices were plugged

-- the address of the entry at a path, and 0 where none has one
abbrev address_or : Entries → List ℕ → ℕ
address_or es path = unwrap_or (entry_address path es) 0

abbrev plug_address : Entries → Action → ℕ
plug_address es (Change (Plug path device)) = address_or es path
plug_address es _ = 0

-- those of the paths at which devices are plugged
abbrev plug_addresses : Entries → List Event → List ℕ
plug_addresses es [] = []
plug_addresses es (e ∷ events) = cond (is_plug e.action)
    (plug_address es e.action ∷ plug_addresses es events) (plug_addresses es events)

plug_events-cons : (e : Event) (events : List Event)
    → plug_events (e ∷ events) ≡ one_when (is_plug e.action) + plug_events events
unfolding one_when
plug_events-cons e events = search sum_by-cons

plug_step : (es : Entries) (e : Event) (events : List Event) → length (plug_addresses es events)
    ≡ plug_events events → (b : Bool) → is_plug e.action ≡ b
    → length (cond b (plug_address es e.action ∷ plug_addresses es events)
    (plug_addresses es events)) ≡ plug_events (e ∷ events)
unfolding one_when
plug_step es e events same true is = let counted : one_when (is_plug e.action) ≡ 1 =
    ap one_when is in omega (arith, plug_events-cons e events)
plug_step es e events same false is = grind arith

length-plug_addresses : (es : Entries) (events : List Event) → length (plug_addresses es events)
    ≡ plug_events events
length-plug_addresses es [] = refl
length-plug_addresses es (e ∷ events) = plug_step es e events (length-plug_addresses es events)
    _ refl

plug_here : (es : Entries) (path : List ℕ) (a : Action) (more : List ℕ) → PlugsAt path a
    → list_any (eqb (address_or es path)) (cond (is_plug a) (plug_address es a ∷ more) more) ≡ true
plug_here es path a more is = grind arith

plug_later : (q a : ℕ) (more : List ℕ) (b : Bool) → list_any (eqb q) more ≡ true
    → list_any (eqb q) (cond b (a ∷ more) more) ≡ true
plug_later q a more b has = grind arith

plug_among : (es : Entries) (path : List ℕ) (events : List Event) → Any (AtPath path) events
    → list_any (eqb (address_or es path)) (plug_addresses es events) ≡ true
plug_among es path [] a = search any_none
plug_among es path (e ∷ events) a = elim (any_cases (AtPath path) e events a) [
  | inl is ↦ plug_here es path e.action (plug_addresses es events) is
  | inr more ↦ plug_later (address_or es path) (plug_address es e.action)
      (plug_addresses es events) (is_plug e.action) (plug_among es path events more)
]

device_there : (o : Option Finding) {a : ℕ} → address_in o ≡ Some a → (device : Accepted)
    × (accepted_device_of o ≡ Some device)
device_there (Some (Device device)) e = (device, refl)
device_there _ e = absurd (cc e)

-- at a path of its own for each address, and at one that has none
full_plugged : (events : List Event) (path : List ℕ) (h : HostState) → HasPlugs events h
    → Agrees h.options h.entries h.addresses → IsFull h.addresses → finding_at path h.entries ≡ None
    → WasPlugged events h.world.taken path → 128 ≤ plug_events events
full_plugged events path h plugs agrees full none was =
    rw (length-plug_addresses h.entries events) at (le-length_from_below
    (plug_addresses h.entries events) 128 found)
  where
    among : (p : List ℕ) (q : ℕ) → address_or h.entries p ≡ q → WasPlugged events h.world.taken p
        → list_any (eqb q) (plug_addresses h.entries events) ≡ true
    among p q is at =
        rw is at (plug_among h.entries p events (any_all (AtPath p) h.world.taken events at))

    found : (q : ℕ) → q < 128 → list_any (eqb q) (plug_addresses h.entries events) ≡ true
    found zero less = among path 0 (grind arith) was
    found (suc q) less =
        let at : (p : List ℕ) × (entry_address p h.entries ≡ Some (suc q)) =
        accounts_listed agrees.rises agrees.accounts (suc q) (full (suc q) (omega arith, less)) in
        let there : (device : Accepted) × (accepted_device_at at.0 h.entries ≡ Some device) =
        device_there (finding_at at.0 h.entries) at.1 in
        among at.0 (suc q) (ap (λ o. unwrap_or o 0) at.1) (search plugs.each)

-- From one moment to the next

pub plugs_then : (m n : ℕ) (a b c : HostState) → HostSteps m a b → HostSteps n b c
    → c.world.fault ≡ None → KeepsPlugs a b → KeepsPlugs b c → KeepsPlugs a c
plugs_then m n a b c first second still x y = search (course_joined, went_before, went_course)

-- what is listed was so before, or is lost
plugs_fewer : {events : List Event} (a b : HostState) → a.world.taken ≤ b.world.taken
    → ((path : List ℕ) (f : Finding) → finding_at path b.entries ≡ Some f
    → (finding_at path a.entries ≡ Some f) ⊎ (f ≡ Refused Lost)) → HasPlugs events a
    → HasPlugs events b
plugs_fewer {events = events} a b onward was plugs = record {
  each = λ path device at. was_later events a.world.taken b.world.taken path onward (grind arith);
  none_waits = grind arith;
}
  where
    pick : (path : List ℕ) (device : Accepted) (o : Option Finding) → finding_at path b.entries ≡ o
        → accepted_device_of o ≡ Some device → WasPlugged events a.world.taken path
    pick path device None at e = absurd (cc e)
    pick path device (Some f) at e =
        elim (was path (Device device) (at ∙ ap (λ g. Some g) (accepted_device_of-some f e))) [
          | inl listed ↦ plugs.each path device (ap accepted_device_of listed)
          | inr lost ↦ absurd (cc lost)
        ]

-- the same is listed
pub plugs_same : (events : List Event) (a b : HostState) → a.world.taken ≤ b.world.taken
    → b.entries ≡ a.entries → HasPlugs events a → HasPlugs events b
plugs_same events a b onward same h = grind (arith, plugs_fewer)

pub plugs_kept : (a b : HostState) → a.world.taken ≤ b.world.taken → b.entries ≡ a.entries
    → KeepsPlugs a b
plugs_kept a b onward same = search plugs_same

pub plugs_rests : {n : ℕ} (a b : HostState) → HostSteps n a b → OnlyBusSteps a b → KeepsPlugs a b
plugs_rests a b went r = grind (arith, plugs_kept)

was_listed : (first path : List ℕ) (es : Entries) (f : Finding) → finding_at path (without first es)
    ≡ Some f → finding_at path es ≡ Some f
was_listed first path es f at = grind (arith, finding-dropped, finding-kept)

-- what was found at a port and below it is forgotten
pub plugs_forgot : {n : ℕ} {path : List ℕ} {a b c : HostState} → HostSteps n a c
    → OnlyBusSteps a b → Forgets path b c → KeepsPlugs a c
plugs_forgot {path = path} {a = a} {c = c} went r f plan is paths course =
    plugs_fewer a c went.spends.onward (grind (arith, was_listed))

abbrev with_lost : List ℕ → Entries → Entries
with_lost path es = insert_entry path_cmp (without path es) path (Refused Lost)

-- besides, a hub is listed as lost
pub plugs_lost : {hub : List ℕ} (a b : HostState) → a.world.taken ≤ b.world.taken
    → HasLost hub a.entries b.entries → KeepsPlugs a b
plugs_lost a b onward lost plan is paths course =
    plugs_fewer a b onward (λ p f at.
    let listed = ap (finding_at p) (sym lost.entries) ∙ at in
    elim (decided (is_at (path_cmp p) lost.path)) [
      | inl tie ↦
          let here : finding_at lost.path (with_lost lost.path a.entries) ≡ Some f =
          subst (λ (q : List ℕ). finding_at q (with_lost lost.path a.entries) ≡ Some f)
          (path_tied p lost.path tie) listed in
          inr (grind (arith, lookup-insert_entry_here))
      | inr apart ↦ inl (grind (arith, lookup-insert_entry_elsewhere, was_listed))
    ])

-- one finding is entered at a path at which a device was plugged
plugs_entered : (events : List Event) (path : List ℕ) (a b : HostState)
    → Agrees a.options a.entries a.addresses → has_at path a.entries ≡ false → EntersOne path a b
    → a.world.taken ≤ b.world.taken → WasPlugged events a.world.taken path → HasPlugs events a
    → HasPlugs events b
plugs_entered events path a b agrees gone enters onward was plugs = record {
  each = λ p device at. was_later events a.world.taken b.world.taken p onward
      (each p device (is_at (path_cmp p) path) refl at);
  none_waits = λ few p at. waits few p (is_at (path_cmp p) path) refl (grind arith);
}
  where
    each : (p : List ℕ) (device : Accepted) (tied : Bool) → is_at (path_cmp p) path ≡ tied
        → accepted_device_at p b.entries ≡ Some device → WasPlugged events a.world.taken p
    each p device true tie at = rw (path_tied p path tie) was
    each p device false apart at = grind (arith, lookup-insert_entry_elsewhere)

    waits : plug_events events ≤ 127 → (p : List ℕ) (tied : Bool) → is_at (path_cmp p) path ≡ tied
        → finding_at p (insert_entry path_cmp a.entries path enters.finding)
        ≡ Some (Refused NoAddress) → ⊥
    waits few p true tie at =
        let there : List ℕ → Type 0 = λ q. finding_at q
        (insert_entry path_cmp a.entries path enters.finding) ≡ Some (Refused NoAddress) in
        let here : there path = subst there (path_tied p path tie) at in
        let is : enters.finding ≡ Refused NoAddress = grind (arith, lookup-insert_entry_here) in
        let many : 128 ≤ plug_events events =
        search (finding-none, full_plugged, way_itself, enters.waits) in
        absurd (omega arith)
    waits few p false apart at = grind (arith, lookup-insert_entry_elsewhere)

-- A look at a port

call_course : (p : List ℕ) {c : PortCall} {w v : World} → PortCallDone p c w v → Course AnyStep w v
call_course p d = grind (arith, course_wider)

disabled_taken : (b : Bool) (p : List ℕ) (w v : World) → DoneWhere b p ClearEnable w v
    → w.taken ≤ v.taken
disabled_taken b p w v d = grind (arith, course_taken)

-- a device stood where a status showed one
told_there : (p : List ℕ) {status : PortStatus} {w v : World} (t : PortStatusAt p status w v)
    → IsOrderly t.now → status.connected ≡ true → is_some (state_there t.now.roots p) ≡ true
told_there p t order on = grind (arith, attached_there)

-- it was plugged there
seen_plugged : (path : List ℕ) (status : PortStatus) (old new : World)
    → ClearsAndReads path status old new → IsOrderly old → status.connected ≡ true
    → (plan : PlanData) → IsPlan plan → AtPorts plan.events → Course AnyStep (opening plan) old
    → WasPlugged plan.events new.taken path
seen_plugged path status old new x order on plan is paths course =
    let first : Course AnyStep old x.told.now =
    course_joined (call_course _ x.cleared) (course_wider (λ s u k. tt) (x.told.before path)) in
    let there : is_some (state_there x.told.now.roots path) ≡ true =
    told_there _ x.told (orderly_on order first) on in
    let onward : x.told.now.taken ≤ x.now.taken = course_taken (x.told.since path) in
    let last : x.now.taken ≤ new.taken = grind (arith, disabled_taken) in
    search (course_joined, there_was_plugged, was_later)

-- what a status showed is found and entered
pub plugs_found : {m n : ℕ} {path : List ℕ} {status : PortStatus} {a b c d : HostState}
    → HostSteps m a c → HostSteps n c d → OnlyBusSteps a b → Forgets path b c
    → ClearsAndReads path status a.world b.world → IsOrderly a.world → status.connected ≡ true
    → EntersOne path c d → KeepsPlugs a d
plugs_found first second r f x order on enters =
    search (plugs_entered, plugs_forgot, seen_plugged, f.others, f.agrees)

-- A host that knows of no device

pub plugs_opening : (events : List Event) (h : HostState) → h.entries ≡ [] → HasPlugs events h
plugs_opening events h none = grind arith

-- only the host's own stop is new
pub plugs_stopped : (a b : HostState) (stopped : Bool) → KeepsPlugs a b
    → KeepsPlugs a (record b { stopped = stopped })
plugs_stopped a b stopped x plan is paths course plugs =
    let kept : HasPlugs plan.events b = x plan is paths course plugs in grind arith
