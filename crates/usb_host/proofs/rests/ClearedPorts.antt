-- What a port is after its changes were cleared, and where nothing is asked of it since.
use Rattle.std.proofs.Common.{◌≡◌, ◌∙◌, ℕ, zero, suc, true, false, List, [], ◌∷◌, Option, None}
use Rattle.std.proofs.Common.{Some, ap, option_map, refl, subst, sym, ◌⊎◌, inl, inr, ◌&&◌, Bool}
use Rattle.std.proofs.Common.{◌++◌, is_some, Result, Ok, ◌≤◌, arith, IfSome}
use Rattle.std.proofs.lemmas.Option.{same_Some}
use Rattle.usb_port.specs.{PortState, PortStatus, ClearConnectionChange, unplugged, off}
use Rattle.usb_port.specs.{is_attached, PortCall, ClearEnable, called_port}
use Rattle.usb_device.specs.{fresh, Spec, Hub, Ports, vacant, taken, new_ports, first_ports}
use Rattle.usb_device.specs.{replaced, changed, changed_at, port_at, port_of, port_there, empty}
use Rattle.usb_device.specs.{full, called, place, state_there, Place, ended}
use Rattle.usb_world.specs.{Action, leaves_step, LeavesPort, after, after_change, after_event}
use Rattle.usb_world.specs.{at_attempt, Course, World, Attempt, step_keeps_pending, AsksNothing}
use Rattle.usb_world.specs.{UnchangedOrPending, Consistent, Step, attempt, with_attempt, here, step}
use Rattle.usb_world.specs.{LeavesPortAlone, has_power, pending, is_way, pending_at}
use Rattle.usb_world.proofs.Interface.{Keeps, OverSteps, course_joined, course_wider, happened_by}
use Rattle.usb_world.proofs.Interface.{made_port, over_course, root_port, MadeOrNot, attempt_cases}
use Rattle.usb_world.proofs.Interface.{kept_course, made_pend, made_sound, pending_persists}
use Rattle.usb_world.proofs.Interface.{rests_or_pends, step_pend, OverEvents, over_ready}
use Rattle.usb_world.proofs.Interface.{false_true, and_none}
use Rattle.usb_hub.specs.{PortCallDone, PortStatusAt, ActsAt, ports_at_step, TouchesNoPort, HubPort}
use Rattle.usb_hub.specs.{Isolates, KeepsAddresses}
use Rattle.usb_hub.proofs.Interface.{port_of_place, StandsTold, done_stands, due_course}
use Rattle.usb_hub.proofs.Interface.{told_stands, IsUp, attached_there, live_of_up, live_port}
use Rattle.usb_hub.proofs.Interface.{not_way, pend_down, pend_or_live, up_of_live, keeps_then}
use Rattle.usb_hub.proofs.Interface.{pend-below as pend_under, port_there-below}
use Rattle.usb_host.proofs.payments.Backlogs.{told_steady}
use Rattle.usb_enum.specs.{Finding, IsKnownAs, EnumFault, Accepted, CanFail}
use Rattle.usb_enum.proofs.Interface.{pends_there, some_of, devices_then}
use Rattle.usb_host.specs.{HasWay, Decides, HasOnlyWorldChanges, KeepsEach, was_disabled, HostState}
use Rattle.usb_host.specs.{claims, IsOwned, Watches, ProgressOrLost, StandsAt, HostRuns}
use Rattle.usb_host.specs.{OnlyBusSteps, HostInvariant}
use Rattle.usb_host.proofs.knowledge.Places.{none_same}
use Rattle.usb_bus.specs.{StepRun}
use Rattle.usb_table.specs.{KnownPort}
use Rattle.usb_host.proofs.PortLocations.{stands_at-claim}

-- A port whose change of connection was cleared, and of which nothing was asked since: where it is
-- enabled it tells of no such change, since whatever is plugged or unplugged there disables it.

-- the port that stands there, if any, tells of no change where it is enabled
abbrev Steady : Option PortState → Type 0
Steady o = (b : PortState) → o ≡ Some b → b.enable ≡ true → b.connection_changed ≡ false

steady_none : Steady None
steady_none b e on = absurd (cc e)

steady_off : (c : PortState) → c.enable ≡ false → Steady (Some c)
steady_off c dark b e on = false_true (search same_Some)

-- Events

steady_new : (n j : ℕ) (p : List ℕ) → Steady (port_at (new_ports n) j p)
unfolding new_ports port_at
steady_new (suc n) zero [] = steady_off off refl
steady_new (suc n) (suc j) p = steady_new n j p
steady_new n j p = steady_none

steady_first : (hub : Option Hub) (j : ℕ) (p : List ℕ) → Steady (port_at (first_ports hub) j p)
unfolding port_at
steady_first hub j p = grind (arith, steady_new)

event_steady : (o : Option Spec) (k : Ports) (i : ℕ) (e : List ℕ) (j : ℕ) (p : List ℕ)
    → Steady (port_at k j p) → Steady (port_at (changed_at (replaced o) k i e) j p)
unfolding changed_at port_at fresh
event_steady None (vacant c k) zero [] zero [] h = steady_off (unplugged c) refl
event_steady (Some s) (vacant c k) zero [] zero [] h = search steady_off
event_steady (Some s) (vacant c k) zero [] zero (suc m ∷ p) h = steady_first s.hub m p
event_steady o (vacant c k) (suc i) e (suc j) p h = event_steady o k i e j p h
event_steady None (taken c s a k) zero [] zero [] h = steady_off (unplugged c) refl
event_steady None (taken c s a k) zero [] zero (m ∷ p) h = steady_none
event_steady (Some t) (taken c s a k) zero [] zero [] h = search steady_off
event_steady (Some t) (taken c s a k) zero [] zero (zero ∷ p) h = steady_none
event_steady (Some t) (taken c s a k) zero [] zero (suc m ∷ p) h = steady_first t.hub m p
event_steady o (taken c s a k) zero (suc m ∷ e) zero (suc n ∷ p) h = event_steady o a m e n p h
event_steady o (taken c s a k) (suc i) e (suc j) p h = event_steady o k i e j p h
event_steady o _ _ e _ _ h = h

replaced_steady : (o : Option Spec) (k : Ports) (x p : List ℕ) → Steady (port_there k p)
    → Steady (port_there (changed (replaced o) k x) p)
replaced_steady o k (suc i ∷ x) (suc j ∷ p) h = event_steady o k i x j p h
replaced_steady o k x p h = h

happened_steady : (a : Action) (d : List Spec) (k : Ports) (p : List ℕ) → Steady (port_there k p)
    → Steady (port_there (after_change a d k) p)
happened_steady a d k p h =
    happened_by (λ v _. Steady (port_there v p)) a d k p h (λ o x. replaced_steady o k x p h)

-- Steps

steady_steps : (p : List ℕ)
    → OverSteps (LeavesPort p) (Keeps (λ w. Steady (port_there w.roots p)))
unfolding after_event leaves_step
steady_steps p = record {
  events = search happened_steady;
  made = grind (arith, made_port);
  root = λ c m w g. subst Steady (sym (root_port c m w.roots p g));
  refused = λ w h. h;
}

-- no status shows a port that is enabled with a change that was cleared
pub cleared_steady : (p : List ℕ) (status : PortStatus) {old mid new : World}
    → PortCallDone p ClearConnectionChange old mid → PortStatusAt p status mid new
    → status.enabled ≡ true → status.connection_changed ≡ false
cleared_steady p status d t on =
    let moment : World = after d.last d.before in
    let first : Steady (port_there moment.roots p) =
    λ b there _. grind (arith, port_of_place) in
    let alone : Course (LeavesPort p) moment t.now =
    course_wider (λ s w k. k.leaves) (course_joined (d.since p) (t.before p)) in
    ap (λ (x : PortStatus). x.connection_changed) t.is ∙ over_course (steady_steps p) alone first
    t.port t.stood (grind arith)

-- What a port is after its change of connection was cleared and its status read, and after it was
-- told to pass nothing on.

-- The port's power stays, and what is pending above it

powered_called : (o : Option Place) (b : PortState) → option_map port_of o ≡ Some b
    → (d : PortState) × (option_map port_of (option_map (called ClearConnectionChange) o) ≡ Some d)
    × (d.power ≡ b.power)
powered_called None b e = absurd (cc e)
powered_called (Some (empty c)) b e =
    (called_port ClearConnectionChange c, refl, ap (λ x. x.power) (same_Some c b e))
powered_called (Some (full c s a)) b e =
    (called_port ClearConnectionChange c, refl, ap (λ x. x.power) (same_Some c b e))

module _ (q : List ℕ) (n : ℕ) where
  abbrev p : List ℕ
  p = q ++ n ∷ []

  -- it has power on its whole way, or a change is pending above it
  abbrev Up : World → Type 0
  Up w = (has_power w.roots p ≡ true) ⊎ (pending w.roots q ≡ true)

  up_rests : (w v : World) → TouchesNoPort w v → Up w → Up v
  up_rests w v rests (inr x) = inr (pending_persists q (course_wider (λ s u k. k.spares) (rests q))
      x)
  up_rests w v rests (inl on) = elim (rests_or_pends p (rests p) on) [
    | inl y ↦ inl y.0
    | inr y ↦ pend_or_live v.roots q n y
  ]

  -- the port that a step's own change comes to has power; or a change is pending above it after the
  -- step; or the step came to nothing
  data Meets (s : Step) (w : World) : Type 0 where
    powered : (b : PortState) → port_there (ports_at_step s w) p ≡ Some b → b.power ≡ true
        → Meets s w
    pends : pending (after s w).roots q ≡ true → Meets s w
    nothing : (after s w).roots ≡ w.roots → Meets s w

  meets_live : {s : Step} {w : World} → (k : Ports) → ports_at_step s w ≡ k → has_power k p ≡ true
      → Meets s w
  meets_live k is on = let b : _ = live_port k p on in
      powered b.0 (ap (λ t. port_there t p) is ∙ b.1) b.2

  attempt_meets : (a : Attempt) (w : World) → step_keeps_pending (attempt a) w q ≡ true
      → has_power w.roots p ≡ true → Meets (attempt a) w
  unfolding after step_keeps_pending at_attempt
  attempt_meets a w sp on = cases (attempt_cases a w)
    where
      made : w.fault ≡ None → after (attempt a) w ≡ with_attempt a (at_attempt w)
          → Meets (attempt a) w
      made sound is = pick (rests_or_pends p (due_course p w.left w refl sound) on)
        where
          above : (has_power (at_attempt w).roots p ≡ true)
              ⊎ (pending (at_attempt w).roots q ≡ true) → Meets (attempt a) w
          above (inl y) = meets_live (at_attempt w).roots refl y
          above (inr y) = pends (rw is (search made_pend))

          pick : UnchangedOrPending w (at_attempt w) p → Meets (attempt a) w
          pick (inl y) = meets_live (at_attempt w).roots refl y.0
          pick (inr y) = above (search pend_or_live)

      cases : MadeOrNot a w (after (attempt a) w) → Meets (attempt a) w
      cases (inl e) = nothing (ap (λ v. v.roots) e)
      cases (inr m) = made (made_sound w m.0) m.1

  step_meets : (s : Step) (w : World) → step_keeps_pending s w q ≡ true → has_power w.roots p ≡ true
      → Meets s w
  step_meets (attempt a) w sp on = attempt_meets a w sp on
  step_meets _ w sp on = meets_live w.roots refl on

  -- its hub's port has power on its whole way still, or a change is pending there
  above_step : (s : Step) (w : World) → ActsAt p ClearConnectionChange s w → IsUp w.roots q
      → IsUp (after s w).roots q ⊎ (pending (after s w).roots q ≡ true)
  above_step s w k up = by_row q (λ x. k.about.others q (not_way q n)) up
    where
      by_row : (e : List ℕ) → (Unit {0} → AsksNothing s w e) → IsUp w.roots e
          → IsUp (after s w).roots e ⊎ (pending (after s w).roots e ≡ true)
      by_row [] asks up = inl tt
      by_row (m ∷ e) asks up = pick (rests_or_pends (m ∷ e) (step s (asks tt) (here (after s w)))
          up)
        where
          pick : UnchangedOrPending w (after s w) (m ∷ e) → IsUp (after s w).roots (m ∷ e)
              ⊎ (pending (after s w).roots (m ∷ e) ≡ true)
          pick (inl y) = inl y.0
          pick (inr y) = inr y

  still_powered : (s : Step) (w : World) → ActsAt p ClearConnectionChange s w → (b : PortState)
      → port_there (ports_at_step s w) p ≡ Some b → b.power ≡ true
      → (d : PortState) × (port_there (after s w).roots p ≡ Some d) × (d.power ≡ true)
  still_powered s w k b there power = pick k.port
    where
      was : option_map port_of (place (ports_at_step s w) p) ≡ Some b
      was = sym (search port_of_place) ∙ there

      pick : (place (after s w).roots p ≡ place (ports_at_step s w) p)
          ⊎ (place (after s w).roots p ≡ option_map (called ClearConnectionChange)
          (place (ports_at_step s w) p))
          → (d : PortState) × (port_there (after s w).roots p ≡ Some d) × (d.power ≡ true)
      pick (inl e) = grind (arith, port_of_place)
      pick (inr e) =
          let d : _ = powered_called (place (ports_at_step s w) p) b was in
          grind (arith, port_of_place)

  up_step : (s : Step) (w : World) → ActsAt p ClearConnectionChange s w → Up w → Up (after s w)
  up_step s w k h = grind (
    arith,
    above_step,
    live_of_up,
    not_way,
    step_meets,
    step_pend,
    still_powered,
    up_of_live,
  )

  up_course : {w v : World} → Course (ActsAt p ClearConnectionChange) w v → Up w → Up v
  up_course c = kept_course Up up_step c

  up_done : {old : World} (new : World) → PortCallDone p ClearConnectionChange old new → Up old
      → Up new
  up_done new x h = up_rests (after x.last x.before) new x.since
      (up_step x.last x.before x.acts (up_course x.repeats h))

-- what pends elsewhere pends after a call
pub pends_elsewhere : (p : List ℕ) {c : PortCall} {old new : World} → PortCallDone p c old new
    → (x : List ℕ) → is_way p x ≡ false → pending old.roots x ≡ true → pending new.roots x ≡ true
pends_elsewhere p d x away h =
    let before = pending_persists x (course_wider (grind arith)
    d.repeats) h in
    let called = step_pend d.last d.before x (d.acts.about.others x away).spares before in
    pending_persists x (course_wider (λ s w k. k.spares) (d.since x)) called

pub cleared_way : (p : List ℕ) {old : World} (new : World)
    → PortCallDone p ClearConnectionChange old new → HasWay old p → HasWay new p
cleared_way p new d (inr x) =
    let away : is_way p x.0 ≡ false = rw x.2 (not_way x.0 x.1) in
    inr (x.0, x.1, x.2, pends_elsewhere p d x.0 away x.3)
cleared_way p new d (inl on) =
    elim (up_done d.row.parent d.row.number new (rw d.row.is at d) (inl (rw d.row.is at on))) [
      | inl x ↦ inl (rw d.row.is x)
      | inr x ↦ inr (d.row.parent, d.row.number, d.row.is, x)
    ]

-- what is known of a port has a way
split_last : (m : ℕ) (l : List ℕ) → (q : List ℕ) × (n : ℕ) × (m ∷ l ≡ q ++ n ∷ [])
split_last m [] = ([], m, refl)
split_last m (i ∷ l) = let x : _ = split_last i l in (m ∷ x.0, x.1, ap (λ e. m ∷ e) x.2)

pends_way : (p : List ℕ) (w : World) → pending w.roots p ≡ true → HasWay w p
pends_way [] w h = absurd (cc h)
pends_way (m ∷ l) w h = let x : _ = split_last m l in
    elim (pend_or_live w.roots x.0 x.1 (grind arith)) [
      | inl y ↦ inl (grind arith)
      | inr y ↦ inr (x.0, x.1, x.2, y)
    ]

pub known_way : (p : List ℕ) (w : World) (o : Option Finding) → IsKnownAs w p o → HasWay w p
known_way p w o h = grind (arith, pends_way)

-- A status decides

pending_decides : (c : Bool) (w : World) (p : List ℕ) → pending w.roots p ≡ true → Decides c w p
pending_decides c w p h = grind arith

live_decides : (c : Bool) (w : World) (p : List ℕ) → has_power w.roots p ≡ true
    → is_some (state_there w.roots p) ≡ c → Decides c w p
live_decides c w p on h = grind arith

pub told_decides : (p : List ℕ) (status : PortStatus) (old new : World)
    → PortStatusAt p status old new → Consistent new.roots → HasWay old p
    → Decides status.connected new p
told_decides p status old new t sane (inr x) =
    let above = pending_persists x.0 (course_wider (λ s w k. k.spares) (t.since x.0))
    (pending_persists x.0 (course_wider (λ s w k. k.spares) (t.before x.0)) x.3) in
    grind (arith, pend_down)
told_decides p status old new t sane (inl on) = pick (told_stands p status old new t on)
  where
    powered : has_power new.roots p ≡ true → port_there new.roots p ≡ Some t.port
        → t.port.power ≡ true
    powered h there = grind (arith, live_port)

    pick : StandsTold p t.port old new → Decides status.connected new p
    pick (inl y) =
        let connected : status.connected ≡ is_attached t.port.attached =
        ap (λ (x : PortStatus). x.connected) t.is ∙ ap (λ b. b && is_attached t.port.attached)
        (powered y.0 y.1) in grind (arith, attached_there, live_decides)
    pick (inr y) = pending_decides status.connected new p y

-- what was decided stays so as the port is told to pass nothing on
pub decided_stays : (c : Bool) (p : List ℕ) (old new : World) → PortCallDone p ClearEnable old new
    → Decides c old p → Decides c new p
decided_stays true p old new d (inl x) = inl (search pends_there)
decided_stays true p old new d (inr x) = elim (done_stands p ClearEnable refl old new d x.0) [
  | inl y ↦ inr (y.0, some_of (state_there old.roots p) (state_there new.roots p) y.2 x.1)
  | inr y ↦ inl y
]
decided_stays false p old new d (inl x) = inl (search pends_there)
decided_stays false p old new d (inr x) = elim (done_stands p ClearEnable refl old new d x.0) [
  | inl y ↦ inr (y.0, none_same (state_there new.roots p) y.2 x.1)
  | inr y ↦ inl y
]

-- Changes of a hub and of its ports that ask for nothing but their clearing: a port of a world
-- tells none.

told_plain : {p : List ℕ} {status : PortStatus} {old new : World} → PortStatusAt p status old new
    → HasOnlyWorldChanges status
told_plain t = grind arith

pub watched_plain : (path : List ℕ) {port : KnownPort} (a : HostState) {b : World}
    → StandsAt path port a → IsOwned a → (status : PortStatus)
    → Watches port.port a.world (Ok status) b → HasOnlyWorldChanges status
watched_plain path a s owned status w =
    told_plain (w.told (claims a.entries) path (stands_at-claim s) owned status refl)

pub keeps_each_then : {n : ℕ} {old mid new : World} {r s : Option (List ℕ)} → KeepsEach old mid
    → StepRun n mid r new s → KeepsEach mid new → KeepsEach old new
keeps_each_then x went y = search (devices_then, keeps_then, x.addresses, x.devices)

-- The changes of a hub

-- A port that its hub has disabled on an error

pub failed_changed : (port : HubPort) (status : PortStatus) (device : Option Accepted)
    → was_disabled port status device ≡ true → CanFail port × (status.enable_changed ≡ true)
failed_changed port status device is = grind arith

-- where the host knows what is so, none has
pub none_failed : (path : List ℕ) (port : KnownPort) (a : HostState) {b : World}
    → StandsAt path port a → HostInvariant a → (status : PortStatus)
    → Watches port.port a.world (Ok status) b → (device : Option Accepted)
    → was_disabled port.port status device ≡ true → ⊥
none_failed path port a s i status w device failed =
    let is = failed_changed port.port status device failed in
    let told = w.told (claims a.entries) path (stands_at-claim s) i.owned status refl in
    no_change status.enable_changed is.1 (told_steady path told (i.order (w.still is.0)))
  where
    no_change : (c : Bool) → c ≡ true → c ≡ false → ⊥
    no_change c x y = absurd (cc (x, y))

-- the port was looked at: a hub was asked
pub failed_served : {n : ℕ} (port : HubPort) (a b c : HostState)
    (result : Result (Unit {0}) EnumFault) (status : PortStatus) → OnlyBusSteps a b → HostRuns n a b
    → (device : Option Accepted) → was_disabled port status device ≡ true
    → (CanFail port → ProgressOrLost result b c) → ProgressOrLost result a c
failed_served port a b c result status r g device failed served = grind arith

-- none is reachable there either after what keeps addresses
pub bares_kept : {port : HubPort} {a b c : World} → Isolates port a b → KeepsAddresses b c
    → Isolates port a c
bares_kept x k = search (k.kept, x.bares)

-- Where no event comes and nothing is asked of a port, it is as it was.

-- events are counted, and where none came a relation holds
abbrev IfNoneCame : (World → World → Type 0) → World → World → Type 0
IfNoneCame R w v = (w.taken ≤ v.taken) × (v.taken ≡ w.taken → R w v)

none_came : (R : World → World → Type 0) → ((w : World) → R w w)
    → ((w m v : World) → R w m → R m v → R w v) → OverEvents (IfNoneCame R)
unfolding after_event
none_came R same joined = grind arith

pub ready_none : (w : World) → (at_attempt w).taken ≡ w.taken → (at_attempt w).roots ≡ w.roots
ready_none w =
    (over_ready (none_came (λ w v. v.roots ≡ w.roots) (λ w. refl) (λ w m v x y. y ∙ x)) w).1

-- The port

calm_steps : (p : List ℕ) → OverSteps (LeavesPortAlone p) (IfNoneCame
    (λ w v. port_there v.roots p ≡ port_there w.roots p))
unfolding with_attempt leaves_step
calm_steps p = record {
  events = grind (arith, none_came);
  made = grind (arith, made_port);
  root = λ c n w k. (omega arith, λ e. root_port c n w.roots p k.leaves);
  refused = λ w. (omega arith, λ e. refl);
}

pub calm_port : {p : List ℕ} {w v : World} → Course (LeavesPortAlone p) w v → v.taken ≡ w.taken
    → port_there v.roots p ≡ port_there w.roots p
calm_port {p = p} c = (over_course (calm_steps p) c).1

-- Where nothing is pending at a hub, and no change of connection is told at its port, none is
-- pending there

pend_row : (k : Ports) (i : ℕ) → IfSome (port_at k i []) (λ b. b.connection_changed ≡ false)
    → pending_at k i [] ≡ false
unfolding pending_at port_at
pend_row ended i none = refl
pend_row (vacant b k) zero none = and_none b.power b.connection_changed none
pend_row (vacant b k) (suc i) none = pend_row k i none
pend_row (taken b s a k) zero none = and_none b.power b.connection_changed none
pend_row (taken b s a k) (suc i) none = pend_row k i none

row_calm : (k : Ports) (n : ℕ) → IfSome (port_there k (n ∷ [])) (λ b. b.connection_changed ≡ false)
    → pending k (n ∷ []) ≡ false
row_calm k n told = grind (arith, pend_row)

pub pend-no_change : (k : Ports) (q : List ℕ) (n : ℕ) → 1 ≤ n → pending k q ≡ false
    → IfSome (port_there k (q ++ (n ∷ []))) (λ b. b.connection_changed ≡ false)
    → pending k (q ++ (n ∷ [])) ≡ false
pend-no_change k q n least none told = grind (arith, pend_under, port_there-below, row_calm)
