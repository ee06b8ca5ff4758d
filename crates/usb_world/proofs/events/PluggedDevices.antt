-- What is plugged where in a course of steps, as a plan has it and as the ports have it.
use Rattle.std.proofs.Common.{◌≡◌, ℕ, zero, suc, ◌-◌, ◌≤◌, ◌<◌, ◌==◌, not, cond, true, false, List}
use Rattle.std.proofs.Common.{[], ◌∷◌, ◌++◌, length, take, Option, None, Some, is_some, slice_get}
use Rattle.std.proofs.Common.{nat_eq, nat_le, All, refl, ap, sym, subst, ◌∙◌, arith, ⊎_elim}
use Rattle.std.proofs.Common.{Ordering, Less, Equal, Greater, is_eq, ◌+◌, ◌&&◌, option_map, nat_lt}
use Rattle.std.proofs.Common.{append_assoc, length-append, Bool, if◌then◌else◌}
use Rattle.std.specs.Prelude.{⊤}
use Rattle.std.specs.Ordering.{match_ordering}
use Rattle.std.specs.Cmp.Lexicographic.{bytes_decides}
use Rattle.std.specs.List.{starts_with}
use Rattle.std.specs.BTreeMap.{insert_entry}
use Rattle.std.proofs.lemmas.Bool.{eqb-true, leb-true, lt-ltb, ltb-true}
use Rattle.std.proofs.lemmas.List.Elements.{All-head, All-tail}
use Rattle.std.proofs.lemmas.Map.Entries.{lookup-filter-keys}
use Rattle.std.proofs.lemmas.Map.Lookups.{exact_bytes}
use Rattle.std.proofs.lemmas.Map.Text.{is_eq-slice_cmp}
use Rattle.usb_port.specs.{path_cmp, parent_of, port_on_hub, IsPath, IsPortNumber, PortCall}
use Rattle.usb_port.proofs.Interface.{is_path, rejoined}
use Rattle.usb_device.specs.{Spec, Ports, called, replaced, changed, state_there, IsSpec, Place}
use Rattle.usb_device.specs.{Sent, State, changed_at, ended, forgotten, fresh, new_ports, port_at}
use Rattle.usb_device.specs.{port_there, reset_state, row_of, state_at, taken, vacant}
use Rattle.usb_world.specs.{same_path, is_way, after_sent, on_way, reset_if, same_number}
use Rattle.usb_world.specs.{PluggedMap, index_at, device_indexed, plugged_without, spec_port_count}
use Rattle.usb_world.specs.{is_rooted, parent_has, has_port, Action, Plug, Unplug, Event}
use Rattle.usb_world.specs.{after_most, PlanData, IsPlan, is_taken, action_fits, event_fits}
use Rattle.usb_world.specs.{events_fit, plugged_by, plugged_after, FollowsPlan, AtPorts, way_of}
use Rattle.usb_world.specs.{PlugsAtPort, spec_of, World, NoneNames, Undisturbed, names_path}
use Rattle.usb_world.specs.{after_change, with_plugged, after_event, at_attempt, with_attempt}
use Rattle.usb_world.specs.{AnyStep, Course, opening, ports_in, Attempt, Consistent, Damage}
use Rattle.usb_world.proofs.Booleans.{false_true, both, either_of, decided}
use Rattle.usb_world.proofs.Equality.{self_path}
use Rattle.usb_world.proofs.ways.Ways.{same_is, way_starts, undisturbed_on_way, way_itself}
use Rattle.usb_world.proofs.courses.Counts.{happened_long, new_long, row_long}
use Rattle.usb_world.proofs.courses.Courses.{sane_called_at, sane_happened, sane_ports}
use Rattle.usb_world.proofs.events.PlugEvents.{happened_there}
use Rattle.usb_world.proofs.packets.Packets.{forgotten_state, heard_state, packet_state, stands}
use Rattle.usb_world.proofs.packets.Packets.{state_stands}
use Rattle.usb_world.proofs.ports.PortCalls.{call_state}
use Rattle.usb_world.proofs.ports.SanePorts.{ports_stand, row_stands, sane_new_ports}
use Rattle.usb_device.proofs.Interface.{answer-spec, row_of-after, row_of-forgotten}
use Rattle.std.proofs.lemmas.Option.{slice_get_cases}
use Rattle.std.proofs.Math.Seq.{take-append_seam, drop-append_seam}
use Rattle.usb_world.specs.declared.event.Action.TheVariants.{Change, Ask}
use Rattle.usb_world.proofs.courses.LiftedSteps.{OverSteps, Keeps, keeps_events, over_course}

-- The devices that stand at ports

-- the description of the one at a path
abbrev pub described : Ports → List ℕ → Option Spec
described k p = option_map spec_of (state_there k p)

abbrev has_there : Ports → List ℕ → Bool
has_there k p = is_some (port_there k p)

-- resets, packets and calls leave it

reset_spec : (b : Bool) (o : Option State) → option_map spec_of (option_map (reset_if b) o)
    ≡ option_map spec_of o
unfolding reset_state
reset_spec b o = grind arith

forgotten_spec : (o : Option State) → option_map spec_of (option_map forgotten o)
    ≡ option_map spec_of o
forgotten_spec o = grind arith

heard_spec : (q : Sent) (d on : Bool) (x : Option Place)
    → option_map spec_of (heard_state q d on x) ≡ option_map spec_of (stands x)
heard_spec q d on x = grind (arith, answer-spec)

sent_spec : (o : Option Sent) (k : Ports) (j : ℕ) (p : List ℕ)
    → option_map spec_of (state_at (after_sent o k) j p) ≡ option_map spec_of (state_at k j p)
sent_spec None k j p = refl
sent_spec (Some q) k j p = ap (option_map spec_of) (packet_state q false k j p) ∙ reset_spec _ _
    ∙ heard_spec q _ _ _ ∙ ap (option_map spec_of) (state_stands k j p)

pub attempt_spec : (a : Attempt) (d : Option Damage) (k : Ports) (p : List ℕ)
    → described (ports_in a d k) p ≡ described k p
unfolding ports_in
attempt_spec a d k p = grind (arith, forgotten_spec, forgotten_state, sent_spec)

pub root_spec : (c : PortCall) (n : ℕ) (k : Ports) (p : List ℕ)
    → described (changed (called c) k (n ∷ [])) p ≡ described k p
root_spec c (suc i) k (suc j ∷ p) = ap (option_map spec_of) (call_state c k i j p) ∙ reset_spec _ _
root_spec c n k p = refl

attempt_row : (a : Attempt) (d : Option Damage) (k : Ports) → row_of (ports_in a d k) ≡ row_of k
unfolding ports_in
attempt_row a d k = grind (arith, row_of-after, row_of-forgotten)

-- nothing stands at a new port
pub new_bare : (n j : ℕ) (p : List ℕ) → state_at (new_ports n) j p ≡ None
unfolding new_ports state_at
new_bare (suc n) (suc j) p = new_bare n j p
new_bare n j p = refl

-- nor below an empty place
below_bare : (k : Ports) (i : ℕ) (e : List ℕ) (j : ℕ) (p : List ℕ) → on_way i e j p ≡ true
    → state_at k i e ≡ None → state_at k j p ≡ None
unfolding state_at is_way
below_bare ended i e j p w h = refl
below_bare (vacant b k) i e zero p w h = refl
below_bare (vacant b k) (suc i) e (suc j) p w h = below_bare k i e j p w h
below_bare (taken b s a k) zero [] zero p w h = cc
below_bare (taken b s a k) zero (n ∷ e) zero (zero ∷ p) w h = refl
below_bare (taken b s a k) zero (suc i ∷ e) zero (suc j ∷ p) w h = below_bare a i e j p w h
below_bare (taken b s a k) (suc i) e (suc j) p w h = below_bare k i e j p w h
below_bare k i e j p w h = false_true w

-- what stands at a path after something was plugged or unplugged at another: nothing, on past that
replaced_spec : (o : Option Spec) (k : Ports) (i : ℕ) (e : List ℕ) (j : ℕ) (p : List ℕ)
    → option_map spec_of (state_at (changed_at (replaced o) k i e) j p)
    ≡ (if on_way i e j p then (if (same_number i j && same_path e p) && is_some (port_at k i e)
    then o else None) else option_map spec_of (state_at k j p))
unfolding changed_at fresh is_way port_at state_at
replaced_spec o ended i e j p = grind arith
replaced_spec o (vacant b k) zero e j p = grind (arith, new_bare)
replaced_spec o (vacant b k) (suc i) e zero p = refl
replaced_spec o (vacant b k) (suc i) e (suc j) p = replaced_spec o k i e j p
replaced_spec o (taken b s a k) zero (suc i ∷ e) zero (suc j ∷ p) = replaced_spec o a i e j p
replaced_spec o (taken b s a k) zero e j p = grind (arith, new_bare)
replaced_spec o (taken b s a k) (suc i) e zero p = grind arith
replaced_spec o (taken b s a k) (suc i) e (suc j) p = replaced_spec o k i e j p

-- the same of paths

there_none : (k : Ports) (e p : List ℕ) → is_way e p ≡ true → (e ≡ [] → ⊥)
    → described k e ≡ None → described k p ≡ None
unfolding is_way
there_none k e p w f h = grind (arith, below_bare)

described_replaced : (o : Option Spec) (k : Ports) (e p : List ℕ)
    → described (changed (replaced o) k e) p ≡ (if way_of e p then
    (if same_path e p && has_there k e then o else None) else described k p)
unfolding is_way
described_replaced o k (suc i ∷ e) (suc j ∷ p) = replaced_spec o k i e j p
described_replaced o k (zero ∷ e) (zero ∷ p) = grind arith
described_replaced o k e p = refl

there_here : (t : Spec) (k : Ports) (e : List ℕ) → has_there k e ≡ true
    → described (changed (replaced (Some t)) k e) e ≡ Some t
there_here t k e h = grind (arith, described_replaced, self_path, way_itself)

there_below : (t : Spec) (k : Ports) (e p : List ℕ) → has_there k e ≡ true → is_way e p ≡ true
    → same_path e p ≡ false → described (changed (replaced (Some t)) k e) p ≡ None
there_below t k e p f w h = grind (arith, described_replaced)

there_other : (o : Option Spec) (k : Ports) (e p : List ℕ) → is_way e p ≡ false
    → described (changed (replaced o) k e) p ≡ described k p
there_other o k e p w = grind (arith, described_replaced)

-- Paths

pub self_found : (e : List ℕ) → is_eq (path_cmp e e) ≡ true
self_found e = is_eq-slice_cmp e e ∙ (bytes_decides e e).1 refl

pub found_same : (q e : List ℕ) → is_eq (path_cmp q e) ≡ true → q ≡ e
found_same q e h = (bytes_decides q e).0 (sym (is_eq-slice_cmp q e) ∙ h)

path_cmp-other : (q e : List ℕ) → same_path e q ≡ false → is_eq (path_cmp q e) ≡ false
path_cmp-other q e n = ⊎_elim (λ y. false_true (sym n ∙ ap (same_path e) (found_same q e y)
    ∙ self_path e)) (λ y. y) (decided (is_eq (path_cmp q e)))

-- What is plugged at a path

pub insert_here : (tree : PluggedMap) (e : List ℕ) (d : ℕ)
    → index_at (insert_entry path_cmp tree e d) e ≡ Some d
insert_here [] e d = rw (self_found e) refl
insert_here (x ∷ tree) e d = grind (arith, insert_here tree e d, self_found)

pub insert_other : (tree : PluggedMap) (e : List ℕ) (d : ℕ) (q : List ℕ)
    → is_eq (path_cmp q e) ≡ false
    → index_at (insert_entry path_cmp tree e d) q ≡ index_at tree q
insert_other [] e d q n = rw n refl
insert_other (x ∷ tree) e d q n = split (path_cmp e x.0) refl (insert_other tree e d q n)
  where
    split : (r : Ordering) → path_cmp e x.0 ≡ r → index_at (insert_entry path_cmp tree e d) q
        ≡ index_at tree q → index_at (match_ordering r ((e, d) ∷ x ∷ tree) ((x.0, d) ∷ tree)
        (x ∷ insert_entry path_cmp tree e d)) q ≡ index_at (x ∷ tree) q
    split Less h ih = rw n refl
    split Equal h ih = let m : is_eq (path_cmp q x.0) ≡ false =
        ap (λ y. is_eq (path_cmp q y)) (sym (exact_bytes e x.0 h)) ∙ n in rw m refl
    split Greater h ih = ap (cond (is_eq (path_cmp q x.0)) (Some x.1)) ih

unplugged_at : (tree : PluggedMap) (e q : List ℕ) → index_at (plugged_without e tree) q
    ≡ cond (not (is_way e q)) (index_at tree q) None
unfolding plugged_without
unplugged_at tree e q =
    lookup-filter-keys (λ p. is_eq (path_cmp q p)) (λ p. not (starts_with nat_eq p e))
    (not (is_way e q))
    (λ k h. ap (λ p. not (starts_with nat_eq p e)) (sym (found_same q k h))
    ∙ ap not (sym (way_starts e q))) tree

-- the device that a plan has there has the description of that which stands there
abbrev PlugAgrees : List Spec → Option Spec → Option ℕ → Type 0
PlugAgrees ds None None = ⊤
PlugAgrees ds (Some t) (Some d) = slice_get ds d ≡ Some t
PlugAgrees ds _ _ = ⊥

told_of : (ds : List Spec) (o : Option Spec) (d : Option ℕ) → PlugAgrees ds o d
    → o ≡ device_indexed ds d
told_of ds o d h = grind arith

plug_agrees_none : (ds : List Spec) (o : Option Spec) (d : Option ℕ) → PlugAgrees ds o d → d ≡ None
    → o ≡ None
plug_agrees_none ds o d h e = told_of ds o d h ∙ ap (device_indexed ds) e

told_by : (ds : List Spec) (o p : Option Spec) (d c : Option ℕ) → o ≡ p → d ≡ c → PlugAgrees ds p c
    → PlugAgrees ds o d
told_by ds o p d c x y h = rw (x, y) h

abbrev Agrees : List Spec → Ports → PluggedMap → Type 0
Agrees ds k tree = (q : List ℕ) → PlugAgrees ds (described k q) (index_at tree q)

agrees_plug : (ds : List Spec) (k : Ports) (tree : PluggedMap) (e : List ℕ) (d : ℕ) (t : Spec)
    → slice_get ds d ≡ Some t → has_there k e ≡ true → index_at tree e ≡ None
    → Agrees ds k tree
    → Agrees ds (changed (replaced (Some t)) k e) (insert_entry path_cmp tree e d)
agrees_plug ds k tree e d t is port free a q =
    grind (
      arith,
      insert_here,
      insert_other,
      path_cmp-other,
      plug_agrees_none,
      same_is,
      there_below,
      there_here,
      there_none,
      there_other,
      told_by,
    )

agrees_unplug : (ds : List Spec) (k : Ports) (tree : PluggedMap) (e : List ℕ)
    → is_some (index_at tree e) ≡ true → Agrees ds k tree
    → Agrees ds (changed (replaced None) k e) (plugged_without e tree)
agrees_unplug ds k tree e is a q = grind (arith, described_replaced, told_by, unplugged_at)

-- Where a plan has a port, one stands

last_of : (p : List ℕ) (n : ℕ) → All IsPortNumber (p ++ n ∷ []) → IsPortNumber n
last_of [] n all = All-head IsPortNumber n [] all
last_of (m ∷ p) n all = last_of p n (All-tail IsPortNumber m (p ++ n ∷ []) all)

has_there-below : (k : Ports) (p : List ℕ) (m : ℕ) → Consistent k → IsPath p → 1 ≤ m
    → m ≤ spec_port_count (described k p) → has_there k (p ++ m ∷ []) ≡ true
unfolding spec_port_count
has_there-below k [] m sane is some h = absurd (omega (arith, is.0))
has_there-below k (zero ∷ p) m sane is some h = grind arith
has_there-below k (suc i ∷ p) zero sane is some h = absurd (omega (arith, some))
has_there-below k (suc i ∷ p) (suc m) sane is some h = grind (arith, ports_stand)

port_of_parent : (ds : List Spec) (k : Ports) (tree : PluggedMap) (e p : List ℕ)
    → Consistent k → Agrees ds k tree → IsPath e → parent_of e ≡ Some p
    → parent_has ds tree (Some p) (port_on_hub e) ≡ true → has_there k e ≡ true
unfolding parent_has
port_of_parent ds k tree e p sane a is up h =
    let whole = rejoined e p up in
    let last : IsPortNumber (port_on_hub e) =
    last_of p (port_on_hub e) (subst (All IsPortNumber) whole is.2) in
    let count : nat_le (port_on_hub e) (spec_port_count (described k p)) ≡ true =
    ap (λ o. nat_le (port_on_hub e) (spec_port_count o))
    (told_of ds (described k p) (index_at tree p) (a p)) ∙ h in
    ap (has_there k) whole ∙ has_there-below k p (port_on_hub e) sane (is_path e p is up) last.0
    (leb-true (port_on_hub e) _ count)

long_parent : (e : List ℕ) → 1 < length e → parent_of e ≡ Some (take (length e - 1) e)
unfolding parent_of
long_parent e h = rw (lt-ltb 1 (length e) h) refl

has_port-there : (ds : List Spec) (k : Ports) (n : ℕ) (tree : PluggedMap) (e : List ℕ)
    → Consistent k → length (row_of k) ≡ n → Agrees ds k tree → IsPath e
    → has_port n ds tree e ≡ true → has_there k e ≡ true
has_port-there ds k n tree [] sane row a is h = absurd (omega (arith, is.0))
has_port-there ds k n tree (zero ∷ e) sane row a is h =
    absurd (omega (arith, (All-head IsPortNumber zero e is.2).0))
has_port-there ds k n tree (suc i ∷ []) sane row a is h = grind (arith, both, leb-true, row_stands)
has_port-there ds k n tree (suc i ∷ m ∷ e) sane row a is h =
    let path = suc i ∷ m ∷ e in
    let up : parent_of path ≡ Some (take (length path - 1) path) = long_parent path (omega arith) in
    port_of_parent ds k tree path _ sane a is up
    (⊎_elim (λ y. absurd (omega (arith, eqb-true (length path) 1 y)))
    (λ y. ap (λ o. parent_has ds tree o (port_on_hub path)) (sym up) ∙ y)
    (either_of (length path == 1) _ (both (is_rooted n path) _ h).1))

-- What stands in a course of steps

-- the same devices stand at the same ports, and the same events are left
pub record SameStands (w v : World) : Type 0 where
  pub left : v.left ≡ w.left
  pub taken : v.taken ≡ w.taken
  pub devices : v.devices ≡ w.devices
  pub stands : (p : List ℕ) → described v.roots p ≡ described w.roots p
  pub row : length (row_of v.roots) ≡ length (row_of w.roots)
  pub sane : Consistent w.roots → Consistent v.roots

-- What each event keeps, and what hangs only on what stands and is left, each course keeps
module _ (J : World → Type 0) (by_event : (e : Event) (events : List Event) (w : World)
    → w.left ≡ e ∷ events → J w → J (after_event e events w))
    (by_rest : (w v : World) → SameStands w v → J w → J v) where
  plan_steps : OverSteps AnyStep (Keeps J)
  unfolding with_attempt
  plan_steps = record {
    events = keeps_events J by_event;
    made = λ a w made k. by_rest (at_attempt w) _ (record {
      left = refl;
      taken = refl;
      devices = refl;
      stands = attempt_spec a _ _;
      row = ap length (attempt_row a _ _);
      sane = sane_ports a _ _;
    });
    root = λ c n w k. by_rest w _ (record {
      left = refl;
      taken = refl;
      devices = refl;
      stands = root_spec c n w.roots;
      row = row_long (called c) w.roots (n ∷ []);
      sane = sane_called_at c w.roots (n ∷ []);
    });
    refused = λ w. by_rest w _ (record {
      left = refl;
      taken = refl;
      devices = refl;
      stands = λ p. refl;
      row = refl;
      sane = λ h. h;
    });
  }

  course_keeps : {w v : World} → Course AnyStep w v → J w → J v
  course_keeps c = over_course plan_steps c

-- The events

-- these events came, and the others are left
record Went (plan : PlanData) (past : List Event) (w : World) : Type 0 where
  split : plan.events ≡ past ++ w.left
  count : w.taken ≡ length past
  devices : w.devices ≡ plan.devices

went_next : (plan : PlanData) (past : List Event) (e : Event) (events : List Event) (w : World)
    → w.left ≡ e ∷ events → Went plan past w → Went plan (past ++ e ∷ []) (after_event e events w)
unfolding after_event
went_next plan past e events w s h = grind (arith, append_assoc, length-append)

went_rest : (plan : PlanData) (past : List Event) (w v : World) → SameStands w v → Went plan past w
    → Went plan past v
went_rest plan past w v a h = grind arith

went_opening : (plan : PlanData) → Went plan [] (opening plan)
went_opening plan = grind arith

went_is : (plan : PlanData) (past : List Event) (w : World) → Went plan past w → FollowsPlan plan w
went_is plan past w h = grind (arith, drop-append_seam, length-append)

abbrev Went_on : PlanData → World → Type 0
Went_on plan w = (past : List Event) × Went plan past w

pub events_went : (plan : PlanData) (w : World) → Course AnyStep (opening plan) w
    → FollowsPlan plan w
events_went plan w c =
    let all : Went_on plan w = course_keeps (Went_on plan)
    (λ e events w s h. (h.0 ++ e ∷ [], went_next plan h.0 e events w s h.1))
    (λ w v a h. (h.0, went_rest plan h.0 w v a h.1)) c ([], went_opening plan) in
    went_is plan all.0 w all.1

-- What is plugged

pub plugged_by-next : (tree : PluggedMap) (past : List Event) (e : Event)
    → plugged_by tree (past ++ e ∷ []) ≡ plugged_after e.action (plugged_by tree past)
unfolding plugged_by
plugged_by-next tree [] e = refl
plugged_by-next tree (x ∷ past) e = plugged_by-next (plugged_after x.action tree) past e

-- the ports have what the plan has
record Stands (ds : List Spec) (n : ℕ) (k : Ports) (tree : PluggedMap) : Type 0 where
  sane : Consistent k
  row : length (row_of k) ≡ n
  agrees : Agrees ds k tree

index_at-free : (tree : PluggedMap) (e : List ℕ) → not (is_taken tree e) ≡ true
    → index_at tree e ≡ None
index_at-free tree e h = grind arith

agrees_next : (a : Action) (ds : List Spec) (n : ℕ) (k : Ports) (tree : PluggedMap)
    → action_fits n ds tree a ≡ true → PlugsAtPort a → Stands ds n k tree
    → Agrees ds (after_change a ds k) (plugged_after a tree)
agrees_next (Change (Plug e d)) ds n k tree h is s =
    let parts = both (has_port n ds tree e && not (is_taken tree e)) (nat_lt d (length ds)) h in
    let place = both (has_port n ds tree e) _ parts.0 in
    split (slice_get ds d) refl (ltb-true d (length ds) parts.1)
    (has_port-there ds k n tree e s.sane s.row s.agrees is place.0)
    (index_at-free tree e place.1)
  where
    split : (o : Option Spec) → slice_get ds d ≡ o → d < length ds → has_there k e ≡ true
        → index_at tree e ≡ None → Agrees ds (with_plugged o e k)
        (plugged_after (Change (Plug e d)) tree)
    split None g l p f = ⊎_elim (λ y. false_true (ap is_some (sym g ∙ y.2)))
        (λ y. absurd (omega (arith, l, y.0))) (slice_get_cases ds d).1
    split (Some t) g l p f = agrees_plug ds k tree e d t g p f s.agrees
agrees_next (Change (Unplug e)) ds n k tree h is s = grind (arith, agrees_unplug)
agrees_next (Ask ask) ds n k tree h is s = s.agrees

stands_next : (a : Action) (ds : List Spec) → All IsSpec ds → (n : ℕ) (k : Ports)
    (tree : PluggedMap) → action_fits n ds tree a ≡ true → PlugsAtPort a → Stands ds n k tree
    → Stands ds n (after_change a ds k) (plugged_after a tree)
stands_next a ds ruled n k tree h is s = grind (arith, agrees_next, happened_long, sane_happened)

-- what stands is what the events that came left, and those that are left may come
record Left (plan : PlanData) (past : List Event) (w : World) : Type 0 where
  went : Went plan past w
  ruled : All IsSpec plan.devices
  stands : Stands plan.devices plan.roots w.roots (plugged_by [] past)
  rest : events_fit plan.roots plan.devices (plugged_by [] past) w.left ≡ true
  paths : AtPorts w.left

left_next : (plan : PlanData) (past : List Event) (e : Event) (events : List Event) (w : World)
    → w.left ≡ e ∷ events → Left plan past w → Left plan (past ++ e ∷ []) (after_event e events w)
unfolding after_event
left_next plan past e events w s h =
    let tree = plugged_by [] past in
    let rest : events_fit plan.roots plan.devices tree (e ∷ events) ≡ true =
    ap (events_fit plan.roots plan.devices tree) (sym s) ∙ h.rest in
    let parts = both (event_fits plan.roots plan.devices tree e) _ rest in
    let fits = both (nat_le e.after after_most) _ parts.0 in
    let paths : AtPorts (e ∷ events) = subst AtPorts s h.paths in
    let stands = stands_next e.action plan.devices h.ruled plan.roots w.roots tree fits.1
    (All-head (λ x. PlugsAtPort x.action) e events paths) h.stands in
    record {
      went = went_next plan past e events w s h.went;
      ruled = h.ruled;
      stands = rw (plugged_by-next [] past e, h.went.devices) stands;
      rest = ap (λ t. events_fit plan.roots plan.devices t events) (plugged_by-next [] past e)
          ∙ parts.1;
      paths = All-tail (λ x. PlugsAtPort x.action) e events paths;
    }

left_rest : (plan : PlanData) (past : List Event) (w v : World) → SameStands w v → Left plan past w
    → Left plan past v
left_rest plan past w v a h = grind (arith, told_by, went_rest)

new_agrees : (ds : List Spec) (n : ℕ) → Agrees ds (new_ports n) []
new_agrees ds n q = grind (arith, new_bare)

left_opening : (plan : PlanData) → IsPlan plan → AtPorts plan.events → Left plan [] (opening plan)
unfolding plugged_by
left_opening plan is paths =
    grind (arith, new_agrees, new_long, sane_new_ports, stands, went_opening)

abbrev Left_on : PlanData → World → Type 0
Left_on plan w = (past : List Event) × Left plan past w

what_is_left : (plan : PlanData) → IsPlan plan → AtPorts plan.events → (w : World)
    → Course AnyStep (opening plan) w → Left_on plan w
what_is_left plan is paths w c =
    course_keeps (Left_on plan) (λ e events w s h.
    (h.0 ++ e ∷ [], left_next plan h.0 e events w s h.1))
    (λ w v a h. (h.0, left_rest plan h.0 w v a h.1)) c ([], left_opening plan is paths)

pub devices_left : (plan : PlanData) → IsPlan plan → AtPorts plan.events → (w : World)
    → Course AnyStep (opening plan) w → (path : List ℕ)
    → option_map spec_of (state_there w.roots path) ≡ device_indexed plan.devices
    (index_at (plugged_by [] (take w.taken plan.events)) path)
devices_left plan is paths w c path =
    grind (arith, take-append_seam, told_of, what_is_left)

-- What no event named

happened_away : (a : Action) (ds : List Spec) (k : Ports) (p : List ℕ) → names_path ds a p ≡ false
    → described (after_change a ds k) p ≡ described k p
happened_away a ds k p h = ap (option_map spec_of) (happened_there a ds k p h).2

none_parts : (ds : List Spec) (past : List Event) (e : Event) (p : List ℕ)
    → NoneNames ds (past ++ e ∷ []) p → NoneNames ds past p × (names_path ds e.action p ≡ false)
none_parts ds [] e p h = (tt, h.0)
none_parts ds (x ∷ past) e p h = let rest = none_parts ds past e p h.1 in ((h.0, rest.0), rest.1)

record Unnamed (w : World) (p : List ℕ) (past : List Event) (u : World) : Type 0 where
  split : w.left ≡ past ++ u.left
  devices : u.devices ≡ w.devices
  so : NoneNames w.devices past p → described u.roots p ≡ described w.roots p

unnamed_next : (w : World) (p : List ℕ) (past : List Event) (e : Event) (events : List Event)
    (u : World) → u.left ≡ e ∷ events → Unnamed w p past u
    → Unnamed w p (past ++ e ∷ []) (after_event e events u)
unfolding after_event
unnamed_next w p past e events u s h = grind (arith, append_assoc, happened_away, none_parts)

unnamed_rest : (w : World) (p : List ℕ) (past : List Event) (u v : World) → SameStands u v
    → Unnamed w p past u → Unnamed w p past v
unnamed_rest w p past u v a h = grind arith

abbrev Unnamed_on : World → List ℕ → World → Type 0
Unnamed_on w p u = (past : List Event) × Unnamed w p past u

same_front : (xs ys zs : List Event) → xs ++ zs ≡ ys ++ zs → xs ≡ ys
same_front xs ys zs h =
    let size : length xs ≡ length ys = omega (
      arith,
      ap length h,
      length-append xs zs,
      length-append ys zs,
    ) in
    sym (take-append_seam xs zs) ∙ ap (λ n. take n (xs ++ zs)) size ∙ ap (take (length ys)) h
    ∙ take-append_seam ys zs

pub undisturbed_keeps : (p : List ℕ) (w v : World) → Course AnyStep w v → Undisturbed w v p
    → option_map spec_of (state_there v.roots p) ≡ option_map spec_of (state_there w.roots p)
undisturbed_keeps p w v c u =
    let all : Unnamed_on w p v = course_keeps (Unnamed_on w p)
    (λ e events x s h. (h.0 ++ e ∷ [], unnamed_next w p h.0 e events x s h.1))
    (λ x y a h. (h.0, unnamed_rest w p h.0 x y a h.1)) c
    ([], record { split = refl; devices = refl; so = λ n. refl }) in
    let same : u.events ≡ all.0 = same_front u.events all.0 v.left (sym u.split ∙ all.1.split) in
    all.1.so (subst (λ l. NoneNames w.devices l p) same u.silent)

-- the same on the way
pub undisturbed_way : (x p : List ℕ) (w v : World) → is_way x p ≡ true → Course AnyStep w v
    → Undisturbed w v p
    → option_map spec_of (state_there v.roots x) ≡ option_map spec_of (state_there w.roots x)
undisturbed_way x p w v on c u = undisturbed_keeps x w v c (undisturbed_on_way x p w v on u)
