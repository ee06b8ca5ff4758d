-- What is known of a port, and of the ports below it, stays so as a change bit of its enable or
-- reset is cleared.
use Rattle.std.proofs.Common.{arith, ◌≡◌, ◌⊎◌, inl, inr, ℕ, suc, zero, true, List, [], ◌∷◌, ◌++◌}
use Rattle.std.proofs.Common.{Option, None, Some, option_map, refl, ap, sym, ◌∙◌, append-nil}
use Rattle.usb_port.specs.{PortState, PortCall, ClearEnableChange, ClearResetChange, called_port}
use Rattle.usb_device.specs.{State, Ports, vacant, taken, port_of, called, place, reach, reach_at}
use Rattle.usb_device.specs.{state_at, port_at, port_there, state_there, Place}
use Rattle.usb_world.specs.{Attempt, step_keeps_pending, row_reached, LeavesPortAlone, Step}
use Rattle.usb_world.specs.{attempt, root_call, after, with_attempt, at_attempt, Course, here, step}
use Rattle.usb_world.specs.{World, has_power, pending, is_way, keeps_pending}
use Rattle.usb_world.proofs.Interface.{MadeOrNot, attempt_cases, course_wider, made_live, made_pend}
use Rattle.usb_world.proofs.Interface.{made_sound, pending_persists, root_live, root_pend, stands}
use Rattle.usb_world.proofs.Interface.{stands_or_pends, way_rest, both, false_true}
use Rattle.usb_hub.specs.{PortCallDone, ActsAt}
use Rattle.usb_hub.proofs.Interface.{due_course, enabled_reach, port_of_place, row_reached-back}
use Rattle.usb_hub.proofs.Interface.{state_of_place, place_ports, live_below, not_way, pend-below}
use Rattle.usb_hub.proofs.Interface.{port_there-below, reach_below, state_below}
use Rattle.usb_enum.specs.{Finding, IsKnownAs}
use Rattle.usb_host.specs.{HoldsAt}
use Rattle.usb_host.proofs.parts.Events.{event_calm}
use Rattle.usb_host.proofs.knowledge.Places.{known_stays}

-- the calls that clear a change bit of enable or reset
pub data Tidy : Type 0 where
  enable : Tidy
  reset : Tidy

abbrev pub tidy_call : Tidy → PortCall
tidy_call enable = ClearEnableChange
tidy_call reset = ClearResetChange

tidy_spares : (t : Tidy) → keeps_pending (tidy_call t) [] ≡ true
tidy_spares t = grind arith

-- What a place shows, before and after the call

called_port_as : (t : Tidy) → (o : Option Place)
    → option_map port_of (option_map (called (tidy_call t)) o)
    ≡ option_map (called_port (tidy_call t)) (option_map port_of o)
called_port_as t o = grind arith

-- a device that is reached stands on an enabled port
reached_port_at : (k : Ports) (j : ℕ) (p : List ℕ) → reach_at k j p ≡ true → (b : PortState)
    × (s : State) × (port_at k j p ≡ Some b) × (state_at k j p ≡ Some s) × (b.enable ≡ true)
unfolding reach_at port_at state_at
reached_port_at (vacant b k) (suc j) p h = reached_port_at k j p h
reached_port_at (taken b s a k) zero [] h = (b, s, refl, refl, h)
reached_port_at (taken b s a k) zero (suc i ∷ p) h =
    reached_port_at a i p (both b.enable (reach_at a i p) h).1
reached_port_at (taken b s a k) (suc j) p h = reached_port_at k j p h
reached_port_at _ _ _ h = false_true h

pub reached_port : (k : Ports) (p : List ℕ) → reach k p ≡ true → (b : PortState) × (s : State)
    × (port_there k p ≡ Some b) × (state_there k p ≡ Some s) × (b.enable ≡ true)
reached_port k p h = grind (arith, reached_port_at)

-- Two trees of which the place at a path is the same, or called

pub holds_at_then : {x : List ℕ} {w m v : World} → HoldsAt x w m → HoldsAt x m v → HoldsAt x w v
holds_at_then a b = grind arith

holds_rests : {x : List ℕ} {w v : World} → Course (LeavesPortAlone x) w v → HoldsAt x w v
holds_rests {x = x} {w = w} {v = v} c = record {
  known = λ o k. known_stays x o w v c k;
  pends = pending_persists x (course_wider (λ s u y. y.spares) c);
  stands = stands_or_pends x (course_wider (λ s u y. y.spares) c);
}

pub holds_same : {x : List ℕ} (w : World) {v : World} → v.roots ≡ w.roots → HoldsAt x w v
holds_same w e = grind arith

module _ (t : Tidy) (p : List ℕ) where
  record Alike (w v : World) : Type 0 where
    live_on : has_power w.roots p ≡ true → has_power v.roots p ≡ true
    pend_on : pending w.roots p ≡ true → pending v.roots p ≡ true
    reach_on : reach w.roots p ≡ true → reach v.roots p ≡ true
    state : state_there v.roots p ≡ state_there w.roots p
    port : (port_there v.roots p ≡ port_there w.roots p)
        ⊎ (port_there v.roots p ≡ option_map (called_port (tidy_call t)) (port_there w.roots p))
    below : place_ports (place v.roots p) ≡ place_ports (place w.roots p)

  -- at the port itself
  at_port : (o : Option Finding) (w v : World) → Alike w v → IsKnownAs w p o → IsKnownAs v p o
  at_port o w v a h = grind arith

  module _ (m : ℕ) (l : List ℕ) (is : p ≡ m ∷ l) (i : ℕ) (r : List ℕ) where
    abbrev x : List ℕ
    x = (m ∷ l) ++ i ∷ r

    pend_x : (w v : World) → Alike w v → pending w.roots x ≡ true → pending v.roots x ≡ true
    pend_x w v a h = grind (arith, pend-below)

    live_x : (w v : World) → Alike w v → has_power w.roots x ≡ true → has_power v.roots x ≡ true
    live_x w v a h = grind (arith, live_below)

    reach_x : (w v : World) → Alike w v → reach w.roots x ≡ true → reach v.roots x ≡ true
    reach_x w v a h = grind (arith, reach_below)

    state_x : (w v : World) → Alike w v → state_there v.roots x ≡ state_there w.roots x
    state_x w v a = grind (arith, state_below)

    below_port : (o : Option Finding) (w v : World) → Alike w v → IsKnownAs w x o → IsKnownAs v x o
    below_port o w v a h = grind (arith, live_x, pend_x, port_there-below, reach_x, state_x)

    holds_below : (w v : World) → Alike w v → HoldsAt x w v
    holds_below w v a = grind (arith, below_port, live_x, pend_x, state_x)

  -- at the port and below it
  holds_alike : (m : ℕ) (l : List ℕ) → p ≡ m ∷ l → (r : List ℕ) (w v : World) → Alike w v
      → HoldsAt (p ++ r) w v
  holds_alike m l is [] w v a = grind (arith, append-nil)
  holds_alike m l is (i ∷ r) w v a = rw is (holds_below m l is i r w v a)

-- Over steps that are about the port

module _ (t : Tidy) (q : List ℕ) (n : ℕ) where
  abbrev p : List ℕ
  p = q ++ n ∷ []

  row_back : {w v : World} → Course (ActsAt p (tidy_call t)) w v → row_reached v.roots q ≡ true
      → row_reached w.roots q ≡ true
  row_back course on = row_reached-back q
      (course_wider (λ s w k. (k.about.others q (not_way q n)).rests) course) on

  -- how the place of the port is after a step's own change
  place_port : (k v : Ports) → (place v p ≡ place k p)
      ⊎ (place v p ≡ option_map (called (tidy_call t)) (place k p))
      → (port_there v p ≡ port_there k p)
      ⊎ (port_there v p ≡ option_map (called_port (tidy_call t)) (port_there k p))
  place_port k v (inl e) = grind (arith, port_of_place)
  place_port k v (inr e) = inr (port_of_place v p ∙ ap (option_map port_of) e ∙ called_port_as t
      (place k p) ∙ ap (option_map (called_port (tidy_call t))) (sym (port_of_place k p)))

  place_state : (k v : Ports) → (place v p ≡ place k p)
      ⊎ (place v p ≡ option_map (called (tidy_call t)) (place k p))
      → state_there v p ≡ state_there k p
  place_state k v h = grind (arith, state_of_place)

  still_enabled : {o : Option PortState} (u : Option PortState) (b : PortState) → (u ≡ o)
      ⊎ (u ≡ option_map (called_port (tidy_call t)) o) → o ≡ Some b → b.enable ≡ true
      → (d : PortState) × (u ≡ Some d) × (d.enable ≡ true)
  still_enabled u b h is on = grind arith

  place_reach : (k : Ports) (v : World) → (place v.roots p ≡ place k p)
      ⊎ (place v.roots p ≡ option_map (called (tidy_call t)) (place k p))
      → row_reached v.roots q ≡ true → reach k p ≡ true → reach v.roots p ≡ true
  place_reach k v e row on =
      let at : _ = reached_port k p on in
      let now : _ = still_enabled (port_there v.roots p) at.0 (place_port k v.roots e) at.2 at.4 in
      enabled_reach v p (grind arith) now.0 now.1
      now.2 at.1 (place_state k v.roots e ∙ at.3)

  alike : (w v : World) → (place v.roots p ≡ place w.roots p)
      ⊎ (place v.roots p ≡ option_map (called (tidy_call t)) (place w.roots p))
      → (has_power w.roots p ≡ true → has_power v.roots p ≡ true)
      → (pending w.roots p ≡ true → pending v.roots p ≡ true) → row_reached v.roots q ≡ true
      → Alike t p w v
  alike w v e live_on pend_on row = grind (arith, place_port, place_reach, place_state)

  first_of : (q : List ℕ) (n : ℕ) → (m : ℕ) × (l : List ℕ) × (q ++ n ∷ [] ≡ m ∷ l)
  first_of [] n = (n, [], refl)
  first_of (m ∷ q) n = (m, q ++ n ∷ [], refl)

  holds_by : (r : List ℕ) {w v : World} → Alike t p w v → HoldsAt (p ++ r) w v
  holds_by r {w = w} {v = v} a = let f : _ = first_of q n in holds_alike t p f.0 f.1 f.2 r w v a

  attempt_holds : (a : Attempt) (w : World) → ActsAt p (tidy_call t) (attempt a) w
      → row_reached (after (attempt a) w).roots q ≡ true → (r : List ℕ)
      → HoldsAt (p ++ r) w (after (attempt a) w)
  unfolding after step_keeps_pending at_attempt
  attempt_holds a w k row r = cases (attempt_cases a w)
    where
      made : w.fault ≡ None → after (attempt a) w ≡ with_attempt a (at_attempt w)
          → HoldsAt (p ++ r) w (after (attempt a) w)
      made sound is =
          let spares : step_keeps_pending (attempt a) w p ≡ true = k.about.spares (tidy_spares t) in
          let came = holds_rests (due_course (p ++ r) w.left w refl sound) in
          let e = rw is at k.port in
          rw is (holds_at_then came
          (holds_by r
          (alike (at_attempt w) (with_attempt a (at_attempt w)) e
          (search made_live) (search made_pend)
          (rw is at row))))

      cases : MadeOrNot a w (after (attempt a) w) → HoldsAt (p ++ r) w (after (attempt a) w)
      cases (inl e) = holds_same w (ap (λ v. v.roots) e)
      cases (inr m) = made (made_sound w m.0) m.1

  root_holds : (d : PortCall) (m : ℕ) (w : World) → ActsAt p (tidy_call t) (root_call d m) w
      → row_reached (after (root_call d m) w).roots q ≡ true → (r : List ℕ)
      → HoldsAt (p ++ r) w (after (root_call d m) w)
  unfolding after step_keeps_pending
  root_holds d m w k row r =
      search (alike, holds_by, root_live, root_pend, tidy_spares, k.about.spares)

  step_holds : (s : Step) (w : World) → ActsAt p (tidy_call t) s w → row_reached (after s w).roots q
      ≡ true → (r : List ℕ) → HoldsAt (p ++ r) w (after s w)
  unfolding after
  step_holds s w k row r =
      grind (arith, attempt_holds, event_calm, holds_rests, holds_same, root_holds)

  course_holds : {w v : World} → Course (ActsAt p (tidy_call t)) w v → row_reached v.roots q ≡ true
      → (r : List ℕ) → HoldsAt (p ++ r) w v
  course_holds (here w) row r = holds_same w refl
  course_holds (step s {w} {v} k more) row r =
      holds_at_then (step_holds s w k (row_back more row) r) (course_holds more row r)

  done_holds : {old new : World} → PortCallDone p (tidy_call t) old new
      → row_reached new.roots q ≡ true → (r : List ℕ) → HoldsAt (p ++ r) old new
  done_holds d row r =
      let now = row_reached-back q (course_wider (λ s w k. k.rests) (d.since q)) row in
      let before = row_back (step d.last d.acts (here (after d.last d.before))) now in
      let there = holds_at_then (course_holds d.repeats before r)
      (step_holds d.last d.before d.acts now r) in
      holds_at_then there (holds_rests (d.since (p ++ r)))

pub tidied_holds : (t : Tidy) → (p : List ℕ) (old new : World)
    → PortCallDone p (tidy_call t) old new → (x : List ℕ) → is_way p x ≡ true → HoldsAt x old new
tidied_holds t p old new d x way =
    let rest : _ = way_rest p x way in
    rw (rest.1 ∙ ap (λ l. l ++ rest.0) d.row.is) (done_holds t d.row.parent d.row.number
    (rw d.row.is at d) d.row.reached rest.0)
