-- What a port is after a call that was done there: what the call makes of what it was, or what was
-- told of it; or a change of connection is pending.
use Rattle.std.proofs.Common.{if◌then◌else◌, arith, ◌≡◌, ℕ, zero, suc, ◌⊎◌, inl, inr, true, false}
use Rattle.std.proofs.Common.{List, [], ◌∷◌, ◌++◌, Option, None, Some, option_map, refl, ap, sym}
use Rattle.std.proofs.Common.{subst, ◌∙◌}
use Rattle.usb_port.specs.{PortState, PortStatus, PortCall, called_port}
use Rattle.usb_device.specs.{Ports, ended, vacant, taken, port_of, called, place, place_at, port_at}
use Rattle.usb_device.specs.{reach, reach_at, state_at, State, port_there, state_there, Place}
use Rattle.usb_world.specs.{Event, Attempt, step_keeps_pending, resets, spec_of, AsksNothing}
use Rattle.usb_world.specs.{leaves_step, LeavesPortAlone, SameAt, UnchangedOrPending, Step, attempt}
use Rattle.usb_world.specs.{event, after, with_attempt, at_attempt, after_due_events, after_event}
use Rattle.usb_world.specs.{is_due, Course, here, step, World, has_power, pending, keeps_pending}
use Rattle.usb_world.proofs.Interface.{MadeOrNot, attempt_cases, course_wider, made_pend}
use Rattle.usb_world.proofs.Interface.{made_sound, pending_persists, rests_or_pends}
use Rattle.usb_world.proofs.Interface.{stands_or_pends, and_of, both, false_true}
use Rattle.usb_hub.specs.{OnReachedRow, PortStatusAt, ports_at_step, ActsAt, PortCallDone}

-- The port of a place

port_at_place : (k : Ports) (j : ℕ) (p : List ℕ)
    → port_at k j p ≡ option_map port_of (place_at k j p)
unfolding port_at place_at
port_at_place ended j p = refl
port_at_place (vacant b k) zero [] = refl
port_at_place (vacant b k) zero (n ∷ p) = refl
port_at_place (vacant b k) (suc j) p = port_at_place k j p
port_at_place (taken b s a k) zero [] = refl
port_at_place (taken b s a k) zero (zero ∷ p) = refl
port_at_place (taken b s a k) zero (suc i ∷ p) = port_at_place a i p
port_at_place (taken b s a k) (suc j) p = port_at_place k j p

pub port_of_place : (k : Ports) (p : List ℕ) → port_there k p ≡ option_map port_of (place k p)
port_of_place k p = grind (arith, port_at_place)

pub port_of_called : (c : PortCall) (o : Option Place)
    → option_map port_of (option_map (called c) o) ≡ option_map (called_port c)
    (option_map port_of o)
port_of_called c o = grind arith

-- The events that are due come as steps that ask nothing

event_asks_nothing : (p : List ℕ) (w : World) → AsksNothing event w p
unfolding step_keeps_pending resets leaves_step
event_asks_nothing p w = grind arith

pub due_course : (p : List ℕ) (es : List Event) (w : World) → w.left ≡ es → w.fault ≡ None
    → Course (LeavesPortAlone p) w (after_due_events es w)
unfolding after_due_events after_event after
due_course p [] w l f = here w
due_course p (e ∷ es) w l f =
    elim (is_due e w) as (λ b. Course (LeavesPortAlone p) w
    (if b then after_due_events es (after_event e es w) else w)) [
      | true ↦ step event (event_asks_nothing p w)
          (subst (λ v. Course (LeavesPortAlone p) v (after_due_events es (after_event e es w)))
          (sym comes) (due_course p es (after_event e es w) refl f))
      | false ↦ here w
    ]
  where
    comes : after event w ≡ after_event e es w
    comes = rw (f, l) refl

-- Over steps that are about the port

module _ (p : List ℕ) (c : PortCall) where
  -- the port as it was, or called
  abbrev pub KeptOrCalled : World → World → Type 0
  KeptOrCalled w v = (port_there v.roots p ≡ port_there w.roots p)
      ⊎ (port_there v.roots p ≡ option_map (called_port c) (port_there w.roots p))

  -- powered on its whole way, with the same device or none, and so of its port; or pending
  abbrev pub StandsSo : (World → World → Type 0) → World → World → Type 0
  StandsSo K w v = ((has_power v.roots p ≡ true) × K w v
      × (option_map spec_of (state_there v.roots p) ≡ option_map spec_of (state_there w.roots p)))
      ⊎ (pending v.roots p ≡ true)

  abbrev pub Called : World → World → Type 0
  Called w v = port_there v.roots p ≡ option_map (called_port c) (port_there w.roots p)

  kept_then : (w m v : World) → KeptOrCalled w m → KeptOrCalled m v → KeptOrCalled w v
  kept_then w m v h h1 = grind arith

  -- two worlds on
  then_so : (K L M : World → World → Type 0) (w m v : World) → (K w m → L m v → M w v)
      → StandsSo K w m → (has_power m.roots p ≡ true → StandsSo L m v)
      → (pending m.roots p ≡ true → pending v.roots p ≡ true) → StandsSo M w v
  then_so K L M w m v joins h on pending = grind arith

  -- the port that a step's own change comes to is as it was; or a change is pending after the step;
  -- or it came to nothing
  data Met (s : Step) (w : World) : Type 0 where
    same : port_there (ports_at_step s w) p ≡ port_there w.roots p → Met s w
    pends : pending (after s w).roots p ≡ true → Met s w
    nothing : (after s w).roots ≡ w.roots → Met s w

  attempt_met : (a : Attempt) (w : World) → step_keeps_pending (attempt a) w p ≡ true
      → has_power w.roots p ≡ true → Met (attempt a) w
  unfolding after step_keeps_pending at_attempt
  attempt_met a w sp on = cases (attempt_cases a w)
    where
      made : w.fault ≡ None → after (attempt a) w ≡ with_attempt a (at_attempt w)
          → Met (attempt a) w
      made sound is = elim (rests_or_pends p (due_course p w.left w refl sound) on) [
        | inl y ↦ same y.1.port
        | inr y ↦ pends (grind (arith, made_pend))
      ]

      cases : MadeOrNot a w (after (attempt a) w) → Met (attempt a) w
      cases (inl e) = grind arith
      cases (inr m) = made (made_sound w m.0) m.1

  step_met : (s : Step) (w : World) → step_keeps_pending s w p ≡ true → has_power w.roots p ≡ true
      → Met s w
  step_met s w sp on = grind (arith, attempt_met)

  -- the port after a step, by what stands there
  port_after : (s : Step) (w : World) (o : Option Place) → place (after s w).roots p ≡ o
      → port_there (after s w).roots p ≡ option_map port_of o
  port_after s w o e = grind (arith, port_of_place)

  port_kept : (s : Step) (w : World) → ActsAt p c s w → port_there (ports_at_step s w) p
      ≡ port_there w.roots p → KeptOrCalled w (after s w)
  port_kept s w k e = elim k.port [
    | inl x ↦ inl (grind (arith, port_of_place))
    | inr x ↦ inr (port_after s w _ x ∙ port_of_called c (place (ports_at_step s w) p)
        ∙ ap (option_map (called_port c)) (grind (arith, port_of_place)))
  ]

  module _ (keeps : keeps_pending c [] ≡ true) where
    -- what one step leaves, where it says so of the port that it comes to
    step_so : (K : World → World → Type 0) (s : Step) (w : World) → ActsAt p c s w
        → (port_there (ports_at_step s w) p ≡ port_there w.roots p → K w (after s w))
        → ((after s w).roots ≡ w.roots → K w (after s w))
        → has_power w.roots p ≡ true → StandsSo K w (after s w)
    step_so K s w k there idle on =
        elim (stands_or_pends p (step s (k.about.spares keeps) (here (after s w))) on) [
          | inl x ↦ by_met x.0 x.1 (grind (arith, step_met))
          | inr x ↦ inr x
        ]
      where
        by_met : has_power (after s w).roots p ≡ true
            → option_map spec_of (state_there (after s w).roots p)
            ≡ option_map spec_of (state_there w.roots p) → Met s w → StandsSo K w (after s w)
        by_met l what (same e) = inl (l, there e, what)
        by_met l what (pends e) = inr e
        by_met l what (nothing e) = inl (l, idle e, what)

    steps_so : {w v : World} → Course (ActsAt p c) w v → has_power w.roots p ≡ true
        → StandsSo KeptOrCalled w v
    steps_so (here w) on = inl (on, inl refl, refl)
    steps_so (step s {w} {v} k more) on =
        then_so KeptOrCalled KeptOrCalled KeptOrCalled w (after s w) v (kept_then w (after s w) v)
        (step_so KeptOrCalled s w k (port_kept s w k) (grind arith) on)
        (steps_so more) (pending_persists p (course_wider (grind arith) more))

    module _ (old new : World) (x : PortCallDone p c old new) where
      -- the step that called it
      last_called : port_there (after x.last x.before).roots p ≡ option_map (called_port c)
          (port_there (ports_at_step x.last x.before) p)
      last_called = port_after x.last x.before _ x.done
          ∙ port_of_called c (place (ports_at_step x.last x.before) p)
          ∙ ap (option_map (called_port c)) (grind (arith, port_of_place))

      -- where it came to nothing, it was called already
      idle_called : (after x.last x.before).roots ≡ x.before.roots
          → Called x.before (after x.last x.before)
      idle_called e = grind (arith, last_called)

      last_so : has_power x.before.roots p ≡ true → StandsSo Called x.before (after x.last x.before)
      last_so on = step_so Called x.last x.before x.acts (grind (arith, last_called)) idle_called on

      since_so : has_power (after x.last x.before).roots p ≡ true
          → StandsSo KeptOrCalled (after x.last x.before) new
      since_so on = elim (rests_or_pends p (x.since p) on)
          [ inl y ↦ inl (y.0, inl y.1.port, y.1.what) | inr y ↦ inr y ]

      now_called : has_power old.roots p ≡ true → StandsSo Called old (after x.last x.before)
      now_called on =
          then_so KeptOrCalled Called Called old x.before (after x.last x.before)
          (grind arith)
          (steps_so x.repeats on) last_so (pending_persists p
          (step x.last (grind arith) (here (after x.last x.before))))

      -- a port that was powered on its whole way is so still, with the same device or none, and is
      -- what the call makes of it; or a change is pending
      pub done_stands : has_power old.roots p ≡ true → StandsSo Called old new
      done_stands on =
          then_so Called KeptOrCalled Called old (after x.last x.before) new called_on
          (now_called on) since_so (pending_persists p
          (course_wider (λ s w y. y.spares) (x.since p)))
        where
          called_on : Called old (after x.last x.before) → KeptOrCalled (after x.last x.before) new
              → Called old new
          called_on a (inl b) = b ∙ a
          called_on a (inr b) = grind arith

-- A port whose status was told: it is powered on its whole way, with the same device or none, and
-- as it was told; or a change is pending
abbrev pub StandsTold : List ℕ → PortState → World → World → Type 0
StandsTold p b w v = ((has_power v.roots p ≡ true) × (port_there v.roots p ≡ Some b)
    × (option_map spec_of (state_there v.roots p) ≡ option_map spec_of (state_there w.roots p)))
    ⊎ (pending v.roots p ≡ true)

pub told_stands : (p : List ℕ) (status : PortStatus) (old new : World)
    (x : PortStatusAt p status old new) → has_power old.roots p ≡ true → StandsTold p x.port old new
told_stands p status old new x on = first (rests_or_pends p (x.before p) on)
  where
    second : SameAt old.roots x.now.roots p → UnchangedOrPending x.now new p
        → StandsTold p x.port old new
    second a (inl y) = grind arith
    second a (inr y) = inr y

    first : UnchangedOrPending old x.now p → StandsTold p x.port old new
    first (inl y) = second y.1 (rests_or_pends p (x.since p) y.0)
    first (inr y) = inr (pending_persists p (course_wider (λ s w k. k.spares) (x.since p)) y)

-- A device on an enabled port of the host, or of a device that is reached, is reached

enabled_row : (k : Ports) (m : ℕ) (b : PortState) (s : State) → port_at k m [] ≡ Some b
    → b.enable ≡ true → state_at k m [] ≡ Some s → reach_at k m [] ≡ true
unfolding port_at state_at reach_at
enabled_row (vacant c k) (suc m) b s there e at = enabled_row k m b s there e at
enabled_row (taken c t a k) zero b s there e at = grind arith
enabled_row (taken c t a k) (suc m) b s there e at = enabled_row k m b s there e at
enabled_row _ _ b s there e at = absurd (cc at)

enabled_below : (k : Ports) (j : ℕ) (e : List ℕ) (n : ℕ) (b : PortState) (s : State)
    → reach_at k j e ≡ true → port_at k j (e ++ (n ∷ [])) ≡ Some b → b.enable ≡ true
    → state_at k j (e ++ (n ∷ [])) ≡ Some s → reach_at k j (e ++ (n ∷ [])) ≡ true
unfolding port_at state_at reach_at
enabled_below (vacant c k) (suc j) e n b s on there h at = enabled_below k j e n b s on there h at
enabled_below (taken c t a k) zero [] zero b s on there h at = absurd (cc at)
enabled_below (taken c t a k) zero [] (suc m) b s on there h at = grind (arith, enabled_row)
enabled_below (taken c t a k) zero (suc i ∷ e) n b s on there h at =
    let x : _ = both c.enable (reach_at a i e) on in
    and_of c.enable (reach_at a i (e ++ (n ∷ []))) x.0
    (enabled_below a i e n b s x.1 there h at)
enabled_below (taken c t a k) (suc j) e n b s on there h at =
    enabled_below k j e n b s on there h at
enabled_below _ _ _ n b s on there h at = false_true on

pub enabled_reach : (w : World) (p : List ℕ) → OnReachedRow w p → (b : PortState)
    → port_there w.roots p ≡ Some b → b.enable ≡ true → (s : State) → state_there w.roots p ≡ Some s
    → reach w.roots p ≡ true
enabled_reach w p row b there h s at = grind (arith, enabled_below, enabled_row)
