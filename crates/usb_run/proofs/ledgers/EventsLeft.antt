-- Of the events to come none is added, whatever is done.
use Rattle.std.proofs.Common.{◌≡◌, ◌≤◌, ◌==◌, ℕ, Bool, true, false, if◌then◌else◌, List, [], ◌∷◌}
use Rattle.std.proofs.Common.{Option, None, Some, refl, sym, subst, arith}
use Rattle.std.specs.List.{sum_by}
use Rattle.std.proofs.lemmas.List.Elements.{All-tail}
use Rattle.std.proofs.lemmas.List.Sums.{sum_by-cons}
use Rattle.usb_world.specs.{Event, Attempt, BusFault, Limit, AtPorts, PlugsAtPort, AnyStep}
use Rattle.usb_world.specs.{Course, Step, here, step, attempt, root_call, event, report, after}
use Rattle.usb_world.specs.{attempted, after_due_events, event_taken, is_due, at_attempt}
use Rattle.usb_world.specs.{after_event, after_first_event, with_attempt, World}

-- what is so of the events to come, and stays so where the first one comes
module _ (P : List Event → Type 0) (tail : (e : Event) (events : List Event) → P (e ∷ events)
    → P events) where
  left_first : (events : List Event) (w : World) → w.left ≡ events → P events
      → P (after_first_event events w).left
  unfolding after_event
  left_first [] w l h = subst P (sym l) h
  left_first (e ∷ events) w l h = tail e events h

  left_due : (events : List Event) (w : World) → w.left ≡ events → P events
      → P (after_due_events events w).left
  unfolding after_due_events after_event
  left_due [] w l h = subst P (sym l) h
  left_due (e ∷ events) w l h = split (is_due e w)
      (left_due events (after_event e events w) refl (tail e events h))
    where
      split : (x : Bool) → P (after_due_events events (after_event e events w)).left
          → P (if x then after_due_events events (after_event e events w) else w).left
      split true k = k
      split false k = subst P (sym l) h

  left_attempt : (a : Attempt) (f : Option BusFault) (w : World) → P w.left
      → P (attempted a f w).left
  unfolding with_attempt at_attempt
  left_attempt a (Some f) w h = h
  left_attempt a None w h = split (w.attempts == w.limit)
    where
      split : (b : Bool) → P (if b then record w { fault = Some Limit } else with_attempt a
          (at_attempt w)).left
      split true = h
      split false = left_due w.left w refl h

  left_taken : (f : Option BusFault) (w : World) → P w.left → P (event_taken f w).left
  left_taken (Some f) w h = h
  left_taken None w h = left_first w.left w refl h

  left_step : (s : Step) (w : World) → P w.left → P (after s w).left
  unfolding after
  left_step (attempt a) w h = left_attempt a w.fault w h
  left_step (root_call c n) w h = h
  left_step event w h = left_taken w.fault w h
  left_step (report line) w h = h

  left_course : {w v : World} → Course AnyStep w v → P w.left → P v.left
  left_course (here w) h = h
  left_course (step s {w} {v} k c) h = left_course c (left_step s w h)

-- they are at ports
pub at_ports-course : {w v : World} → Course AnyStep w v → AtPorts w.left → AtPorts v.left
at_ports-course c h = left_course AtPorts
    (λ e events. All-tail (λ (x : Event). PlugsAtPort x.action) e events) c h

-- and what each has comes to no more
pub sum_left : (f : Event → ℕ) (w v : World) → Course AnyStep w v
    → sum_by f v.left ≤ sum_by f w.left
sum_left f w v c = left_course (λ events. sum_by f events ≤ sum_by f w.left)
    (λ e events h. omega (arith, h, sum_by-cons f e events)) c (omega arith)
