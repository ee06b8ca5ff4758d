-- What holds over each part of a step holds over steps and courses.
use Rattle.std.proofs.Common.{arith, ◌≡◌, ◌⊎◌, inl, inr, ℕ, ◌&&◌, if◌then◌else◌, Bool, true, false}
use Rattle.std.proofs.Common.{List, [], ◌∷◌, Option, None, Some, is_some, refl, ap}
use Rattle.usb_port.specs.{PortCall, is_clearing}
use Rattle.usb_device.specs.{Spec, Ports, called, replaced, changed}
use Rattle.usb_world.specs.{Action, Plug, Unplug, Event, Attempt, BusFault, Limit, is_made}
use Rattle.usb_world.specs.{after_clearing, with_plugged, after_change, way_of, names_path, is_due}
use Rattle.usb_world.specs.{after_event, after_first_event, after_due_events, at_attempt}
use Rattle.usb_world.specs.{with_attempt, event_taken, Step, attempt, root_call, after, Course}
use Rattle.usb_world.specs.{here, step, Coming, nothing_yet, next_came, World}
use Rattle.usb_world.specs.declared.event.Action.TheVariants.{Change, Ask}

abbrev pub with_limit_told : World → World
with_limit_told w = record w { fault = Some Limit }

abbrev pub with_call : PortCall → ℕ → World → World
with_call c n w =
    record w {
      roots = changed (called c) w.roots (n ∷ []);
      losses = after_clearing (is_clearing c) w.losses;
    }

-- Relations

-- a relation that each world has to itself, that joins, and that holds over an event
pub record OverEvents (R : World → World → Type 0) : Type 0 where
  pub same : (w : World) → R w w
  pub joined : (w m v : World) → R w m → R m v → R w v
  pub came : (e : Event) (events : List Event) (w : World) → w.left ≡ e ∷ events
      → R w (after_event e events w)

-- that holds besides over an attempt's packets, a root call, and a refusal at the limit
pub record OverSteps (K : Step → World → Type 0) (R : World → World → Type 0) : Type 0 where
  pub events : OverEvents R
  pub made : (a : Attempt) (w : World) → is_made w.fault w ≡ true → K (attempt a) w
      → R (at_attempt w) (with_attempt a (at_attempt w))
  pub root : (c : PortCall) (n : ℕ) (w : World) → K (root_call c n) w → R w (with_call c n w)
  pub refused : (w : World) → R w (with_limit_told w)

-- what stays so
abbrev pub Keeps : (World → Type 0) → World → World → Type 0
Keeps J w v = J w → J v

pub keeps_events : (J : World → Type 0)
    → ((e : Event) (es : List Event) (w : World) → w.left ≡ e ∷ es → Keeps J w (after_event e es w))
    → OverEvents (Keeps J)
keeps_events J came = grind arith

-- Events

-- an action changes nothing, or what is plugged at a path that it names
pub happened_by : (P : Ports → Bool → Type 0) (a : Action) (devices : List Spec) (k : Ports)
    (p : List ℕ)
    → P k false → ((o : Option Spec) (x : List ℕ) → P (changed (replaced o) k x) (way_of x p))
    → P (after_change a devices k) (names_path devices a p)
happened_by P (Change (Plug x device)) devices k p same there = plugged _
  where
    plugged : (o : Option Spec) → P (with_plugged o x k) (is_some o && way_of x p)
    plugged None = same
    plugged (Some spec) = there (Some spec) x
happened_by P (Change (Unplug x)) devices k p same there = there None x
happened_by P (Ask ask) devices k p same there = same

module _ {R : World → World → Type 0} (l : OverEvents R) where
  over_first : (events : List Event) (w : World) → w.left ≡ events
      → R w (after_first_event events w)
  over_first events w e = grind arith

  pub over_taken : (f : Option BusFault) (w : World) → R w (event_taken f w)
  over_taken f w = grind arith

  over_due : (events : List Event) (w : World) → w.left ≡ events
      → R w (after_due_events events w)
  unfolding after_due_events after_event
  over_due [] w e = l.same w
  over_due (x ∷ events) w e = elim (is_due x w)
      as (λ b. R w (if b then after_due_events events (after_event x events w) else w)) [
        | true ↦ l.joined w _ _ (l.came x events w e) (over_due events _ refl)
        | false ↦ l.same w
      ]

  pub over_ready : (w : World) → R w (at_attempt w)
  unfolding at_attempt
  over_ready w = over_due w.left w refl

  pub over_coming : {w v : World} → Coming w v → R w v
  over_coming (nothing_yet w) = l.same w
  over_coming (next_came {w} {v} c due) = l.joined w v _ (over_coming c) (over_first v.left v refl)

-- Attempts

-- an attempt changes nothing, or only tells of the limit, or is made
pub after-attempt_by : (P : World → Type 0) (a : Attempt) (w : World)
    → (is_made w.fault w ≡ false → P w × P (with_limit_told w))
    → (is_made w.fault w ≡ true → P (with_attempt a (at_attempt w))) → P (after (attempt a) w)
unfolding after
after-attempt_by P a w rests made = grind arith

pub made_after : (a : Attempt) (w : World) → is_made w.fault w ≡ true
    → after (attempt a) w ≡ with_attempt a (at_attempt w)
made_after a w made =
    after-attempt_by (λ v. v ≡ with_attempt a (at_attempt w)) a w (λ none. absurd (cc (made, none)))
    (λ _. refl)

pub made_sound : (w : World) → is_made w.fault w ≡ true → w.fault ≡ None
made_sound w made = grind arith

-- nothing but the fault changed, or the attempt was made
abbrev pub MadeOrNot : Attempt → World → World → Type 0
MadeOrNot a w v =
    (record v { fault = w.fault } ≡ w)
    ⊎ ((is_made w.fault w ≡ true) × (v ≡ with_attempt a (at_attempt w)))

pub attempt_cases : (a : Attempt) (w : World) → MadeOrNot a w (after (attempt a) w)
attempt_cases a w =
    after-attempt_by (MadeOrNot a w) a w (λ _. (inl refl, inl refl)) (λ made. inr (made, refl))

-- Steps

module _ {K : Step → World → Type 0} {R : World → World → Type 0} (l : OverSteps K R) where
  pub over_step : (s : Step) (w : World) → K s w → R w (after s w)
  unfolding after
  over_step s w k = grind (arith, after-attempt_by, over_ready, over_taken)

  pub over_course : {w v : World} → Course K w v → R w v
  over_course (here w) = l.events.same w
  over_course (step s {w} {v} k more) =
      l.events.joined w (after s w) v (over_step s w k) (over_course more)

-- what each step keeps, a course keeps
pub kept_course : {K : Step → World → Type 0} (J : World → Type 0)
    → ((s : Step) (w : World) → K s w → J w → J (after s w)) → {w v : World} → Course K w v → J w
    → J v
kept_course J keeps (here w) h = h
kept_course J keeps (step s {w} {v} k more) h = kept_course J keeps more (keeps s w k h)

-- What the events that come before an attempt, or as a step, leave of a world as it was.

-- a world but for its ports, the events to come, how many came, and when the last one did
abbrev pub with_events_of : World → World → World
with_events_of w v =
    record v { roots = w.roots; left = w.left; taken = w.taken; attempts_then = w.attempts_then }

-- all else is as it was
abbrev pub SameBeside : World → World → Type 0
SameBeside w v = with_events_of w v ≡ w

pub beside_events : OverEvents SameBeside
unfolding after_event
beside_events = grind arith

pub ready_beside : (w : World) → SameBeside w (at_attempt w)
ready_beside w = over_ready beside_events w

pub first_fault : (events : List Event) (w : World) → (after_first_event events w).fault ≡ w.fault
unfolding after_event
first_fault events w = grind arith

pub ready_shared : (w : World) → (at_attempt w).shared ≡ w.shared
ready_shared w = ap (λ v. v.shared) (ready_beside w)

pub came_shared : {w v : World} → Coming w v → v.shared ≡ w.shared
came_shared c = ap (λ v. v.shared) (over_coming beside_events c)
