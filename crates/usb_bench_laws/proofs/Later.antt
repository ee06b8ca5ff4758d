-- What steps only add to, and what of a plan is left.
use Rattle.std.proofs.Common.{◌≡◌, ◌≤◌, List, [], ◌∷◌, length, drop, arith, refl, ap}
use Rattle.std.proofs.lemmas.List.{length-drop}
use Rattle.usb_world.specs.{AnyStep, Attempt, Event, PlanData, Step, World, after, after_event}
use Rattle.usb_world.specs.{at_attempt, opening, with_attempt}
use Rattle.usb_world.proofs.Interface.{Keeps, OverEvents, OverSteps, keeps_events, over_step}
use Rattle.usb_bench_laws.specs.{world_after}
use Rattle.usb_bench_laws.proofs.Lists.{drop_next}

-- events come and attempts are made, and until the next event comes the last one came when it did
pub record Later (w v : World) : Type 0 where
  pub taken : w.taken ≤ v.taken
  pub attempts : w.attempts ≤ v.attempts
  pub last : w.taken ≡ v.taken → w.attempts_then ≡ v.attempts_then

same_world : (w : World) → Later w w
same_world w = record {
  taken = omega arith;
  attempts = omega arith;
  last = λ _. refl;
}

pub joined_later : (w m v : World) → Later w m → Later m v → Later w v
joined_later w m v a b = record {
  taken = omega arith;
  attempts = omega arith;
  last = λ h. omega (arith, a.last (omega arith), b.last (omega arith));
}

pub later_events : OverEvents Later
unfolding after_event
later_events = record {
  same = same_world;
  joined = joined_later;
  came = λ e events w h. record {
    taken = omega arith;
    attempts = omega arith;
    last = λ s. absurd (omega (arith, s));
  };
}

pub later_made : (a : Attempt) (w : World) → Later w (with_attempt a w)
unfolding with_attempt
later_made a w = record { taken = omega arith; attempts = omega arith; last = λ _. refl }

later_steps : OverSteps AnyStep Later
later_steps = record {
  events = later_events;
  made = λ a w is k. later_made a (at_attempt w);
  root = λ c n w k. record {
    taken = omega arith;
    attempts = omega arith;
    last = λ _. refl;
  };
  refused = λ w. record {
    taken = omega arith;
    attempts = omega arith;
    last = λ _. refl;
  };
}

pub later_step : (s : Step) (w : World) → Later w (after s w)
later_step s w = over_step later_steps s w tt

pub later : (steps : List Step) (w : World) → Later w (world_after steps w)
unfolding world_after
later [] w = same_world w
later (s ∷ steps) w =
    joined_later w (after s w) _ (later_step s w) (later steps (after s w))

-- a plan's events behind those that came are left, the last one came before, and its damages are
-- played
pub record IsOf (p : PlanData) (w : World) : Type 0 where
  pub left : w.left ≡ drop w.taken p.events
  pub taken : w.taken ≤ length p.events
  pub damages : w.damages ≡ p.damages
  pub last : w.attempts_then ≤ w.attempts

pub of_opening : (p : PlanData) → IsOf p (opening p)
of_opening p = record { left = refl; taken = omega arith; damages = refl; last = omega arith }

pub of_event : (p : PlanData) (e : Event) (events : List Event) (w : World) → w.left ≡ e ∷ events
    → IsOf p w → IsOf p (after_event e events w)
unfolding after_event
of_event p e events w h is = record {
  left = drop_next w.taken p.events e events (cc);
  taken = omega (arith, length-drop w.taken p.events, ap length is.left, ap length h);
  damages = is.damages;
  last = omega arith;
}

pub of_steps : (p : PlanData) → OverSteps AnyStep (Keeps (IsOf p))
unfolding with_attempt
of_steps p = record {
  events = keeps_events (IsOf p) (of_event p);
  made = λ a w made k is. record {
    left = is.left;
    taken = is.taken;
    damages = is.damages;
    last = omega (arith, is.last);
  };
  root = λ c n w k is. record {
    left = is.left;
    taken = is.taken;
    damages = is.damages;
    last = omega (arith, is.last);
  };
  refused = λ w is. record {
    left = is.left;
    taken = is.taken;
    damages = is.damages;
    last = omega (arith, is.last);
  };
}

pub of_step : (p : PlanData) (s : Step) (w : World) → IsOf p w → IsOf p (after s w)
of_step p s w is = over_step (of_steps p) s w tt is

pub of_run : (p : PlanData) (steps : List Step) (w : World) → IsOf p w
    → IsOf p (world_after steps w)
unfolding world_after
of_run p [] w is = is
of_run p (s ∷ steps) w is = of_run p steps (after s w) (of_step p s w is)
