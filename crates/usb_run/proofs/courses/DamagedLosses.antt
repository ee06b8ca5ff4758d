-- There is a damage for each address that a run has lost.
use Rattle.std.proofs.Common.{◌≡◌, refl, sym, ap, subst, List, Option, None, Some, Result, Ok, Err}
use Rattle.std.proofs.Common.{◌∙◌, inl, inr, ℕ, is_some}
use Rattle.usb_world.specs.{IsSettled, Attempt, BusFault, Damage, Limit, Memory, Failed, Outcome}
use Rattle.usb_world.specs.{AreOfDamages, IsAttempt, Left, at_event, at_packet, at_line, GaveUp}
use Rattle.usb_world.specs.{after, at_attempt, attempt, cleared_in, damage_in, event, lost_in}
use Rattle.usb_world.specs.{root_call, after_event, with_attempt, World}
use Rattle.usb_port.specs.{PortCall, is_clearing}
use Rattle.usb_world.specs.declared.event.Ask.{Ask}
use Rattle.usb_world.proofs.Interface.{Keeps, MadeOrNot, OverEvents, attempt_cases, keeps_events}
use Rattle.usb_world.proofs.Interface.{losses_after, losses_cleared, over_coming, over_ready}
use Rattle.usb_world.proofs.Interface.{over_taken, ready_settled, settled_course}
use Rattle.usb_bus.specs.{Attempts, TakesEvent, Traced, still, attempted, called}
use Rattle.usb_run.proofs.courses.RunCourses.{OverRuns, RunsOnward, onward_runs, onward_then}
use Rattle.usb_run.proofs.courses.RunCourses.{traced_runs_onward}

-- so it is of a plan's damages
pub record IsDamaged (damages : List Damage) (w : World) : Type 0 where
  pub same : w.damages ≡ damages
  pub lost : AreOfDamages w.attempts w.damages w.losses

damaged_so : {damages : List Damage} {w : World} (v : World) → v.damages ≡ w.damages
    → AreOfDamages v.attempts v.damages v.losses → IsDamaged damages w → IsDamaged damages v
damaged_so v same lost h = record { same = same ∙ h.same; lost = lost }

module _ (damages : List Damage) where
  abbrev Stays : World → World → Type 0
  Stays = Keeps (IsDamaged damages)

  damaged_events : OverEvents Stays
  unfolding after_event
  damaged_events = keeps_events (IsDamaged damages)
      (λ e es w left h. damaged_so (after_event e es w) refl h.lost h)

  damaged_made : (a : Attempt) (w : World) → IsAttempt a → IsSettled w.roots
      → Stays w (with_attempt a (at_attempt w))
  unfolding with_attempt
  damaged_made a w fits settled h =
      let u = at_attempt w in
      let ready = over_ready damaged_events w h in
      damaged_so (with_attempt a u) refl (losses_after u.damages u.attempts a u.roots
      (cleared_in a (damage_in u) u.roots) (lost_in a (damage_in u) u.roots) u.losses fits
      (ready_settled w settled) refl ready.lost) ready

  damaged_after : (a : Attempt) (w : World) → IsAttempt a → IsSettled w.roots
      → Stays w (after (attempt a) w)
  damaged_after a w fits settled h = pick (attempt_cases a w)
    where
      pick : MadeOrNot a w (after (attempt a) w) → IsDamaged damages (after (attempt a) w)
      pick (inl same) =
          let was = subst (IsDamaged damages) (sym same) h in
          record { same = was.same; lost = was.lost }
      pick (inr (made, is)) =
          subst (IsDamaged damages) (sym is) (damaged_made a w fits settled h)

  damaged_left : (a : Attempt) (w : World) (fault : BusFault) {v : World} → IsAttempt a
      → IsSettled w.roots → Left a w fault v → Stays w v
  damaged_left a w fault fits settled (at_event c) h = over_coming damaged_events c h
  damaged_left a w fault fits settled (at_packet k e c is) h =
      let ready = over_ready damaged_events w h in
      subst (IsDamaged damages) (sym is) (record { same = ready.same; lost = ready.lost })
  damaged_left a w fault fits settled (at_line e is) h =
      subst (IsDamaged damages) (sym is) (damaged_made a w fits settled h)

  damaged_given_up : (a : Attempt) (w : World) (fault : BusFault) {v : World} → IsAttempt a
      → IsSettled w.roots → GaveUp a w fault v → Stays w v
  damaged_given_up a w fault fits settled g h =
      let left = damaged_left a w fault fits settled g.so_far h in
      subst (IsDamaged damages) (sym g.told) (record { same = left.same; lost = left.lost })

  damaged_attempt : (a : Attempt) (w v : World) (result : Result Outcome BusFault)
      {t s : Option (List ℕ)} → IsAttempt a → Attempts a w t result v s
      → (w.fault ≡ None → IsSettled w.roots) → Stays w v
  damaged_attempt a w v result {t} {s} fits made settled h = split w.fault refl
    where
      at_work : (result : Result Outcome BusFault) → Attempts a w t result v s → w.fault ≡ None
          → IsDamaged damages v
      at_work (Ok outcome) made none =
          subst (IsDamaged damages) (sym made.exact) (damaged_after a w fits (settled none) h)
      at_work (Err Limit) made none = subst (IsDamaged damages) (sym (made.fails none))
          (damaged_after a w fits (settled none) h)
      at_work (Err Memory) made none =
          damaged_given_up a w Memory fits (settled none) (made.fails none) h
      at_work (Err Failed) made none =
          damaged_given_up a w Failed fits (settled none) (made.fails none) h

      split : (x : Option BusFault) → w.fault ≡ x → IsDamaged damages v
      split None e = at_work result made e
      split (Some before) e =
          subst (IsDamaged damages) (sym (made.counts.again before e).1) h

  damaged_called : (c : PortCall) (port : ℕ) (w : World) → Stays w (after (root_call c port) w)
  unfolding after
  damaged_called c port w h = record {
    same = h.same;
    lost = losses_cleared (is_clearing c) w.attempts w.damages w.losses h.lost;
  }

  damaged_traced : {w : World} {t : Option (List ℕ)} {v : World} {s : Option (List ℕ)}
      → (w.fault ≡ None → IsSettled w.roots) → Traced w t v s → Stays w v
  damaged_traced settled still h = h
  damaged_traced settled (attempted {w = m} {v = v} a result fits before made) h =
      damaged_attempt a m v result fits made
      (λ none. let work = traced_runs_onward before none in
      settled_course work.course (settled work.sound)) (damaged_traced settled before h)
  damaged_traced settled (called {w = m} c port before) h =
      damaged_called c port m (damaged_traced settled before h)

  damaged_event : (w : World) → Stays w (after event w)
  unfolding after
  damaged_event w h = over_taken damaged_events w.fault w h

  damaged_took : (w v : World) (result : Result (Option (Option Ask)) BusFault)
      {t s : Option (List ℕ)} → TakesEvent w t result v s → Stays w v
  damaged_took w v result {t} {s} takes h = split w.fault refl
    where
      came : IsDamaged damages (after event w)
      came = damaged_event w h

      at_work : (result : Result (Option (Option Ask)) BusFault) → TakesEvent w t result v s
          → w.fault ≡ None → IsDamaged damages v
      at_work (Ok due) takes none = subst (IsDamaged damages) (sym takes.exact) came
      at_work (Err Limit) takes none = absurd (cc (ap is_some none, takes.limit refl))
      at_work (Err Memory) takes none = subst (IsDamaged damages) (sym (takes.kept refl none))
          (record { same = h.same; lost = h.lost })
      at_work (Err Failed) takes none = subst (IsDamaged damages) (sym (takes.cut refl none))
          (record { same = came.same; lost = came.lost })

      split : (x : Option BusFault) → w.fault ≡ x → IsDamaged damages v
      split None e = at_work result takes e
      split (Some before) e = subst (IsDamaged damages) (sym (takes.took.again before e).1) h

  -- over a part of a run
  pub record Damages (w v : World) : Type 0 where
    pub onward : RunsOnward w v
    pub stays : (w.fault ≡ None → IsSettled w.roots) → Stays w v

  damages_then : (w m v : World) → Damages w m → Damages m v → Damages w v
  damages_then w m v x y = record {
    onward = onward_then w m v x.onward y.onward;
    stays = λ settled h. y.stays (λ none. let work = x.onward none in
        settled_course work.course (settled work.sound)) (x.stays settled h);
  }

  pub damages_traced : {w v : World} {t s : Option (List ℕ)} → Traced w t v s → Damages w v
  damages_traced traced = record {
    onward = traced_runs_onward traced;
    stays = λ settled. damaged_traced settled traced;
  }

  pub damages_runs : OverRuns Damages
  damages_runs = record {
    same = λ w. record { onward = onward_runs.same w; stays = λ settled h. h };
    joined = damages_then;
    called = λ a b calls. damages_traced calls.went.traced;
    took = λ w v result takes. record {
      onward = onward_runs.took w v result takes;
      stays = λ settled. damaged_took w v result takes;
    };
    cut = λ w v rest still. record {
      onward = onward_runs.cut w v rest still;
      stays = λ settled h. subst (IsDamaged damages) (sym rest)
          (record { same = h.same; lost = h.lost });
    };
  }
