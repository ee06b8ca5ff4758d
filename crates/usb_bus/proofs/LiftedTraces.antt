-- What holds over the parts of a step, and over a fault, holds over a trace of steps.
use Rattle.std.proofs.Common.{◌≡◌, ℕ, ◌||◌, true, List, Option, None, Some, Result, Ok, Err, refl}
use Rattle.std.proofs.Common.{sym, subst}
use Rattle.usb_world.specs.{Attempt, BusFault, Limit, Memory, Failed, Outcome, is_made}
use Rattle.usb_world.specs.{AnyStep, Left, at_event, at_packet, at_line, GaveUp, attempt, root_call}
use Rattle.usb_world.specs.{at_attempt, World, Ports, held_addresses, repeats}
use Rattle.usb_world.proofs.Interface.{OverSteps, over_coming, over_ready, over_step, unequal}
use Rattle.usb_bus.specs.{Attempts, Traced, still, attempted, called}

-- memory was refused for the host's data, which some devices had
abbrev pub with_cut : Ports → World → World
with_cut k w = record w { roots = k; shared = w.shared || repeats (held_addresses w.roots) }

-- a relation that holds besides over packets that were cut, and over a fault that is told
pub record OverFaults (R : World → World → Type 0) : Type 0 where
  pub steps : OverSteps AnyStep R
  pub cut : (k : Ports) (w : World) → R w (with_cut k w)
  pub told : (fault : BusFault) (w : World) → R w (record w { fault = Some fault })

module _ {R : World → World → Type 0} (l : OverFaults R) where
  joined : (w m v : World) → R w m → R m v → R w v
  joined = l.steps.events.joined

  from_ready : (w v : World) → R (at_attempt w) v → R w v
  from_ready w v = joined w (at_attempt w) v (over_ready l.steps.events w)

  over_left : (a : Attempt) (w v : World) (fault : BusFault) → is_made w.fault w ≡ true
      → Left a w fault v → R w v
  over_left a w v fault made (at_event c) = over_coming l.steps.events c
  over_left a w v fault made (at_packet k e c is) =
      subst (R w) (sym is) (from_ready w _ (l.cut k (at_attempt w)))
  over_left a w v fault made (at_line e is) =
      subst (R w) (sym is) (from_ready w _ (l.steps.made a w made tt))

  over_given_up : (a : Attempt) (w v : World) (fault : BusFault) → w.fault ≡ None
      → GaveUp a w fault v → R w v
  over_given_up a w v fault sound g =
      let made : is_made w.fault w ≡ true = rw (sound, unequal w.attempts w.limit g.below) refl in
      subst (R w) (sym g.told)
      (joined w g.left _ (over_left a w g.left fault made g.so_far) (l.told fault g.left))

  over_made : (a : Attempt) (w v : World) (result : Result Outcome BusFault) {t s : Option (List ℕ)}
      → Attempts a w t result v s → R w v
  over_made a w v (Ok outcome) made =
      subst (R w) (sym made.exact) (over_step l.steps (attempt a) w tt)
  over_made a w v (Err fault) made = split w.fault refl fault made
    where
      failed : (fault : BusFault) {t s : Option (List ℕ)} → Attempts a w t (Err fault) v s
          → w.fault ≡ None → R w v
      failed Limit made none =
          subst (R w) (sym (made.fails none)) (over_step l.steps (attempt a) w tt)
      failed Memory made none = over_given_up a w v Memory none (made.fails none)
      failed Failed made none = over_given_up a w v Failed none (made.fails none)

      split : (x : Option BusFault) → w.fault ≡ x → (fault : BusFault) {t s : Option (List ℕ)}
          → Attempts a w t (Err fault) v s → R w v
      split None e fault made = failed fault made e
      split (Some before) e fault made =
          subst (R w) (sym (made.counts.again before e).1) (l.steps.events.same w)

  pub over_traced : {w : World} {t : Option (List ℕ)} {v : World} {s : Option (List ℕ)}
      → Traced w t v s → R w v
  over_traced {w} still = l.steps.events.same w
  over_traced {w} (attempted {w = m} {v = v} a result fits before made) =
      joined w m v (over_traced before) (over_made a m v result made)
  over_traced {w} (called {w = m} c port before) =
      joined w m _ (over_traced before) (over_step l.steps (root_call c port) m tt)
