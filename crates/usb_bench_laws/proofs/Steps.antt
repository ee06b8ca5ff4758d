-- The next event of a world could not have come by itself before.
use Rattle.std.proofs.Common.{◌≡◌, ◌≤◌, ◌+◌, ◌-◌, Bool, true, false, List, [], ◌∷◌}
use Rattle.std.proofs.Common.{Option, None, Some, if◌then◌else◌, refl, arith, sym, subst, nat_le}
use Rattle.std.proofs.Common.{◌==◌}
use Rattle.usb_world.specs.{Attempt, BusFault, Event, Limit, Step, World, after, after_due_events}
use Rattle.usb_world.specs.{after_event, after_first_event, at_attempt, attempt, attempted, event}
use Rattle.usb_world.specs.{event_taken, is_due, report, root_call, waits, with_attempt}
use Rattle.usb_bench_laws.specs.{Comes, IsToCome}

-- it is so of worlds that have made as many attempts, as many before the last event
pub same_counts : (events : List Event) (w v : World) → v.attempts ≡ w.attempts
    → v.attempts_then ≡ w.attempts_then → IsToCome events w → IsToCome events v
same_counts [] w v a t h = tt
same_counts (e ∷ events) w v a t h = λ still. omega (arith, a, t, h still)

due_soon : (e : Event) (v : World) → is_due e v ≡ false → waits e.action ≡ false
    → (v.attempts + 1) - v.attempts_then ≤ e.after
due_soon e v d still =
    let late : nat_le e.after (v.attempts - v.attempts_then) ≡ false = rw still at d in
    grind (arith, late)

due_next : (a : Attempt) (e : Event) (events : List Event) (v : World) → is_due e v ≡ false
    → IsToCome (e ∷ events) (with_attempt a v)
unfolding with_attempt
due_next a e events v d = due_soon e v d

-- it is so after an attempt in that world
abbrev HasNext : Attempt → World → Type 0
HasNext a u = IsToCome u.left (with_attempt a u)

due_or_not : (a : Attempt) (e : Event) (events : List Event) (v : World) → v.left ≡ e ∷ events
    → (b : Bool) → is_due e v ≡ b → HasNext a (after_due_events events (after_event e events v))
    → HasNext a (if b then after_due_events events (after_event e events v) else v)
due_or_not a e events v h true d rest = rest
due_or_not a e events v h false d rest =
    subst (λ l. IsToCome l (with_attempt a v)) (sym h) (due_next a e events v d)

made_next : (a : Attempt) (events : List Event) (v : World) → v.left ≡ events
    → HasNext a (after_due_events events v)
unfolding after_due_events after_event
made_next a [] v h = subst (λ l. IsToCome l (with_attempt a v)) (sym h) tt
made_next a (e ∷ events) v h =
    due_or_not a e events v h (is_due e v) refl (made_next a events (after_event e events v) refl)

pub next_stays : (s : Step) (w : World) → IsToCome w.left w → IsToCome (after s w).left (after s w)
unfolding after at_attempt after_event with_attempt
next_stays (attempt a) w h = by_fault w.fault
  where
    by_limit : (b : Bool) → let v = if b then record w { fault = Some Limit }
        else with_attempt a (at_attempt w) in IsToCome v.left v
    by_limit true = same_counts w.left w (record w { fault = Some Limit }) refl refl h
    by_limit false = made_next a w.left w refl

    by_fault : (f : Option BusFault) → IsToCome (attempted a f w).left (attempted a f w)
    by_fault (Some f) = h
    by_fault None = by_limit (w.attempts == w.limit)
next_stays (root_call c n) w h = same_counts w.left w (after (root_call c n) w) refl refl h
next_stays event w h = by_fault w.fault
  where
    first : (events : List Event) → w.left ≡ events
        → IsToCome (after_first_event events w).left (after_first_event events w)
    first [] e = h
    first (x ∷ events) e = came events
      where
        came : (l : List Event) → IsToCome l (after_event x events w)
        came [] = tt
        came (y ∷ l) = λ still. omega arith

    by_fault : (f : Option BusFault) → IsToCome (event_taken f w).left (event_taken f w)
    by_fault (Some f) = h
    by_fault None = first w.left refl
next_stays (report line) w h = h

-- where no event is left, none comes
pub record Rests (w v : World) : Type 0 where
  pub left : v.left ≡ []
  pub taken : v.taken ≡ w.taken
  pub last : v.attempts_then ≡ w.attempts_then
  pub more : w.attempts ≤ v.attempts

as_it_was : (w : World) → w.left ≡ [] → Rests w w
as_it_was w h = record { left = h; taken = refl; last = refl; more = omega arith }

at_rest : (w : World) → w.left ≡ [] → at_attempt w ≡ w
unfolding at_attempt after_due_events
at_rest w h = subst (λ l. after_due_events l w ≡ w) (sym h) refl

made_rests : (a : Attempt) (w : World) → w.left ≡ [] → Rests w (with_attempt a w)
unfolding with_attempt
made_rests a w h = record { left = h; taken = refl; last = refl; more = omega arith }

pub rests : (s : Step) (w : World) → w.left ≡ [] → Rests w (after s w)
unfolding after
rests (attempt a) w h = by_fault w.fault
  where
    by_limit : (b : Bool) → Rests w
        (if b then record w { fault = Some Limit } else with_attempt a (at_attempt w))
    by_limit true = record { left = h; taken = refl; last = refl; more = omega arith }
    by_limit false = subst (λ u. Rests w (with_attempt a u)) (sym (at_rest w h)) (made_rests a w h)

    by_fault : (f : Option BusFault) → Rests w (attempted a f w)
    by_fault (Some f) = as_it_was w h
    by_fault None = by_limit (w.attempts == w.limit)
rests (root_call c n) w h = record { left = h; taken = refl; last = refl; more = omega arith }
rests event w h = by_fault w.fault
  where
    by_fault : (f : Option BusFault) → Rests w (event_taken f w)
    by_fault (Some f) = as_it_was w h
    by_fault None = subst (λ l. Rests w (after_first_event l w)) (sym h) (as_it_was w h)
rests (report line) w h = as_it_was w h

-- where one is left, it comes when it is asked for
pub one_comes : (e : Event) (events : List Event) (w : World) → w.left ≡ e ∷ events
    → Comes event w
unfolding after after_event
one_comes e events w h = by_fault w.fault
  where
    by_fault : (f : Option BusFault) → f ≡ None → (event_taken f w).taken ≡ w.taken + 1
    by_fault (Some f) sound = absurd (cc)
    by_fault None sound =
        subst (λ l. (after_first_event l w).taken ≡ w.taken + 1) (sym h) refl
