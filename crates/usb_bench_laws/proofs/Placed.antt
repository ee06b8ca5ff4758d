-- A placed run is the run of the plan that is known.
use Rattle.std.proofs.Common.{◌≡◌, ◌≢◌, ◌≤◌, ◌<◌, ◌-◌, ◌⊎◌, inl, inr, ℕ, zero, suc, ◌++◌, Bool}
use Rattle.std.proofs.Common.{true, false}
use Rattle.std.proofs.Common.{List, [], ◌∷◌, map, take, drop, length, if◌then◌else◌, refl, arith}
use Rattle.std.proofs.Common.{sym, ap, subst, ◌∙◌}
use Rattle.std.proofs.lemmas.Bool.{ltb-false}
use Rattle.usb_world.specs.{Event, PlanData, Step, World, after, after_most, damage_most}
use Rattle.usb_world.specs.{damages_fit, event, opening}
use Rattle.usb_sim.specs.{followed}
use Rattle.usb_bench_laws.specs.{AgreeIn, AllCome, Comes, IsToCome, run, world_after, PlacedRun}
use Rattle.usb_bench_laws.specs.{asks, does, placed, sees}
use Rattle.usb_bench_laws.proofs.Later.{IsOf, of_opening, of_step}
use Rattle.usb_bench_laws.proofs.Following.{all_too, from_start, one_more, one_more_comes}
use Rattle.usb_places.specs.declared.seen.Deed.{Deed}
use Rattle.usb_places.specs.declared.seen.Deed.TheVariants.{Wait}
use Rattle.usb_places.specs.{PlacesData, after_seen, finds, found_in, plan_in, plan_known}
use Rattle.usb_places.specs.{seen_at, seen_by}
use Rattle.usb_bench_laws.specs.PlacedRuns.{begins}
use Rattle.usb_bench_laws.proofs.Seen.{alike_damages, alike_events, none_more, seen_all}
use Rattle.usb_bench_laws.proofs.Events.{events_stay, next_to_come}
use Rattle.usb_bench_laws.proofs.Damages.{damages_stay}
use Rattle.usb_bench_laws.proofs.Steps.{Rests, next_stays, one_comes, rests, same_counts}
use Rattle.usb_bench_laws.proofs.Waits.{none_grow, wait_ends}

-- no event is left, and none is found later: the plan has no more, or the last one came too long
-- ago
record NoMore (p : PlacesData) (w : World) : Type 0 where
  none : w.left ≡ []
  ends : (drop w.taken p.plan.events ≡ []) ⊎ (after_most < w.attempts - w.attempts_then)

-- the world is the one of the plan that is known, whose next event could not have come by itself
-- before; each event that was asked for came, or no more are found
record IsPlayed (p : PlacesData) (steps : List Step) (w : World) : Type 0 where
  is : w ≡ run (plan_in p) steps
  own : IsOf (plan_in p) w
  next : IsToCome w.left w
  fits : damages_fit 0 p.plan.damages ≡ true
  came : AllCome steps (opening (plan_in p)) ⊎ NoMore p w

opening_next : (p : PlanData) → IsToCome p.events (opening p)
opening_next p = first p.events
  where
    first : (events : List Event) → IsToCome events (opening p)
    first [] = tt
    first (e ∷ events) = λ still. omega arith

at_first : (p : PlacesData) → damages_fit 0 p.plan.damages ≡ true
    → IsPlayed p [] (opening (plan_in p))
unfolding world_after
at_first p fits = record {
  is = refl;
  own = of_opening (plan_in p);
  next = opening_next (plan_in p);
  fits = fits;
  came = inl tt;
}

agree : (d : Deed) (p : PlacesData) (steps : List Step) (w : World) → IsPlayed p steps w
    → AgreeIn (plan_in p) (plan_in (after_seen (seen_at w d) p)) w
unfolding after_seen plan_known
agree d p steps w is =
    let x = seen_at w d in
    let ts = map (seen_by p.transfer x) p.sought in
    let are = seen_all p.transfer x p.sought in
    record {
      limit = refl;
      roots = refl;
      devices = refl;
      events = events_stay x p.sought ts 0 p.plan.events are w.taken is.own.taken;
      damages = λ n one le. damages_stay x p.sought ts p.plan.damages damage_most n is.fits are le;
      next = next_to_come x w refl p.sought ts 0 p.plan.events are w.taken is.own.taken
          (subst (λ l. IsToCome l w) is.own.left is.next);
    }

-- a list that begins with so many of another has as many
same_taken : {X : Type 0} (n : ℕ) (xs ys : List X) → take n xs ≡ take n ys → n ≤ length xs
    → n ≤ length ys
same_taken zero xs ys e le = omega arith
same_taken (suc n) [] ys e le = absurd (omega (arith, le))
same_taken (suc n) (x ∷ xs) [] e le = absurd (cc)
same_taken (suc n) (x ∷ xs) (y ∷ ys) e le =
    let rest : take n xs ≡ take n ys = cc in
    omega (arith, same_taken n xs ys rest (omega (arith, le)))

fits_still : (d : Deed) (p : PlacesData) (w : World) → damages_fit 0 p.plan.damages ≡ true
    → damages_fit 0 (after_seen (seen_at w d) p).plan.damages ≡ true
unfolding after_seen
fits_still d p w fits = fits

plan_same : (d : Deed) (p : PlacesData) (w : World) → finds (seen_at w d) p ≡ false
    → plan_in (after_seen (seen_at w d) p) ≡ plan_in p
unfolding after_seen plan_known
plan_same d p w none =
    let x = seen_at w d in
    let ts = map (seen_by p.transfer x) p.sought in
    let few : found_in ts ≤ found_in p.sought = ltb-false (found_in p.sought) (found_in ts) none in
    let alike = none_more x p.sought ts (seen_all p.transfer x p.sought) few in
    rw (
      alike_events p.sought ts 0 p.plan.events alike,
      alike_damages p.sought ts p.plan.damages alike,
    ) refl

-- what is seen

-- the plan that is known once a deed is seen
abbrev plan_then : Deed → PlacesData → World → PlanData
plan_then d p w = plan_in (after_seen (seen_at w d) p)

still_none : (d : Deed) (p : PlacesData) (w : World) → IsOf (plan_in p) w → NoMore p w
    → drop w.taken (plan_in (after_seen (seen_at w d) p)).events ≡ []
unfolding after_seen plan_known
still_none d p w own none = none_grow p.transfer (seen_at w d) p.sought p.plan.events none.ends
    (sym own.left ∙ none.none)

no_more_still : (d : Deed) (p : PlacesData) (w v : World) → v.left ≡ [] → v.taken ≡ w.taken
    → v.attempts ≡ w.attempts → v.attempts_then ≡ w.attempts_then → NoMore p w
    → NoMore (after_seen (seen_at w d) p) v
unfolding after_seen
no_more_still d p w v none t a l is = record { none = none; ends = rw (t, a, l) is.ends }

-- where a place more is found, the plan that is then known is followed
found_then : (d : Deed) (p : PlacesData) (steps : List Step) (w : World) → IsPlayed p steps w
    → (drop w.taken (plan_then d p w).events ≢ [] → AllCome steps (opening (plan_in p)))
    → AllCome steps (opening (plan_then d p w))
    ⊎ NoMore (after_seen (seen_at w d) p) (followed (plan_then d p w) w)
    → IsPlayed (after_seen (seen_at w d) p) steps (followed (plan_then d p w) w)
found_then d p steps w is asked came =
    let new = plan_then d p w in
    let both = agree d p steps w is in
    record {
      is = ap (followed new) is.is ∙ sym (from_start (plan_in p) new steps
          (subst (AgreeIn (plan_in p) new) is.is both)
          (subst (λ (u : World). drop u.taken new.events ≢ []
          → AllCome steps (opening (plan_in p))) is.is asked));
      own = record {
        left = refl;
        taken = same_taken w.taken (plan_in p).events new.events both.events is.own.taken;
        damages = refl;
        last = is.own.last;
      };
      next = same_counts (drop w.taken new.events) w (followed new w) refl refl both.next;
      fits = fits_still d p w is.fits;
      came = came;
    }

found_more : (d : Deed) (p : PlacesData) (steps : List Step) (w : World) → IsPlayed p steps w
    → IsPlayed (after_seen (seen_at w d) p) steps (followed (plan_then d p w) w)
found_more d p steps w is = split is.came
  where
    split : AllCome steps (opening (plan_in p)) ⊎ NoMore p w
        → IsPlayed (after_seen (seen_at w d) p) steps (followed (plan_then d p w) w)
    split (inl all) = found_then d p steps w is (λ _. all)
        (inl (all_too (plan_in p) (plan_then d p w) steps
        (subst (AgreeIn (plan_in p) (plan_then d p w)) is.is (agree d p steps w is)) all))
    split (inr none) =
        let still = still_none d p w is.own none in
        found_then d p steps w is (λ some. absurd (some still))
        (inr (no_more_still d p w (followed (plan_then d p w) w) still refl refl refl none))

found_none : (d : Deed) (p : PlacesData) (steps : List Step) (w : World) → IsPlayed p steps w
    → finds (seen_at w d) p ≡ false → IsPlayed (after_seen (seen_at w d) p) steps w
found_none d p steps w is none =
    let same = plan_same d p w none in
    record {
      is = is.is ∙ ap (λ r. run r steps) (sym same);
      own = subst (λ r. IsOf r w) (sym same) is.own;
      next = is.next;
      fits = fits_still d p w is.fits;
      came = split same is.came;
    }
  where
    split : plan_in (after_seen (seen_at w d) p) ≡ plan_in p
        → AllCome steps (opening (plan_in p)) ⊎ NoMore p w
        → AllCome steps (opening (plan_in (after_seen (seen_at w d) p)))
        ⊎ NoMore (after_seen (seen_at w d) p) w
    split same (inl all) = inl (subst (λ r. AllCome steps (opening r)) (sym same) all)
    split same (inr more) = inr (no_more_still d p w w more.none refl refl refl more)

was_seen : (d : Deed) (p : PlacesData) (steps : List Step) (w : World) → IsPlayed p steps w
    → (b : Bool) → finds (seen_at w d) p ≡ b → IsPlayed (after_seen (seen_at w d) p) steps
    (if b then followed (plan_in (after_seen (seen_at w d) p)) w else w)
was_seen d p steps w is true e = found_more d p steps w is
was_seen d p steps w is false e = found_none d p steps w is e

-- what is done

no_more_then : (s : Step) (p : PlacesData) (w : World) → NoMore p w → NoMore p (after s w)
no_more_then s p w none = split (rests s w none.none) none.ends
  where
    split : Rests w (after s w)
        → (drop w.taken p.plan.events ≡ []) ⊎ (after_most < w.attempts - w.attempts_then)
        → NoMore p (after s w)
    split rest (inl h) = record { none = rest.left; ends = inl (rw rest.taken h) }
    split rest (inr h) =
        record { none = rest.left; ends = inr (omega (arith, h, rest.last, rest.more)) }

was_done : (s : Step) (p : PlacesData) (steps : List Step) (w : World) → IsPlayed p steps w
    → Comes s w ⊎ NoMore p w → IsPlayed p (steps ++ s ∷ []) (after s w)
was_done s p steps w is comes = record {
  is = ap (after s) is.is ∙ sym (one_more steps s (opening (plan_in p)));
  own = of_step (plan_in p) s w is.own;
  next = next_stays s w is.next;
  fits = is.fits;
  came = split comes is.came;
}
  where
    split : Comes s w ⊎ NoMore p w → AllCome steps (opening (plan_in p)) ⊎ NoMore p w
        → AllCome (steps ++ s ∷ []) (opening (plan_in p)) ⊎ NoMore p (after s w)
    split (inl it) (inl all) =
        inl (one_more_comes steps s (opening (plan_in p)) all (subst (Comes s) is.is it))
    split (inl it) (inr none) = inr (no_more_then s p w none)
    split (inr none) came = inr (no_more_then s p w none)

-- an event that is asked for right after a wait comes, or no more are found

no_more_found : (p : PlacesData) (w : World)
    → w.taken ≤ length (plan_in (after_seen (seen_at w Wait) p)).events
    → drop w.taken (plan_in (after_seen (seen_at w Wait) p)).events ≡ []
    → (drop w.taken (after_seen (seen_at w Wait) p).plan.events ≡ [])
    ⊎ (after_most < w.attempts - w.attempts_then)
unfolding after_seen plan_known
no_more_found p w le none =
    wait_ends p.transfer (seen_at w Wait) p.sought p.plan.events refl le none

came_or_none : (p : PlacesData) (w v : World) → v.taken ≡ w.taken → v.attempts ≡ w.attempts
    → v.attempts_then ≡ w.attempts_then → IsOf (plan_then Wait p w) v
    → Comes event v ⊎ NoMore (after_seen (seen_at w Wait) p) v
came_or_none p w v t a l own = split v.left refl
  where
    split : (events : List Event) → v.left ≡ events
        → Comes event v ⊎ NoMore (after_seen (seen_at w Wait) p) v
    split (e ∷ events) h = inl (one_comes e events v h)
    split [] h = inr (record {
      none = h;
      ends = rw (t, a, l) (no_more_found p w (rw t at own.taken) (rw t at (sym own.left ∙ h)));
    })

asked_then : (p : PlacesData) (w : World) (b : Bool)
    → IsOf (plan_then Wait p w) (if b then followed (plan_then Wait p w) w else w)
    → Comes event (if b then followed (plan_then Wait p w) w else w)
    ⊎ NoMore (after_seen (seen_at w Wait) p) (if b then followed (plan_then Wait p w) w else w)
asked_then p w true own =
    came_or_none p w (followed (plan_then Wait p w) w) refl refl refl own
asked_then p w false own = came_or_none p w w refl refl refl own

was_asked : (p : PlacesData) (steps : List Step) (w : World) → IsPlayed p steps w
    → IsPlayed (after_seen (seen_at w Wait) p) (steps ++ event ∷ [])
    (after event (placed Wait p w))
was_asked p steps w is =
    let now = was_seen Wait p steps w is (finds (seen_at w Wait) p) refl in
    was_done event (after_seen (seen_at w Wait) p) steps (placed Wait p w) now
    (asked_then p w (finds (seen_at w Wait) p) now.own)

-- so it is all along

played : {first p : PlacesData} {steps : List Step} {w : World}
    → damages_fit 0 first.plan.damages ≡ true → PlacedRun first p steps w → IsPlayed p steps w
played {first} fits begins = at_first first fits
played fits (sees {p} {steps} {w} run d) =
    was_seen d p steps w (played fits run) (finds (seen_at w d) p) refl
played fits (does {p} {steps} {w} run s comes) =
    was_done s p steps w (played fits run) (inl comes)
played fits (asks {p} {steps} {w} run) = was_asked p steps w (played fits run)

pub placed_run : (first p : PlacesData) (steps : List Step) (w : World)
    → damages_fit 0 first.plan.damages ≡ true → PlacedRun first p steps w
    → w ≡ run (plan_in p) steps
placed_run first p steps w fits it = (played fits it).is
