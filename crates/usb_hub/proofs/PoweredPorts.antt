-- A port that had no power, after a call that powered it: a change of connection is pending, or
-- nothing is plugged there.
use Rattle.std.proofs.Common.{arith, ◌≡◌, ℕ, zero, suc, ◌⊎◌, inl, inr, Bool, true, false, List, []}
use Rattle.std.proofs.Common.{◌∷◌, ◌++◌, Option, None, Some, option_map, refl, ap, sym, subst, ◌∙◌}
use Rattle.std.proofs.lemmas.Option.{same_Some}
use Rattle.usb_port.specs.{PortState, is_attached, speed_of, powered_on, SetPower}
use Rattle.usb_device.specs.{State, Ports, vacant, taken, empty, full, port_of, called, place}
use Rattle.usb_device.specs.{place_at, port_there, state_there, Place}
use Rattle.usb_world.specs.{Attempt, NoReset, is_made, made_resets, resets, spec_of, row_reached}
use Rattle.usb_world.specs.{StillSet, UnchangedOrPending, Consistent, ConsistentPlace, Step}
use Rattle.usb_world.specs.{attempt, after, with_attempt, at_attempt, Course, here, step}
use Rattle.usb_world.specs.{WorldInvariant, World, has_power, pending}
use Rattle.usb_world.proofs.Interface.{MadeOrNot, attempt_cases, between_after, between_course}
use Rattle.usb_world.proofs.Interface.{between_ready, course_bits, course_wider, made_reach}
use Rattle.usb_world.proofs.Interface.{made_sound, pending_persists, reach_live, rests_or_pends}
use Rattle.usb_world.proofs.Interface.{same_device, stands, stands_or_pends, state_stands}
use Rattle.usb_world.proofs.Interface.{step_pend}
use Rattle.usb_hub.proofs.UnpoweredPorts.{NoPower, ready_unpowered}
use Rattle.usb_hub.proofs.Trees.{live_of_up, pend_of_up}
use Rattle.usb_hub.proofs.AddressPorts.{not_way}
use Rattle.usb_hub.specs.{ports_at_step, ActsAt, PortCallDone}
use Rattle.usb_hub.proofs.CalledPorts.{port_of_place, due_course}

-- Trees

sane_place : (k : Ports) (j : ℕ) (p : List ℕ) (x : Place) → Consistent k → place_at k j p ≡ Some x
    → ConsistentPlace x
unfolding Consistent ConsistentPlace place_at
sane_place (vacant b k) zero [] x h e = grind arith
sane_place (vacant b k) (suc j) p x h e = sane_place k j p x h.2 e
sane_place (taken b s a k) zero [] x h e = grind arith
sane_place (taken b s a k) zero (suc i ∷ p) x h e = sane_place a i p x h.2 e
sane_place (taken b s a k) (suc j) p x h e = sane_place k j p x h.3 e
sane_place _ _ _ x h e = absurd (cc e)

pub sane_there : (k : Ports) (p : List ℕ) (x : Place) → Consistent k → place k p ≡ Some x
    → ConsistentPlace x
sane_there k p x h e = grind (arith, sane_place)

pub state_of_place : (k : Ports) (p : List ℕ) → state_there k p ≡ stands (place k p)
state_of_place k p = grind (arith, state_stands)

-- a powered port of a row that is live is live, and its change of connection is pending

live_there : (k : Ports) (q : List ℕ) (n : ℕ) (b : PortState) → Consistent k
    → row_reached k q ≡ true → port_there k (q ++ (n ∷ [])) ≡ Some b → b.power ≡ true
    → (has_power k (q ++ (n ∷ [])) ≡ true)
    × (b.connection_changed ≡ true → pending k (q ++ (n ∷ [])) ≡ true)
live_there k q n b sane on there h = grind (arith, live_of_up, pend_of_up, reach_live)

-- Steps about the port

pub spec_of-none : (o v : Option State) → option_map spec_of o ≡ option_map spec_of v → v ≡ None
    → o ≡ None
spec_of-none o v e h = grind arith

-- a row of ports that is reached was so before, where nothing on its way was reset
pub row_reached-back : (q : List ℕ) {w v : World} → Course (NoReset q) w v
    → row_reached v.roots q ≡ true → row_reached w.roots q ≡ true
row_reached-back q c on = grind (arith, same_device)

module _ (q : List ℕ) (n : ℕ) where
  abbrev p : List ℕ
  p = q ++ (n ∷ [])

  -- the port stands there without power
  record Off (k : Ports) : Type 0 where
    port : PortState
    there : port_there k p ≡ Some port
    off : port.power ≡ false

  -- a change is pending there; or it is powered on its whole way, and nothing is plugged
  abbrev pub PendsOrVacant : World → Type 0
  PendsOrVacant w = (pending w.roots p ≡ true)
      ⊎ ((has_power w.roots p ≡ true) × (state_there w.roots p ≡ None))

  abbrev SoFar : World → Type 0
  SoFar w = Off w.roots ⊎ PendsOrVacant w

  -- a port that is powered now
  powers : (m : Ports) (v : World) → Consistent m → Off m
      → place v.roots p ≡ option_map (called SetPower) (place m p) → Consistent v.roots
      → row_reached v.roots q ≡ true → PendsOrVacant v
  unfolding ConsistentPlace
  powers m v sane o e sane_after on = pick (place m p) refl
    where
      unpowered : (x : Place) → place m p ≡ Some x → (port_of x).power ≡ false
      unpowered x s = grind (arith, port_of_place)

      alive : (x : Place) → place m p ≡ Some x → port_of (called SetPower x) ≡ powered_on
          (port_of x) → (has_power v.roots p ≡ true)
          × ((powered_on (port_of x)).connection_changed ≡ true → pending v.roots p ≡ true)
      alive x s is = live_there v.roots q n (powered_on (port_of x)) sane_after on
          (grind (arith, port_of_place)) (rw (unpowered x s) refl)

      pick : (x : Option Place) → place m p ≡ x → PendsOrVacant v
      pick None s = grind (arith, port_of_place)
      pick (Some (empty c)) s = inr (
        (alive (empty c) s refl).0,
        state_of_place v.roots p ∙ ap stands (e ∙ ap (option_map (called SetPower)) s),
      )
      pick (Some (full c t a)) s = inl ((alive (full c t a) s refl).1 changed)
        where
          seen : (low : Bool) → is_attached (speed_of low) ≡ true
          seen true = refl
          seen false = refl

          attached : is_attached c.attached ≡ true
          attached = ap is_attached (sane_there m p (full c t a) sane s).1 ∙ seen t.spec.low

          changed : (powered_on c).connection_changed ≡ true
          changed = rw (unpowered (full c t a) s, attached) refl

  -- what a step finds there: a port without power; or it comes to nothing
  data Finds (s : Step) (w : World) : Type 0 where
    finds : Off (ports_at_step s w) → Consistent (ports_at_step s w) → Finds s w
    nothing_done : (after s w).roots ≡ w.roots → Finds s w

  attempt_finds : (a : Attempt) (w : World) → WorldInvariant w → resets (attempt a) w q ≡ false
      → row_reached (after (attempt a) w).roots q ≡ true → Off w.roots → Finds (attempt a) w
  unfolding after resets at_attempt
  attempt_finds a w between rests on o = cases (attempt_cases a w)
    where
      row_ready : (q : List ℕ) → made_resets a (at_attempt w) q ≡ false
          → row_reached (with_attempt a (at_attempt w)).roots q ≡ true
          → row_reached (at_attempt w).roots q ≡ true
      row_ready [] r h = refl
      row_ready (m ∷ e) r h = search made_reach

      made : w.fault ≡ None → is_made w.fault w ≡ true
          → after (attempt a) w ≡ with_attempt a (at_attempt w) → Finds (attempt a) w
      made sound so is = finds (record {
        port = still.now;
        there = still.stands;
        off = grind (arith, ready_unpowered);
      }) (between_ready w between).sane
        where
          none : NoPower (port_there w.roots p)
          none b h = ap (λ x. x.power) (same_Some b o.port (sym h ∙ o.there)) ∙ o.off

          reached : row_reached (at_attempt w).roots q ≡ true
          reached = row_ready q (grind arith)
              (grind arith)

          still : StillSet o.port (port_there (at_attempt w).roots p)
          still = course_bits q n (course_wider (λ s w k. k.leaves)
              (due_course p w.left w refl sound)) reached o.port o.there

      cases : MadeOrNot a w (after (attempt a) w) → Finds (attempt a) w
      cases (inl e) = grind arith
      cases (inr m) = made (made_sound w m.0) m.0 m.1

  step_finds : (s : Step) (w : World) → WorldInvariant w → resets s w q ≡ false
      → row_reached (after s w).roots q ≡ true → Off w.roots → Finds s w
  step_finds s w between rests on o = grind (arith, attempt_finds)

  no_reset : (s : Step) (w : World) → ActsAt p SetPower s w → resets s w q ≡ false
  no_reset s w k = (k.about.others q (not_way q n)).rests

  -- a step about the port that had no power
  off_step : (s : Step) (w : World) → ActsAt p SetPower s w → WorldInvariant w
      → row_reached (after s w).roots q ≡ true → Off w.roots → SoFar (after s w)
  off_step s w k between on o = by_found (step_finds s w between (no_reset s w k) on o)
    where
      by_port : Off (ports_at_step s w) → Consistent (ports_at_step s w)
          → (place (after s w).roots p ≡ place (ports_at_step s w) p)
          ⊎ (place (after s w).roots p ≡ option_map (called SetPower) (place (ports_at_step s w) p))
          → SoFar (after s w)
      by_port m sane (inl e) = grind (arith, port_of_place)
      by_port m sane (inr e) = inr (powers (ports_at_step s w) (after s w) sane m e
          (between_after s w between).sane on)

      by_found : Finds s w → SoFar (after s w)
      by_found (finds m sane) = by_port m sane k.port
      by_found (nothing_done e) = grind arith

  -- and at a moment when it was called
  off_called : (s : Step) (w : World) → ActsAt p SetPower s w
      → place (after s w).roots p ≡ option_map (called SetPower) (place (ports_at_step s w) p)
      → WorldInvariant w → row_reached (after s w).roots q ≡ true → Off w.roots
      → PendsOrVacant (after s w)
  off_called s w k e between on o = by_found (step_finds s w between (no_reset s w k) on o)
    where
      powered : (c : PortState) → (powered_on c).power ≡ true
      powered c = grind arith

      stays_off : (x : Option Place) → option_map port_of (option_map (called SetPower) x)
          ≡ Some o.port → ⊥
      stays_off None h = absurd (cc h)
      stays_off (Some (empty c)) h = grind arith
      stays_off (Some (full c t a)) h = grind arith

      by_found : Finds s w → PendsOrVacant (after s w)
      by_found (finds m sane) = powers (ports_at_step s w) (after s w) sane m e
          (between_after s w between).sane on
      by_found (nothing_done h) = grind (arith, port_of_place)

  -- what pends or is vacant stays so
  vacant_step : (s : Step) (w : World) → ActsAt p SetPower s w → PendsOrVacant w
      → PendsOrVacant (after s w)
  vacant_step s w k (inl x) = grind (arith, step_pend)
  vacant_step s w k (inr x) =
      elim (stands_or_pends p (step s (k.about.spares refl) (here (after s w))) x.0) [
        | inl y ↦ inr (
          y.0,
          spec_of-none (state_there (after s w).roots p) (state_there w.roots p) y.1 x.1,
        )
        | inr y ↦ inl y
      ]

  acts_row : {w v : World} → Course (ActsAt p SetPower) w v → row_reached v.roots q ≡ true
      → row_reached w.roots q ≡ true
  acts_row c on = row_reached-back q (course_wider (λ s w k. no_reset s w k) c) on

  so_far : {w v : World} → Course (ActsAt p SetPower) w v → WorldInvariant w
      → row_reached v.roots q ≡ true → SoFar w → SoFar v
  so_far (here w) between on x = x
  so_far (step s {w} {v} k more) between on (inl o) =
      so_far more (between_after s w between) on (off_step s w k between (acts_row more on) o)
  so_far (step s {w} {v} k more) between on (inr x) =
      so_far more (between_after s w between) on (inr (vacant_step s w k x))

  module _ (old new : World) (x : PortCallDone p SetPower old new) (between : WorldInvariant old)
      (on : row_reached new.roots q ≡ true) (o : Off old.roots) where
    row_now : row_reached (after x.last x.before).roots q ≡ true
    row_now = row_reached-back q (course_wider (λ s w k. k.rests) (x.since q)) on

    row_before : row_reached x.before.roots q ≡ true
    row_before = row_reached-back q (step x.last (search no_reset)
        (here (after x.last x.before))) row_now

    now_vacant : PendsOrVacant (after x.last x.before)
    now_vacant = grind (arith, between_course, off_called, row_before, row_now, so_far, vacant_step)

    since_vacant : PendsOrVacant new
    since_vacant = elim now_vacant [
      | inl y ↦ inl (pending_persists p (course_wider (λ s w k. k.spares) (x.since p)) y)
      | inr y ↦ later y.1 (rests_or_pends p (x.since p) y.0)
    ]
      where
        later : state_there (after x.last x.before).roots p ≡ None
            → UnchangedOrPending (after x.last x.before) new p → PendsOrVacant new
        later h (inl z) = grind arith
        later h (inr z) = inl z

pub powered_stands : (p : List ℕ) (old new : World) → PortCallDone p SetPower old new
    → WorldInvariant old → (b : PortState) → port_there old.roots p ≡ Some b → b.power ≡ false
    → (pending new.roots p ≡ true) ⊎ ((has_power new.roots p ≡ true)
    × (state_there new.roots p ≡ None))
powered_stands p old new x between b there off =
    subst (λ p. (pending new.roots p ≡ true)
    ⊎ ((has_power new.roots p ≡ true) × (state_there new.roots p ≡ None))) (sym x.row.is)
    (since_vacant x.row.parent x.row.number old new
    (grind arith) between x.row.reached (grind arith))
