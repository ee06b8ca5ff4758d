-- What a question does to a placed run: its deed is seen, it is done, and statuses are told.
use Rattle.std.proofs.Common.{◌≡◌, ◌∙◌, ap, refl, sym, subst, ℕ, ◌+◌, ◌++◌, Bool, true, false}
use Rattle.std.proofs.Common.{List, [], ◌∷◌, Option, None, Some, if◌then◌else◌}
use Rattle.std.specs.Str.{bytes_eq}
use Rattle.usb_world.specs.{Step, World, after, attempt, event, root_call}
use Rattle.usb_sim.specs.{followed}
use Rattle.usb_bench_laws.specs.{Comes}
use Rattle.usb_wire.specs.{Question}
use Rattle.usb_wire.specs.declared.question.Question.TheVariants.{Hello, Setup, Out, In, Port}
use Rattle.usb_wire.specs.declared.question.Question.TheVariants.{Ins, Outs, Restart, Wait}
use Rattle.usb_far.specs.{Far, Played, ToSend, attempt_done, call_done, done, hello_done}
use Rattle.usb_far.specs.{restart_done, wait_done, wanted_done}
use Rattle.usb_judge.specs.declared.plugged.PluggedDevice.{PluggedDevice}
use Rattle.usb_places.specs.{PlacesData, after_seen, finds, is_attempt, is_wait, plan_in, seen_at}
use Rattle.usb_places.specs.declared.seen.Deed.{Deed}
use Rattle.usb_places.specs.declared.seen.Deed.TheVariants as deed
use Rattle.usb_bench_laws.specs.{PlacedRun, asks, does, placed, sees}
use Rattle.usb_bench.specs.{AnyPlaced, DeedPlaced, deed_of, told_at, told_from}

-- the world is that of a placed run
pub record Runs (first p : PlacesData) (w : World) : Type 0 where
  pub steps : List Step
  pub placed : PlacedRun first p steps w

pub moved : (first p q : PlacesData) (v w : World) → q ≡ p → w ≡ v → Runs first p v
    → Runs first q w
moved first p q v w e h it =
    subst (λ (u : PlacesData). Runs first u w) (sym e)
    (subst (λ (x : World). Runs first p x) (sym h) it)

-- A deed is seen

one_or : (d : Deed) (p : PlacesData) (old : Played) (q : PlacesData) (new : Played)
    → DeedPlaced d p old q new → (b : Bool) → finds (seen_at old.far.world d) p ≡ b
    → new.far.world ≡ (if b then followed (plan_in (after_seen (seen_at old.far.world d) p))
    old.far.world else old.far.world)
one_or d p old q new it true e =
    ap (λ (f : Far). f.world) (it.found e).far
    ∙ ap (λ (x : PlacesData). followed (plan_in x) old.far.world) it.seen
one_or d p old q new it false e = ap (λ (x : Played). x.far.world) (it.other e)

deed_world : (d : Deed) (p : PlacesData) (old : Played) (q : PlacesData) (new : Played)
    → DeedPlaced d p old q new → new.far.world ≡ placed d p old.far.world
deed_world d p old q new it = one_or d p old q new it (finds (seen_at old.far.world d) p) refl

seen_runs : (d : Deed) (first p : PlacesData) (old : Played) (q : PlacesData) (new : Played)
    → Runs first p old.far.world → DeedPlaced d p old q new → Runs first q new.far.world
seen_runs d first p old q new it seen =
    moved first (after_seen (seen_at old.far.world d) p) q (placed d p old.far.world)
    new.far.world seen.seen (deed_world d p old q new seen)
    (record { steps = it.steps; placed = sees it.placed d })

-- It is done

done_runs : (s : Step) (first q : PlacesData) (w : World) → Runs first q w → Comes s w
    → Runs first q (after s w)
done_runs s first q w it comes =
    record { steps = it.steps ++ s ∷ []; placed = does it.placed s comes }

asked_runs : (first p : PlacesData) (old : Played) (q : PlacesData) (new : Played)
    → Runs first p old.far.world → DeedPlaced deed.Wait p old q new
    → Runs first q (after event new.far.world)
asked_runs first p old q new it seen =
    moved first (after_seen (seen_at old.far.world deed.Wait) p) q
    (after event (placed deed.Wait p old.far.world)) (after event new.far.world) seen.seen
    (ap (after event) (deed_world deed.Wait p old q new seen))
    (record { steps = it.steps ++ event ∷ []; placed = asks it.placed })

wanted_runs : (sending : Option ToSend) (first p : PlacesData) (old : Played) (q : PlacesData)
    (new : Played) → Runs first p old.far.world → DeedPlaced deed.Wait p old q new
    → Runs first q (wanted_done sending new.far.world).world
wanted_runs (Some s) first p old q new it seen = seen_runs deed.Wait first p old q new it seen
wanted_runs None first p old q new it seen = asked_runs first p old q new it seen

-- where the host is to look once more, nothing is done
wait_runs : (unseen : Bool) (first p : PlacesData) (old : Played) (q : PlacesData)
    (new : Played) → new.far.unseen ≡ unseen → Runs first p old.far.world
    → DeedPlaced deed.Wait p old q new → Runs first q (wait_done new.far).world
unfolding wait_done
wait_runs true first p old q new e it seen =
    rw e (seen_runs deed.Wait first p old q new it seen)
wait_runs false first p old q new e it seen =
    rw e (wanted_runs new.far.sending first p old q new it seen)

-- a question's deed is seen and done, by what it is
pub question_runs : (asked : Question) (plugged : List PluggedDevice) (first p : PlacesData)
    (old : Played) (q : PlacesData) (new : Played) → Runs first p old.far.world
    → AnyPlaced (deed_of plugged asked) p old q new → Runs first q (done asked new.far).world
unfolding hello_done restart_done attempt_done call_done
question_runs Hello plugged first p old q new it seen =
    moved first p q old.far.world new.far.world seen.0
    (ap (λ (x : Played). x.far.world) seen.1) it
question_runs (Setup speed endpoint setup) plugged first p old q new it seen =
    done_runs (attempt _) first q new.far.world (seen_runs _ first p old q new it seen) tt
question_runs (Out speed endpoint sent) plugged first p old q new it seen =
    done_runs (attempt _) first q new.far.world (seen_runs _ first p old q new it seen) tt
question_runs (In speed endpoint most) plugged first p old q new it seen =
    done_runs (attempt _) first q new.far.world (seen_runs _ first p old q new it seen) tt
question_runs (Ins speed endpoint most toggle packets) plugged first p old q new it seen =
    done_runs (attempt _) first q new.far.world (seen_runs _ first p old q new it seen) tt
question_runs (Outs speed endpoint most toggle bytes) plugged first p old q new it seen =
    done_runs (attempt _) first q new.far.world (seen_runs _ first p old q new it seen) tt
question_runs (Port number call) plugged first p old q new it seen =
    done_runs (root_call call number) first q new.far.world
    (seen_runs (deed.Call number call) first p old q new it seen) tt
question_runs (Restart endpoint is_in) plugged first p old q new it seen =
    moved first p q old.far.world new.far.world seen.0
    (ap (λ (x : Played). x.far.world) seen.1) it
question_runs Wait plugged first p old q new it seen =
    wait_runs new.far.unseen first p old q new refl it seen

-- Statuses are told, and each is seen

-- no place is found at any other deed (others_find_nothing)
abbrev pub NoneElse : Type 0
NoneElse = (p : PlacesData) (w : World) (d : Deed) → is_attempt d ≡ false → is_wait d ≡ false
    → finds (seen_at w d) p ≡ false

status_runs : NoneElse → (number : ℕ) (first p : PlacesData) (w : World) → Runs first p w
    → Runs first (after_seen (seen_at w (deed.Status number)) p) w
status_runs none number first p w it =
    subst (λ (b : Bool). Runs first (after_seen (seen_at w (deed.Status number)) p)
    (if b then followed (plan_in (after_seen (seen_at w (deed.Status number)) p)) w else w))
    (none p w (deed.Status number) refl refl)
    (record { steps = it.steps; placed = sees it.placed (deed.Status number) })

changed_runs : NoneElse → (same : Bool) (number : ℕ) (first p : PlacesData) (w : World)
    → Runs first p w
    → Runs first (if same then p else after_seen (seen_at w (deed.Status number)) p) w
changed_runs none true number first p w it = it
changed_runs none false number first p w it = status_runs none number first p w it

pub told_runs : NoneElse → (first : PlacesData) (w : World) (number : ℕ)
    (before now : List (List ℕ)) (p : PlacesData) → Runs first p w
    → Runs first (told_from w number before now p) w
unfolding told_from
told_runs none first w number [] now p it = it
told_runs none first w number (s ∷ before) [] p it = it
told_runs none first w number (s ∷ before) (t ∷ now) p it =
    told_runs none first w (number + 1) before now (told_at w number s t p)
    (changed_runs none (bytes_eq s t) number first p w it)
