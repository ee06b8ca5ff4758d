-- What holds over each step of a run holds over its parts. As long as the bus is at work, what went
-- over a run is a course of steps; whether it is or not, address losses only grow.
use Rattle.std.proofs.Common.{◌≡◌, ◌+◌, arith, ℕ, List, Bool, Option, None, Some, Result, Ok, Err}
use Rattle.std.proofs.Common.{ap, sym, subst, refl, is_some}
use Rattle.usb_world.specs.declared.event.Ask.{Ask}
use Rattle.usb_world.specs.{Attempt, BusFault, Failed, Limit, Memory, Outcome, AnyStep}
use Rattle.usb_world.specs.{AttemptsWithin, Course, here, step, attempt, root_call, event, after}
use Rattle.usb_world.specs.{World}
use Rattle.usb_world.proofs.Interface.{course_joined, over_step, spends_none, spends_then}
use Rattle.usb_bus.specs.{Attempts, TakesEvent, Traced, still, attempted, called}
use Rattle.usb_bus.proofs.Interface.{OverFaults, over_traced}
use Rattle.usb_host.specs.{HostState}
use Rattle.usb_run.specs.{Item, RunFault, Mode, Arrives, Comes, Ran, idle, silent, Reaches, Settles}
use Rattle.usb_run.specs.{Makes, asked, last, RunStops, in_round, at_event, in_item, in_last}
use Rattle.usb_run.specs.{AppendsText, CutsText, RunsTo, StoppedRun, begun, behind, in_text}
use Rattle.usb_run.specs.{on_the_way, told, unwritten}
use Rattle.usb_run.specs.Transcript.{Transcript}
use Rattle.usb_run.proofs.courses.RunParts.{Called, called_spent, item_called, settles_called}
use Rattle.usb_run.proofs.courses.RunParts.{stop_called, unsettled_called}
use Rattle.usb_enum.proofs.Interface.{IsWorse, sound_before, worse_steps}

-- Relations

-- a relation that each world has to itself, that joins, and that holds over calls of the host, over
-- an event, and where a line was not written whole
pub record OverRuns (R : World → World → Type 0) : Type 0 where
  pub same : (w : World) → R w w
  pub joined : (w m v : World) → R w m → R m v → R w v
  pub called : (a b : HostState) → Called a b → R a.world b.world
  pub took : (w v : World) (result : Result (Option (Option Ask)) BusFault)
      {t s : Option (List ℕ)} → TakesEvent w t result v s → R w v
  pub cut : (w v : World) → v ≡ record w { fault = v.fault } → (v.fault ≡ None → v ≡ w) → R w v

module _ {R : World → World → Type 0} (l : OverRuns R) where
  over_called : {a b : HostState} → Called a b → R a.world b.world
  over_called {a} {b} calls = l.called a b calls

  over_comes : {a b : HostState} {result : Result (Option (Option Ask)) BusFault}
      → Comes a result b → R a.world b.world
  over_comes {a} {b} {result} comes = l.took a.world b.world result comes.takes

  over_settles : {a b : HostState} → Settles a b → R a.world b.world
  over_settles settles = over_called (settles_called settles)

  over_arrives : {a b : HostState} {result : Result (Option (Option Ask)) BusFault}
      → Arrives a result b → R a.world b.world
  over_arrives {a} {b} arrives = l.joined a.world arrives.mid.world b.world
      (over_settles arrives.settles) (over_comes arrives.comes)

  over_ran : {a b : HostState} → Ran a b → R a.world b.world
  over_ran {a} idle = l.same a.world
  over_ran {a} (silent {h} {k} due before arrives is) =
      l.joined a.world h.world k.world (over_ran before) (over_arrives arrives)

  over_reaches : {a b : HostState} {result : Result (Option (Option Ask)) BusFault}
      → Reaches a result b → R a.world b.world
  over_reaches {a} {b} reaches = l.joined a.world reaches.behind.world b.world
      (over_ran reaches.ran) (over_arrives reaches.arrives)

  pub over_makes : {a b : HostState} {item : Item} {over : Bool} → Makes a item over b
      → R a.world b.world
  over_makes {a} (asked {item} {mid} {new} due reaches is right) =
      l.joined a.world mid.world new.world (over_reaches reaches)
      (over_called (item_called due (Some item) mid new is))
  over_makes (last reaches settled) = over_reaches reaches

  pub over_stops : {a b : HostState} {fault : RunFault} → RunStops a fault b → R a.world b.world
  over_stops {a} (in_round {behind} {new} ran unsettled) =
      l.joined a.world behind.world new.world (over_ran ran)
      (over_called (unsettled_called unsettled))
  over_stops (at_event fault reaches) = over_reaches reaches
  over_stops {a} (in_item {mid} {new} {fault} due reaches stops) =
      l.joined a.world mid.world new.world (over_reaches reaches)
      (over_called (stop_called due fault mid new stops))
  over_stops (in_last reaches) = over_reaches reaches

  pub over_puts : {h k : HostState} {text : List ℕ} → AppendsText text h k → R h.world k.world
  over_puts {h} puts = subst (R h.world) (sym (ap (λ (x : HostState). x.world) puts.rest))
      (l.same h.world)

  pub over_cuts : {h k : HostState} {text : List ℕ} → CutsText text h k → R h.world k.world
  over_cuts {h} {k} cuts = l.cut h.world k.world (ap (λ (x : HostState). x.world) cuts.rest)
      cuts.still

  -- a run up to its last world
  pub over_transcript : {mode : Mode} {was : Bool} {old : HostState} {items : List Item}
      {over : Bool} {new : HostState} → Transcript mode was old items over new
      → R old.world new.world
  over_transcript {old = old} begun = l.same old.world
  over_transcript {old = old} (told {h = h} {k = k} {new = new} t makes puts) =
      l.joined old.world h.world new.world (over_transcript t)
      (l.joined h.world k.world new.world (over_makes makes) (over_puts puts))

  over_stopped : {mode : Mode} {IsOf : RunFault → Type 0} {IsCut : Type 0} {was : Bool}
      {old : HostState} {items : List Item} {new : HostState}
      → StoppedRun mode IsOf IsCut was old items new → R old.world new.world
  over_stopped {old = old} (on_the_way {h = h} {new = new} of t stops) =
      l.joined old.world h.world new.world (over_transcript t) (over_stops stops)
  over_stopped {old = old} (unwritten {h = h} {new = new} whole t makes) =
      l.joined old.world h.world new.world (over_transcript t) (over_makes makes)
  over_stopped (behind whole t) = over_transcript t
  over_stopped {old = old} (in_text {h = h} {k = k} {new = new} cut t makes cuts) =
      l.joined old.world h.world new.world (over_transcript t)
      (l.joined h.world k.world new.world (over_makes makes) (over_cuts cuts))

  pub over_run : {A E : Type 0} (mode : Mode) (words : RunFault → E) (CutsAt : E → Type 0)
      (was : Bool) (old : HostState) (items : List Item) (result : Result A E) (new : HostState)
      → RunsTo mode words CutsAt was old items result new → R old.world new.world
  over_run mode words CutsAt was old items (Ok done) new t = over_transcript t
  over_run mode words CutsAt was old items (Err fault) new t = over_stopped t

-- Counts

-- attempts were made within the limit, and no event was added
abbrev pub SpentBetween : World → World → Type 0
SpentBetween w v = (n : ℕ) × AttemptsWithin n w v

spends_fault : (w : World) (fault : Option BusFault)
    → AttemptsWithin 0 w (record w { fault = fault })
spends_fault w fault = grind arith

pub spent_runs : OverRuns SpentBetween
spent_runs = record {
  same = λ w. (0, spends_none w);
  joined = λ w m v x y. (x.0 + y.0, spends_then x.0 y.0 w m v x.1 y.1);
  called = λ a b calls. called_spent calls;
  took = λ w v result takes. (0, takes.took.spends);
  cut = λ w v rest still. (0, subst (AttemptsWithin 0 w) (sym rest) (spends_fault w v.fault));
}

-- As long as the bus is at work

-- the bus was at work, and these were its steps
pub record Running (old new : World) : Type 0 where
  pub sound : old.fault ≡ None
  pub course : Course AnyStep old new

-- so it was, where it is at work in the end
abbrev pub RunsOnward : World → World → Type 0
RunsOnward w v = v.fault ≡ None → Running w v

pub runs_onward_none : (w : World) → RunsOnward w w
runs_onward_none w h = record { sound = h; course = here w }

pub onward_then : (w m v : World) → RunsOnward w m → RunsOnward m v → RunsOnward w v
onward_then w m v x y h = let late = y h in let early = x late.sound in
    record { sound = early.sound; course = course_joined early.course late.course }

attempt_onward : (a : Attempt) (w v : World) (result : Result Outcome BusFault)
    {t s : Option (List ℕ)} → Attempts a w t result v s → RunsOnward w v
attempt_onward a w v (Ok outcome) made h =
    record {
      sound = sound_before w v (Ok outcome) h made.counts.again;
      course =
          subst (Course AnyStep w) (sym made.exact)
          (step (attempt a) tt (here (after (attempt a) w)));
    }
attempt_onward a w v (Err fault) made h = absurd (cc (h, made.counts.ends.told))

pub traced_runs_onward : {w : World} {t : Option (List ℕ)} {v : World} {s : Option (List ℕ)}
    → Traced w t v s → RunsOnward w v
unfolding after
traced_runs_onward {w} still h = runs_onward_none w h
traced_runs_onward {w} (attempted {w = m} {v = v} a result fits before made) h =
    onward_then w m v (traced_runs_onward before) (attempt_onward a m v result made) h
traced_runs_onward {w} (called {w = m} c port before) h =
    let work = traced_runs_onward before h in
    record {
      sound = work.sound;
      course =
          course_joined work.course (step (root_call c port) tt
          (here (after (root_call c port) m)));
    }

pub takes_onward : (w v : World) (result : Result (Option (Option Ask)) BusFault)
    {t s : Option (List ℕ)} → TakesEvent w t result v s → RunsOnward w v
takes_onward w v (Ok due) takes h =
    record {
      sound = sound_before w v (Ok due) h takes.took.again;
      course = subst (Course AnyStep w) (sym takes.exact) (step event tt (here (after event w)));
    }
takes_onward w v (Err fault) takes h = absurd (cc (h, takes.took.ends.told))

pub onward_runs : OverRuns RunsOnward
onward_runs = record {
  same = runs_onward_none;
  joined = onward_then;
  called = λ a b calls. traced_runs_onward calls.went.traced;
  took = λ w v result takes. takes_onward w v result takes;
  cut = λ w v rest still none. subst (RunsOnward w) (sym (still none)) (runs_onward_none w) none;
}

abbrev pub KeepsRunning : HostState → HostState → Type 0
KeepsRunning old new = RunsOnward old.world new.world

pub called_onward : {a b : HostState} → Called a b → KeepsRunning a b
called_onward calls = over_called onward_runs calls

pub comes_onward : {a b : HostState} {result : Result (Option (Option Ask)) BusFault}
    → Comes a result b → KeepsRunning a b
comes_onward comes = over_comes onward_runs comes

pub settles_onward : {a b : HostState} → Settles a b → KeepsRunning a b
settles_onward settles = over_settles onward_runs settles

pub puts_onward : {h k : HostState} {text : List ℕ} → AppendsText text h k → KeepsRunning h k
puts_onward puts = over_puts onward_runs puts

-- Whatever became of the bus

worse_faults : OverFaults IsWorse
worse_faults = record {
  steps = worse_steps;
  cut = λ k w. omega arith;
  told = λ fault w. omega arith;
}

worse_same : (w v : World) → v ≡ w → IsWorse w v
worse_same w v same = subst (IsWorse w) (sym same) (omega arith)

worse_told : (fault : BusFault) (w v : World) → v ≡ record w { fault = Some fault } → IsWorse w v
worse_told fault w v same = subst (IsWorse w) (sym same) (omega arith)

worse_event : (w : World) → IsWorse w (after event w)
worse_event w = over_step worse_steps event w tt

worse_took : (w v : World) (result : Result (Option (Option Ask)) BusFault)
    {t s : Option (List ℕ)} → TakesEvent w t result v s → IsWorse w v
worse_took w v (Ok due) takes = subst (IsWorse w) (sym takes.exact) (worse_event w)
worse_took w v (Err fault) {t} {s} takes = split w.fault refl fault takes
  where
    failed : (fault : BusFault) → TakesEvent w t (Err fault) v s → w.fault ≡ None → IsWorse w v
    failed Limit takes none = absurd (cc (ap is_some none, takes.limit refl))
    failed Memory takes none = worse_told Memory w v (takes.kept refl none)
    failed Failed takes none =
        let came = worse_event w in
        subst (IsWorse w) (sym (takes.cut refl none)) came

    split : (x : Option BusFault) → w.fault ≡ x → (fault : BusFault)
        → TakesEvent w t (Err fault) v s → IsWorse w v
    split None e fault takes = failed fault takes e
    split (Some before) e fault takes = worse_same w v (takes.took.again before e).1

pub worse_runs : OverRuns IsWorse
worse_runs = record {
  same = λ w. omega arith;
  joined = λ w m v x y. omega (arith, x, y);
  called = λ a b calls. over_traced worse_faults calls.went.traced;
  took = λ w v result takes. worse_took w v result takes;
  cut = λ w v rest still. subst (IsWorse w) (sym rest) (omega arith);
}
