-- A number that bounds the attempts of each part of a run bounds those of the whole.
use Rattle.std.proofs.Common.{◌≡◌, ◌≤◌, ℕ, refl, sym, subst, List, Bool, false, Option, None, Some}
use Rattle.std.proofs.Common.{Result, Ok, Err}
use Rattle.usb_world.specs.declared.event.Ask.{Ask}
use Rattle.usb_world.specs.{BusFault}
use Rattle.usb_host.specs.{HostFault, Round, HostState, RoundTells}
use Rattle.usb_run.specs.{Item, RunFault, Mode, Arrives, Comes, EndsSettling, Ran, idle, silent}
use Rattle.usb_run.specs.{Reaches, Rounds, none, more, Settles, Unsettled, AppendsText, CutsText}
use Rattle.usb_run.specs.{Makes, asked, last, RunsTo, StoppedRun, behind, on_the_way, unwritten}
use Rattle.usb_run.specs.{in_text, RunStops, in_round, at_event, in_item, in_last, begun, told}
use Rattle.usb_run.specs.{IsItemOf, StopsAt}
use Rattle.usb_run.specs.Transcript.{Transcript}

-- at most so many attempts were made
abbrev pub Few : ℕ → HostState → Type 0
Few most h = h.world.attempts ≤ most

-- what is so of a host between the parts of a run (`At`), where it has settled (`Rest`) and behind
-- an event (`Behind`), and that its attempts are few throughout
pub record Carries (most : ℕ) (At Rest : HostState → Type 0) (Behind : Option Ask → HostState
    → Type 0) : Type 0 where
  pub few : (a : HostState) → At a → Few most a
  pub goes : (a b : HostState) (round : Round) → At a → RoundTells a (Ok round) b
      → (EndsSettling round a b → ⊥) → At b
  pub settles : (a b : HostState) (round : Round) → At a → RoundTells a (Ok round) b
      → EndsSettling round a b → Rest b
  pub fails : (a b : HostState) (why : HostFault) → At a → RoundTells a (Err why) b → Few most b
  pub comes : (a b : HostState) (due : Option Ask) → Rest a → Comes a (Ok (Some due)) b
      → Behind due b
  pub ends : (a b : HostState) (result : Result (Option (Option Ask)) BusFault) → Rest a
      → Comes a result b → Few most b
  pub answers : (a b : HostState) (due : Option Ask) (item : Option Item) → Behind due a
      → IsItemOf due item a b → At b
  pub stops : (a b : HostState) (due : Option Ask) (fault : RunFault) → Behind due a
      → StopsAt due fault a b → Few most b
  pub writes : (a : HostState) (trace : Option (List ℕ)) → At a → At (record a { trace = trace })

module _ (most : ℕ) (At Rest : HostState → Type 0) (Behind : Option Ask → HostState → Type 0)
    (k : Carries most At Rest Behind) where
  rounds_at : {a b : HostState} → Rounds a b → At a → At b
  rounds_at none h = h
  rounds_at (more {h = m} {k = n} round before tells goes) h =
      k.goes m n round (rounds_at before h) tells goes

  settles_rest : {a b : HostState} → Settles a b → At a → Rest b
  settles_rest {a} {b} settles h = k.settles settles.before b settles.round
      (rounds_at settles.rounds h) settles.last settles.ends

  unsettled_few : {a b : HostState} {fault : RunFault} → Unsettled a fault b → At a → Few most b
  unsettled_few {a} {b} unsettled h = k.fails unsettled.before b unsettled.last.why
      (rounds_at unsettled.rounds h) unsettled.last.tells

  arrives_behind : {a b : HostState} {due : Option Ask} → Arrives a (Ok (Some due)) b → At a
      → Behind due b
  arrives_behind {a} {b} {due} arrives h =
      k.comes arrives.mid b due (settles_rest arrives.settles h) arrives.comes

  arrives_few : {a b : HostState} {result : Result (Option (Option Ask)) BusFault}
      → Arrives a result b → At a → Few most b
  arrives_few {a} {b} {result} arrives h =
      k.ends arrives.mid b result (settles_rest arrives.settles h) arrives.comes

  ran_at : {a b : HostState} → Ran a b → At a → At b
  ran_at idle h = h
  ran_at (silent {h = m} {k = n} due before arrives is) h =
      k.answers n n due None (arrives_behind arrives (ran_at before h)) is

  reaches_behind : {a b : HostState} {due : Option Ask} → Reaches a (Ok (Some due)) b → At a
      → Behind due b
  reaches_behind reaches h = arrives_behind reaches.arrives (ran_at reaches.ran h)

  reaches_few : {a b : HostState} {result : Result (Option (Option Ask)) BusFault}
      → Reaches a result b → At a → Few most b
  reaches_few reaches h = arrives_few reaches.arrives (ran_at reaches.ran h)

  makes_at : {a b : HostState} {item : Item} {over : Bool} → Makes a item over b → over ≡ false
      → At a → At b
  makes_at (asked {item} {mid} {new} due reaches is right) e h =
      k.answers mid new due (Some item) (reaches_behind reaches h) is
  makes_at (last reaches settled) e h = absurd (cc e)

  makes_few : {a b : HostState} {item : Item} {over : Bool} → Makes a item over b → At a
      → Few most b
  makes_few (asked {item} {mid} {new} due reaches is right) h =
      k.few new (k.answers mid new due (Some item) (reaches_behind reaches h) is)
  makes_few (last reaches settled) h = reaches_few reaches h

  stops_few : {a b : HostState} {fault : RunFault} → RunStops a fault b → At a → Few most b
  stops_few (in_round ran unsettled) h = unsettled_few unsettled (ran_at ran h)
  stops_few (at_event fault reaches) h = reaches_few reaches h
  stops_few (in_item {mid} {new} {fault} due reaches stops) h =
      k.stops mid new due fault (reaches_behind reaches h) stops
  stops_few (in_last reaches) h = reaches_few reaches h

  puts_at : {a b : HostState} {text : List ℕ} → AppendsText text a b → At a → At b
  puts_at {a} {b} puts h = subst At (sym puts.rest) (k.writes a b.trace h)

  puts_few : {a b : HostState} {text : List ℕ} → AppendsText text a b → Few most a → Few most b
  puts_few puts h = subst (Few most) (sym puts.rest) h

  cuts_few : {a b : HostState} {text : List ℕ} → CutsText text a b → Few most a → Few most b
  cuts_few cuts h = subst (Few most) (sym cuts.rest) h

  transcript_at : {mode : Mode} {was : Bool} {old : HostState} {items : List Item} {over : Bool}
      {new : HostState} → Transcript mode was old items over new → over ≡ false → At old → At new
  transcript_at begun e h = h
  transcript_at (told t makes puts) e h = puts_at puts (makes_at makes e (transcript_at t refl h))

  transcript_few : {mode : Mode} {was : Bool} {old : HostState} {items : List Item} {over : Bool}
      {new : HostState} → Transcript mode was old items over new → At old → Few most new
  transcript_few {old = old} begun h = k.few old h
  transcript_few (told t makes puts) h = puts_few puts (makes_few makes (transcript_at t refl h))

  stopped_few : {mode : Mode} {IsOf : RunFault → Type 0} {IsCut : Type 0} {was : Bool}
      {old : HostState} {items : List Item} {new : HostState}
      → StoppedRun mode IsOf IsCut was old items new → At old → Few most new
  stopped_few (on_the_way of t stops) h = stops_few stops (transcript_at t refl h)
  stopped_few (unwritten whole t makes) h = makes_few makes (transcript_at t refl h)
  stopped_few (behind whole t) h = transcript_few t h
  stopped_few (in_text cut t makes cuts) h =
      cuts_few cuts (makes_few makes (transcript_at t refl h))

  pub run_few : {A E : Type 0} (mode : Mode) (words : RunFault → E) (CutsAt : E → Type 0)
      (was : Bool) (old : HostState) (items : List Item) (result : Result A E) (new : HostState)
      → RunsTo mode words CutsAt was old items result new → At old → Few most new
  run_few mode words CutsAt was old items (Ok done) new t h = transcript_few t h
  run_few mode words CutsAt was old items (Err fault) new s h = stopped_few s h
