use Rattle.std.proofs.Common.{◌≡◌, ◌≢◌, ◌≤◌, ◌∙◌, rules, sym, ap, subst, true}
use denote.Enum.Bare.{sameb}
use Rattle.usb_world.specs.{World}
use Rattle.usb_host.specs.contracts.host.Round.{the_type}
use Rattle.usb_host.specs.{Round, Quiet}
use Rattle.usb_run.specs.{EndsSettling, none, more}
use Rattle.usb_run.proofs.endings.Ends.{error_runs_on}
use Rattle.usb_run.proofs.courses.KnowledgeKept.{settles_leaves}
use Rattle.usb_run.proofs.courses.RoundEnds.{rounds_fall}
use Rattle.usb_run.proofs.runs.settle.Goals.{else-eq-via-then-eq+else-events_taken-taken}
use Rattle.usb_run.proofs.runs.settle.Goals.{else-eq-via-else-eq}
use Rattle.usb_run.proofs.runs.settle.Goals as goal

pub rounds-init : goal.rounds-init
rounds-init g c = record { running = c.requires.running; goes = none; owning = λ o. o }

pub rounds-smaller : goal.rounds-smaller
rounds-smaller g c =
    let old = c.rounds.host in
    let new = c.round_of.new.host in
    let round = c.in_ok-round.round in
    let taken = λ (w : World). w.taken in
    let within : old.world.attempts ≤ old.world.limit =
    subst (λ (w : World). w.attempts ≤ w.limit) c.bus.ensures.world c.bus.result.now.within in
    let other : round ≡ Quiet → new.world.taken ≢ old.world.taken =
    elim c.else-eq.branch [
      | else-eq-via-then-eq+else-events_taken-taken w ↦
          λ _ e. w.if-events_taken-taken.false (w.events_taken.ensures
          ∙ ap taken w.bus-then-eq.ensures.world ∙ e ∙ sym (ap taken c.bus.ensures.world)
          ∙ sym c.events_taken-taken.ensures)
      | else-eq-via-else-eq w ↦ λ e. let same : sameb the_type round Quiet ≡ true =
          ap (λ (r : Round). sameb the_type r Quiet) e in cc
    ] in
    rounds_fall old new round c.in_ok-round.ensures.on.goes within other

pub rounds-preserved : goal.rounds-preserved
rounds-preserved g c =
    let old = c.rounds.host in
    let new = c.round_of.new.host in
    let round = c.in_ok-round.round in
    let taken = λ (w : World). w.taken in
    let other : round ≡ Quiet → new.world.taken ≢ old.world.taken =
    elim c.else-eq.branch [
      | else-eq-via-then-eq+else-events_taken-taken w ↦
          λ _ e. w.if-events_taken-taken.false (w.events_taken.ensures
          ∙ ap taken w.bus-then-eq.ensures.world ∙ e ∙ sym (ap taken c.bus.ensures.world)
          ∙ sym c.events_taken-taken.ensures)
      | else-eq-via-else-eq w ↦ λ e. let same : sameb the_type round Quiet ≡ true =
          ap (λ (r : Round). sameb the_type r Quiet) e in cc
    ] in
    record {
      running = c.in_ok-round.ensures.on.running;
      goes = more round c.rounds.invariant.goes c.in_ok-round.ensures.on.goes
          (λ (e : EndsSettling round old new). other e.quiet e.none);
      owning = λ o. c.round_of.ensures.owning (c.rounds.invariant.owning o);
    }

pub returns-in_err-round-clause-on : goal.returns-in_err-round-clause-on
returns-in_err-round-clause-on g c =
    error_runs_on _ c.from_residual.result c.in_err-round.field-0.0 c.from_residual.ensures.1
    (record {
      before = c.rounds.host;
      rounds = c.rounds.invariant.goes;
      last = c.in_err-round.ensures.on.goes;
    })
    c.in_err-round.ensures.on.caused

pub returns-then-events_taken-taken-clause-on : goal.returns-then-events_taken-taken-clause-on
returns-then-events_taken-taken-clause-on g c =
    let old = c.rounds.host in
    let new = c.round_of.new.host in
    let round = c.in_ok-round.round in
    let taken = λ (w : World). w.taken in
    let quiet : round ≡ Quiet = search rules in
    let none : new.world.taken ≡ old.world.taken =
    sym (c.events_taken.ensures ∙ ap taken c.bus-then-eq.ensures.world)
    ∙ c.if-events_taken-taken.true ∙ c.events_taken-taken.ensures
    ∙ ap taken c.bus.ensures.world in
    record {
      goes = record {
        before = old;
        rounds = c.rounds.invariant.goes;
        round = round;
        last = c.in_ok-round.ensures.on.goes;
        ends = record { quiet = quiet; none = none };
      };
      running = c.in_ok-round.ensures.on.running;
      caused = tt;
    }

pub returns-then-events_taken-taken-clause-leaves :
    goal.returns-then-events_taken-taken-clause-leaves
returns-then-events_taken-taken-clause-leaves g c =
    let settles = (returns-then-events_taken-taken-clause-on g c).goes in
    settles_leaves c.args.host.now c.round_of.new.host settles
