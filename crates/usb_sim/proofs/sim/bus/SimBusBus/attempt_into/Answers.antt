use Rattle.std.proofs.Common.{rules, refl, sym, ap, subst}
use Rattle.std.proofs.lemmas.Result.{err_from_is_err_and}
use Rattle.usb_world.specs.{Destination, FitsMaximum, attempt_data}
use Rattle.usb_bus.specs.{outcome_with}
use Rattle.usb_sim.specs.{world_of}
use Rattle.usb_sim.proofs.Endings.{after_fault, after-limit, again_attempts, limit_attempts}
use Rattle.usb_sim.proofs.Endings.{cut_attempts, made_attempts, never_limit}
use Rattle.usb_sim.proofs.sim.bus.SimBusBus.attempt_into.Goals as goal

pub returns-in-Some-clause-attempts : goal.returns-in-Some-clause-attempts
returns-in-Some-clause-attempts g c = again_attempts
    (attempt_data c.args.attempt.now) (world_of c.args.self.now) _
    c.in-Some.fault (sym c.in-Some.is) c.args.self.now.at_limit

pub returns-in-Some-clause-leaves : goal.returns-in-Some-clause-leaves
returns-in-Some-clause-leaves g c = record {
  answered = tt;
  limit = λ _. (
    after_fault (attempt_data c.args.attempt.now) (world_of c.args.self.now) c.in-Some.fault
        c.in-Some.is,
    refl,
  );
  again = λ _. refl;
  failed = λ _ none. absurd (cc (c.in-Some.is, none));
}

pub returns-then-self-clause-attempts : goal.returns-then-self-clause-attempts
returns-then-self-clause-attempts g c = limit_attempts
    (attempt_data c.args.attempt.now) (world_of c.args.self.now)
    _ c.in_default.is c.if-self.true

pub returns-then-self-clause-leaves : goal.returns-then-self-clause-leaves
returns-then-self-clause-leaves g c = record {
  answered = tt;
  limit = λ _. (
    after-limit (attempt_data c.args.attempt.now) (world_of c.args.self.now) c.in_default.is
        c.if-self.true,
    refl,
  );
  again = search rules;
  failed = λ e. absurd (cc e);
}

pub returns-in_err-make_attempt-clause-attempts : goal.returns-in_err-make_attempt-clause-attempts
returns-in_err-make_attempt-clause-attempts g c =
    let told = err_from_is_err_and c.from_residual.result c.from_residual.ensures.1 in
    rw (told.1, told.2) (cut_attempts (attempt_data c.args.attempt.now) _ _
    (world_of c.args.self.now) (world_of c.make_attempt.new.self) _ _ c.in_default.is
    c.if-self.false c.in_err-make_attempt.ensures.made)

pub returns-in_err-make_attempt-clause-leaves : goal.returns-in_err-make_attempt-clause-leaves
returns-in_err-make_attempt-clause-leaves g c =
    let told = err_from_is_err_and c.from_residual.result c.from_residual.ensures.1 in
    rw (told.1, told.2) (record {
      answered = tt;
      limit = never_limit _ c.in_err-make_attempt.ensures.made.other;
      again = search rules;
      failed = λ e none. c.in_err-make_attempt.ensures.trace (cc e);
    })

pub returns-clause-attempts : goal.returns-clause-attempts
returns-clause-attempts g c =
    let a = attempt_data c.args.attempt.now in
    let max = ap (λ (d : Destination). d.max) c.destination-max.ensures in
    let got = outcome_with c.put_outcome.result c.put_outcome.new.room in
    made_attempts a got (world_of c.args.self.now)
    (world_of c.make_attempt.new.self) _ _ c.in_default.is c.if-self.false
    (subst (λ n. FitsMaximum n got) max c.put_outcome.ensures.fits)
    (rw (c.put_outcome.ensures.value, max) c.in_ok-make_attempt.ensures.made)

pub returns-clause-leaves : goal.returns-clause-leaves
returns-clause-leaves g c = record {
  answered = c.in_ok-make_attempt.ensures.answered;
  limit = λ e. absurd (cc e);
  again = search rules;
  failed = λ e. absurd (cc e);
}
