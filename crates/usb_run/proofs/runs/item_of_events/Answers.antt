use Rattle.std.proofs.Common.{◌<◌, subst, ap, arith, Ok, is_some}
use Rattle.usb_world.specs.{to_come}
use Rattle.usb_run.specs.{Arrives, idle, asked, in_item, IsItemOf}
use Rattle.usb_run.proofs.endings.Ends.{error_runs_on}
use Rattle.usb_run.proofs.courses.KnowledgeKept.{ran_knows}
use Rattle.usb_run.proofs.items.Moments.{item_right}
use Rattle.usb_run.proofs.courses.RunParts.{does_spent, no_more_events, ran_silent, arrival_reaches}
use Rattle.usb_run.proofs.courses.RunParts.{spent_none, spent_then, stops_after}
use Rattle.usb_run.proofs.runs.item_of_events.Goals as goal

pub events-init : goal.events-init
events-init g c = record {
  running = c.requires.running;
  goes = λ s. idle;
  spent = spent_none c.args.host.now;
  owning = λ o. o;
}

pub returns-in_err-due-clause-on : goal.returns-in_err-due-clause-on
returns-in_err-due-clause-on g c =
    error_runs_on _ c.from_residual.result c.in_err-due.field-0.0 c.from_residual.ensures.1
    (λ s. let before = c.events.invariant.goes s in
    stops_after before (c.in_err-due.ensures.on.goes (ran_knows before s)))
    c.in_err-due.ensures.on.caused

pub returns-in_default-clause-on : goal.returns-in_default-clause-on
returns-in_default-clause-on g c = record {
  goes = λ s.
      let before = c.events.invariant.goes s in
      arrival_reaches before (subst (λ x. Arrives c.events.host (Ok x) c.next_due.new.host)
      c.in_default.is (c.in_ok-due.ensures.on.goes (ran_knows before s)));
  running = c.in_ok-due.ensures.on.running;
  caused = tt;
}

pub returns-in_err-item-clause-on : goal.returns-in_err-item-clause-on
returns-in_err-item-clause-on g c =
    error_runs_on _ c.from_residual-in_err-item.result c.in_err-item.field-0.0
    c.from_residual-in_err-item.ensures.1
    (λ s.
    let before = c.events.invariant.goes s in
    let arrives = subst (λ x. Arrives c.events.host (Ok x) c.next_due.new.host) c.in-Some.is
    (c.in_ok-due.ensures.on.goes (ran_knows before s)) in
    in_item c.in-Some.due (arrival_reaches before arrives) c.in_err-item.ensures.on.goes)
    c.in_err-item.ensures.on.caused

pub returns-in-Some-2-clause-on : goal.returns-in-Some-2-clause-on
returns-in-Some-2-clause-on g c = record {
  goes = λ s.
      let before = c.events.invariant.goes s in
      let arrives = subst (λ x. Arrives c.events.host (Ok x) c.next_due.new.host) c.in-Some.is
      (c.in_ok-due.ensures.on.goes (ran_knows before s)) in
      let reaches = arrival_reaches before arrives in
      let is = subst (λ x. IsItemOf c.in-Some.due x c.next_due.new.host c.item_of.new.host)
      c.in-Some-2.is c.in_ok-item.ensures.on.goes in
      asked c.in-Some.due reaches is (item_right c.in-Some.due c.in-Some-2.item _ _ _ reaches is);
  running = c.in_ok-item.ensures.on.running;
  caused = tt;
}

pub returns-in-Some-2-clause-fewer : goal.returns-in-Some-2-clause-fewer
returns-in-Some-2-clause-fewer g c = λ _.
    let fewer : to_come c.next_due.new.host.world < to_come c.events.host.world =
    c.in_ok-due.ensures.fewer (ap is_some c.in-Some.is) in
    omega (
      arith,
      fewer,
      no_more_events c.args.host.now c.events.host c.events.invariant.spent,
      no_more_events c.next_due.new.host c.item_of.new.host
          (does_spent c.in-Some.due _ _ c.item_of.result c.item_of.ensures.on.goes),
    )

pub events-preserved : goal.events-preserved
events-preserved g c = record {
  running = c.in_ok-item.ensures.on.running;
  goes = λ s.
      let before = c.events.invariant.goes s in
      let arrives = subst (λ x. Arrives c.events.host (Ok x) c.next_due.new.host) c.in-Some.is
      (c.in_ok-due.ensures.on.goes (ran_knows before s)) in
      ran_silent c.in-Some.due c.item_of.new.host before arrives
      (subst (λ x. IsItemOf c.in-Some.due x c.next_due.new.host c.item_of.new.host)
      c.in_default-2.is c.in_ok-item.ensures.on.goes);
  spent = spent_then c.args.host.now c.next_due.new.host c.item_of.new.host
      (spent_then c.args.host.now c.events.host c.next_due.new.host c.events.invariant.spent
      c.next_due.ensures.spent) (does_spent c.in-Some.due c.next_due.new.host c.item_of.new.host
      c.item_of.result c.item_of.ensures.on.goes);
  owning = λ o. c.item_of.ensures.owning (c.next_due.ensures.owning (c.events.invariant.owning o));
}

pub returns-in_err-due-clause-spent : goal.returns-in_err-due-clause-spent
returns-in_err-due-clause-spent g c = spent_then c.args.host.now c.events.host c.next_due.new.host
    c.events.invariant.spent c.next_due.ensures.spent

pub returns-in_default-clause-spent : goal.returns-in_default-clause-spent
returns-in_default-clause-spent g c = spent_then c.args.host.now c.events.host c.next_due.new.host
    c.events.invariant.spent c.next_due.ensures.spent

pub returns-in_err-item-clause-spent : goal.returns-in_err-item-clause-spent
returns-in_err-item-clause-spent g c =
    spent_then c.args.host.now c.next_due.new.host c.item_of.new.host
    (spent_then c.args.host.now c.events.host c.next_due.new.host c.events.invariant.spent
    c.next_due.ensures.spent) (does_spent c.in-Some.due c.next_due.new.host c.item_of.new.host
    c.item_of.result c.item_of.ensures.on.goes)

pub returns-in-Some-2-clause-spent : goal.returns-in-Some-2-clause-spent
returns-in-Some-2-clause-spent g c =
    spent_then c.args.host.now c.next_due.new.host c.item_of.new.host
    (spent_then c.args.host.now c.events.host c.next_due.new.host c.events.invariant.spent
    c.next_due.ensures.spent) (does_spent c.in-Some.due c.next_due.new.host c.item_of.new.host
    c.item_of.result c.item_of.ensures.on.goes)
