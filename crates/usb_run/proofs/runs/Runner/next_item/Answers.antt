use Rattle.std.proofs.Common.{◌≡◌, sym, subst, true, None, Ok, IsErrAnd}
use Rattle.usb_run.specs.{Reaches, Memory, Makes, NextAsked, in_last, last}
use Rattle.usb_run.proofs.items.Moments.{reaches_over}
use Rattle.usb_run.proofs.courses.RunParts.{few_events}
use Rattle.usb_run.proofs.items.Transcripts.{next_failed}
use Rattle.usb_run.proofs.runs.Runner.next_item.Goals as goal

pub invariant_of-self : goal.invariant_of-self
invariant_of-self g c =
    let old = c.args.self.now.host in
    let new = c.item_of_events.new.host in
    record {
      running = λ e. cc e;
      owning = c.item_of_events.ensures.owning c.args.self.now.owning;
      few_events = few_events old new c.item_of_events.ensures.spent c.args.self.now.few_events;
    }

pub invariant_of-self-in-Some : goal.invariant_of-self-in-Some
invariant_of-self-in-Some g c =
    let old = c.args.self.now.host in
    let new = c.item_of_events.new.host in
    record {
      running = λ _. c.in_ok-item.ensures.on.running;
      owning = c.item_of_events.ensures.owning c.args.self.now.owning;
      few_events = few_events old new c.item_of_events.ensures.spent c.args.self.now.few_events;
    }

pub invariant_of-self-in_default : goal.invariant_of-self-in_default
invariant_of-self-in_default g c =
    let old = c.args.self.now.host in
    let new = c.item_of_events.new.host in
    record {
      running = λ e. cc e;
      owning = c.item_of_events.ensures.owning c.args.self.now.owning;
      few_events = few_events old new c.item_of_events.ensures.spent c.args.self.now.few_events;
    }

pub returns-in_err-listing-clause-next : goal.returns-in_err-listing-clause-next
returns-in_err-listing-clause-next g c = λ knows.
    let old = c.args.self.now.host in
    let new = c.item_of_events.new.host in
    let reaches : Reaches old (Ok None) new = subst (λ x. NextAsked old (Ok x) new) c.in_default.is
    (c.in_ok-item.ensures.on.goes (knows c.if-self.false)) in
    next_failed _ c.from_residual-in_err-listing.result Memory
    (subst (λ f. IsErrAnd c.from_residual-in_err-listing.result (λ e. e ≡ f))
    c.in_err-listing.ensures.fault c.from_residual-in_err-listing.ensures.1) c.if-self.false
    (in_last reaches)

pub returns-in_err-item-clause-next : goal.returns-in_err-item-clause-next
returns-in_err-item-clause-next g c = λ knows.
    next_failed _ c.from_residual.result c.in_err-item.field-0.0 c.from_residual.ensures.1
    c.if-self.false (c.in_err-item.ensures.on.goes (knows c.if-self.false))

pub returns-in-Some-clause-next : goal.returns-in-Some-clause-next
returns-in-Some-clause-next g c = λ knows.
    let old = c.args.self.now.host in
    let new = c.item_of_events.new.host in (
      c.if-self.false,
      subst (λ x. NextAsked old (Ok x) new) c.in-Some.is
          (c.in_ok-item.ensures.on.goes (knows c.if-self.false)),
    )

pub returns-clause-next : goal.returns-clause-next
returns-clause-next g c = λ knows.
    let old = c.args.self.now.host in
    let new = c.item_of_events.new.host in
    let reaches : Reaches old (Ok None) new = subst (λ x. NextAsked old (Ok x) new) c.in_default.is
    (c.in_ok-item.ensures.on.goes (knows c.if-self.false)) in (
      c.if-self.false,
      subst (λ i. Makes old i true new) (sym c.in_ok-listing.ensures.item)
          (last reaches (reaches_over reaches)),
    )
