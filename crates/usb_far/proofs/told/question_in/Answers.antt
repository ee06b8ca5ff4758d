use Rattle.std.proofs.Common.{◌≡◌, ◌∙◌, Option, Some, None, inr, refl, sym, ap}
use Rattle.usb_wire.specs.{Question}
use Rattle.usb_far.specs.{may_ask}
use Rattle.usb_far.proofs.Lines.{only_one}
use Rattle.usb_far.proofs.told.question_in.Goals as goal

pub returns-then-may_ask-clause-asked : goal.returns-then-may_ask-clause-asked
returns-then-may_ask-clause-asked c = record {
  is = c.in-Some.ensures.asked.0;
  asks = c.in-Some.ensures.asked.1;
  may = sym c.may_ask.ensures ∙ c.if-may_ask.true;
}

pub returns-else-may_ask-clause-fault : goal.returns-else-may_ask-clause-fault
returns-else-may_ask-clause-fault c = inr (
  refl,
  sym c.all_printable.ensures ∙ c.if-not-all_printable.false,
  λ q is at. ap (may_ask c.args.phase)
      (only_one q c.in-Some.question (c.in-Some.ensures.only q is at))
      ∙ sym c.may_ask.ensures ∙ c.if-may_ask.false,
)

pub returns-in-None-clause-fault : goal.returns-in-None-clause-fault
returns-in-None-clause-fault c = inr (
  refl,
  sym c.all_printable.ensures ∙ c.if-not-all_printable.false,
  λ q may at. let found : ◌≡◌ {A = Option Question} None (Some q) =
      c.in-None.ensures.only q may at in cc,
)
