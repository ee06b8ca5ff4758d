use Rattle.std.proofs.Common.{◌+◌, ◌∙◌, Some, ap, arith, subst, sym}
use Rattle.usb_judge.proofs.Places.{Upto, upto_no, upto_none_in, upto_some_in, upto_start, upto_yes}
use Rattle.usb_judge.proofs.window.Window.narrow.Goals as goal
use Rattle.usb_judge.proofs.window.Window.narrow.Goals.{else-goes_on, then-goes_on}

pub places-init : goal.places-init
places-init c = upto_start c.args.source.now c.args.bytes.now c.args.self

pub places-preserved : goal.places-preserved
places-preserved c = elim c.if-goes_on.branch [
  | then-goes_on w ↦
      subst
      (λ found. Upto c.args.source.now c.args.bytes.now c.args.self (c.places.place + 1) found)
      (sym (w.narrow-is ∙ ap (λ next. Some next) w.with_place.ensures))
      (upto_yes c.args.source.now c.args.bytes.now c.args.self c.places.place c.places.narrow
      c.places.invariant c.places.auto.place (omega (arith, c.places-test.true, c.min-end.ensures))
      (sym c.goes_on.ensures ∙ w.if-goes_on.true))
  | else-goes_on w ↦
      subst
      (λ found. Upto c.args.source.now c.args.bytes.now c.args.self (c.places.place + 1) found)
      (sym w.narrow-is)
      (upto_no c.args.source.now c.args.bytes.now c.args.self c.places.place c.places.narrow
      c.places.invariant (sym c.goes_on.ensures ∙ w.if-goes_on.false))
]

pub returns-clause-some : goal.returns-clause-some
returns-clause-some c = upto_some_in c.args.source.now c.args.bytes.now c.args.self c.places.place
    c.places.narrow c.places.invariant (omega (arith, c.places-test.false, c.min-end.ensures))

pub returns-clause-none : goal.returns-clause-none
returns-clause-none c = upto_none_in c.args.source.now c.args.bytes.now c.args.self c.places.place
    c.places.narrow c.places.invariant (omega (arith, c.places-test.false, c.min-end.ensures))
