use Rattle.std.proofs.Common.{◌≡◌, ap, sym, ◌∙◌, [], refl}
use Rattle.usb_plan.proofs.Places.{first_through_range, first_of-found}
use Rattle.usb_plan.proofs.plugged.Plugged.first_through.Goals as goal

pub returns-in_err-place : goal.returns-in_err-place
returns-in_err-place c =
    let found = first_of-found c.args.path.now c.duplicate.result c.self.inside.places.entries
    c.args.self.now c.range.result c.duplicate.ensures c.self.view_is c.range.ensures.ordered
    (c.range.ensures.between tt) in
    let none : c.range.result ≡ [] = c.in_err-place.ensures.steps.0 in
    c.from_residual.ensures ∙ (sym (ap (first_through_range c.args.path.now) none) ∙ found)

pub returns-then-goes_through : goal.returns-then-goes_through
returns-then-goes_through c =
    let found = first_of-found c.args.path.now c.duplicate.result c.self.inside.places.entries
    c.args.self.now c.range.result c.duplicate.ensures c.self.view_is c.range.ensures.ordered
    (c.range.ensures.between tt) in
    rw (
      c.duplicate-then-goes_through.ensures,
      ← found,
      c.in_ok-place.ensures.steps,
      ← c.if-goes_through.ensures,
    ) refl

pub returns-else-goes_through : goal.returns-else-goes_through
returns-else-goes_through c =
    let found = first_of-found c.args.path.now c.duplicate.result c.self.inside.places.entries
    c.args.self.now c.range.result c.duplicate.ensures c.self.view_is c.range.ensures.ordered
    (c.range.ensures.between tt) in
    rw (← found, c.in_ok-place.ensures.steps, ← c.if-goes_through.ensures) refl
