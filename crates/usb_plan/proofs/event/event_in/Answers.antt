use Rattle.std.proofs.Common.{◌≡◌, Some, refl, sym, ap, arith, ◌∙◌, option_map}
use Rattle.std.proofs.lemmas.Grind.{common_steps}
use Rattle.toml.specs.View.{table_view}
use Rattle.usb_plan.specs.{no_when}
use Rattle.usb_plan.proofs.MemoryRefusals.{unless_handed}
use Rattle.usb_plan.proofs.GivenKeys.{event_in_refused, event_in_far, event_in_given}
use Rattle.usb_plan.proofs.event.event_in.Goals as goal

pub returns-in_err-verb : goal.returns-in_err-verb
returns-in_err-verb c =
    let some : option_map (λ t. table_view t.now) c.args.table
    ≡ Some (table_view c.in_ok-table.table.now) = grind (arith, common_steps) in
    let refused = event_in_refused c.args.scene.now c.args.count
    (table_view c.in_ok-table.table.now) _ c.in_err-verb.field-0.0 c.of-members.ensures
    (sym c.verb_at.ensures ∙ c.in_err-verb.was) in
    rw (some, refused) (unless_handed _ _ _ c.in_err-verb.field-0.0
    c.from_residual-in_err-verb.ensures.1 (λ _. refl))

pub returns-in_err-no_when : goal.returns-in_err-no_when
returns-in_err-no_when c =
    let some : option_map (λ t. table_view t.now) c.args.table
    ≡ Some (table_view c.in_ok-table.table.now) = grind (arith, common_steps) in
    let far = event_in_far c.args.scene.now c.args.count (table_view c.in_ok-table.table.now) _
    c.in_ok-verb.verb c.in_err-no_when.field-0.0 c.of-members.ensures
    (sym c.verb_at.ensures ∙ c.in_ok-verb.was)
    (ap no_when (sym c.value_at.ensures) ∙ (sym c.no_when.ensures ∙ c.in_err-no_when.was)) in
    rw (some, far) (unless_handed _ _ _ c.in_err-no_when.field-0.0
    c.from_residual-in_err-no_when.ensures.1 (λ _. refl))

pub returns : goal.returns
returns c =
    let some : option_map (λ t. table_view t.now) c.args.table
    ≡ Some (table_view c.in_ok-table.table.now) = grind (arith, common_steps) in
    let given = event_in_given c.args.scene.now c.args.count (table_view c.in_ok-table.table.now)
    _ c.in_ok-verb.verb c.in_ok-no_when.field-0 c.of-members.ensures
    (sym c.verb_at.ensures ∙ c.in_ok-verb.was)
    (ap no_when (sym c.value_at.ensures) ∙ (sym c.no_when.ensures ∙ c.in_ok-no_when.was)) in
    rw (some, given) c.event_given.ensures
