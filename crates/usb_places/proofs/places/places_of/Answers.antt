use Rattle.std.proofs.Common.{ap, map, ◌∙◌}
use Rattle.toml.specs.View.{table_view, view}
use Rattle.usb_places.proofs.Documents.{ReadSoFar, handed_on, places_refused, places_with}
use Rattle.usb_places.proofs.places.places_of.Goals as goal

pub returns-in_err-sought : goal.returns-in_err-sought
returns-in_err-sought c =
    let so_far : ReadSoFar (table_view c.args.table.now) c.in_ok-first.first c.in_ok-plan.plan
    c.entries_of-events.result.now c.entries_of-damages.result.now c.as_slice.result.now
    c.fixed_damages-fixed.result c.new.result = record {
      events = c.entries_of-events.ensures;
      damages = c.entries_of-damages.ensures;
      plain = ap (map view) c.as_slice.ensures.value ∙ c.in_ok-plain.ensures;
      fixed = c.fixed_damages-fixed.ensures.value;
      none = c.new.ensures;
      first_is = c.in_ok-first.ensures;
      plan_is = c.in_ok-plan.ensures;
    } in
    let why = c.in_err-sought.field-0.0 in
    handed_on c.from_residual-in_err-sought.result _ why c.from_residual-in_err-sought.ensures.1
    (λ ne. places_refused (table_view c.args.table.now) c.in_ok-first.first c.in_ok-plan.plan
    c.entries_of-events.result.now c.entries_of-damages.result.now c.as_slice.result.now
    c.fixed_damages-fixed.result c.new.result why so_far (c.in_err-sought.ensures ne))

pub returns : goal.returns
returns c =
    let so_far : ReadSoFar (table_view c.args.table.now) c.in_ok-first.first c.in_ok-plan.plan
    c.entries_of-events.result.now c.entries_of-damages.result.now c.as_slice.result.now
    c.fixed_damages-fixed.result c.new.result = record {
      events = c.entries_of-events.ensures;
      damages = c.entries_of-damages.ensures;
      plain = ap (map view) c.as_slice.ensures.value ∙ c.in_ok-plain.ensures;
      fixed = c.fixed_damages-fixed.ensures.value;
      none = c.new.ensures;
      first_is = c.in_ok-first.ensures;
      plan_is = c.in_ok-plan.ensures;
    } in
    places_with (table_view c.args.table.now) c.in_ok-first.first c.in_ok-plan.plan
    c.entries_of-events.result.now c.entries_of-damages.result.now c.as_slice.result.now
    c.fixed_damages-fixed.result c.new.result c.in_ok-sought.sought so_far c.in_ok-sought.ensures
