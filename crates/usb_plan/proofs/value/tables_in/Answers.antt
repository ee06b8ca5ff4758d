use Rattle.std.proofs.Common.{sym, ◌∙◌, arith}
use Rattle.toml.specs.View.{view}
use Rattle.usb_plan.proofs.Steps.{tables_all, tables_others, tables_many}
use Rattle.usb_plan.proofs.value.tables_in.Goals as goal

pub returns-then-are_tables-clause-value : goal.returns-then-are_tables-clause-value
returns-then-are_tables-clause-value c = sym (tables_all c.args.most (view c.args.value.now)
    c.in_ok-values.values.now c.in_ok-values.ensures (omega arith)
    (sym c.are_tables.ensures ∙ c.if-are_tables.true))

pub returns-else-values-most-clause-value : goal.returns-else-values-most-clause-value
returns-else-values-most-clause-value c =
    let values = c.in_ok-values.values.now in
    let read = c.in_ok-values.ensures in
    elim c.else-values-most.branch [
      | goal.else-values-most-via-then-values-most+else-are_tables w ↦
          sym (tables_others c.args.most (view c.args.value.now) values read (omega arith)
          (sym w.are_tables.ensures ∙ w.if-are_tables.false))
      | goal.else-values-most-via-else-values-most w ↦ sym (tables_many c.args.most
          (view c.args.value.now) values read (omega arith))
    ]
