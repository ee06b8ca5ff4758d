use Rattle.std.proofs.Common.{◌∙◌, sym}
use Rattle.toml.specs.View.{table_view}
use Rattle.usb_plan.proofs.Parts.{top_of_ok, entry_at_ok}
use Rattle.usb_plan.proofs.plan.plan_of_entries.Goals as goal

pub plan_with-requires : goal.plan_with-requires
plan_with-requires c = top_of_ok (table_view c.args.table.now) c.in_ok-top.top (sym c.top_of.ensures
    ∙ entry_at_ok _ c.top_of.result c.in_ok-top.top (sym c.in_ok-top.ensures))
