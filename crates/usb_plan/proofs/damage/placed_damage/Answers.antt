use Rattle.toml.specs.View.{table_view}
use Rattle.usb_plan.proofs.Parts.{placed_damage_is}
use Rattle.usb_plan.proofs.damage.placed_damage.Goals as goal

pub returns-clause-placed : goal.returns-clause-placed
returns-clause-placed c = placed_damage_is c.args.number c.args.attempt
    (table_view c.args.table.now) c.placed_in.result c.placed_in.ensures
