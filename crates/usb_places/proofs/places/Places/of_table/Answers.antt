use Rattle.toml.specs.View.{table_view}
use Rattle.usb_places.proofs.Beginnings.{known_at_start}
use Rattle.usb_places.proofs.PlainPlans.{plain_known}
use Rattle.usb_places.proofs.places.Places.of_table.Goals as goal

pub returns-clause-known : goal.returns-clause-known
returns-clause-known c =
    known_at_start (table_view c.args.table.now) c.places_of.result c.places_of.ensures

pub returns-clause-plain : goal.returns-clause-plain
returns-clause-plain c =
    plain_known (table_view c.args.table.now) c.places_of.result c.places_of.ensures
