use Rattle.std.proofs.Common.{codes}
use Rattle.usb_places.proofs.Copies.{table_without}
use Rattle.usb_places.proofs.places.plain_table.Goals as goal

pub returns : goal.returns
returns c = rw c.remove.ensures.entries (table_without (codes "when") c.args.table.entries)
