-- What is entered is a new entry, at a path that has none.
use Rattle.usb_table.proofs.entries.Keys.{none_at}
use Rattle.usb_table.proofs.table.DeviceTable.insert.Goals as goal

pub put-requires-clause-away : goal.put-requires-clause-away
put-requires-clause-away c = none_at c.args.path c.args.self.now.entries c.requires.away
