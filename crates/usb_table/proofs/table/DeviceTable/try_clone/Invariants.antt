use Rattle.slab.specs.Slab.{get}
use Rattle.usb_table.proofs.entries.Keys.{Copied}
use Rattle.usb_table.proofs.table.DeviceTable.try_clone.Given as goal

abbrev pub invariant-entries : goal.invariant-entries
invariant-entries l = Copied (get l.self-inside.entries) l.self-inside.indexes.by_path.entries
    l.path-iterator l.table
