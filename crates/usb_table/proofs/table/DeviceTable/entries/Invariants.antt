use Rattle.std.proofs.Common.{◌≡◌, ◌++◌}
use Rattle.slab.specs.Slab.{get}
use Rattle.usb_table.specs.{entries_of, findings}
use Rattle.usb_table.proofs.table.DeviceTable.entries.Given as goal

abbrev pub invariant-entries : goal.invariant-entries
invariant-entries l = l.entries.items ++ entries_of (findings (get l.self-inside.entries))
    l.path-iterator ≡ l.self.entries
