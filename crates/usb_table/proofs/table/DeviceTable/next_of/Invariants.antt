use Rattle.std.proofs.Common.{◌≡◌, None, option_copied}
use Rattle.slab.specs.Slab.{get}
use Rattle.usb_table.specs.{entries_of, findings, fits}
use Rattle.usb_table.proofs.entries.Ranges.{first_from}
use Rattle.usb_table.proofs.table.DeviceTable.next_of.Given as goal

abbrev pub invariant-entries : goal.invariant-entries
invariant-entries l =
    first_from (fits l.kind) None
    (entries_of (findings (get l.self-inside.entries)) l.path-iterator)
    ≡ first_from (fits l.kind) (option_copied l.last) l.self.entries
