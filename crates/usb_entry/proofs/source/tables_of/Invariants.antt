use Rattle.std.proofs.Common.{take}
use Rattle.usb_entry.specs.{AreTables}
use Rattle.usb_entry.proofs.source.tables_of.Given as goal

-- the tables so far are those of the sources so far
abbrev pub invariant-sources : goal.invariant-sources
invariant-sources l = AreTables l.ports (take l.made l.sources) l.tables.items
