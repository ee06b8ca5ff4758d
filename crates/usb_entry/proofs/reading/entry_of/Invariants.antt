use Rattle.std.proofs.Common.{◌-◌, vec_len}
use Rattle.usb_entry.proofs.Readings.{ReadSoFar}
use Rattle.usb_entry.proofs.reading.entry_of.Given as goal

abbrev pub invariant-configs : goal.invariant-configs
invariant-configs l = ReadSoFar l.bytes l.device l.configs.items l.offset

abbrev pub decreases-configs : goal.decreases-configs
decreases-configs l = l.count - vec_len l.configs
