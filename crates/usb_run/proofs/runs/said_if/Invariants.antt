use Rattle.std.proofs.Common.{◌≡◌, map, take}
use Rattle.usb_host.specs.{table_in}
use Rattle.usb_run.specs.{entry_said}
use Rattle.usb_run.proofs.runs.said_if.Given as goal

-- what the devices of the entries so far said is kept
abbrev pub invariant-entries : goal.invariant-entries
invariant-entries g l = l.said ≡ map (entry_said (table_in l.host)) (take l.entry-index l.entries)
