use Rattle.std.proofs.Common.{◌≡◌, ◌≤◌, ◌-◌, length}
use Rattle.usb_watch.specs.{has_failed, inner_of}
use Rattle.std.specs.Io.KnownBytes.{Consumes}
use Rattle.usb_watch.specs.{IsUnbroken}
use Rattle.usb_watch.proofs.line.read_line.Given as goal

-- what was read is the line so far
abbrev pub invariant-bytes : goal.invariant-bytes
invariant-bytes g l = IsUnbroken l.line.items
    × Consumes (g.R.Read.remaining (inner_of l.fn.reader)) (g.R.Read.remaining (inner_of l.reader))
    l.line.items
    × (has_failed l.reader ≡ has_failed l.fn.reader) × (length l.line.items ≤ 1024)

abbrev pub decreases-bytes : goal.decreases-bytes
decreases-bytes g l = 1024 - length l.line.items
