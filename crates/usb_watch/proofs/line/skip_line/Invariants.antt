use Rattle.std.proofs.Common.{◌≡◌, List, ℕ, length}
use Rattle.usb_watch.specs.{has_failed, inner_of}
use Rattle.std.specs.Io.KnownBytes.{Consumes}
use Rattle.usb_watch.specs.{IsUnbroken}
use Rattle.usb_watch.proofs.line.skip_line.Given as goal

-- what was read is the front of the rest
abbrev pub invariant-bytes : goal.invariant-bytes
invariant-bytes g l = (rest : List ℕ) × IsUnbroken rest
    × Consumes (g.R.Read.remaining (inner_of l.fn.reader)) (g.R.Read.remaining (inner_of l.reader))
    rest
    × (length rest ≡ l.counter) × (has_failed l.reader ≡ has_failed l.fn.reader)
