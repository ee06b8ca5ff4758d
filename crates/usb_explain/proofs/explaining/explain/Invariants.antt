use Rattle.std.proofs.Common.{ℕ, ◌≤◌, List, length}
use Rattle.std.specs.Io.KnownBytes.{Consumes}
use Rattle.usb_watch.specs.{inner_of}
use Rattle.usb_explain.specs.{Reaches}
use Rattle.usb_explain.proofs.explaining.explain.Given as goal

-- what was read so far is taken, a byte or more each time
abbrev pub invariant-reads : goal.invariant-reads
invariant-reads g l = (done : List ℕ) × Consumes (g.R.Read.remaining (inner_of l.fn.reader))
    (g.R.Read.remaining (inner_of l.reader)) done
    × Reaches l.fn.only (g.W.Write.contents (inner_of l.fn.writer))
    (g.W.Write.contents (inner_of l.writer)) done l.line
    × (l.counter ≤ length done)
