use Rattle.std.proofs.Common.{◌≡◌, ◌+◌, ◌-◌, ◌≤◌, length}
use Rattle.std.specs.Io.KnownBytes.{Consumes}
use Rattle.usb_watch.specs.{inner_of, has_failed, calls_of}
use Rattle.usb_serve.proofs.input.read_text.Given as goal

abbrev pub invariant-pieces : goal.invariant-pieces
invariant-pieces g l = record {
  short : length l.text.items ≤ 1048576;
  taken : Consumes (g.R.Read.remaining (inner_of l.fn.reader))
      (g.R.Read.remaining (inner_of l.reader)) l.text.items;
  unmarked : has_failed l.reader ≡ has_failed l.fn.reader;
  calls : calls_of l.reader ≤ calls_of l.fn.reader + length l.text.items;
}

abbrev pub decreases-pieces : goal.decreases-pieces
decreases-pieces g l = 1048576 - length l.text.items
