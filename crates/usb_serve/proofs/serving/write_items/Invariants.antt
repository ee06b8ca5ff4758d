use Rattle.std.proofs.Common.{◌≡◌}
use Rattle.usb_run.specs.{items_left}
use Rattle.usb_serve.proofs.ServedItems.{UntracedSoFar}
use Rattle.usb_serve.proofs.serving.write_items.Given as goal

-- the run so far, with the number of its last listing, and what is written
abbrev pub invariant-items : goal.invariant-items
invariant-items g l = record {
  so_far : UntracedSoFar l.plan (g.L.ItemLines.lines l.lines) (g.T.Trace.text l.fn.writer) l.number
      l.runner.over l.runner.host (g.T.Trace.text l.writer);
  unmarked : g.T.Trace.failed l.writer ≡ g.T.Trace.failed l.fn.writer;
}

-- items to come
abbrev pub decreases-items : goal.decreases-items
decreases-items g l = items_left l.runner.over l.runner.host.world
