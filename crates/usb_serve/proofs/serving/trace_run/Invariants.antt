use Rattle.std.proofs.Common.{◌≡◌, false}
use Rattle.usb_run.specs.{items_left, Knows}
use Rattle.usb_serve.proofs.ServedItems.{TracedSoFar}
use Rattle.usb_serve.proofs.serving.trace_run.Given as goal

-- the run so far, with the number of its last listing, where what its host knew was so
abbrev pub invariant-items : goal.invariant-items
invariant-items g l = (l.fn.runner.over ≡ false → Knows l.fn.runner.host)
    → TracedSoFar l.fn.runner.over l.fn.runner.host l.number l.runner.over l.runner.host

-- items to come
abbrev pub decreases-items : goal.decreases-items
decreases-items g l = items_left l.runner.over l.runner.host.world
