use Rattle.std.proofs.Common.{◌≡◌, false}
use Rattle.usb_run.specs.{items_left, Knows}
use Rattle.usb_run.proofs.items.ReportedItems.{ReportSoFar}
use Rattle.usb_run.proofs.runs.Runner.finish.Given as goal

-- the run so far, and its items, where what its host knew was so
abbrev pub invariant-items : goal.invariant-items
invariant-items g l = (l.fn.self.over ≡ false → Knows l.fn.self.host)
    → ReportSoFar l.fn.self.over l.fn.self.host l.items.items l.self.over l.self.host

-- items to come
abbrev pub decreases-items : goal.decreases-items
decreases-items g l = items_left l.self.over l.self.host.world
