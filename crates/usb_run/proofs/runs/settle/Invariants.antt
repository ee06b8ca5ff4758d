use Rattle.std.proofs.Common.{◌≡◌, false}
use Rattle.usb_host.specs.{HostMapHolds}
use Rattle.usb_run.specs.{Rounds}
use Rattle.usb_run.proofs.courses.RoundEnds.{rounds_left}
use Rattle.usb_run.proofs.runs.settle.Given as goal

abbrev pub invariant-rounds : goal.invariant-rounds
invariant-rounds g l = record {
  running : l.host.stopped ≡ false;
  goes : Rounds l.fn.host l.host;
  owning : HostMapHolds l.fn.host → HostMapHolds l.host;
}

-- what is left to do, and what may still come
abbrev pub decreases-rounds : goal.decreases-rounds
decreases-rounds g l = rounds_left l.host
