use Rattle.std.proofs.Common.{◌≡◌, false}
use Rattle.usb_world.specs.{to_come}
use Rattle.usb_host.specs.{HostMapHolds}
use Rattle.usb_run.specs.{Spent, Knows, Ran}
use Rattle.usb_run.proofs.runs.item_of_events.Given as goal

abbrev pub invariant-events : goal.invariant-events
invariant-events g l = record {
  running : l.host.stopped ≡ false;
  goes : Knows l.fn.host → Ran l.fn.host l.host;
  spent : Spent l.fn.host l.host;
  owning : HostMapHolds l.fn.host → HostMapHolds l.host;
}

-- events to come
abbrev pub decreases-events : goal.decreases-events
decreases-events g l = to_come l.host.world
