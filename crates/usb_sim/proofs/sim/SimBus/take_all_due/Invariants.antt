use Rattle.std.proofs.Common.{◌≡◌, None}
use Rattle.usb_world.specs.{to_come}
use Rattle.usb_sim.specs.{world_of, trace_of}
use Rattle.usb_sim.proofs.Arrivals.{DueSoFar}
use Rattle.usb_sim.proofs.sim.SimBus.take_all_due.Given as goal

abbrev pub invariant-due : goal.invariant-due
invariant-due g l = record {
  fault : (world_of l.self).fault ≡ None;
  due : DueSoFar (world_of l.fn.self) (world_of l.self) (trace_of l.fn.self) (trace_of l.self);
}

abbrev pub decreases-due : goal.decreases-due
decreases-due g l = to_come (world_of l.self)
