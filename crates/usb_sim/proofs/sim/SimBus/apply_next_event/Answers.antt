use Rattle.std.proofs.Common.{sym}
use Rattle.usb_sim.specs.{world_of}
use Rattle.usb_sim.proofs.Endings.{again_takes, taken_takes}
use Rattle.usb_sim.proofs.sim.SimBus.apply_next_event.Goals as goal

pub returns-in-Some-clause-takes : goal.returns-in-Some-clause-takes
returns-in-Some-clause-takes g c = again_takes (world_of c.args.self.now) _ c.in-Some.fault
    (sym c.in-Some.is) c.args.self.now.at_limit

pub returns-clause-takes : goal.returns-clause-takes
returns-clause-takes g c =
    taken_takes c.take_event.result (world_of c.args.self.now) (world_of c.take_event.new.self) _ _
    c.in_default.is c.take_event.ensures.came
