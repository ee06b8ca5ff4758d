use Rattle.std.proofs.Common.{sym, ◌∙◌}
use Rattle.usb_sim.specs.{world_of}
use Rattle.usb_world.proofs.Interface.{set_call_root, set_none}
use Rattle.usb_sim.proofs.sim.bus.SimBusBus.root_set.Goals as goal

pub returns-in-Some-clause-call : goal.returns-in-Some-clause-call
returns-in-Some-clause-call g c _ =
    set_call_root c.args.port c.args.feature (world_of c.args.self.now)
    (world_of c.call_root.new.self) c.in-Some.call (c.requires.least, c.requires.most)
    c.requires.named
    (sym c.in-Some.is ∙ c.of_set.ensures) c.call_root.ensures.world

pub returns-in_default-clause-call : goal.returns-in_default-clause-call
returns-in_default-clause-call g c _ = set_none c.args.feature c.requires.named (sym c.in_default.is
    ∙ c.of_set.ensures)
