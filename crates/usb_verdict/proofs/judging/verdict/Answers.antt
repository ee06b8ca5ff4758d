use Rattle.std.proofs.Common.{subst, List}
use Rattle.usb_judge.specs.declared.plugged.PluggedDevice.{PluggedDevice}
use Rattle.usb_judge.specs.{Judges, scene_in}
use Rattle.usb_sim.specs.{world_of}
use Rattle.usb_verdict.proofs.judging.verdict.Goals as goal

pub returns-clause-verdict : goal.returns-clause-verdict
returns-clause-verdict g c = c.judged_world.ensures c.in_ok-plugged.plugged.items
    (world_of c.args.bus.now) c.in_ok-plugged.ensures.are c.args.listing.now
    c.in_ok-judgements.judgements.items (subst (λ (xs : List PluggedDevice).
    Judges (scene_in xs) c.args.listing.now c.in_ok-judgements.judgements.items)
    c.as_slice.ensures.value c.in_ok-judgements.ensures.verdict)
