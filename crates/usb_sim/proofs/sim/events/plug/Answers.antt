use Rattle.std.proofs.Common.{Some, refl, ap, ◌∙◌}
use Rattle.usb_device.specs.{changed, put, replaced}
use Rattle.usb_function.proofs.Interface.{index_plugged}
use Rattle.usb_sim.proofs.sim.events.plug.Goals as goal

pub returns-else-not-forgotten-clause-index : goal.returns-else-not-forgotten-clause-index
returns-else-not-forgotten-clause-index c =
    index_plugged c.forget-forgotten.new.self c.in_ok-device.device c.args.roots.now c.plug.new.self
    c.numbers-numbers.result.now c.plug.ensures (c.if-not-forgotten.ensures.forgotten refl)

pub returns-else-not-forgotten-clause-ok : goal.returns-else-not-forgotten-clause-ok
returns-else-not-forgotten-clause-ok c =
    c.plug.ensures
    ∙ ap (λ d. changed (put (Some d)) c.args.roots.now c.numbers-numbers.result.now)
    c.in_ok-device.ensures
    ∙ ap (λ path. changed (replaced (Some c.args.spec.now.value)) c.args.roots.now path)
    c.numbers-numbers.ensures.value
