use Rattle.std.proofs.Common.{ap, sym, ◌∙◌, false}
use Rattle.usb_port.specs.{parent_of, supply_of}
use Rattle.usb_device.specs.{Spec, device_there}
use Rattle.usb_verdict.proofs.Found.{given_is, given_not}
use Rattle.usb_verdict.proofs.seen.supply_at.Goals as goal

pub returns-in-Some-device_at : goal.returns-in-Some-device_at
returns-in-Some-device_at c = c.supply-in-Some-device_at.ensures
    ∙ ap (supply_of false) (c.is_self_powered.ensures
    ∙ ap (λ (s : Spec). s.self_powered) c.spec.ensures)
    ∙ sym (given_is c.args.roots.now (parent_of c.args.path.now) c.in-Some.hub
    c.in-Some-device_at.device.now (sym c.in-Some.ensures)
    (ap (device_there c.args.roots.now) (sym c.numbers.ensures.value)
    ∙ sym c.in-Some-device_at.ensures))

pub returns-in-None-device_at : goal.returns-in-None-device_at
returns-in-None-device_at c = c.supply-in-None-device_at.ensures
    ∙ sym (given_not c.args.roots.now (parent_of c.args.path.now) c.in-Some.hub
    (sym c.in-Some.ensures) (ap (device_there c.args.roots.now) (sym c.numbers.ensures.value)
    ∙ sym c.in-None-device_at.ensures))
