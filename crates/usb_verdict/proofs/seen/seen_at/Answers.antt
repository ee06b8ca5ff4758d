use Rattle.std.proofs.Common.{ap, ◌∙◌, take}
use Rattle.usb_request.specs.{DEVICE_LENGTH}
use Rattle.usb_device.specs.{Spec, hub_ports, reach}
use Rattle.usb_verdict.proofs.Found.{same_seen}
use Rattle.usb_verdict.proofs.seen.seen_at.Goals as goal

pub returns-clause-seen : goal.returns-clause-seen
returns-clause-seen c = same_seen _ _ c.is_low.ensures
    (ap (take DEVICE_LENGTH) (c.descriptor.ensures.value
    ∙ ap (λ (s : Spec). s.descriptor) c.spec.ensures))
    c.configuration.ensures
    (c.hub_ports.ensures ∙ ap (λ (s : Spec). hub_ports s.hub) c.spec-2.ensures)
    c.supply_at.ensures c.address.ensures
    (c.is_reached.ensures ∙ ap (reach c.args.roots.now) c.numbers.ensures.value)
