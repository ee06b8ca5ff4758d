use Rattle.std.proofs.Common.{ap, sym, ◌∙◌, Some}
use Rattle.usb_device.specs.{device_there}
use Rattle.usb_verdict.proofs.Found.{device_is, device_none}
use Rattle.usb_verdict.proofs.seen.device_on.Goals as goal

pub returns-in-Some-clause-seen : goal.returns-in-Some-clause-seen
returns-in-Some-clause-seen c = ap Some c.seen_at.ensures.seen
    ∙ sym (device_is c.args.roots.now c.args.path.now c.in-Some.device.now c.numbers.ensures.path
    (ap (device_there c.args.roots.now) (sym c.numbers.ensures.value) ∙ sym c.in-Some.ensures))

pub returns-in-None-clause-seen : goal.returns-in-None-clause-seen
returns-in-None-clause-seen c = sym (device_none c.args.roots.now c.args.path.now
    (ap (device_there c.args.roots.now) (sym c.numbers.ensures.value) ∙ sym c.in-None.ensures))
