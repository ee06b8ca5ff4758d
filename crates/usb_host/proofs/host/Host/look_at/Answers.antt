use Rattle.usb_host.proofs.StepSums.{handed_is}
use Rattle.usb_host.proofs.Looks.{made_known, made_stops, made_unknown}
use Rattle.usb_host.proofs.host.Host.look_at.Goals as goal

pub returns-in_default-clause-made : goal.returns-in_default-clause-made
returns-in_default-clause-made g c known = made_unknown (c.in_default.ensures.none known)

pub returns-in_err-look_over-clause-made : goal.returns-in_err-look_over-clause-made
returns-in_err-look_over-clause-made g c known =
    rw (handed_is c.from_residual.ensures.1, ← c.begin_afresh.ensures) (made_stops
    c.in_err-look_over.field-0.0
    (rw known at c.in_err-look_over.ensures.call.told) (c.in_err-look_over.ensures.call.works known)
    (c.in_err-look_over.ensures.looks known))

pub returns-clause-made : goal.returns-clause-made
returns-clause-made g c known =
    rw (← c.begin_afresh.ensures) (made_known (c.in_ok-look_over.ensures.looks known)
    c.listed.result (c.in_ok-look_over.ensures.call.works known) (c.listed.ensures.modelled known))
