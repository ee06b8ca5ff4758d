use Rattle.std.proofs.Common.{◌∙◌, refl, sym}
use Rattle.usb_run.proofs.endings.Ends.{transfer_goes, transfer_stops}
use Rattle.usb_run.proofs.asked.set_interface.Goals as goal

pub returns-in_err-set : goal.returns-in_err-set
returns-in_err-set g c = transfer_stops (c.set_interface.ensures.tells refl)
    c.from_residual.result c.in_err-set.field-0.0 c.from_residual.ensures.1
    (sym c.answered.ensures ∙ c.in_err-set.was) (λ stops. stops)

pub returns : goal.returns
returns g c = transfer_goes (c.set_interface.ensures.tells refl) c.in_ok-set.set
    (sym c.answered.ensures ∙ c.in_ok-set.was) c.requires.running
    (λ made. (c.in_ok-set.set, refl, made))
