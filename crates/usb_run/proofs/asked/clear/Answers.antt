use Rattle.std.proofs.Common.{◌∙◌, refl, sym}
use Rattle.usb_run.proofs.endings.Ends.{transfer_goes, transfer_stops}
use Rattle.usb_run.proofs.asked.clear.Goals as goal

pub returns-in_err-cleared : goal.returns-in_err-cleared
returns-in_err-cleared g c = transfer_stops (c.clear_halt.ensures.tells refl)
    c.from_residual.result c.in_err-cleared.field-0.0 c.from_residual.ensures.1
    (sym c.answered.ensures ∙ c.in_err-cleared.was) (λ stops. stops)

pub returns : goal.returns
returns g c = transfer_goes (c.clear_halt.ensures.tells refl) c.in_ok-cleared.cleared
    (sym c.answered.ensures ∙ c.in_ok-cleared.was) c.requires.running
    (λ made. (c.in_ok-cleared.cleared, refl, made))
