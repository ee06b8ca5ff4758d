use Rattle.std.proofs.Common.{◌∙◌, refl, sym}
use Rattle.usb_run.proofs.endings.Ends.{transfer_goes, transfer_stops}
use Rattle.usb_run.proofs.asked.receive_from.Goals as goal

pub returns-in_err-received : goal.returns-in_err-received
returns-in_err-received g c = transfer_stops (c.receive_from.ensures.tells refl)
    c.from_residual.result c.in_err-received.field-0.0 c.from_residual.ensures.1
    (sym c.answered.ensures ∙ c.in_err-received.was) (λ stops. stops)

pub returns : goal.returns
returns g c = transfer_goes (c.receive_from.ensures.tells refl)
    c.in_ok-received.received (sym c.answered.ensures ∙ c.in_ok-received.was) c.requires.running
    (λ made. (c.in_ok-received.received, refl, made))
