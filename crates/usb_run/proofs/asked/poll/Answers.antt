use Rattle.std.proofs.Common.{◌∙◌, refl, sym}
use Rattle.usb_run.proofs.endings.Ends.{transfer_goes, transfer_stops}
use Rattle.usb_run.proofs.asked.poll.Goals as goal

pub returns-in_err-polled : goal.returns-in_err-polled
returns-in_err-polled g c = transfer_stops (c.poll.ensures.tells refl)
    c.from_residual.result c.in_err-polled.field-0.0 c.from_residual.ensures.1
    (sym c.answered.ensures ∙ c.in_err-polled.was) (λ stops. stops)

pub returns : goal.returns
returns g c = transfer_goes (c.poll.ensures.tells refl) c.in_ok-polled.polled
    (sym c.answered.ensures ∙ c.in_ok-polled.was) c.requires.running
    (λ made. (c.in_ok-polled.polled, refl, made))
