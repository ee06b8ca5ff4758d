use Rattle.std.proofs.Common.{◌∙◌, ap, refl, Some, sym}
use Rattle.usb_table.specs.{At}
use Rattle.usb_run.specs.{Answer, Sent}
use Rattle.usb_run.specs.declared.item.Task.TheVariants as task
use Rattle.usb_run.proofs.endings.Ends.{transfer_goes, transfer_stops}
use Rattle.usb_run.proofs.asked.send_to.Goals as goal

pub returns-in_err-sent : goal.returns-in_err-sent
returns-in_err-sent g c = transfer_stops (c.send_to.ensures.tells refl)
    c.from_residual.result c.in_err-sent.field-0.0 c.from_residual.ensures.1
    (sym c.answered.ensures ∙ c.in_err-sent.was) (λ stops. stops)

pub returns : goal.returns
returns g c = transfer_goes (c.send_to.ensures.tells refl) c.in_ok-sent.sent
    (sym c.answered.ensures ∙ c.in_ok-sent.was) c.requires.running
    (λ made. (
      c.in_ok-sent.sent,
      ap (λ s. Some (Answer c.args.path (task.Send (At c.args.endpoint)) (Sent s)))
          c.counted.ensures,
      made,
    ))
