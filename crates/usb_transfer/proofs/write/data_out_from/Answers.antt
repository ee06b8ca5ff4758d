use Rattle.usb_transfer.proofs.Calls.{sends_out}
use Rattle.usb_transfer.proofs.write.data_out_from.Goals as goal

pub returns-clause-sends : goal.returns-clause-sends
returns-clause-sends g c known old before settled made =
    let is = c.attempt_of_out.ensures.value in
    let done = c.send_on.ensures.sends known old before settled
    (rw (c.put-kind.ensures) (rw (← is) at made)) in (
      done.0,
      sends_out c.args.target c.args.ep c.args.toggle.now c.args.bytes.now old _ settled
          c.send_on.result (rw is at done.1),
    )
