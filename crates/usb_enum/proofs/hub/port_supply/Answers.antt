use Rattle.std.proofs.Common.{refl, Ok}
use Rattle.usb_enum.specs.{hub_fault, BadHub}
use Rattle.usb_enum.proofs.ports.Hubs.{bad_hub, status_ungiven, unless_refused-not, supply_learned}
use Rattle.usb_enum.proofs.refusals.Refusals.{request_refused, answered_ok, failed}
use Rattle.usb_enum.proofs.stops.PlainStops.{answered_hub}
use Rattle.usb_enum.proofs.devices.Frames.{answer_asks}
use Rattle.usb_enum.proofs.Parts.{gone_answered, uses_read}
use Rattle.usb_enum.proofs.stops.Reasons.{status_told}
use Rattle.usb_enum.proofs.hub.port_supply.Goals as goal

pub returns-clause-read : goal.returns-clause-read
returns-clause-read g c wide =
    let answer = rw (answered_ok BadHub c.in_ok-status.ensures) at c.get_status.ensures in
    let t = c.args.target in
    record {
      gone = gone_answered 3 BadHub (Ok c.in_ok-status.status) refl
          (uses_read t.max 2 c.requires.max answer.uses) (λ known. (answer.told known).ends)
          (λ known. answer_asks (answer.told known).asked (answer.what known) (answer.keeps known));
      ends = λ known. record {
        told = record {
          status = c.in_ok-status.status;
          told = answer.told known;
          said = c.supply.ensures;
        };
        so = rw c.supply.ensures (supply_learned (g.B.Bus.world c.get_status.new.bus)
            (answer.what known));
      };
    }

pub returns-in_err-status : goal.returns-in_err-status
returns-in_err-status g c =
    let new = g.B.Bus.world c.get_status.new.bus in
    let answer = c.get_status.ensures in
    let t = c.args.target in
    rw (failed c.from_residual.result c.from_residual.ensures.1) (record {
      said = answered_hub _ _ c.in_err-status.ensures;
      read = λ wide. record {
        gone = gone_answered 3 _ _ c.in_err-status.ensures
            (uses_read t.max 2 c.requires.max answer.uses) (λ known. (answer.told known).ends)
            (λ known. answer_asks (answer.told known).asked (answer.what known)
            (answer.keeps known));
        ends = λ known. record {
          told = status_told wide c.in_err-status.ensures (answer.told known);
          so = request_refused new (answer.what known) c.requires.max (answer.why known)
              (hub_fault wide) BadHub _ c.in_err-status.ensures (λ spec none.
              bad_hub wide spec (status_ungiven wide spec spec.hub
              (unless_refused-not spec.stalls.status _ none)));
        };
      };
    })
