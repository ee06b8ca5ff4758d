use Rattle.std.proofs.Common.{rules, inr, Err, refl}
use Rattle.usb_enum.proofs.stops.Endings.{disabled, closed_fault, closed_lost, closed_refused}
use Rattle.usb_hub.proofs.Interface.{asked_port}
use Rattle.usb_port.specs.{ClearEnable}
use Rattle.usb_request.specs.{PORT_ENABLE}
use Rattle.usb_enum.specs.{FaultBy}
use Rattle.usb_enum.proofs.courses.Courses.{went_steps}
use Rattle.usb_enum.proofs.courses.Losses.{clear_goes}
use Rattle.usb_transfer.proofs.Interface.{uses_as, uses_none}
use Rattle.usb_enum.proofs.devices.ReachedDevices.{done_at}
use Rattle.usb_enum.proofs.stops.Reasons.{call_ends, fault_by}
use Rattle.usb_enum.proofs.stops.PlainStops.{port_reported}
use Rattle.usb_enum.proofs.refusals.Refusals.{failed}
use Rattle.usb_enum.proofs.enumeration.give_up.Goals as goal

pub returns-in_err-at_port-in-Refused : goal.returns-in_err-at_port-in-Refused
returns-in_err-at_port-in-Refused g c =
    let port = c.args.port in
    let why = c.in_err-at_port-in-Refused.field-0.0 in
    let call = c.clear_port.ensures in
    rw (failed c.from_residual.result c.from_residual.ensures.1) (record {
      uses = uses_as c.clear_port.ensures.uses
          (λ fault told. port_reported _ _ _ fault c.in_err-at_port-in-Refused.ensures);
      hands = rw c.in-Refused.is tt;
      left = λ known.
          let by : FaultBy port why (g.B.Bus.world c.args.bus.now)
          (g.B.Bus.world c.clear_port.new.bus) = call_ends port (Err why) c.clear_port.result _ _
          c.in_err-at_port-in-Refused.ensures (call.fault known)
          (λ why is. inr (PORT_ENABLE, inr (rw is at (call.effect known)))) in
          rw c.in-Refused.is (record {
            left = by;
            closes = λ a. closed_lost a _ (call.fault known) (call.ports known)
                (call.addresses known) why (went_steps (call.uses.steps known))
                c.in_err-at_port-in-Refused.ensures (fault_by port why _ _ by)
                (clear_goes port PORT_ENABLE ClearEnable _ _ _ refl refl refl (call.effect known));
          });
      works = search rules;
    })

pub returns-in_ok-at_port-in-Refused : goal.returns-in_ok-at_port-in-Refused
returns-in_ok-at_port-in-Refused g c =
    let call = c.clear_port.ensures in
    record {
      uses = uses_as c.clear_port.ensures.uses (λ fault told. tt);
      hands = search rules;
      left = λ known. rw c.in-Refused.is (record {
        left = (
          refl,
          disabled c.args.port _ _ c.clear_port.result _ c.in_ok-at_port-in-Refused.ensures
              (asked_port g.B.Bus.modelled (g.B.Bus.world c.args.bus.now) c.args.port known
              c.requires) (call.effect known),
        );
        closes = λ a. closed_refused a _ (call.fault known) (call.ports known)
            (call.addresses known) (done_at c.in_ok-at_port-in-Refused.ensures);
      });
      works = search rules;
    }

pub returns-in-Fault : goal.returns-in-Fault
returns-in-Fault g c = record {
  uses = uses_none (λ told. rw c.in-Fault.is at told);
  hands = search rules;
  left = λ known. rw c.in-Fault.is (record {
    left = (refl, refl);
    closes = λ a. closed_fault _ a _ _;
  });
  works = search rules;
}
