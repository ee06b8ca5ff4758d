use Rattle.std.proofs.Common.{inl, inr, refl, rules}
use Rattle.usb_request.specs.{PORT_RESET}
use Rattle.usb_hub.proofs.Interface.{reset_went, set_works}
use Rattle.usb_enum.proofs.devices.Frames.{at_reset, reset_calls}
use Rattle.usb_port.specs.{SetReset}
use Rattle.usb_enum.proofs.Parts.{part_called}
use Rattle.usb_enum.proofs.courses.Losses.{set_goes}
use Rattle.usb_enum.proofs.passes.begin_reset.Goals as goal

pub returns : goal.returns
returns g c =
    let call = c.set_port.ensures in
    record {
      part = λ a. part_called c.args.port c.at_port.result c.set_port.result c.at_port.ensures
          (record {
            spends = call.uses.spends;
            told = call.uses.told;
            steps = λ known. reset_went g.B.Bus.world g.B.Bus.trace c.args.port _ _
                (call.uses.steps known);
          }) call.fault (λ known why is. inr (PORT_RESET, inl (rw is at (call.effect known))))
          (λ known. set_works c.args.port PORT_RESET _ _ _ (call.effect known)) (λ known.
          let resets = (call.addresses known).resets refl in
          at_reset resets (reset_calls a (call.fault known) (call.ports known) resets));
      resets = search rules;
      calls = λ known. record {
        outcome = c.set_port.result;
        told = c.at_port.ensures;
        calls = call.ports known;
        goes = set_goes c.args.port PORT_RESET SetReset _ _ _ refl refl (call.effect known);
      };
    }
