use Rattle.usb_enum.proofs.devices.Enumerations.{within_kept}
use Rattle.usb_enum.proofs.devices.Frames.{clear_calls}
use Rattle.std.proofs.Common.{inr, refl, rules}
use Rattle.usb_request.specs.{C_PORT_RESET}
use Rattle.usb_world.proofs.Interface.{each_none}
use Rattle.usb_hub.specs.{StaysAs}
use Rattle.usb_enum.proofs.Parts.{enumerating, gone_none, part_called}
use Rattle.usb_port.specs.{ClearResetChange}
use Rattle.usb_enum.proofs.courses.Losses.{clear_goes}
use Rattle.usb_hub.proofs.Interface.{clear_works}
use Rattle.usb_enum.proofs.passes.settle.Goals as goal

pub returns-then-not-changed : goal.returns-then-not-changed
returns-then-not-changed g c = record {
  part = λ a. record { gone = gone_none _ (enumerating _ a); ends = λ known. tt };
  devices = λ known. record { stays = λ single. each_none StaysAs (λ j s. refl) _ };
  calls = λ known. record { unset = λ e. (refl, refl); set = λ e. absurd cc };
}

pub returns : goal.returns
returns g c =
    let call = c.clear_port.ensures in
    record {
      part = λ a. part_called c.args.port c.at_port.result c.clear_port.result c.at_port.ensures
          call.uses
          call.fault (λ known why is. inr (C_PORT_RESET, inr (rw is at (call.effect known))))
          (λ known. clear_works c.args.port C_PORT_RESET _ _ _ (call.effect known))
          (λ known. record {
            within = within_kept (call.addresses known).keeps;
            only = clear_calls a ClearResetChange refl refl refl
                (call.fault known) (call.ports known) (call.addresses known);
          });
      devices = search rules;
      calls = λ known. record {
        unset = λ e. absurd cc;
        set = λ e. record {
          outcome = c.clear_port.result;
          told = c.at_port.ensures;
          calls = call.ports known;
          goes = clear_goes c.args.port C_PORT_RESET ClearResetChange _ _ _ refl refl refl
              (call.effect known);
        };
      };
    }
