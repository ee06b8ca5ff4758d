use Rattle.std.proofs.Common.{inl}
use Rattle.usb_enum.proofs.devices.Frames.{status_asks}
use Rattle.usb_enum.proofs.Parts.{part_called}
use Rattle.usb_enum.proofs.courses.Losses.{status_goes}
use Rattle.usb_hub.proofs.Interface.{read_works}
use Rattle.usb_enum.proofs.passes.read_status.Goals as goal

pub returns : goal.returns
returns g c =
    let call = c.port_status.ensures in
    record {
      read = part_called c.args.port c.at_port.result c.port_status.result c.at_port.ensures
          call.uses call.fault (λ known why is. inl (rw is at (call.status known)))
          (λ known. read_works c.args.port _ _ _ (call.status known))
          (λ known. status_asks (call.status known) (call.fault known) (call.addresses known));
      status = λ known. record {
        outcome = c.port_status.result;
        told = c.at_port.ensures;
        tells = call.told known;
        read = call.status known;
        goes = status_goes _ _ _ _ (call.status known);
      };
    }
