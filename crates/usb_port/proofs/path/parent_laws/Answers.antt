use Rattle.usb_port.proofs.OrderLaws as laws
use Rattle.usb_port.proofs.path.parent_laws.Goals as goal

pub returns : goal.returns
returns c = record {
  parent = laws.parent;
  port = laws.port_on_hub-push;
  rejoined = laws.rejoined;
  is_path = laws.is_path;
}
