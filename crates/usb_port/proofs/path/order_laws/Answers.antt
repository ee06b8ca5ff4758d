use Rattle.usb_port.proofs.OrderLaws as laws
use Rattle.usb_port.proofs.path.order_laws.Goals as goal

pub returns : goal.returns
returns c = record {
  below = laws.is_below-extension;
  before = laws.below_is_after;
  rises = laws.rank_of-less;
  bound = laws.bound;
}
