use Rattle.usb_transfer.proofs.AddressLosses.{in_losses, other_losses, out_losses, read_losses}
use Rattle.usb_transfer.proofs.AddressLosses.{set_up_losses}
use Rattle.usb_transfer.proofs.transaction_laws.address_losses_of_a_transaction.Goals as goal

pub returns : goal.returns
returns c = record {
  into = in_losses;
  reads = read_losses;
  others = λ t ep old new outcomes other settled trail. other_losses t ep old new other settled
      trail;
  set_up = λ t bytes old new outcomes none settled trail. set_up_losses t bytes old new none settled
      trail;
  out = λ t ep toggle bytes old new outcomes settled trail. out_losses t ep toggle bytes old new
      settled trail;
}
