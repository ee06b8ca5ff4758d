use Rattle.usb_transfer.proofs.Answerers.{who_read_had, who_write_had, who_send_had}
use Rattle.usb_transfer.proofs.Answerers.{who_receive_had, who_poll_had}
use Rattle.usb_transfer.proofs.laws.who_had_the_address_of_a_transfer.Goals as goal

pub returns : goal.returns
returns c = record {
  reads = who_read_had;
  writes = who_write_had;
  sends = who_send_had;
  receives = who_receive_had;
  polls = who_poll_had;
}
