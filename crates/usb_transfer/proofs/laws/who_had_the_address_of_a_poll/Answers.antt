use Rattle.usb_transfer.proofs.Answerers.{who_packet_had}
use Rattle.usb_transfer.proofs.laws.who_had_the_address_of_a_poll.Goals as goal

pub returns : goal.returns
returns c = who_packet_had
