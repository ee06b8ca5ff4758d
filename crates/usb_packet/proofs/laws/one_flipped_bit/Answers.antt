use Rattle.usb_packet.proofs.FlipLaw.{flipped_apart}
use Rattle.usb_packet.proofs.laws.one_flipped_bit.Goals as goal

pub returns : goal.returns
returns c = flipped_apart c.check_laws.ensures.five_bits c.check_laws.ensures.sixteen_bits
