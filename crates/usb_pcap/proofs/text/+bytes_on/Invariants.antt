use Rattle.std.proofs.Common.{length}
use Rattle.usb_pcap.proofs.text.+bytes_on.Given as goal

abbrev pub decreases-bytes_on : goal.decreases-bytes_on
decreases-bytes_on l = length l.text.now
