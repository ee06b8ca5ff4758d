use Rattle.std.proofs.Common.{length}
use Rattle.usb_pcap.proofs.part.+behind_any.Given as goal

abbrev pub decreases-behind_any : goal.decreases-behind_any
decreases-behind_any l = length l.words.now
