use Rattle.usb_host.proofs.arrivals.News.{rise_none}
use Rattle.usb_host.proofs.reported.Reported.new.Goals as goal

pub invariant_of-result : goal.invariant_of-result
invariant_of-result c = rw c.new.ensures rise_none
