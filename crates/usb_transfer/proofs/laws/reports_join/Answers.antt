use Rattle.usb_transfer.proofs.Reports.{reports_leave}
use Rattle.usb_transfer.proofs.laws.reports_join.Goals as goal

pub returns : goal.returns
returns c = reports_leave
