use Rattle.std.proofs.Common.{arith}
use Rattle.usb_pcap.proofs.ToldLines.{report_decides}
use Rattle.usb_pcap.proofs.told.is_short_report.Goals as goal

pub returns-then-line-le-LONGEST : goal.returns-then-line-le-LONGEST
returns-then-line-le-LONGEST c = report_decides _ _ (omega arith) c.is_report.ensures
