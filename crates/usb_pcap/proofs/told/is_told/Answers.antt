use Rattle.usb_pcap.proofs.ToldLines.{else_decides}
use Rattle.usb_pcap.proofs.told.is_told.Goals as goal

pub returns-else-is_told_plug : goal.returns-else-is_told_plug
returns-else-is_told_plug c = else_decides _ _ c.is_told_plug.ensures c.if-is_told_plug.false
    c.is_short_report.ensures
