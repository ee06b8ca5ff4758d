use Rattle.usb_pcap.proofs.ToldLines.{plug_formed, plug_unformed}
use Rattle.usb_pcap.proofs.told.is_told_plug.Goals as goal

pub returns-then-is_plug : goal.returns-then-is_plug
returns-then-is_plug c = plug_formed _ _ _ c.is_plug.ensures c.if-is_plug.true c.is_shown.ensures

pub returns-else-is_plug : goal.returns-else-is_plug
returns-else-is_plug c = plug_unformed _ _ c.is_plug.ensures c.if-is_plug.false
