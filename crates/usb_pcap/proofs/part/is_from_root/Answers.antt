use Rattle.std.proofs.Common.{sym}
use Rattle.usb_pcap.proofs.Items.{no_path}
use Rattle.usb_pcap.proofs.part.is_from_root.Goals as goal

pub returns-in-Err : goal.returns-in-Err
returns-in-Err c = sym (no_path c.args.text.now c.in-Err.ensures.cases.0)
