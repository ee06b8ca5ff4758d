use Rattle.std.proofs.Common.{◌/◌, ◌%◌}
use Rattle.usb_pcap.proofs.Records.{four_parts}
use Rattle.usb_pcap.proofs.record.push_head.Goals as goal

pub returns : goal.returns
returns c =
    four_parts _ _
    _ _ _
    _ _
    _ _
    c.push_word.ensures c.push_word-2.ensures c.push_word-3.ensures c.push_word-4.ensures
