use Rattle.std.proofs.Common.{arith}
use Rattle.usb_pcap.proofs.Records.{may-bit, one_record}
use Rattle.usb_pcap.proofs.record.push_record.Goals as goal

pub damaged-bytes-requires-clause-bit : goal.damaged-bytes-requires-clause-bit
damaged-bytes-requires-clause-bit c = may-bit _ _ _ c.requires.marked c.encode.ensures

pub returns-clause-written : goal.returns-clause-written
returns-clause-written c =
    let damaged = c.damaged-bytes.ensures in
    one_record _ _ _ _ _ _ _ _ _ c.encode.ensures (may-bit _ _ _ c.requires.marked c.encode.ensures)
    damaged.value (omega (arith, damaged.same)) c.push_head.ensures
    (rw c.as_slice.ensures.value at c.push_bytes.ensures)
