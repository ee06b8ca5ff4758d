use Rattle.usb_pcap.proofs.Records.{own_may, then_records}
use Rattle.usb_pcap.proofs.record.push_host.Goals as goal

pub push_record-requires-clause-marked : goal.push_record-requires-clause-marked
push_record-requires-clause-marked c = rw c.own_mark.ensures (own_may _ _ _ c.requires.sent.2)

pub returns-clause-written : goal.returns-clause-written
returns-clause-written c = then_records _ _ _ _ _ _ c.push_pre.ensures.written
    (rw c.own_mark.ensures at c.push_record.ensures.written)
