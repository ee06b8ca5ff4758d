use Rattle.usb_pcap.proofs.Records.{from_nothing, then_records}
use Rattle.usb_pcap.proofs.record.records_of.Goals as goal

pub returns : goal.returns
returns c =
    from_nothing _ _ _ _ c.new-records.ensures
    (then_records _ _ _ _ _ _ (then_records _ _ _ _ _ _
    (then_records _ _ _ _ _ _ c.push_host.ensures.written c.push_next.ensures.written)
    c.push_answer.ensures.written) c.push_next-2.ensures.written)
