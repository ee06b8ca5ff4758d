use Rattle.std.proofs.Common.{arith, refl}
use Rattle.usb_pcap.proofs.Captures.{stands_long, stands_more}
use Rattle.usb_pcap.proofs.capturing.OpenLine.take.Goals as goal

pub returns-then-len-lt-LONGEST-clause-comes : goal.returns-then-len-lt-LONGEST-clause-comes
returns-then-len-lt-LONGEST-clause-comes g c =
    λ w text h. stands_more w _ _ _ _ _ c.if-byte-eq10.false h refl (omega arith)
    c.push.ensures.items refl c.take_shown.ensures refl

pub returns-else-len-lt-LONGEST-clause-comes : goal.returns-else-len-lt-LONGEST-clause-comes
returns-else-len-lt-LONGEST-clause-comes g c =
    λ w text h. stands_long w _ _ _ _ _ c.if-byte-eq10.false h refl (omega arith) refl
    refl c.take_shown.ensures refl
