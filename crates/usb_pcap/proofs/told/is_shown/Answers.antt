use Rattle.std.proofs.Common.{arith, refl, subst, sym}
use Rattle.usb_pcap.specs.{Begins}
use Rattle.usb_pcap.proofs.ShownNames.{begins_none}
use Rattle.usb_pcap.proofs.ToldLines.{shown_all, shown_more}
use Rattle.usb_pcap.proofs.told.is_shown.Goals as goal

pub bytes-init : goal.bytes-init
bytes-init c = subst (Begins _) (sym c.new-begun.ensures) begins_none

pub bytes-preserved : goal.bytes-preserved
bytes-preserved c = shown_more _ _ _ _ c.bytes-test.true refl
    (c.take_shown.ensures _ c.bytes.invariant)

pub returns : goal.returns
returns c = shown_all _ _ _ _ (omega arith) c.bytes.invariant c.is_empty.ensures
