use Rattle.std.proofs.Common.{arith}
use Rattle.usb_pcap.proofs.Items.{items_goes}
use Rattle.usb_pcap.proofs.item.behind_items.Goals as goal

pub items-preserved : goal.items-preserved
items-preserved c = items_goes _ _ _ _
    _ _ _ (omega arith) c.items.invariant c.behind_item.ensures c.in-Some.is
