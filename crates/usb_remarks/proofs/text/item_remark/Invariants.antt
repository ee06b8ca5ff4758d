use Rattle.std.proofs.Common.{◌-◌, length}
use Rattle.usb_remarks.proofs.Items.{ItemsLeft}
use Rattle.usb_remarks.proofs.text.item_remark.Given as goal

abbrev pub invariant-items : goal.invariant-items
invariant-items l = ItemsLeft l.text l.at

abbrev pub decreases-items : goal.decreases-items
decreases-items l = length l.text - l.at
