use Rattle.usb_transfer.proofs.BulkTransfers.{sending_leaves}
use Rattle.usb_transfer.proofs.laws.what_is_so_while_sending.Goals as goal

pub returns : goal.returns
returns c = sending_leaves
