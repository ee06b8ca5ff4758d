use Rattle.std.proofs.Common.{◌∙◌, sym}
use Rattle.usb_transfer.proofs.TransactionRows.{flips_even, flips_odd}
use Rattle.usb_transfer.proofs.transaction_rows.toggle_behind.Goals as goal

pub returns-then-packets-eq0 : goal.returns-then-packets-eq0
returns-then-packets-eq0 c = sym (flips_even c.args.packets c.args.toggle c.if-packets-eq0.true)

pub returns-else-packets-eq0 : goal.returns-else-packets-eq0
returns-else-packets-eq0 c =
    c.other.ensures ∙ sym (flips_odd c.args.packets c.args.toggle c.if-packets-eq0.false)
