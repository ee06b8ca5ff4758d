use Rattle.std.proofs.Common.{sym, ◌∙◌}
use Rattle.usb_plan.proofs.Entries.{only_named-refs}
use Rattle.usb_plan.proofs.keys.only_named.Goals as goal

pub returns : goal.returns
returns c = c.all_named.ensures ∙ sym (only_named-refs c.args.names.now c.args.table.now.entries)
