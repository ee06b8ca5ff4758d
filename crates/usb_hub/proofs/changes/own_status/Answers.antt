use Rattle.std.proofs.Common.{rules}
use Rattle.usb_hub.proofs.changes.own_status.Goals as goal

pub returns-in_err-bytes-clause-told : goal.returns-in_err-bytes-clause-told
returns-in_err-bytes-clause-told g c known = search rules

pub returns-clause-told : goal.returns-clause-told
returns-clause-told g c known = search rules
