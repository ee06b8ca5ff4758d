use Rattle.std.proofs.Common.{sym, ◌∙◌}
use Rattle.usb_diagnosis.proofs.KnownKeys.{known_names}
use Rattle.usb_diagnosis.proofs.trouble.is_known.Goals as goal

pub returns : goal.returns
returns c = c.some_has_name.ensures ∙ sym (known_names c.args.name.now c.args.keys.now)
