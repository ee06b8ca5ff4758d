use Rattle.std.proofs.Common.{◌∙◌, sym}
use Rattle.usb_pcap.proofs.ShownNames.{no_text, plain_decides}
use Rattle.usb_pcap.proofs.shown.is_plain_char.Goals as goal

pub returns-in_default : goal.returns-in_default
returns-in_default c = (
  λ e. absurd (cc),
  λ plain. absurd (no_text _ c.in_default.ensures.cases.0 plain),
)

pub returns-in-Ok-parse : goal.returns-in-Ok-parse
returns-in-Ok-parse c = plain_decides _ _ _ c.in-Ok.ensures.cases.1
    (sym c.in-Ok.ensures.cases.0 ∙ c.in-Ok-parse.ensures.value) c.is_escaped.ensures
