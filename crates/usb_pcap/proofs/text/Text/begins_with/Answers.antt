use Rattle.std.proofs.Common.{◌∙◌}
use Rattle.usb_pcap.proofs.Texts.{is_some-strip}
use Rattle.usb_pcap.proofs.text.Text.begins_with.Goals as goal

pub returns : goal.returns
returns c = rw (← c.self.view_is) (c.is_some.ensures
    ∙ is_some-strip _ _ _ c.strip_prefix.ensures.cases)
