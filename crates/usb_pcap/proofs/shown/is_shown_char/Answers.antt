use Rattle.std.proofs.Common.{false}
use Rattle.usb_pcap.proofs.ShownNames.{shown_char_decides}
use Rattle.usb_pcap.proofs.shown.is_shown_char.Goals as goal

pub returns-else-is_plain_char : goal.returns-else-is_plain_char
returns-else-is_plain_char c = shown_char_decides _ false _
    (rw c.if-is_plain_char.false at c.is_plain_char.ensures) c.is_escape.ensures
