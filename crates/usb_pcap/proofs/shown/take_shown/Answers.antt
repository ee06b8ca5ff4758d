use Rattle.std.proofs.Common.{◌∙◌, sym, subst}
use Rattle.usb_pcap.specs.{Begins}
use Rattle.usb_pcap.proofs.ShownNames.{begins_anew, begins_more, begins_plain, begins_stuck}
use Rattle.usb_pcap.proofs.ShownNames.{has_room, is_stuck}
use Rattle.usb_pcap.proofs.shown.take_shown.Goals as goal

pub returns-then-is_plain_byte : goal.returns-then-is_plain_byte
returns-then-is_plain_byte c = λ line h.
    let plain = c.is_plain_byte.ensures c.if-is_plain_byte.true in
    begins_plain _ _ _ (sym c.is_empty.ensures ∙ c.if-is_empty.true) plain.0 plain.1 h

pub returns-then-is_full : goal.returns-then-is_full
returns-then-is_full c = λ line h. begins_stuck _ _ c.args.byte
    (is_stuck _ (sym c.is_full.ensures.value ∙ c.if-is_full.true)) h

pub returns-then-is_shown_char : goal.returns-then-is_shown_char
returns-then-is_shown_char c = λ line h.
    subst (Begins _) (sym c.clear.ensures) (begins_anew _ _ c.args.byte
    (has_room _ (sym c.is_full.ensures.value ∙ c.if-is_full.false) c.is_full.ensures.fits)
    (rw (c.as_slice.ensures.value ∙ c.push.ensures.items)
    at (c.is_shown_char.ensures.0 c.if-is_shown_char.true)) h)

pub returns-else-is_shown_char : goal.returns-else-is_shown_char
returns-else-is_shown_char c = λ line h.
    subst (Begins _) (sym c.push.ensures.items) (begins_more _ _ c.args.byte
    (has_room _ (sym c.is_full.ensures.value ∙ c.if-is_full.false) c.is_full.ensures.fits)
    (λ is. let yes = c.is_shown_char.ensures.1
    (rw (c.as_slice.ensures.value ∙ c.push.ensures.items) is) in
    let no = c.if-is_shown_char.false in cc) h)
