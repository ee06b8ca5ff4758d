use Rattle.std.proofs.Common.{sym, ◌∙◌, arith}
use Rattle.usb_pcap.proofs.Texts.{bytes_on-pair}
use Rattle.usb_pcap.proofs.text.+bytes_on.Goals as goal

pub returns : goal.returns
returns t c =
    let high = sym c.is_digit.ensures ∙ c.if-not-is_digit.false in
    let low = sym c.is_digit-else-not-is_digit.ensures ∙ c.if-not-is_digit-2.false in
    let pair = bytes_on-pair c.args.bytes.items _ c.in-len2-up.len_at_least high low
    (omega arith) in
    c.bytes_on.ensures ∙ rw (
      c.push.ensures.items,
      c.value_of.ensures.value,
      c.value_of-2.ensures.value,
    ) (sym pair)
