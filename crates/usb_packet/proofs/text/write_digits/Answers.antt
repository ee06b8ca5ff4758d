use Rattle.std.proofs.Common.{◌≡◌, ◌+◌, ◌*◌, ◌∙◌, ℕ, ap, sym, arith, length, take, length-set}
use Rattle.std.proofs.lemmas.List.{drop-set-lt}
use Rattle.usb_packet.proofs.TextLemmas.{encode_upper-set, drop_more_both, encode_upper_none}
use Rattle.usb_packet.proofs.text.write_digits.Goals as goal

pub bytes-preserved : goal.bytes-preserved
bytes-preserved c =
    let i = c.bytes.i in
    let room = c.bytes.invariant.room in
    record {
      room = length-set _ _ _ ∙ length-set _ _ _ ∙ room;
      behind = drop-set-lt (2 * (i + 1)) _ (2 * i + 1) _ (omega arith)
          ∙ drop-set-lt (2 * (i + 1)) c.bytes.digits (2 * i) _ (omega arith)
          ∙ drop_more_both c.bytes.digits c.args.digits.now (2 * i) (2 * (i + 1)) (omega arith)
          c.bytes.invariant.behind;
      text = encode_upper-set c.args.bytes.now c.bytes.digits c.hex_digits.result c.bytes.i
          c.bytes-test.true (omega (arith, room, c.requires)) c.hex_digits.ensures
          c.bytes.invariant.text;
    }

pub returns-clause-text : goal.returns-clause-text
returns-clause-text c =
    let end : c.bytes.i ≡ length c.args.bytes.now =
    omega (arith, c.bytes-test.false, c.bytes.auto.i-end) in
    ap (λ (n : ℕ). take (2 * n) c.bytes.digits) (sym end)
    ∙ sym (encode_upper_none c.args.bytes.now (take (2 * c.bytes.i) c.bytes.digits) c.bytes.i
    c.bytes-test.false) ∙ c.bytes.invariant.text
