use Rattle.std.proofs.Common.{◌∙◌, sym, arith}
use Rattle.usb_packet.proofs.TextLemmas.{encode_upper_none}
use Rattle.usb_wire.proofs.AnswerLemmas.{length-encode_upper-more}
use Rattle.usb_wire.proofs.answer.push_digits.Goals as goal
use Rattle.usb_packet.proofs.Interface.{encode_upper_byte}

pub bytes-preserved : goal.bytes-preserved
bytes-preserved c = record {
  room = let more = length-encode_upper-more c.bytes.line.bytes c.push_byte.new.line.bytes _
      c.push_byte.ensures in omega (arith, more, c.bytes.invariant.room);
  text = encode_upper_byte c.args.bytes.now c.bytes.line.bytes c.push_byte.new.line.bytes _
      c.bytes.byte-index c.bytes-test.true c.push_byte.ensures c.bytes.invariant.text;
}

pub returns : goal.returns
returns c = sym (encode_upper_none c.args.bytes.now c.bytes.line.bytes c.bytes.byte-index
    c.bytes-test.false) ∙ c.bytes.invariant.text
