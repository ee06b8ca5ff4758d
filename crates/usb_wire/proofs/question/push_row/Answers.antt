use Rattle.std.proofs.Common.{ap, arith, length, length-append}
use Rattle.usb_packet.specs.{hex_text}
use Rattle.usb_wire.proofs.FieldLemmas.{hex_value-hex_text}
use Rattle.usb_wire.proofs.ReadLaws.{bytes_word}
use Rattle.usb_wire.proofs.question.push_row.Goals as goal

pub returns-clause-few : goal.returns-clause-few
returns-clause-few c =
    let word = bytes_word 448 (hex_text c.args.bytes.now) c.args.bytes.now
    (hex_value-hex_text c.args.bytes.now (λ i. omega (arith, c.type_inv.bytes i))) c.requires.few in
    let size = length-append c.args.line.now.bytes (hex_text c.args.bytes.now) in
    omega (arith, ap length c.push_bytes.ensures, size, word.short, c.requires.front)
