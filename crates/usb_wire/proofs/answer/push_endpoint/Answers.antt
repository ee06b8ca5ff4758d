use Rattle.std.proofs.Common.{arith, ap, length, length-append, ◌≡◌, ◌+◌, ◌∙◌, ◌∷◌, []}
use Rattle.usb_wire.proofs.AnswerLemmas.{length-encode_upper-more}
use Rattle.usb_wire.proofs.answer.push_endpoint.Goals as goal

pub returns-clause-few : goal.returns-clause-few
returns-clause-few c =
    let more = length-encode_upper-more _ _ _ c.push_byte.ensures in
    let one : length c.push.new.self.bytes ≡ length c.push_path.new.line.bytes + 1 =
    ap length (c.push.ensures.ascii (omega arith))
    ∙ length-append c.push_path.new.line.bytes (32 ∷ []) in
    omega (arith, more, one, c.push_path.ensures.few)
