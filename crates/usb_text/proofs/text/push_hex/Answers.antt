use Rattle.std.proofs.Common.{◌≡◌, ◌<◌, ◌∙◌, ℕ, List, ◌++◌, length, take-append-drop, ap, sym}
use Rattle.std.proofs.Common.{arith}
use Rattle.usb_text.proofs.Digits.{digits_all, encode_upper-piece, hex_text_some}
use Rattle.usb_text.proofs.text.push_hex.Goals as goal

pub pieces-preserved : goal.pieces-preserved
pieces-preserved c =
    let rest = c.pieces.rest.now in
    let parts : rest ≡ c.split_at.result.0.now ++ c.split_at.result.1.now =
    rw (c.split_at.ensures.front, c.split_at.ensures.back)
    (sym (take-append-drop c.min.result rest)) in
    encode_upper-piece rest _ _ c.pieces.out.items _ _ parts c.in_ok-push_digits.ensures
    c.pieces.invariant

pub returns : goal.returns
returns c =
    let none : length c.pieces.rest.now ≡ 0 = grind arith in
    let some : 0 < length c.args.bytes.now = grind arith in
    digits_all c.pieces.rest.now c.pieces.out.items _ none c.pieces.invariant
    ∙ ap (λ (l : List ℕ). c.args.out.now.items ++ l) (sym (hex_text_some c.args.bytes.now some))
