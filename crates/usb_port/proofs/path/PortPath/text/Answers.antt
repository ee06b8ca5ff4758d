use Rattle.std.proofs.Common.{◌∙◌, ap, sym, arith, length, take, get_or}
use Rattle.std.proofs.lemmas.List.{take_more, length-take-le}
use Rattle.usb_port.specs.{path_text, with_number}
use Rattle.usb_port.proofs.Paths.{with_number-path_text, length-path_text}
use Rattle.usb_port.proofs.path.PortPath.text.Goals as goal

pub loop-number-init : goal.loop-number-init
unfolding path_text
loop-number-init c = c.new-text.ensures

pub push_number-requires-clause-room : goal.push_number-requires-clause-room
push_number-requires-clause-room c =
    let numbers = c.numbers-number-items.result.now in
    let most = c.numbers-number-items.ensures.path.1 in
    let all = ap length c.numbers-number-items.ensures.value in
    let i = c.loop-number.number-index in
    let size = length-take-le i numbers (omega arith) in
    let short = length-path_text (take i numbers) in
    let same = ap length c.loop-number.invariant in
    omega (arith, most, all, size, short, same)

pub loop-number-preserved : goal.loop-number-preserved
loop-number-preserved c =
    let numbers = c.numbers-number-items.result.now in
    let i = c.loop-number.number-index in
    let number = get_or numbers i 0 in
    c.push_number.ensures
    ∙ ap (λ t. with_number t number) c.loop-number.invariant
    ∙ with_number-path_text (take i numbers) number
    ∙ ap path_text (sym (take_more numbers i 0 (omega arith)))
