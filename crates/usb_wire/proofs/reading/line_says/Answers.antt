use Rattle.std.proofs.Common.{◌≡◌, ◌∙◌, Ok, ap, sym}
use Rattle.usb_wire.specs.Reading.{◌>>=◌}
use Rattle.usb_wire.specs.{line_says, result_map, text_of_line, words_say, words}
use Rattle.usb_wire.proofs.SaidLaws.{words_say-shape}
use Rattle.usb_wire.proofs.reading.line_says.Goals as goal

pub returns : goal.returns
unfolding line_says
returns c =
    let text = c.in_ok-text.text in
    let read : text_of_line c.args.line.now ≡ Ok text.now = c.text_of_line.ensures
    ∙ ap (result_map (λ t. t.now)) c.in_ok-text.was in
    c.words_say.ensures ∙ sym (words_say-shape c.args.asked c.args.roots (words text.now)
    c.words_of.result c.words_of.ensures)
    ∙ sym (ap (λ r. r >>= (λ text. words_say c.args.asked c.args.roots (words text))) read)
