use Rattle.usb_wire.proofs.WordLemmas.{five-words}
use Rattle.usb_wire.proofs.words.words_of.Goals as goal

pub returns-in-Some-first_word-3 : goal.returns-in-Some-first_word-3
returns-in-Some-first_word-3 c =
    let last = c.in-Some-first_word-3.field-0 in
    five-words c.args.line.now c.in-Some.first.now c.in-Some-first_word.second.now
    c.in-Some-first_word-2.third.now last.0.now c.in-Some.after_first.now
    c.in-Some-first_word.after_second.now c.in-Some-first_word-2.fourth.now last.1.now
    c.in-Some.ensures c.in-Some-first_word.ensures c.in-Some-first_word-2.ensures
    c.in-Some-first_word-3.ensures
