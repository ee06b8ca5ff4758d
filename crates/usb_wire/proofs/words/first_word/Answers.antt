use Rattle.usb_wire.proofs.WordLemmas.{words-split_once}
use Rattle.usb_wire.proofs.words.first_word.Goals as goal

pub returns : goal.returns
returns c = words-split_once c.args.line.now c.split_once.result c.split_once.ensures.cases
