use Rattle.std.proofs.Common.{sym, arith}
use Rattle.std.proofs.lemmas.List.{take_all}
use Rattle.usb_diagnosis.proofs.shown.front.Goals as goal

pub returns-then-letters-lt-MOST_SHOWN : goal.returns-then-letters-lt-MOST_SHOWN
returns-then-letters-lt-MOST_SHOWN c = sym (take_all 60 c.args.letters.now (omega arith))
