use Rattle.std.proofs.Common.{ap, refl}
use Rattle.usb_far.specs.{played_of}
use Rattle.usb_bench.specs.{NoReply}
use Rattle.usb_bench.proofs.judge.Judge.answer_one.Goals as goal

pub returns-in-Ok-answer_placed-clause-judged : goal.returns-in-Ok-answer_placed-clause-judged
returns-in-Ok-answer_placed-clause-judged g c = record {
  reply = c.in-Ok-answer_placed.ensures.judged.reply;
  one = record {
    placed_judge = c.place.new.self;
    placed = played_of c.place.new.far;
    place = c.in-Ok.ensures.placed;
    behind = c.in-Ok-answer_placed.ensures.judged.one;
  };
  left = c.in-Ok-answer_placed.ensures.judged.left;
}

pub returns-in-Err-answer_placed-clause-fault : goal.returns-in-Err-answer_placed-clause-fault
returns-in-Err-answer_placed-clause-fault g c =
    NoReply.behind c.place.new.self (played_of c.place.new.far) c.in-Ok.ensures.placed
    c.in-Err-answer_placed.ensures.fault

pub returns-in-Err-clause-fault : goal.returns-in-Err-clause-fault
returns-in-Err-clause-fault g c =
    NoReply.unplaced c.in-Err.ensures.fault (ap played_of c.in-Err.ensures.kept) refl
