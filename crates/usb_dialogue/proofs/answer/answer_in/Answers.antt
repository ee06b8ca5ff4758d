use Rattle.std.proofs.Common.{rules}
use Rattle.usb_dialogue.proofs.AnswerLaws.{answer_in-reads}
use Rattle.usb_dialogue.proofs.answer.answer_in.Goals as goal

pub returns-clause-read : goal.returns-clause-read
returns-clause-read c =
    let first = c.in-Some.ensures.cases in
    let second = c.in-Some-split_first_chunk.ensures.cases in
    let count = c.from_le_bytes.ensures in
    answer_in-reads c.args.bytes.now c.in-Some.head.now c.in-Some-split_first_chunk.statuses.now
    c.in-Some-split_first_chunk.came.now
    (record {
      first = search rules;
      second = search rules;
      third = search rules;
      size = search rules;
    })
    c.in_ok-outcome_of.field-0 c.in_ok-outcome_of.ensures.read c.statuses_of.result
    c.statuses_of.ensures.bytes c.statuses_of.ensures.are (search rules)
