use Rattle.std.proofs.Common.{arith}
use Rattle.usb_dialogue.proofs.RowLaws.{came_none, came_packets}
use Rattle.usb_dialogue.proofs.row.first_answers.Goals as goal

pub returns-then-is_empty-clause-first : goal.returns-then-is_empty-clause-first
returns-then-is_empty-clause-first c =
    came_none c.args.statuses c.args.question.now c.args.before.now c.new.result.items
    c.is_empty.result c.is_empty.ensures c.if-is_empty.true c.new.ensures.items

pub returns-clause-first : goal.returns-clause-first
returns-clause-first c =
    came_packets c.args.statuses c.args.question.now c.in-Ins.to c.in-Ins.toggle c.in-Ins.most
    c.from-max.result c.from.result c.args.before.now c.in_ok-packets_of.field-0.items c.in-Ins.is
    c.from-max.ensures c.from.ensures c.in_ok-packets_of.ensures
    (omega (arith, c.if-before-from.false))
