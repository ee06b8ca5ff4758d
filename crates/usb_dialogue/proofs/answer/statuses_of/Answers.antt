use Rattle.std.proofs.Common.{ap, length, rules, sym}
use Rattle.usb_dialogue.proofs.StatusLaws.{bytes-28, seven_statuses}
use Rattle.usb_dialogue.proofs.answer.statuses_of.Goals as goal

pub returns-clause-bytes : goal.returns-clause-bytes
returns-clause-bytes c =
    rw (
      c.four_at.ensures,
      c.four_at-2.ensures,
      c.four_at-3.ensures,
      c.four_at-4.ensures,
      c.four_at-5.ensures,
      c.four_at-6.ensures,
      c.four_at-7.ensures,
    ) (sym (bytes-28 c.args.bytes.now (search rules)))

pub returns-clause-are : goal.returns-clause-are
returns-clause-are c =
    seven_statuses c.four_at.result c.four_at-2.result c.four_at-3.result c.four_at-4.result
    c.four_at-5.result c.four_at-6.result c.four_at-7.result (ap length c.four_at.ensures)
    (ap length c.four_at-2.ensures) (ap length c.four_at-3.ensures) (ap length c.four_at-4.ensures)
    (ap length c.four_at-5.ensures) (ap length c.four_at-6.ensures) (ap length c.four_at-7.ensures)
