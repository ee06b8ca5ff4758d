use Rattle.std.proofs.Common.{length}
use Rattle.usb_dialogue.proofs.RowLaws.{Cut}
use Rattle.usb_dialogue.proofs.row.packets_of.Given as goal

-- the packets so far, and the bytes that are left
abbrev pub invariant-packets : goal.invariant-packets
invariant-packets l = Cut l.fn.first l.fn.max l.fn.statuses l.bytes l.answers.items l.rest l.due

abbrev pub decreases-packets : goal.decreases-packets
decreases-packets l = length l.rest
