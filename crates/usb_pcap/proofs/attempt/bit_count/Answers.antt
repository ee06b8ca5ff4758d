use Rattle.std.proofs.Common.{rules}
use Rattle.usb_world.specs.{bit_count}
use Rattle.usb_pcap.proofs.attempt.bit_count.Goals as goal

pub returns-in-Payload : goal.returns-in-Payload
unfolding bit_count
returns-in-Payload c = search rules

pub returns-in-Ack : goal.returns-in-Ack
unfolding bit_count
returns-in-Ack c = search rules

pub returns-in-Ack-2 : goal.returns-in-Ack-2
unfolding bit_count
returns-in-Ack-2 c = search rules

pub returns-in-Ack-3 : goal.returns-in-Ack-3
unfolding bit_count
returns-in-Ack-3 c = search rules

pub returns-in-Ack-4 : goal.returns-in-Ack-4
unfolding bit_count
returns-in-Ack-4 c = search rules

pub returns-in-Token : goal.returns-in-Token
unfolding bit_count
returns-in-Token c = search rules

pub returns-in-Token-2 : goal.returns-in-Token-2
unfolding bit_count
returns-in-Token-2 c = search rules
