use Rattle.std.proofs.Common.{◌∙◌}
use Rattle.usb_pcap.proofs.Attempts.{read_attempt-some}
use Rattle.usb_pcap.proofs.Printed.{read_attempt-each}
use Rattle.usb_pcap.proofs.attempt.read_attempt.Goals as goal

pub returns-clause-found : goal.returns-clause-found
returns-clause-found c = read_attempt-some _ _ c.attempt_of.ensures

pub returns-clause-each : goal.returns-clause-each
returns-clause-each c = λ a of. c.attempt_of.ensures ∙ read_attempt-each _ a of
