use Rattle.usb_world.proofs.ports.RestingPorts.{rests_or_pends, stands_or_pends}
use Rattle.usb_exchange.proofs.laws.a_port_rests_or_is_pending.Goals as goal

pub returns-clause-rests : goal.returns-clause-rests
returns-clause-rests c = λ p w v course on. rests_or_pends p course on

pub returns-clause-itself : goal.returns-clause-itself
returns-clause-itself c = λ p w v course on. stands_or_pends p course on
