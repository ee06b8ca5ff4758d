use Rattle.usb_host.proofs.rests.RestingRounds.{none_right}
use Rattle.usb_host.proofs.host.Host.next_waiting.Goals as goal

pub returns-clause-none : goal.returns-clause-none
returns-clause-none g c = rw (← c.self.view_is, ← c.as_ref.ensures.value)
    (none_right _ _ c.next_waiting.result c.next_waiting.ensures.none)
