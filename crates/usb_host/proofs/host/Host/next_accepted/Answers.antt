use Rattle.usb_host.proofs.host.Host.next_accepted.Goals as goal

pub returns-clause-none : goal.returns-clause-none
returns-clause-none g c =
    rw (← c.self.view_is, ← c.as_ref.ensures.value) c.next_accepted.ensures.none
