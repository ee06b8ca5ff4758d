use Rattle.usb_host.proofs.entries.KeptBytes.{keeps_few}
use Rattle.usb_host.proofs.host.Host.tree.Goals as goal

pub returns-clause-few : goal.returns-clause-few
returns-clause-few g c = rw (← c.self.view_is) (keeps_few _ _ _ c.self.invariant)

pub returns-in_err-entries-clause-few : goal.returns-in_err-entries-clause-few
returns-in_err-entries-clause-few g c = rw (← c.self.view_is) (keeps_few _ _ _ c.self.invariant)
