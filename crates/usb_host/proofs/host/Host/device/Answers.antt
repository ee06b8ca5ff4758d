use Rattle.usb_host.proofs.arrivals.KeptNumbers.{numbers_fit}
use Rattle.usb_host.proofs.host.Host.device.Goals as goal

pub returns-in-Some-Device-clause-numbers : goal.returns-in-Some-Device-clause-numbers
returns-in-Some-Device-clause-numbers g c =
    rw (← c.self.view_is) (numbers_fit _ c.self.inside.pool c.has_next-more.ensures.numbers
    c.self.invariant.accounts c.self.invariant.range)

pub returns-in_default-clause-numbers : goal.returns-in_default-clause-numbers
returns-in_default-clause-numbers g c =
    rw (← c.self.view_is) (numbers_fit _ c.self.inside.pool c.has_next-more.ensures.numbers
    c.self.invariant.accounts c.self.invariant.range)
