use Rattle.std.proofs.Common.{refl}
use Rattle.usb_host.proofs.PortRequests.{clears_by}
use Rattle.usb_host.proofs.BusCounts.{counts_spend, counts_told}
use Rattle.usb_enum.proofs.Interface.{order_most, ports_reported}
use Rattle.usb_host.proofs.host.Host.clear.Goals as goal

pub returns-clause-clears : goal.returns-clause-clears
returns-clause-clears g c known =
    let s = c.clear_port.ensures in
    rw (← c.self.view_is) (clears_by c.args.port c.args.feature _ _ (s.uses.steps known) refl refl
    (s.fault known) (s.effect known) (s.addresses known) (s.ports known) c.at_port.ensures)

pub returns-clause-spends : goal.returns-clause-spends
returns-clause-spends g c =
    rw (← c.self.view_is) (counts_spend _ _ _ _ _ _ _ c.clear_port.ensures.uses.spends.0
    (order_most
    c.args.port))

pub returns-clause-told : goal.returns-clause-told
returns-clause-told g c =
    counts_told _ _ _ _ c.at_port.result (rw c.at_port.ensures (ports_reported _ _
    c.clear_port.ensures.uses.told))
