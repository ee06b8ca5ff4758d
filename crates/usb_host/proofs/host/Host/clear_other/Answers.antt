use Rattle.std.proofs.Common.{refl}
use Rattle.usb_host.proofs.PortRequests.{others_by, others_none}
use Rattle.usb_host.proofs.BusCounts.{counts_spend, counts_told}
use Rattle.usb_enum.proofs.Interface.{order_most, ports_reported}
use Rattle.usb_host.proofs.host.Host.clear_other.Goals as goal

pub returns-then-asked-clause-clears : goal.returns-then-asked-clause-clears
returns-then-asked-clause-clears g c known =
    let s = c.clear_port_change.ensures in
    rw (← c.self.view_is) (others_by c.args.port c.args.feature _ _ c.clear_port_change.result
    c.if-asked.true (s.uses.steps known) refl refl (s.fault known) (s.cleared known)
    (s.addresses known) (s.devices known) c.at_port.ensures)

pub returns-else-asked-clause-clears : goal.returns-else-asked-clause-clears
returns-else-asked-clause-clears g c known = others_none c.if-asked.false

pub returns-then-asked-clause-spends : goal.returns-then-asked-clause-spends
returns-then-asked-clause-spends g c =
    rw (← c.self.view_is) (counts_spend _ _ _ _ _ _ _
    c.clear_port_change.ensures.uses.spends.0
    (order_most c.args.port))

pub returns-then-asked-clause-told : goal.returns-then-asked-clause-told
returns-then-asked-clause-told g c =
    counts_told _ _ _ _ c.at_port.result (rw c.at_port.ensures (ports_reported _ _
    c.clear_port_change.ensures.uses.told))
