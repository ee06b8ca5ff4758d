use Rattle.std.proofs.Common.{refl}
use Rattle.usb_host.proofs.PortRequests.{shows}
use Rattle.usb_host.proofs.BusCounts.{counts_spend, counts_told}
use Rattle.usb_enum.proofs.Interface.{status_most, ports_reported}
use Rattle.usb_host.proofs.StepSums.{askable_wide}
use Rattle.usb_host.proofs.host.Host.status.Goals as goal

pub returns-clause-shows : goal.returns-clause-shows
returns-clause-shows g c known =
    let s = c.port_status.ensures in
    rw (← c.self.view_is) (shows c.args.port _ _ c.requires.askable (s.uses.steps known) refl refl
    (s.fault known) (s.status known) (s.told known) (s.addresses known) c.at_port.ensures)

pub returns-clause-spends : goal.returns-clause-spends
returns-clause-spends g c =
    rw (← c.self.view_is) (counts_spend _ _ _ _ _ _ _ c.port_status.ensures.uses.spends.0
    (status_most
    c.args.port
    (askable_wide c.args.port c.requires.askable)))

pub returns-clause-told : goal.returns-clause-told
returns-clause-told g c =
    counts_told _ _ _ _ c.at_port.result (rw c.at_port.ensures (ports_reported _ _
    c.port_status.ensures.uses.told))
