use Rattle.std.proofs.Common.{refl, arith}
use Rattle.usb_hub.proofs.Interface.{keeps_none}
use Rattle.usb_host.proofs.PortRequests.{own_by, requested-none}
use Rattle.usb_hub.specs.{External}
use Rattle.usb_enum.proofs.Interface.{status_most, ports_reported}
use Rattle.usb_host.proofs.StepSums.{goes_by}
use Rattle.usb_host.proofs.BusCounts.{counts_spend, counts_told}
use Rattle.usb_host.proofs.host.Host.clear_own.Goals as goal

pub returns-in-Root-clause-clears : goal.returns-in-Root-clause-clears
returns-in-Root-clause-clears g c known = record {
  requested = requested-none tt;
  addresses = keeps_none c.args.self.now.world;
  clears = rw c.in-Root.is (refl, refl);
}

pub returns-in-External-clause-clears : goal.returns-in-External-clause-clears
returns-in-External-clause-clears g c known =
    let s = c.clear_hub_changes.ensures in
    rw (c.in-External.is, ← c.self.view_is) (own_by c.in-External.hub c.in-External.port _ _
    c.clear_hub_changes.result
    (goes_by _ _ (s.uses.steps known) (omega (
      arith,
      status_most (External c.in-External.hub c.in-External.port)
          (rw c.in-External.is at c.requires.askable).wide,
    )) refl refl) (s.fault known) (s.addresses known) (s.cleared known)
    c.at_port.ensures)

pub returns-in-External-clause-spends : goal.returns-in-External-clause-spends
returns-in-External-clause-spends g c =
    rw (← c.self.view_is) (counts_spend _ _ _ _ _ _ _
    c.clear_hub_changes.ensures.uses.spends.0 (omega (
      arith,
      status_most (External c.in-External.hub c.in-External.port)
          (rw c.in-External.is at c.requires.askable).wide,
    )))

pub returns-in-External-clause-told : goal.returns-in-External-clause-told
returns-in-External-clause-told g c =
    counts_told _ _ _ _ c.at_port.result (rw c.at_port.ensures (ports_reported _ _
    c.clear_hub_changes.ensures.uses.told))
