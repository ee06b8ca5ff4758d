use Rattle.std.proofs.Common.{refl}
use Rattle.usb_transfer.proofs.Interface.{uses_none}
use Rattle.usb_hub.proofs.HubChanges.{done_fault_after}
use Rattle.usb_hub.proofs.changes.clear_port_change.Goals as goal

pub returns-in-Root-clause-uses : goal.returns-in-Root-clause-uses
returns-in-Root-clause-uses g c = uses_none tt

pub returns-in-Root-clause-cleared : goal.returns-in-Root-clause-cleared
returns-in-Root-clause-cleared g c known = rw c.in-Root.is (refl, refl)

pub returns-in-External-clause-fault : goal.returns-in-External-clause-fault
returns-in-External-clause-fault g c known =
    rw c.done_or_unknown.ensures (done_fault_after 2 _ c.clear_hub_port-cleared.result _
    (c.clear_hub_port-cleared.ensures.ordered known).ends)

pub returns-in-External-clause-cleared : goal.returns-in-External-clause-cleared
returns-in-External-clause-cleared g c known =
    rw c.in-External.is (record {
      answer = c.clear_hub_port-cleared.result;
      ordered = c.clear_hub_port-cleared.ensures.ordered known;
      is = c.done_or_unknown.ensures;
    })
