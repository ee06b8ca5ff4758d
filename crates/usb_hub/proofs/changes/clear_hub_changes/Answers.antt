use Rattle.std.proofs.Common.{refl, subst}
use Rattle.usb_request.specs.{get_hub_status}
use Rattle.usb_transfer.proofs.Interface.{uses_then}
use Rattle.usb_hub.specs.{hub_status, not_told, told, ReadAs}
use Rattle.usb_hub.proofs.HubChanges.{told_bus}
use Rattle.usb_hub.proofs.changes.clear_hub_changes.Goals as goal

pub returns-in-Err-clause-fault : goal.returns-in-Err-clause-fault
returns-in-Err-clause-fault g c known =
    told_bus 3 _ c.own_status.result _ _ (c.own_status.ensures.told known).ends c.in-Err.is

pub returns-in-Ok-clause-cleared : goal.returns-in-Ok-clause-cleared
returns-in-Ok-clause-cleared g c known =
    told c.in-Ok.status (g.B.Bus.world c.own_status.new.bus)
    (subst (λ r. ReadAs hub_status c.args.hub get_hub_status (g.B.Bus.world c.args.bus.now) r
    (g.B.Bus.world c.own_status.new.bus)) c.in-Ok.is (c.own_status.ensures.told known))
    (c.clear_each.ensures.cleared known)

pub returns-in-Err-clause-cleared : goal.returns-in-Err-clause-cleared
returns-in-Err-clause-cleared g c known =
    not_told c.in-Err.fault (subst (λ r. ReadAs hub_status c.args.hub get_hub_status
    (g.B.Bus.world c.args.bus.now) r (g.B.Bus.world c.own_status.new.bus)) c.in-Err.is
    (c.own_status.ensures.told known)) refl

pub returns-in-Ok-clause-uses : goal.returns-in-Ok-clause-uses
returns-in-Ok-clause-uses g c = uses_then c.own_status.ensures.uses c.clear_each.ensures.uses
