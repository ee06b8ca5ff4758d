use Rattle.std.proofs.Common.{refl}
use Rattle.usb_hub.proofs.AddressesKept.{hub_feature_keeps}
use Rattle.usb_hub.proofs.HubChanges.{told_done}
use Rattle.usb_hub.proofs.changes.clear_told.Goals as goal

pub returns-then-not-told-clause-cleared : goal.returns-then-not-told-clause-cleared
returns-then-not-told-clause-cleared g c known = rw c.if-not-told.true (refl, refl)

pub returns-clause-fault : goal.returns-clause-fault
returns-clause-fault g c known = rw c.done_or_unknown.ensures
    (told_done 2 _ c.order-cleared.result _ (c.order-cleared.ensures.ordered known).ends)

pub returns-clause-addresses : goal.returns-clause-addresses
returns-clause-addresses g c known = hub_feature_keeps c.args.hub c.args.feature _
    c.order-cleared.result _ (rw c.clear_hub_feature.ensures.setup at
    (c.order-cleared.ensures.ordered known))

pub returns-clause-cleared : goal.returns-clause-cleared
returns-clause-cleared g c known =
    rw c.if-not-told.false (record {
      answer = c.order-cleared.result;
      ordered = rw c.clear_hub_feature.ensures.setup at (c.order-cleared.ensures.ordered known);
      is = c.done_or_unknown.ensures;
    })
