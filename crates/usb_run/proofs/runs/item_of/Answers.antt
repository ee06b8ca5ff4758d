use Rattle.usb_run.proofs.items.AskedItems.{something_asked}
use Rattle.usb_run.proofs.runs.item_of.Goals as goal

pub returns-in-Some-clause-on : goal.returns-in-Some-clause-on
returns-in-Some-clause-on g c = something_asked _ c.in-Some.ask _ _ _ c.in-Some.is
    c.asked_item.ensures.on
