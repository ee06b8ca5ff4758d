use Rattle.std.proofs.Common.{◌∙◌, ap, refl, sym}
use Rattle.usb_world.specs.{plugged_by}
use Rattle.usb_drawing.specs.{index_after}
use Rattle.usb_drawing.proofs.PluggedAt.{index_more}
use Rattle.usb_drawing.proofs.rule.index_at.Goals as goal

pub events-init : goal.events-init
unfolding plugged_by
events-init c = refl

pub events-preserved : goal.events-preserved
events-preserved c =
    c.index_after-index.ensures
    ∙ ap (λ o. index_after c.args.path.now o c.event-item.result.action) c.events.invariant
    ∙ sym (index_more c.args.events.now c.args.path.now c.events.event-index c.event-item.result
    c.events-test.true c.event-item.is)
