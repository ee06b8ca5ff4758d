use Rattle.std.proofs.Common.{sym, ◌∙◌}
use Rattle.usb_world.proofs.ways.Routes.{route_over}
use Rattle.usb_exchange.proofs.exchange.end_attempt.Goals as goal

pub returns-else-is_whole-clause-over : goal.returns-else-is_whole-clause-over
returns-else-is_whole-clause-over c = route_over _ _ _ (sym c.is_whole.ensures
    ∙ c.if-is_whole.false) c.requires c.forget_at.ensures.after
