use Rattle.std.proofs.Common.{refl, ◌∙◌}
use Rattle.usb_world.proofs.ways.Routes.{alone_token}
use Rattle.usb_exchange.proofs.ways.RoutedAttempts.{index_port}
use Rattle.usb_exchange.proofs.route.exchange_at_port.Goals as goal

pub exchange_along-requires-clause-alone : goal.exchange_along-requires-clause-alone
exchange_along-requires-clause-alone c =
    alone_token _ c.args.damage.now c.args.roots.now c.args.path.now
    c.requires.settled
    c.requires.way

pub note-requires : goal.note-requires
note-requires c =
    index_port _ c.args.port c.forget-forgotten.new.self _ _ c.args.path.now _
    (c.as_slice-place.ensures.value ∙ c.below-below.ensures) c.requires.settled c.requires.way
    (c.in-Ok.ensures.kept c.if-kept.true) (c.if-forgotten.ensures.forgotten refl)
