use Rattle.std.proofs.Common.{refl}
use Rattle.usb_world.proofs.ways.Routes.{alone_token}
use Rattle.usb_exchange.proofs.ways.RoutedAttempts.{index_beside}
use Rattle.usb_exchange.proofs.route.exchange_at.Goals as goal

pub exchange_along-requires-clause-alone : goal.exchange_along-requires-clause-alone
exchange_along-requires-clause-alone c =
    alone_token _ c.args.damage.now c.args.roots.now c.args.path.now
    c.requires.settled
    c.requires.way

pub note-requires : goal.note-requires
note-requires c =
    index_beside _ c.args.damage.now c.forget-forgotten.new.self
    c.args.roots.now _ c.args.path.now
    (cc (c.is_whole.ensures, c.if-not-is_whole.true)) c.requires.settled c.requires.way
    c.in-Ok.ensures.made.ports (c.if-forgotten.ensures.forgotten refl)
