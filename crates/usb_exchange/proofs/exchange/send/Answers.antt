use Rattle.std.proofs.Common.{sym, ◌∙◌, arith}
use Rattle.usb_world.proofs.attempts.Exchanges.{delivered_stays_plugged, sent_went}
use Rattle.usb_world.proofs.ways.Routes.{sent_along}
use Rattle.usb_exchange.proofs.exchange.send.Goals as goal

pub returns-in-Some : goal.returns-in-Some
returns-in-Some c = record {
  plugged = delivered_stays_plugged _ _ _ _ _ _ c.deliver_after.ensures.ok
      c.deliver_after.ensures.err c.deliver_after.ensures.row;
  steps = sent_went _ _ _ _ _ _ _ c.in-Some.is c.deliver_after.ensures.ok;
  alone = grind arith;
  stopped = grind arith;
}

pub returns-in-Some-2 : goal.returns-in-Some-2
returns-in-Some-2 c =
    sent_along _ _ _ _ _ _ c.in-Some-2.is c.is_deep.ensures
    (sym c.is_whole.ensures ∙ c.if-is_whole.false) c.requires c.deliver_at.result _ _
    c.deliver_at.ensures.heard c.deliver_at.ensures.ok c.deliver_at.ensures.err
    c.deliver_at.ensures.refused
