use Rattle.std.proofs.Common.{Some, ap, nat_eq, sym, ◌∙◌, rules, arith}
use Rattle.usb_world.proofs.attempts.Refusals.{over_cut}
use Rattle.usb_world.proofs.attempts.Exchanges.{over_settled, over_plugged, over_made}
use Rattle.std.specs.Option.{option_eq}
use Rattle.usb_world.specs.{Destination}
use Rattle.usb_world.proofs.ways.RoutedAttempts.{kept_at}
use Rattle.usb_exchange.proofs.exchange.exchange_by_packets.Goals as goal

pub returns-in_err-made : goal.returns-in_err-made
returns-in_err-made c = record {
  plugged = over_plugged _ _ _ c.end_attempt-left.ensures.over c.in_err-made.ensures.plugged;
  settled = over_settled _ _ c.end_attempt-left.ensures.over;
  made = search rules;
  cut = grind (arith, over_cut);
  kept = search rules;
}

pub returns-then-quiet : goal.returns-then-quiet
returns-then-quiet c = record {
  plugged = over_plugged _ _ _ c.end_attempt-left.ensures.over c.in_ok-made.ensures.plugged;
  settled = over_settled _ _ c.end_attempt-left.ensures.over;
  made = over_made _ _ _ _ _ _ c.end_attempt-left.ensures.over c.in_ok-made.ensures.made;
  cut = tt;
  kept = λ same.
      kept_at c.args.port _ c.args.damage c.args.roots.now _ _ _ _
      (ap (λ (d : Destination). option_eq nat_eq c.end_attempt-left.result (Some d.address))
      (sym c.destination.ensures) ∙ sym c.eq.ensures ∙ same)
      (c.in_ok-made.ensures.quiet c.if-quiet.true) c.in_ok-made.ensures.made.ports
      c.end_attempt-left.ensures.over c.end_attempt-left.ensures.address;
}

pub returns-else-quiet : goal.returns-else-quiet
returns-else-quiet c = record {
  plugged = over_plugged _ _ _ c.end_attempt-left.ensures.over c.in_ok-made.ensures.plugged;
  settled = over_settled _ _ c.end_attempt-left.ensures.over;
  made = over_made _ _ _ _ _ _ c.end_attempt-left.ensures.over c.in_ok-made.ensures.made;
  cut = tt;
  kept = grind arith;
}
