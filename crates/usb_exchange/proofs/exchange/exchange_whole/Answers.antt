use Rattle.std.proofs.Common.{refl, sym, ◌∙◌, rules}
use Rattle.usb_device.proofs.Interface.{stopped_on_err}
use Rattle.usb_world.specs.{Exchange, Whole, attempt_data, heard_above}
use Rattle.usb_world.proofs.attempts.Exchanges.{over_settled}
use Rattle.usb_world.proofs.ways.RoutedAttempts.{CutShort, Walked, walk_over, walk_cut}
use Rattle.usb_world.proofs.ways.RoutedAttempts.{walked_made}
use Rattle.usb_world.proofs.ways.RoutedAttempts.{walked_kept, made_plugged, made_settled}
use Rattle.usb_world.proofs.ways.RoutedAttempts.{cut_plugged}
use Rattle.usb_exchange.proofs.exchange.exchange_whole.Goals as goal

cut_short : (c : goal.After-from_residual)
    → CutShort (attempt_data c.args.attempt.now) c.args.roots.now c.attempt_at.new.self
    c.args.path.now
    c.put_whole_payload.new.payload
cut_short c = record {
  payload = c.put_whole_payload.ensures.value;
  host = c.host_side-host.result;
  data_out = c.some_goes_out-data.result;
  deep = c.is_deep.result;
  host_is = c.host_side-host.ensures;
  data_is = c.some_goes_out-data.ensures;
  deep_is = c.is_deep.ensures;
  ports = c.in_err-attempt_at.ensures.err;
  refused = c.in_err-attempt_at.ensures.refused;
}

pub returns-in_err-attempt_at : goal.returns-in_err-attempt_at
returns-in_err-attempt_at c =
    let over = walk_over _ _ _ _ _ c.requires.way c.requires.alone (cut_short c) in
    record {
      plugged = cut_plugged _ _ _ over;
      settled = over_settled _ _ over;
      made = search rules;
      cut = stopped_on_err _ (walk_cut _ _ _ _ _ c.requires.way c.requires.alone (cut_short c));
      kept = search rules;
    }

abbrev made : (c : goal.After-keeps_address) → Exchange
made c = record {
  token = c.put_whole_token.new.token;
  payload = c.put_whole_payload.new.payload;
  answer = heard_above c.attempt_at.new.heard;
  answer_mark = Whole;
  reply = c.put_whole_reply.new.reply;
  address_lost = c.attempt_at.new.side.address_lost;
  change_cleared = c.clears_change-exchange-inside.result;
}

walked : (c : goal.After-keeps_address)
    → Walked (attempt_data c.args.attempt.now) c.args.roots.now c.attempt_at.new.self
    c.args.path.now (made c)
    c.attempt_at.new.heard c.attempt_at.new.side
walked c = record {
  token = c.put_whole_token.ensures.value;
  payload = c.put_whole_payload.ensures.value;
  host = c.host_side-host.result;
  data_out = c.some_goes_out-data.result;
  deep = c.is_deep.result;
  host_is = c.host_side-host.ensures;
  data_is = c.some_goes_out-data.ensures;
  deep_is = c.is_deep.ensures;
  heard = c.in_ok-attempt_at.ensures.heard;
  told = c.in_ok-attempt_at.ensures.side;
  ports = c.in_ok-attempt_at.ensures.ok;
  answer = refl;
  mark = refl;
  reply = c.put_whole_reply.ensures _ _;
  lost = refl;
  cleared = c.clears_change-exchange-inside.ensures;
}

pub returns : goal.returns
returns c =
    let made = walked_made _ _ _ _ _ _ _ c.requires.way c.requires.alone (walked c) in
    record {
      plugged = made_plugged _ _ _ made.ports;
      settled = made_settled _ c.args.roots.now _ made.ports;
      made = made;
      cut = tt;
      kept = λ kept. walked_kept c.args.port _ _ _ _ _ _ _ c.requires.way c.requires.alone
          (walked c) (sym c.keeps_address.ensures ∙ kept);
    }
