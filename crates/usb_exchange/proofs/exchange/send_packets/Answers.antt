use Rattle.std.proofs.Common.{◌∙◌, ◌+◌, Option, refl, sym, subst, ap, ap₂}
use Rattle.usb_device.specs.{Sent, both, heard_of}
use Rattle.usb_world.specs.{harm_to, marked_some, answer_mark, clears_at, goes_out, Outgoing}
use Rattle.usb_world.specs.{attempt_data, heard_above, reply_of, IsStopped, after_sent, answers_to}
use Rattle.usb_world.specs.{IfOut, IsDataOut, IsAckOut}
use Rattle.usb_world.proofs.attempts.Exchanges.{Makes, made_exchange, made_ports}
use Rattle.usb_world.proofs.attempts.Refusals.{token_not_stopped, reply_not_stopped}
use Rattle.usb_world.proofs.holders.OneDevice.{alone_data, alone_ack}
use Rattle.usb_world.proofs.courses.Courses.{goes, reply_goes}
use Rattle.usb_exchange.proofs.exchange.send_packets.Goals as goal

pub returns-clause-made : goal.returns-clause-made
returns-clause-made c =
    let a = attempt_data c.args.attempt.now in
    let damage = c.args.damage in
    let makes : Makes a damage c.args.roots.now
    (record {
      token = c.put_token.new.token;
      payload = c.put_payload.new.payload;
      answer = heard_above c.send-2.new.heard;
      answer_mark = c.answer_mark-exchange-inside.result;
      reply = c.put_reply.new.reply;
      address_lost = c.in_ok-address_lost.address_lost;
      change_cleared = c.clears_change-exchange-inside.result;
    }) =
    record {
      first = c.send.new.roots;
      second = c.send-2.new.roots;
      third = c.send_reply.new.roots;
      to_token = c.send.new.heard;
      to_both = c.send-2.new.heard;
      token = c.put_token.ensures.value;
      token_heard =
          c.in_ok-send.ensures.steps.heard
          ∙ ap (λ h. both h (heard_of (answers_to c.goes_out.result c.args.roots.now)))
          c.clear.ensures
          ∙ ap (λ q. heard_of (answers_to q c.args.roots.now)) c.goes_out.ensures;
      token_went = c.in_ok-send.ensures.steps.ports
          ∙ ap (λ q. after_sent q c.args.roots.now) c.goes_out.ensures;
      payload = c.put_payload.ensures.value;
      cleared = c.clears_change-exchange-inside.ensures.clears
          ∙ ap (λ q. clears_at q c.send.new.roots) c.some_goes_out-data.ensures;
      payload_heard = c.in_ok-send-2.ensures.steps.heard
          ∙ ap (λ q. both c.send.new.heard (heard_of (answers_to q c.send.new.roots)))
          c.some_goes_out-data.ensures;
      payload_went = c.in_ok-send-2.ensures.steps.ports
          ∙ ap (λ q. after_sent q c.send.new.roots) c.some_goes_out-data.ensures;
      answer = refl;
      answer_mark = c.answer_mark-exchange-inside.ensures
          ∙ ap₂ answer_mark (c.harm_to.ensures
          ∙ ap (harm_to damage) c.answer_place-place.ensures.value) c.answer-answer.ensures;
      reply = c.put_reply.ensures.value ∙ ap₂ (λ n o. marked_some damage (n + 1) a.pre o)
          c.answer_place-place.ensures.value (c.is_acknowledged-acknowledged.ensures
          ∙ ap (λ h. reply_of h c.answer_mark-exchange-inside.result a.max)
          c.answer-answer.ensures);
      lost = c.in_ok-address_lost.ensures.lost;
      reply_went = c.in_ok-address_lost.ensures.ports;
    } in
    record { made = made_exchange _ _ _ _ makes; ports = made_ports _ _ _ _ makes }

pub returns-in_err-send-clause-stopped : goal.returns-in_err-send-clause-stopped
returns-in_err-send-clause-stopped c =
    let a = attempt_data c.args.attempt.now in
    let P : Option Sent → Type 0 = λ q. IsStopped q c.args.roots.now c.send.new.roots in
    absurd (token_not_stopped a c.args.damage c.put_token.new.token c.args.roots.now
    c.send.new.roots c.put_token.ensures.value
    (subst P c.goes_out.ensures c.in_err-send.ensures.stopped))

pub returns-in_err-address_lost-clause-stopped : goal.returns-in_err-address_lost-clause-stopped
returns-in_err-address_lost-clause-stopped c =
    let a = attempt_data c.args.attempt.now in
    let n = c.answer_place-place.result + 1 in
    let reply = c.put_reply.ensures.value ∙ ap (λ o. marked_some c.args.damage n a.pre o)
    c.is_acknowledged-acknowledged.ensures in
    absurd (reply_not_stopped a c.args.damage n c.answer-answer.result
    c.answer_mark-exchange-inside.result a.max c.put_reply.new.reply c.send-2.new.roots
    c.send_reply.new.roots reply
    c.in_err-address_lost.ensures.stopped)

pub clears_change-exchange-inside-requires : goal.clears_change-exchange-inside-requires
clears_change-exchange-inside-requires c =
    let a = attempt_data c.args.attempt.now in
    alone_data _ _ _ c.send.ensures.alone
    (subst (IfOut IsDataOut) (sym (c.some_goes_out-data.ensures
    ∙ ap (goes_out a) c.put_payload.ensures.value))
    (goes a c.args.damage c.args.roots.now).payload)

pub send-requires-2 : goal.send-requires-2
send-requires-2 c =
    let a = attempt_data c.args.attempt.now in
    alone_data _ _ _ c.send.ensures.alone
    (subst (IfOut IsDataOut) (sym (c.some_goes_out-data.ensures
    ∙ ap (goes_out a) c.put_payload.ensures.value))
    (goes a c.args.damage c.args.roots.now).payload)

pub send_reply-requires-clause-alone : goal.send_reply-requires-clause-alone
send_reply-requires-clause-alone c =
    let a = attempt_data c.args.attempt.now in
    let n = c.answer_place-place.result + 1 in
    let reply = c.put_reply.ensures.value ∙ ap (λ o. marked_some c.args.damage n a.pre o)
    c.is_acknowledged-acknowledged.ensures in
    let P : Option Outgoing → Type 0 = λ o. IfOut IsAckOut (goes_out a o) in
    alone_ack _ _ _ c.send-2.ensures.alone
    (subst P (sym reply) (reply_goes a c.args.damage n _ _ a.max))
