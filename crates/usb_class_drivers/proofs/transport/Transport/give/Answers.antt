use Rattle.std.proofs.Common.{◌≡◌, ◌∙◌, Err, ap, false, rules, sym}
use Rattle.usb_class_drivers.specs.Transports.{was_refused, was_sent}
use Rattle.usb_class_drivers.specs.{went}
use Rattle.usb_class_drivers.proofs.Steps.{stalled_is}
use Rattle.usb_class_drivers.proofs.transport.Transport.give.Goals as goal

pub returns-in_err-clear : goal.returns-in_err-clear
returns-in_err-clear g c =
    let stalled = stalled_is c.send-sent.result (sym c.is_stalled.ensures ∙ c.if-is_stalled.true) in
    let told : c.from_residual.result ≡ Err c.in_err-clear.field-0.0 = search rules in
    was_refused c.send-sent.new.host c.clear.result (rw stalled at c.send-sent.ensures)
    c.clear.ensures (told ∙ sym (ap (went false) c.in_err-clear.was))

pub returns-in_ok-clear : goal.returns-in_ok-clear
returns-in_ok-clear g c =
    let stalled = stalled_is c.send-sent.result (sym c.is_stalled.ensures ∙ c.if-is_stalled.true) in
    was_refused c.send-sent.new.host c.clear.result (rw stalled at c.send-sent.ensures)
    c.clear.ensures (sym (ap (went false) c.in_ok-clear.was))

pub returns-else-is_stalled : goal.returns-else-is_stalled
returns-else-is_stalled g c = was_sent c.send-sent.result c.send-sent.ensures
    (sym c.is_stalled.ensures ∙ c.if-is_stalled.false) c.went.ensures
