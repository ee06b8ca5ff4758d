use Rattle.std.proofs.Common.{◌≡◌, ◌∙◌, Err, ap, rules, sym}
use Rattle.usb_class_drivers.specs.{came_none}
use Rattle.usb_class_drivers.specs.Transports.{was_halted, was_received}
use Rattle.usb_class_drivers.proofs.Steps.{stalled_is}
use Rattle.usb_class_drivers.proofs.transport.Transport.collect.Goals as goal

pub returns-in_err-clear : goal.returns-in_err-clear
returns-in_err-clear g c =
    let stalled = stalled_is c.receive-received.result
    (sym c.is_stalled.ensures ∙ c.if-is_stalled.true) in
    let told : c.from_residual.result ≡ Err c.in_err-clear.field-0.0 = search rules in
    was_halted c.receive-received.new.host c.clear.result
    (rw (c.packets_of-packets.ensures, stalled) at c.receive-received.ensures)
    c.clear.ensures (told ∙ sym (ap came_none c.in_err-clear.was))

pub returns-in_ok-clear : goal.returns-in_ok-clear
returns-in_ok-clear g c =
    let stalled = stalled_is c.receive-received.result
    (sym c.is_stalled.ensures ∙ c.if-is_stalled.true) in
    was_halted c.receive-received.new.host c.clear.result
    (rw (c.packets_of-packets.ensures, stalled) at c.receive-received.ensures)
    c.clear.ensures (sym (ap came_none c.in_ok-clear.was))

pub returns-else-is_stalled : goal.returns-else-is_stalled
returns-else-is_stalled g c = was_received c.receive-received.result
    (rw c.packets_of-packets.ensures at c.receive-received.ensures)
    (sym c.is_stalled.ensures ∙ c.if-is_stalled.false) c.came.ensures
