use Rattle.std.proofs.Common.{◌∙◌, rules, sym}
use Rattle.usb_class_drivers.specs.Transports.{at_once, not_cleared, once_more}
use Rattle.usb_class_drivers.proofs.Steps.{stalled_is}
use Rattle.usb_class_drivers.proofs.transport.Transport.conclude.Goals as goal

pub returns-in_err-clear : goal.returns-in_err-clear
returns-in_err-clear g c =
    let stalled = stalled_is c.receive-first.result
    (sym c.is_stalled.ensures ∙ c.if-is_stalled.true) in
    not_cleared c.receive-first.new.host c.in_err-clear.field-0.0
    (rw stalled at c.receive-first.ensures) (rw c.in_err-clear.was at c.clear.ensures)
    (search rules)

pub returns-in_ok-clear : goal.returns-in_ok-clear
returns-in_ok-clear g c =
    let stalled = stalled_is c.receive-first.result
    (sym c.is_stalled.ensures ∙ c.if-is_stalled.true) in
    once_more c.receive-first.new.host c.clear.new.host (rw stalled at c.receive-first.ensures)
    (rw c.in_ok-clear.was at c.clear.ensures) c.receive.ensures

pub returns-else-is_stalled : goal.returns-else-is_stalled
returns-else-is_stalled g c = at_once c.receive-first.ensures
    (sym c.is_stalled.ensures ∙ c.if-is_stalled.false)
