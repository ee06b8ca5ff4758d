use Rattle.std.proofs.Common.{◌∙◌, refl, rules, sym}
use Rattle.usb_class_drivers.specs.Keyboards.{no_protocol, was_idled}
use Rattle.usb_class_drivers.proofs.keyboard.Keyboard.begin.Goals as goal

pub returns-in_err-request : goal.returns-in_err-request
returns-in_err-request g c = no_protocol c.in_err-request.field-0.0
    (rw c.in_err-request.was at c.request.ensures) (search rules)

pub returns-then-is_stalled : goal.returns-then-is_stalled
returns-then-is_stalled g c = was_idled c.request.new.host c.request-idled.result
    (rw c.in_ok-request.was at c.request.ensures) c.request-idled.ensures
    (rw (sym c.is_stalled.ensures ∙ c.if-is_stalled.true) refl)

pub returns-else-is_stalled : goal.returns-else-is_stalled
returns-else-is_stalled g c = was_idled c.request.new.host c.request-idled.result
    (rw c.in_ok-request.was at c.request.ensures) c.request-idled.ensures
    (rw (sym c.is_stalled.ensures ∙ c.if-is_stalled.false) c.driver_told.ensures)
