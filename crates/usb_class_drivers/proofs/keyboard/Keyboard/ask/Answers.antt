use Rattle.std.proofs.Common.{◌≡◌, ◌∙◌, Err, ap, rules, sym}
use Rattle.usb_class_drivers.specs.declared.fault.DriverFault.TheVariants.{Host}
use Rattle.usb_class_drivers.specs.{clear_told}
use Rattle.usb_class_drivers.specs.Keyboards.{was_cleared, was_polled}
use Rattle.usb_class_drivers.proofs.Steps.{stalled_is}
use Rattle.usb_class_drivers.proofs.keyboard.Keyboard.ask.Goals as goal

pub returns-in_err-clear : goal.returns-in_err-clear
returns-in_err-clear g c =
    let stalled =
    stalled_is c.poll-polled.result (sym c.is_stalled.ensures ∙ c.if-is_stalled.true) in
    let told : c.from_residual.result ≡ Err (Host c.in_err-clear.field-0.0) = search rules in
    was_cleared c.poll-polled.new.host c.clear.result (rw stalled at c.poll-polled.ensures)
    c.clear.ensures (told ∙ sym (ap clear_told c.in_err-clear.was))

pub returns-in_ok-clear : goal.returns-in_ok-clear
returns-in_ok-clear g c =
    let stalled =
    stalled_is c.poll-polled.result (sym c.is_stalled.ensures ∙ c.if-is_stalled.true) in
    was_cleared c.poll-polled.new.host c.clear.result (rw stalled at c.poll-polled.ensures)
    c.clear.ensures (sym (ap clear_told c.in_ok-clear.was))

pub returns-else-is_stalled : goal.returns-else-is_stalled
returns-else-is_stalled g c = was_polled c.poll-polled.result c.poll-polled.ensures
    (sym c.is_stalled.ensures ∙ c.if-is_stalled.false) c.poll_told.ensures
