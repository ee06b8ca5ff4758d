use Rattle.std.proofs.Common.{◌≡◌, ◌∙◌, Err, ap, refl, rules, sym}
use Rattle.usb_class_drivers.specs.Keyboards.{found_none, found_one}
use Rattle.usb_class_drivers.specs.{given_if}
use Rattle.usb_class_drivers.proofs.keyboard.Keyboard.open.Goals as goal

pub returns-in_err-keyboard-clause-opens : goal.returns-in_err-keyboard-clause-opens
returns-in_err-keyboard-clause-opens g c = found_none c.in_err-keyboard.field-0.0
    (sym c.of.ensures ∙ c.in_err-keyboard.was) (search rules) refl

pub returns-in_err-begin-clause-opens : goal.returns-in_err-begin-clause-opens
returns-in_err-begin-clause-opens g c =
    let told : c.from_residual-in_err-begin.result ≡ Err c.in_err-begin.field-0.0
    = search rules in
    found_one c.in_ok-keyboard.keyboard c.begin.result (sym c.of.ensures ∙ c.in_ok-keyboard.was)
    c.begin.ensures (told ∙ sym (ap (given_if c.in_ok-keyboard.keyboard) c.in_err-begin.was))

pub returns-clause-opens : goal.returns-clause-opens
returns-clause-opens g c = found_one c.in_ok-keyboard.keyboard c.begin.result
    (sym c.of.ensures ∙ c.in_ok-keyboard.was) c.begin.ensures
    (sym (ap (given_if c.in_ok-keyboard.keyboard) c.in_ok-begin.was))
