use Rattle.std.proofs.Common.{◌≡◌, ◌∙◌, None, Ok, ap, rules, sym}
use Rattle.usb_dialogue.specs.{call_under_way, driver_state, the_call}
use Rattle.usb_dialogue.proofs.DriverLaws.{asks_on, done_on, row_fits_on}
use Rattle.usb_dialogue.proofs.driver.Driver.question.Goals as goal

pub returns-in-Asks : goal.returns-in-Asks
returns-in-Asks c =
    let old = driver_state c.args.self.now in
    let none : old.asked ≡ None = search rules in
    asks_on old c.step-step.result.1.items c.replace-heard.result.items c.step-step.result.0
    c.duplicate-asked.result c.in-Asks.question (c.in_ok-question.was ∙ ap Ok c.in-Asks.is)
    c.duplicate-asked.ensures (search rules) c.step-step.ensures.back c.step-step.ensures.step none
    (sym c.is_under_way.ensures ∙ c.if-not-is_under_way.false)

pub returns-in-Done : goal.returns-in-Done
returns-in-Done c =
    let old = driver_state c.args.self.now in
    let none : old.asked ≡ None = search rules in
    done_on old c.replace-heard.result.items c.new-in-Done.result.items c.step-step.result.0
    c.in-Done.host c.in-Done.told (c.in_ok-question.was ∙ ap Ok c.in-Done.is) (search rules)
    (search rules) c.step-step.ensures.step none
    (sym c.is_under_way.ensures ∙ c.if-not-is_under_way.false)

pub invariant_of-self-in-Asks-clause-row_fits : goal.invariant_of-self-in-Asks-clause-row_fits
invariant_of-self-in-Asks-clause-row_fits c =
    let old = driver_state c.args.self.now in
    row_fits_on (the_call (call_under_way old) old.roots old.statuses c.replace-heard.result.items)
    c.step-step.result.0 c.in-Asks.question (c.in_ok-question.was ∙ ap Ok c.in-Asks.is)
    c.step-step.ensures.step
