use Rattle.std.proofs.Common.{sym, ap, ◌∙◌}
use Rattle.std.specs.Option.{option_copied}
use Rattle.usb_judge.proofs.Found.{judged_none, judged_one, judged_several}
use Rattle.usb_judge.proofs.attempts.judge_attempt.Goals as goal

pub returns-then-count_holders-gt1 : goal.returns-then-count_holders-gt1
returns-then-count_holders-gt1 c = judged_several c.args.attempt.now c.args.plugged.now _ _
    (ap (λ to. to.address) c.destination-address.ensures) c.count_holders.ensures
    c.if-count_holders-gt1.true

pub returns-in-Some : goal.returns-in-Some
returns-in-Some c = c.judge_at.ensures
    ∙ judged_one c.args.attempt.now c.args.plugged.now _ _ c.in-Some.device.now
    (ap (λ to. to.address) c.destination-address.ensures) c.count_holders.ensures
    c.if-count_holders-gt1.false
    (sym c.holder.ensures ∙ ap (λ found. option_copied found) c.in-Some.is)

pub returns-in-None : goal.returns-in-None
returns-in-None c = judged_none c.args.attempt.now c.args.plugged.now _ _
    (ap (λ to. to.address) c.destination-address.ensures) c.count_holders.ensures
    c.if-count_holders-gt1.false
    (sym c.holder.ensures ∙ ap (λ found. option_copied found) c.in-None.is)
