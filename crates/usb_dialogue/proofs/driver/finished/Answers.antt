use Rattle.std.proofs.Common.{◌∙◌, ap, rules, sym}
use Rattle.usb_host.specs.{BusCounts}
use Rattle.usb_dialogue.specs.{failed_by, spent_in}
use Rattle.usb_dialogue.specs.declared.progress.Progress.{Progress}
use Rattle.usb_dialogue.proofs.DriverLaws.{finished_on}
use Rattle.usb_dialogue.proofs.driver.finished.Goals as goal

pub returns-clause-step : goal.returns-clause-step
returns-clause-step g c =
    let counts = c.into_bus.ensures.counts in
    let same = sym c.into_parts-so_far.ensures.so_far in
    finished_on c.told_of-told.result c.into_parts-so_far.result.0 c.len.result
    c.step_of-step.result g.B.Begun.roots g.B.Begun.statuses g.B.Begun.answers c.args.host
    c.args.done.now c.step_of-step.ensures (search rules) c.into_parts-so_far.ensures.course
    (record {
      spent = ap (λ (x : BusCounts). x.spent) counts ∙ ap spent_in same;
      failed = ap (λ (x : BusCounts). x.failed) counts
          ∙ ap (λ (x : Progress). failed_by x.asked) same;
    })
    c.told_of-told.ensures
