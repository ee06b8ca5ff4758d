use Rattle.std.proofs.Common.{None, ◌∙◌, ap}
use Rattle.usb_dialogue.specs.{Call, failed_by, no_world, spent_in}
use Rattle.usb_dialogue.specs.declared.progress.Progress.{Progress}
use Rattle.usb_dialogue.proofs.DriverLaws.{calls_on, makes_on}
use Rattle.usb_dialogue.proofs.driver.called.Goals as goal

pub returns-in-Ok-clause-step : goal.returns-in-Ok-clause-step
returns-in-Ok-clause-step g c =
    let host = c.args.host.now in
    let want = c.args.want.now in
    let same = c.in-Ok.ensures.copy ∙ ap (λ (p : Progress). record host {
      world = no_world;
      trace = None;
      counts = record { spent = spent_in p; failed = failed_by p.asked; left = host.counts.left };
    }) c.begin-bus.ensures in
    calls_on c.finished.result.0 c.args.roots g.B.Begun.roots c.args.statuses g.B.Begun.statuses
    c.args.heard.items g.B.Begun.answers c.made-done.new.host c.made-done.result
    (Call.wants host want) c.requires.roots c.requires.statuses c.requires.heard
    (makes_on want host c.in-Ok.copy c.made-done.new.host c.made-done.result same
    c.made-done.ensures.makes)
    c.finished.ensures.step
