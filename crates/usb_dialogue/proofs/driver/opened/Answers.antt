use Rattle.std.proofs.Common.{Ok, refl}
use Rattle.usb_dialogue.specs.{Call}
use Rattle.usb_dialogue.specs.declared.call.Done.TheVariants as done
use Rattle.usb_dialogue.proofs.DriverLaws.{calls_on}
use Rattle.usb_dialogue.proofs.driver.opened.Goals as goal

pub returns-clause-step : goal.returns-clause-step
returns-clause-step g c =
    calls_on c.finished.result.0 c.args.roots g.B.Begun.roots c.args.statuses g.B.Begun.statuses
    c.args.heard.items g.B.Begun.answers c.with_options-host.result
    (done.Moved (Ok tt)) (Call.opens c.args.options) c.requires.roots c.requires.statuses
    c.requires.heard (
      record {
        entries = c.with_options-host.ensures.any_bus.0;
        going = c.with_options-host.ensures.any_bus.1.0;
        left = c.with_options-host.ensures.any_bus.1.1;
        numbers = c.with_options-host.ensures.known.0;
        reported = c.with_options-host.ensures.known.1;
        options = c.with_options-host.ensures.options;
      },
      refl,
    ) c.finished.ensures.step
