use Rattle.usb_enum.proofs.stops.PlainStops.{answered_plain}
use Rattle.usb_enum.specs.{BadDevice, bad_total, Stalled}
use Rattle.std.proofs.Common.{◌∙◌, ap, refl, sym}
use Rattle.usb_descriptor.specs.{config_head_of}
use Rattle.usb_hub.specs.{config_given}
use Rattle.usb_transfer.proofs.Interface.{uses_as}
use Rattle.usb_enum.proofs.readings.Readings.{config_refused, total_refused, text_learned}
use Rattle.usb_enum.proofs.Parts.{gone_asked, gone_stopped}
use Rattle.usb_enum.proofs.readings.TextLengths.{config_there}
use Rattle.usb_enum.specs.declared.cause.Request.TheVariants.{Config}
use Rattle.usb_enum.proofs.stops.Reasons.{read_stop_told, reading}
use Rattle.usb_enum.proofs.refusals.Refusals.{answered_ok, failed}
use Rattle.usb_enum.proofs.configurations.total_length.Goals as goal

pub returns-in-Ok-clause-read : goal.returns-in-Ok-clause-read
returns-in-Ok-clause-read g c room =
    let answer = rw (answered_ok _ c.in_ok-head.ensures) at c.get_config.ensures in
    let bytes = c.in_ok-head.head in
    let good = ap config_head_of (sym c.as_slice.ensures.value) ∙ sym c.config_head.ensures.answer
    ∙ c.in-Ok.is in
    record {
      gone = gone_asked (config_given c.args.index) 9 BadDevice c.requires.max refl
          (uses_as answer.uses (λ told. told.told)) answer.asked answer.what answer.keeps;
      ends = λ known.
          let asked = answer.asked known in
          let what = answer.what known in
          record {
            told = (
              record { bytes = bytes.items; read = reading asked.stages; head = good },
              config_there c.args.index 9 asked what,
            );
            so = text_learned (config_given c.args.index) (g.B.Bus.world c.get_config.new.bus) what
                (λ spec text given first. record {
                  text = text;
                  given = given;
                  head = ap config_head_of (sym first) ∙ good;
                });
          };
    }

pub returns-in_err-head : goal.returns-in_err-head
returns-in_err-head g c =
    let answer = c.get_config.ensures in
    rw (failed c.from_residual.result c.from_residual.ensures.1) (record {
      fits = answered_plain (Stalled Config) _ _ tt c.in_err-head.ensures;
      read = λ room. record {
        gone = gone_asked (config_given c.args.index) 9 _ c.requires.max c.in_err-head.ensures
            (uses_as answer.uses (λ told. told.told)) answer.asked answer.what answer.keeps;
        ends = λ known. record {
          told = read_stop_told Config _ (c.args.index, (9, refl)) c.in_err-head.ensures
              (answer.asked known);
          so = config_refused room c.args.index (g.B.Bus.world c.get_config.new.bus)
              c.in_err-head.ensures c.requires.max (answer.what known) (answer.why known);
        };
      };
    })

pub returns-clause-read : goal.returns-clause-read
returns-clause-read g c room =
    let answer = rw (answered_ok _ c.in_ok-head.ensures) at c.get_config.ensures in
    let bytes = c.in_ok-head.head in
    let bad = ap config_head_of (sym c.as_slice.ensures.value) ∙ sym c.config_head.ensures.answer
    ∙ c.in-Err.is in
    record {
      gone = gone_stopped (gone_asked (config_given c.args.index) 9 BadDevice c.requires.max refl
          (uses_as answer.uses (λ told. told.told)) answer.asked answer.what answer.keeps) tt;
      ends = λ known. record {
        told = bad_total bytes.items c.in-Err.field-0 (reading (answer.asked known).stages) bad;
        so = total_refused room (g.B.Bus.world c.get_config.new.bus) bad (answer.what known);
      };
    }
