use Rattle.usb_enum.proofs.stops.PlainStops.{answered_plain}
use Rattle.usb_enum.specs.{BadDevice, bad_text, Stalled, config_fault}
use Rattle.std.proofs.Common.{◌∙◌, ◌≤◌, arith, inl, inr, length, refl, rules, subst, sym}
use Rattle.usb_hub.specs.{config_given}
use Rattle.usb_transfer.proofs.Interface.{uses_as}
use Rattle.usb_enum.proofs.readings.Readings.{config_refused, total_large, good_bytes, learns_on}
use Rattle.usb_enum.proofs.readings.Readings.{bytes_learned, configuration_of_total, text_malformed}
use Rattle.usb_enum.proofs.Parts.{asking, gone_asked, gone_stopped, gone_then, gone_wider}
use Rattle.usb_enum.proofs.readings.TextBytes.{within_shorter}
use Rattle.usb_enum.proofs.refusals.Refusals.{answered_ok, explains_on, failed, wrong_refuses}
use Rattle.usb_enum.proofs.readings.TextLengths.{config_there, head_unread, text_unread}
use Rattle.usb_enum.proofs.readings.TextLengths.{text_was_read}
use Rattle.usb_enum.specs.declared.cause.Request.TheVariants.{Config}
use Rattle.usb_enum.proofs.stops.Reasons.{read_stop_told, reading_after, text_told, told_after}
use Rattle.usb_enum.proofs.stops.Reasons.{reading}
use Rattle.usb_enum.proofs.configurations.read_text.Goals as goal

pub returns-in_err-total : goal.returns-in_err-total
returns-in_err-total g c =
    let head = c.in_err-total.ensures.read c.args.room in
    rw (failed c.from_residual.result c.from_residual.ensures.1) (record {
      fits = c.in_err-total.ensures.fits;
      read = record {
        gone = gone_wider head.gone (omega arith);
        ends = λ known. record {
          told = text_told _ _ _ _ _ _ (head.ends known).told;
          so = (head.ends known).so;
        };
      };
      count = λ known. head_unread _ refl (head.gone.steps known).run;
    })

pub returns-then-is_over : goal.returns-then-is_over
returns-then-is_over g c =
    let over = sym c.is_over.ensures ∙ c.if-is_over.true in
    let head = c.in_ok-total.ensures.read c.args.room in
    record {
      fits = search rules;
      read = record {
        gone = gone_stopped (gone_wider head.gone (omega arith)) tt;
        ends = λ known. record {
          told = inl (
            refl,
            record { total = c.in_ok-total.total; read = (head.ends known).told.0; over = over },
          );
          so = total_large c.args.room (g.B.Bus.world c.total_length.new.bus) over
              (head.ends known).so;
        };
      };
      count = λ known. head_unread _ refl (head.gone.steps known).run;
    }

pub returns-in_err-bytes : goal.returns-in_err-bytes
returns-in_err-bytes g c =
    let room = c.args.room in
    let index = c.args.index in
    let total = c.in_ok-total.total in
    let answer = c.get_config.ensures in
    let head = c.in_ok-total.ensures.read room in
    let text = gone_asked (config_given index) total _ c.requires.max c.in_err-bytes.ensures
    (uses_as answer.uses (λ told. told.told)) answer.asked answer.what answer.keeps in
    rw (failed c.from_residual-in_err-bytes.result c.from_residual-in_err-bytes.ensures.1) (record {
      fits = answered_plain (Stalled Config) _ _ tt c.in_err-bytes.ensures;
      read = record {
        gone = gone_then asking head.gone text (omega (arith, c.in_ok-total.ensures.fits.1));
        ends = λ known.
            let went = (head.gone.steps known).went in
            record {
              told = text_told _ _ _ _ _ _ (told_after _ c.args.target _ went.led
                  (read_stop_told Config _ (index, (total, refl)) c.in_err-bytes.ensures
                  (answer.asked known)));
              so = explains_on (head.ends known).so went (text.steps known).went (config_refused
                  room index (g.B.Bus.world c.get_config.new.bus) c.in_err-bytes.ensures
                  c.requires.max (answer.what known) (answer.why known)) (λ spec a b. b);
            };
      };
      count = λ known. text_unread c.requires.max (head.gone.steps known).run
          (answer.uses.steps known) (head.ends known).so (head.ends known).told.1 _ refl;
    })

pub returns-in-Some : goal.returns-in-Some
returns-in-Some g c =
    let total = c.in_ok-total.total in
    let bytes = c.in_ok-bytes.bytes in
    let answer = rw (answered_ok _ c.in_ok-bytes.ensures) at c.get_config.ensures in
    let head = c.in_ok-total.ensures.read c.args.room in
    let text = gone_asked (config_given c.args.index) total BadDevice c.requires.max refl
    (uses_as answer.uses (λ told. told.told)) answer.asked answer.what answer.keeps in
    let good = sym c.in-Some.is ∙ c.new.ensures in
    let same = (good_bytes bytes.items c.in-Some.text good).1 in
    let fits = sym c.is_over.ensures ∙ c.if-is_over.false in
    record {
      fits = within_shorter c.args.room _ c.in_ok-total.total
          (subst (λ x. length x ≤ c.in_ok-total.total) (sym same) answer.uses.told.within) fits;
      read = record {
        gone = gone_then asking head.gone text (omega (arith, c.in_ok-total.ensures.fits.1));
        ends = λ known. record {
          told = rw same (record {
            size = total;
            read = reading_after (head.gone.steps known).went.led
                (reading (answer.asked known).stages);
          });
          so = learns_on (head.ends known).so (text.steps known).went
              (bytes_learned (g.B.Bus.world c.get_config.new.bus) (answer.what known))
              (λ spec h r max.
              let got = r max in
              configuration_of_total c.args.room bytes.items c.in-Some.text got.text fits (h max)
              got.given got.first good);
        };
      };
      count = λ known. text_was_read c.requires.max (head.gone.steps known).run
          (answer.uses.steps known) (head.ends known).so (head.ends known).told.1 c.in-Some.text
          (text.steps known).keeps.devices (config_there c.args.index _
          (answer.asked known) (answer.what known));
    }

pub returns-in-None : goal.returns-in-None
returns-in-None g c =
    let total = c.in_ok-total.total in
    let answer = rw (answered_ok _ c.in_ok-bytes.ensures) at c.get_config.ensures in
    let head = c.in_ok-total.ensures.read c.args.room in
    let text = gone_asked (config_given c.args.index) total BadDevice c.requires.max refl
    (uses_as answer.uses (λ told. told.told)) answer.asked answer.what answer.keeps in
    let none = sym c.new.ensures ∙ c.in-None.is in
    record {
      fits = search rules;
      read = record {
        gone = gone_stopped (gone_then asking head.gone text
            (omega (arith, c.in_ok-total.ensures.fits.1))) tt;
        ends = λ known. record {
          told = inr (bad_text c.in_ok-bytes.bytes.items (record {
            size = total;
            read = reading_after (head.gone.steps known).went.led
                (reading (answer.asked known).stages);
          }) none);
          so = wrong_refuses (λ spec. config_fault c.args.room spec c.args.index)
              (g.B.Bus.world c.get_config.new.bus) (learns_on (head.ends known).so
              (text.steps known).went
              (bytes_learned (g.B.Bus.world c.get_config.new.bus) (answer.what known))
              (λ spec h s max.
              text_malformed c.args.room (sym c.is_over.ensures ∙ c.if-is_over.false) (h max)
              (s max) none));
        };
      };
      count = λ known. text_unread c.requires.max (head.gone.steps known).run
          (answer.uses.steps known) (head.ends known).so (head.ends known).told.1 _ refl;
    }
