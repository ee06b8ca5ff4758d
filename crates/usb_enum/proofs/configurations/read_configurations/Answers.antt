use Rattle.usb_enum.specs.{first_fault, left_of, Memory, configuration_bound, none_yet}
use Rattle.usb_enum.specs.{one_more as one_more_text, repeated}
use Rattle.std.specs.Prelude.{⊤}
use Rattle.usb_enum.proofs.readings.Readings.{learns_on, learns_none, configurations_none}
use Rattle.usb_enum.proofs.readings.Readings.{first_refused, repeated_refused, configurations_more}
use Rattle.usb_enum.proofs.readings.TextBytes.{left_more, left_none, within_more, within_none}
use Rattle.usb_enum.proofs.refusals.Refusals.{explains_on, fault_explains, failed}
use Rattle.std.proofs.Common.{◌≡◌, ◌∙◌, ap, arith, inr, rules, length, sym}
use Rattle.std.proofs.lemmas.Grind.{common_steps}
use Rattle.usb_enum.proofs.Parts.{asking, gone_again, gone_more, gone_none, gone_stopped}
use Rattle.usb_enum.proofs.Parts.{gone_times}
use Rattle.usb_enum.proofs.readings.TextLengths.{texts_ended, texts_failed, texts_read_more}
use Rattle.usb_enum.proofs.readings.TextLengths.{texts_none}
use Rattle.usb_enum.proofs.readings.SettingValues.{values_differ-push}
use Rattle.usb_enum.proofs.courses.Courses.{leads_none}
use Rattle.usb_enum.proofs.stops.Reasons.{texts_told}
use Rattle.usb_enum.proofs.configurations.read_configurations.Goals as goal

pub loop-index-init : goal.loop-index-init
loop-index-init g c = record {
  gone = gone_none _ asking;
  read = ap length c.new-texts.ensures;
  differ = rw c.new-texts.ensures tt;
  left = left_none c.args.budget _ c.new-texts.ensures;
  within = within_none c.args.budget _ c.new-texts.ensures;
  asked = λ known. rw c.new-texts.ensures none_yet;
  counted = λ known. texts_none;
  learned = λ known. rw c.new-texts.ensures
      (learns_none (λ spec max. configurations_none c.args.budget spec));
}

pub loop-index-preserved : goal.loop-index-preserved
loop-index-preserved g c =
    let before = c.loop-index.invariant in
    let text = c.in_ok-text.text in
    let read = c.in_ok-text.ensures.read in
    let differs = rw c.value.ensures at (sym c.has_value.ensures ∙ c.if-has_value.false) in
    record {
      gone = gone_again _ asking before.gone read.gone;
      read = rw c.in_ok-push.ensures.ok (grind (arith, common_steps, before.read));
      differ = rw c.in_ok-push.ensures.ok (values_differ-push _ text before.differ differs);
      left = rw c.in_ok-push.ensures.ok (c.left_of-room.ensures
          ∙ ap (λ x. left_of c.loop-index.room (length x)) c.as_slice.ensures.value
          ∙ left_more c.loop-index.texts text c.args.budget c.loop-index.room before.left);
      within = rw c.in_ok-push.ensures.ok (within_more c.loop-index.texts text c.args.budget
          c.loop-index.room before.left before.within c.in_ok-text.ensures.fits);
      asked = λ known. rw c.in_ok-push.ensures.ok (one_more_text text (before.asked known)
          (rw (sym before.read) at (read.ends known).told));
      counted = λ known. texts_read_more
          (before.counted known) (read.gone.steps known).went (c.in_ok-text.ensures.count known);
      learned = λ known. rw c.in_ok-push.ensures.ok (learns_on (before.learned known)
          (read.gone.steps known).went (read.ends known).so (λ spec b h max.
          configurations_more before.left differs (b max) (h max)));
    }

pub returns : goal.returns
returns g c =
    let before = c.loop-index.invariant in
    let all : c.loop-index.index ≡ c.args.count = omega
    (arith, c.loop-index.auto.index-end, c.loop-index-test.false) in
    record {
      all = (before.read ∙ all, before.differ, before.within);
      read = record {
        gone = gone_times _ 255 configuration_bound before.gone
            (omega (arith, c.loop-index.auto.index-end, c.ranges.count.fits));
        ends = λ known. record { told = before.asked known; so = rw all at (before.learned known) };
      };
      few = λ known. texts_ended (before.counted known);
    }

pub returns-in_err-text : goal.returns-in_err-text
returns-in_err-text g c =
    let before = c.loop-index.invariant in
    let text = c.in_err-text.ensures.read in
    rw (failed c.from_residual.result c.from_residual.ensures.1) (record {
      all = search rules;
      read = record {
        gone = gone_more _ 255 asking before.gone text.gone
            (omega (arith, c.loop-index-test.true, c.ranges.count.fits));
        ends = λ known.
            let went = (before.gone.steps known).went in
            record {
              told = texts_told c.args.budget c.loop-index.room
                  c.loop-index.index _ _ before.left before.read (before.asked known)
                  went.led (text.ends known).told;
              so = explains_on (before.learned known) went (text.gone.steps known).went
                  (text.ends known).so (first_refused c.args.target c.args.budget
                  c.loop-index.room c.loop-index.index c.args.count c.loop-index.texts before.left
                  c.loop-index-test.true c.in_err-text.field-0.0);
            };
      };
      few = λ known. texts_failed
          (before.counted known) (text.gone.steps known).went (c.read_text.ensures.count known);
    })

pub returns-then-has_value : goal.returns-then-has_value
returns-then-has_value g c =
    let before = c.loop-index.invariant in
    let text = c.in_ok-text.ensures.read in
    let again = rw c.value.ensures at (sym c.has_value.ensures ∙ c.if-has_value.true) in
    record {
      all = search rules;
      read = record {
        gone = gone_stopped (gone_more _ 255 asking before.gone text.gone
            (omega (arith, c.loop-index-test.true, c.ranges.count.fits))) tt;
        ends = λ known. record {
          told = inr (repeated _ _ c.loop-index.texts c.in_ok-text.text (leads_none _)
              (before.asked known) before.read (text.ends known).told again);
          so = repeated_refused c.args.target c.args.budget c.loop-index.room c.loop-index.index
              c.args.count c.loop-index.texts before.left c.loop-index-test.true
              c.in_ok-text.text _ again (before.learned known) (text.gone.steps known).went
              (text.ends known).so;
        };
      };
      few = λ known. texts_ended (texts_read_more (before.counted known)
          (text.gone.steps known).went (c.in_ok-text.ensures.count known));
    }

pub returns-in_err-push : goal.returns-in_err-push
returns-in_err-push g c =
    let before = c.loop-index.invariant in
    let text = c.in_ok-text.ensures.read in
    rw (failed c.from_residual-in_err-push.result c.from_residual-in_err-push.ensures.1) (record {
      all = search rules;
      read = record {
        gone = gone_stopped (gone_more _ 255 asking before.gone text.gone
            (omega (arith, c.loop-index-test.true, c.ranges.count.fits))) tt;
        ends = λ known. record {
          told = tt;
          so = fault_explains {A = λ spec. ⊤} (λ spec. first_fault c.args.budget spec c.args.count)
              Memory (g.B.Bus.world c.read_text.new.bus) (learns_on (before.learned known)
              (text.gone.steps known).went (text.ends known).so (λ spec a b. tt));
        };
      };
      few = λ known. texts_ended (texts_read_more (before.counted known)
          (text.gone.steps known).went (c.in_ok-text.ensures.count known));
    })
