use Rattle.std.proofs.Common.{inl, ◌∙◌, refl, Err, Some, ap, option_map, sym, take}
use Rattle.usb_enum.specs.{BadDevice, Refuses, given, no_fault, refused}
use Rattle.usb_enum.proofs.refusals.Refusals.{failure_explains}
use Rattle.usb_enum.proofs.readings.StringReadings.{never_stop, stopped_read, stall_alone}
use Rattle.usb_enum.proofs.readings.StringReadings.{string_read-given}
use Rattle.usb_enum.proofs.stops.PlainStops.{stop_plain}
use Rattle.usb_hub.specs.{string_given}
use Rattle.usb_enum.proofs.Parts.{gone_asked, gone_on}
use Rattle.usb_enum.proofs.readings.Readings.{refusal_learned, text_learned}
use Rattle.usb_request.specs.{get_string_descriptor}
use Rattle.usb_enum.proofs.stops.Reasons.{string_told}
use Rattle.usb_enum.proofs.strings.string_bytes.Goals as goal

pub returns-in-Ok-clause-read : goal.returns-in-Ok-clause-read
returns-in-Ok-clause-read g c =
    let string = rw c.in-Ok.is at c.get_string.ensures in
    record {
      gone = gone_asked (string_given c.args.index) 255 BadDevice c.requires.max refl string.uses
          string.asked string.what string.keeps;
      ends = λ known. record {
        told = given _ (string.asked known).stages;
        so = text_learned (string_given c.args.index) (g.B.Bus.world c.get_string.new.bus)
            (string.what known) (λ spec text said first. ap Some first
            ∙ sym (string_read-given spec c.args.index ∙ ap (option_map (take 255)) said));
      };
    }

pub returns-in-None-clause-read : goal.returns-in-None-clause-read
returns-in-None-clause-read g c =
    let stalled = c.in-Err.is
    ∙ ap Err (stall_alone c.in-Err.fault (sym c.stop_of.ensures ∙ c.in-None.is)) in
    let string = rw stalled at c.get_string.ensures in
    record {
      gone = gone_on (gone_asked (string_given c.args.index) 255 BadDevice c.requires.max refl
          string.uses string.asked string.what string.keeps) tt;
      ends = λ known. record {
        told = refused (string.asked known).stages;
        so = refusal_learned (g.B.Bus.world c.get_string.new.bus) (string.what known)
            (λ spec said max.
            sym (string_read-given spec c.args.index ∙ ap (option_map (take 255)) said));
      };
    }

pub returns-in-Some : goal.returns-in-Some
returns-in-Some g c =
    let string = c.get_string.ensures in
    let some = sym c.stop_of.ensures ∙ c.in-Some.is in
    record {
      plain = stop_plain c.in-Err.fault c.in-Some.stop some;
      read = record {
        gone = gone_asked (string_given c.args.index) 255 _ c.requires.max
            (stopped_read BadDevice c.get_string.result c.in-Err.fault c.in-Some.stop c.in-Err.is
            some) string.uses string.asked string.what string.keeps;
        ends = λ known.
            let asked = string.asked known in
            record {
              told = string_told c.args.target (get_string_descriptor c.args.index c.args.language)
                  c.get_string.result c.in-Err.fault c.in-Some.stop (g.B.Bus.world c.args.bus.now)
                  (g.B.Bus.world c.get_string.new.bus) c.in-Err.is some asked.stages asked.ends;
              so = failure_explains (g.B.Bus.world c.get_string.new.bus) (string.what known)
                  c.requires.max (string.why known)
                  (Refuses c.args.target no_fault c.in-Some.stop) c.in-Err.fault
                  c.in-Err.is (λ spec fails r. never_stop c.args.index r
                  c.in-Err.fault c.in-Some.stop some (fails (inl r.max)));
            };
      };
    }
