use Rattle.std.proofs.Common.{arith, inr}
use Rattle.usb_enum.proofs.stops.PlainStops.{early_stop_fits, examined_whole, said_early}
use Rattle.usb_enum.specs.{StopsExamining}
use Rattle.usb_enum.proofs.devices.Frames.{at_configured}
use Rattle.usb_enum.proofs.devices.SaidBytes.{said_on}
use Rattle.usb_enum.proofs.courses.Fairness.{stops_wider}
use Rattle.usb_enum.proofs.Parts.{gone_behind, gone_wider}
use Rattle.usb_enum.proofs.refusals.Refusals.{by_error, failed}
use Rattle.usb_enum.proofs.readings.TextLengths.{examined_few}
use Rattle.usb_enum.proofs.readings.Truths.{accepted}
use Rattle.usb_enum.proofs.refusals.Warrants.{addressed_verdict, configured_stops}
use Rattle.usb_enum.proofs.stops.Stops.{device_stops, early_stops}
use Rattle.std.proofs.lemmas.Result.{MatchResult-from_both, MatchResult-weaker}
use Rattle.usb_enum.proofs.enumeration.examine.Goals as goal

pub returns-in_err-device : goal.returns-in_err-device
returns-in_err-device g c =
    let early = rw c.number.ensures.value at c.in_err-device.ensures.part in
    rw (failed c.from_residual.result c.from_residual.ensures.1) (record {
      whole = (
        early_stop_fits _ _ c.in_err-device.ensures.addressed,
        said_early _ _ c.in_err-device.ensures.addressed,
      );
      part = record {
        gone = gone_wider early.gone (omega arith);
        ends = λ known. record {
          told = early_stops c.args.port c.args.address _ _ _ c.in_err-device.field-0.0 _ _
              (early.ends known).told;
          so = stops_wider _ (addressed_verdict _ _ _) (early.ends known).so;
        };
      };
      made = λ known. record {
        few = record {
          few = λ f p spare till regular most plan. omega
              (arith, (early.gone.steps known).run.spends.most);
        };
        said = rw c.number.ensures.value at (c.in_err-device.ensures.said known);
      };
    })

pub returns : goal.returns
returns g c =
    let port = c.args.port in
    let a = c.args.address in
    let options = c.args.place.options in
    let tier = c.args.place.tier in
    let supply = c.args.place.supply in
    let device = c.in_ok-device.device in
    let result = c.configure.result in
    let pass = rw c.number.ensures.value at c.in_ok-device.ensures.part in
    let set = c.configure.ensures.part in
    record {
      whole = examined_whole result _ _ _ _ device.target.low _ c.configure.ensures.whole
          c.in_ok-device.ensures.addressed.1 device.device;
      part = record {
        gone = gone_behind pass.gone set.gone (λ known. at_configured
            (pass.gone.steps known).keeps (pass.ends known).so.takes (set.gone.steps known).went
            (set.gone.steps known).keeps) (omega arith);
        ends = λ known.
            let first = pass.gone.steps known in
            let took = pass.ends known in
            let taken = took.so in
            let sets = set.gone.steps known in
            MatchResult-from_both result _ (StopsExamining port a options tier supply _ _)
            (accepted _ _ _ result first.went first.keeps.within taken sets.keeps sets.went
            (MatchResult-weaker result c.configure.ensures.whole (λ x whole. whole.1)
            (λ stop fits. tt))
            (MatchResult-weaker result (set.ends known) (λ x listed. listed) (λ stop stops. tt)))
            (by_error result (StopsExamining port a options tier supply _ _) (λ stop is.
            let stopped = rw is at (set.ends known) in
            record {
              told = device_stops stop
                  (record { at = inr taken.address; pre = taken.pre }) took.told stopped.told;
              so = configured_stops _ _ _ first.went sets.went first.keeps taken
                  sets.keeps device.device stop stopped.told.fits stopped.so;
            }));
      };
      made = λ known. record {
        few = examined_few (pass.gone.steps known).run (pass.ends known).so
            (c.configure.ensures.few known) (set.gone.steps known).keeps.addresses;
        said = said_on (rw c.number.ensures.value at (c.in_ok-device.ensures.said known))
            (set.gone.steps known).went.led;
      };
    }
