use Rattle.usb_enum.proofs.Parts.{gone_stopped}
use Rattle.usb_enum.proofs.courses.Fairness.{stops_wider}
use Rattle.usb_enum.proofs.refusals.Warrants.{none_free, unaddressed_early}
use Rattle.std.proofs.Common.{inl, inr, refl}
use Rattle.usb_enum.proofs.stops.PlainStops.{early_without}
use Rattle.usb_enum.proofs.enumeration.without_address.Goals as goal

pub returns-in-Ok-clause-part : goal.returns-in-Ok-clause-part
returns-in-Ok-clause-part g c =
    let early = c.in-Ok.ensures.part 0 in
    record {
      gone = gone_stopped early.gone tt;
      ends = λ known. record {
        stops = record { told = inl refl; so = none_free (early.ends known) };
        said = c.in-Ok.ensures.said known 0;
      };
    }

pub returns-in-Err : goal.returns-in-Err
returns-in-Err g c =
    let early = c.in-Err.ensures.part 0 in
    record {
      without = early_without c.in-Err.stop c.in-Err.ensures.target;
      part = record {
        gone = early.gone;
        ends = λ known. record {
          stops = record {
            told = inr (early.ends known).told;
            so = stops_wider _ unaddressed_early (early.ends known).so;
          };
          said = c.in-Err.ensures.said known 0;
        };
      };
    }
