use Rattle.usb_enum.specs.{Started}
use Rattle.std.proofs.Common.{◌∙◌, refl, subst, sym}
use Rattle.std.proofs.lemmas.Option.{same_Some}
use Rattle.usb_enum.proofs.Parts.{gone_none, telling}
use Rattle.usb_enum.proofs.readings.Readings.{learns_none}
use Rattle.usb_enum.proofs.refusals.Refusals.{failed}
use Rattle.usb_enum.proofs.enumeration.hub_facts.Goals as goal

pub returns-in_err-start_hub : goal.returns-in_err-start_hub
returns-in_err-start_hub g c =
    let hub = c.in_err-start_hub.ensures in
    rw (failed c.from_residual.result c.from_residual.ensures.1) (record {
      hub = (sym c.is_hub.ensures ∙ c.if-not-is_hub.false, hub.facts);
      part = record { gone = hub.part.gone; ends = hub.part.ends };
    })

pub returns : goal.returns
returns g c =
    let hub = c.in_ok-start_hub.ensures in
    let t = c.args.device.now.target in
    record {
      hub = record {
        has = (sym c.is_hub.ensures ∙ c.if-not-is_hub.false, hub.facts.facts, hub.facts.status);
        fits = hub.facts.fits;
      };
      part = record {
        gone = hub.part.gone;
        ends = λ known.
            let started = (hub.part.ends known).told in
            record {
              served = record {
                hub = t;
                addressed = refl;
                before = _;
                after = _;
                started = started;
              };
              learned = (hub.part.ends known).so;
              started = λ facts is. subst
                  (Started t (g.B.Bus.world c.args.bus.now) (g.B.Bus.world c.start_hub.new.bus))
                  (same_Some c.in_ok-start_hub.field-0 facts is) started;
            };
      };
    }

pub returns-then-not-is_hub-clause-part : goal.returns-then-not-is_hub-clause-part
returns-then-not-is_hub-clause-part g c = record {
  gone = gone_none _ (telling _);
  ends = λ known. record {
    served = tt;
    learned = learns_none (λ spec max. tt);
    started = λ facts is. absurd cc;
  };
}
