use Rattle.usb_enum.proofs.ports.Hubs.{powered_by, power_explains}
use Rattle.usb_enum.specs.{IsHubStop, StopsPower, no_power}
use Rattle.usb_enum.proofs.stops.PlainStops.{answered_hub}
use Rattle.std.proofs.Common.{◌∙◌, sym}
use Rattle.usb_enum.proofs.devices.Frames.{power_tells}
use Rattle.usb_enum.proofs.Parts.{gone_answered}
use Rattle.usb_enum.proofs.refusals.Refusals.{by_error}
use Rattle.usb_request.specs.{PORT_POWER, set_port_feature}
use Rattle.usb_enum.proofs.stops.Reasons.{bad_hub_told, writes_failed}
use Rattle.std.proofs.lemmas.Result.{MatchResult-from_both}
use Rattle.usb_enum.proofs.hub.power_port.Goals as goal

pub returns : goal.returns
returns g c =
    let t = c.args.target in
    let port = c.args.port in
    let setup = set_port_feature PORT_POWER port in
    let set = c.set_hub_port.ensures in
    record {
      stops = by_error c.answered_or.result IsHubStop
          (λ stop is. answered_hub _ _ (sym is ∙ c.answered_or.ensures));
      part = λ wide. record {
        gone = gone_answered 2 _ _ c.answered_or.ensures set.uses
            (λ known. (set.ordered known).ends) (λ known. power_tells port (set.ordered known)
            (set.keeps known (λ e. absurd cc)) (set.devices known (λ e. absurd cc)));
        ends = λ known.
            let ordered = set.ordered known in
            MatchResult-from_both c.answered_or.result _ (StopsPower wide t port _ _)
            (powered_by port c.answered_or.result c.answered_or.ensures ordered)
            (by_error c.answered_or.result (StopsPower wide t port _ _) (λ stop is. record {
              told = bad_hub_told wide setup _ stop 2 1 (sym is ∙ c.answered_or.ensures)
                  (writes_failed t setup _ _ _ ordered.stages) ordered.ends (no_power port);
              so = power_explains port stop ordered (sym is ∙ c.answered_or.ensures)
                  (set.devices known (λ e. absurd cc));
            }));
      };
    }
