use Rattle.std.proofs.Common.{◌≤◌, inl, inr, arith, refl, sym}
use Rattle.usb_enum.proofs.devices.Frames.{tells_asked}
use Rattle.usb_enum.proofs.ports.Hubs.{can_serve, status_holds, status_small, no_endpoint}
use Rattle.usb_enum.proofs.ports.Hubs.{asked_explains, small_explains, powered_explains}
use Rattle.usb_enum.proofs.ports.Hubs.{is_good_hub_read}
use Rattle.usb_enum.proofs.Parts.{asking, gone_as, gone_joined, gone_none, gone_stopped, gone_then}
use Rattle.usb_enum.proofs.Parts.{gone_wider, part_failed, telling}
use Rattle.usb_enum.proofs.refusals.Refusals.{explained_none, explains_set_on}
use Rattle.usb_enum.proofs.stops.Reasons.{at_start, hub_after}
use Rattle.usb_enum.proofs.readings.Readings.{learns_on, learns_kept}
use Rattle.usb_enum.proofs.hub.start_hub.Goals as goal

pub returns : goal.returns
returns g c =
    let tested : c.status_length.result ≤ c.in-Some.max = omega
    (arith, c.if-max-status_length.false) in
    let fits = rw c.status_length.ensures at tested in
    let count = c.in_ok-ports.ensures.read in
    let supply = c.in_ok-supply.ensures.read c.args.wide in
    let power = c.in_ok-power_ports.ensures.part c.args.wide in
    record {
      facts = can_serve c.args.wide c.args.text.now _ c.in-Some.max c.in_ok-ports.ports
          c.in-Some.ensures.value c.in_ok-supply.supply fits c.in_ok-ports.ensures.count.0
          c.in_ok-ports.ensures.count.1 c.in_ok-supply.ensures.said;
      part = record {
        gone = gone_then (telling _)
            (gone_as (tells_asked _) (gone_joined asking count.gone supply.gone)) power.gone
            (omega (arith, c.in_ok-ports.ensures.count.0.1));
        ends = λ known. record {
          told = record {
            counted = _;
            count = (count.ends known).told;
            asked = _;
            supply = (supply.ends known).told;
            powered = power.ends known;
          };
          so = learns_kept (learns_on (count.ends known).so (supply.gone.steps known).went
              (supply.ends known).so (λ spec p s max ruled. is_good_hub_read c.args.text.now
              (status_holds c.args.wide c.args.text.now _ c.in-Some.max c.in_ok-ports.ports
              c.in-Some.ensures.value fits) (p max) s ruled)) (power.gone.steps known).went
              (power.gone.steps known).keeps.devices;
        };
      };
    }

pub returns-in_default-clause-part : goal.returns-in_default-clause-part
returns-in_default-clause-part g c =
    let none = sym c.in_default.ensures.value in
    record {
      gone = gone_stopped (gone_none _ (telling _)) tt;
      ends = λ known. record {
        told = inl (refl, inl (none, refl));
        so = explained_none
            (λ spec. no_endpoint c.args.wide c.args.text.now c.args.target spec none);
      };
    }

pub returns-then-max-status_length-clause-part : goal.returns-then-max-status_length-clause-part
returns-then-max-status_length-clause-part g c =
    let count = c.in_ok-ports.ensures.read in
    let less = rw c.status_length.ensures at c.if-max-status_length.true in
    let small = status_small c.args.wide c.args.text.now _ c.in-Some.max c.in_ok-ports.ports
    c.in-Some.ensures.value less in
    record {
      gone = gone_stopped (gone_wider (gone_as (tells_asked _) count.gone) (omega arith)) tt;
      ends = λ known. record {
        told = inl (
          refl,
          inr (inl (record {
            ports = c.in_ok-ports.ports;
            count = (count.ends known).told;
            small = small;
          })),
        );
        so = small_explains c.args.wide c.args.text.now c.args.target c.in_ok-ports.ports
            (g.B.Bus.world c.args.bus.now) (g.B.Bus.world c.port_count.new.bus) small
            (count.ends known).so;
      };
    }

pub returns-in_err-ports-clause-part : goal.returns-in_err-ports-clause-part
returns-in_err-ports-clause-part g c =
    let count = c.in_err-ports.ensures.read in
    part_failed c.from_residual.ensures.1
    (gone_wider (gone_as (tells_asked _) count.gone) (omega arith)) (λ known. record {
      told = at_start _ _ c.args.target c.args.text.now _ _ (count.ends known).told;
      so = asked_explains c.args.wide c.args.text.now c.args.target _
          (g.B.Bus.world c.args.bus.now) (g.B.Bus.world c.port_count.new.bus) (count.ends known).so;
    })

pub returns-in_err-supply-clause-part : goal.returns-in_err-supply-clause-part
returns-in_err-supply-clause-part g c =
    let count = c.in_ok-ports.ensures.read in
    let supply = c.in_err-supply.ensures.read c.args.wide in
    part_failed c.from_residual-in_err-supply.ensures.1
    (gone_as (tells_asked _) (gone_then asking count.gone supply.gone (omega arith))) (λ known.
    let went = (count.gone.steps known).went in
    record {
      told = at_start _ _ _ c.args.text.now _ _
          (hub_after _ _ _ _ went.led (supply.ends known).told);
      so = explains_set_on (count.ends known).so went (supply.gone.steps known).went
          (asked_explains c.args.wide c.args.text.now _ _ _
          (g.B.Bus.world c.port_supply.new.bus) (supply.ends known).so) (λ spec ruled p b. b);
    })

pub returns-in_err-power_ports-clause-part : goal.returns-in_err-power_ports-clause-part
returns-in_err-power_ports-clause-part g c =
    let count = c.in_ok-ports.ensures.read in
    let supply = c.in_ok-supply.ensures.read c.args.wide in
    let power = c.in_err-power_ports.ensures.part c.args.wide in
    let asked = gone_joined asking count.gone supply.gone in
    part_failed c.from_residual-in_err-power_ports.ensures.1 (gone_then (telling _)
    (gone_as (tells_asked _) asked) power.gone (omega (arith, c.in_ok-ports.ensures.count.0.1)))
    (λ known.
    let status = supply.gone.steps known in
    record {
      told = at_start _ _ _ c.args.text.now _ _
          (hub_after _ _ _ _ (asked.steps known).went.led (power.ends known).told);
      so = powered_explains c.args.wide c.args.text.now _ c.in_ok-ports.ports _
          c.in_ok-ports.ensures.count.0 (count.gone.steps known).went (count.ends known).so
          status.went status.keeps.devices (power.gone.steps known).went (power.ends known).so;
    })
