use Rattle.std.proofs.Common.{◌≡◌, ◌+◌, true, arith, refl}
use Rattle.usb_transfer.specs.{write_bound}
use Rattle.usb_enum.proofs.ports.Hubs.{powered_more, learns_stays, has_earlier}
use Rattle.usb_enum.proofs.Parts.{gone_again, gone_more, gone_none, gone_times, part_failed}
use Rattle.usb_enum.proofs.Parts.{telling}
use Rattle.usb_enum.proofs.stops.Reasons.{hub_after}
use Rattle.usb_enum.proofs.refusals.Refusals.{explains_set_on}
use Rattle.usb_enum.proofs.hub.power_ports.Goals as goal

pub ports-init : goal.ports-init
ports-init g c = record { gone = gone_none _ (telling _); powered = λ known. refl }

pub ports-preserved : goal.ports-preserved
ports-preserved g c =
    let power = c.in_ok-power_port.ensures.part true in
    record {
      gone = gone_again _ (telling _) c.ports.invariant.gone power.gone;
      powered = λ known. powered_more _ _ _ _ _ (c.ports.invariant.powered known)
          (power.ends known);
    }

pub returns-clause-part : goal.returns-clause-part
returns-clause-part g c wide =
    let all : c.ports.before ≡ c.args.ports =
    omega (arith, c.ports-test.false, c.ports.auto.before-end) in
    record {
      gone = gone_times _ _ write_bound c.ports.invariant.gone c.ports.auto.before-end;
      ends = λ known. rw all at (c.ports.invariant.powered known);
    }

pub returns-in_err-power_port-clause-part : goal.returns-in_err-power_port-clause-part
returns-in_err-power_port-clause-part g c wide =
    let before = c.ports.invariant.gone in
    let power = c.in_err-power_port.ensures.part wide in
    part_failed c.from_residual.ensures.1
    (gone_more _ _ (telling _) before power.gone c.ports-test.true) (λ known.
    let steps = before.steps known in
    let stops = power.ends known in
    record {
      told = hub_after wide _ c.args.target _ steps.went.led stops.told;
      so = explains_set_on (learns_stays c.args.target steps.keeps.devices) steps.went
          (power.gone.steps known).went stops.so (λ spec ruled a none r has.
          none r (has_earlier (c.ports.before + 1) (omega arith)
          (omega (arith, c.ports-test.true)) has));
    })
