use Rattle.usb_enum.specs.{pass_bound, addressed_fault, Silent, NoAnswerTold, RefusedEarly}
use Rattle.usb_enum.specs.{answered}
use Rattle.std.proofs.Common.{◌≡◌, ◌⊎◌, inl, inr, arith, refl, rules}
use Rattle.usb_hub.proofs.Interface.{is_asked_stays}
use Rattle.usb_enum.proofs.devices.Enumerations.{takes_after}
use Rattle.usb_enum.proofs.devices.SaidBytes.{said_after}
use Rattle.usb_enum.proofs.Parts.{enumerating, gone_again, gone_more, gone_none, gone_stopped}
use Rattle.usb_enum.proofs.Parts.{gone_times}
use Rattle.usb_enum.proofs.devices.ReachedDevices.{occupied_on}
use Rattle.usb_enum.proofs.stops.StopReasons.{misses_none, misses_then, stops_then, thrice_missed}
use Rattle.usb_enum.proofs.stops.Reasons.{at_after, descriptor_after, silent_after}
use Rattle.usb_enum.proofs.refusals.Refusals.{failed}
use Rattle.usb_enum.proofs.passes.passes.Goals as goal

pub loop-pass-init : goal.loop-pass-init
loop-pass-init g c = record {
  gone = gone_none _ (enumerating _ _);
  silent = λ known. inl refl;
  missed = λ known. misses_none _ _ _;
  said = λ known. inl refl;
}

pub pass-requires : goal.pass-requires
pass-requires g c = record {
  port = is_asked_stays _ _ _ _ _ (λ known. (c.loop-pass.invariant.gone.steps known).run.spends)
      c.requires.port;
  least = c.requires.least;
  most = c.requires.most;
}

pub loop-pass-preserved : goal.loop-pass-preserved
loop-pass-preserved g c =
    let before = c.loop-pass.invariant in
    let one = c.in_ok-device.ensures.part in
    record {
      gone = gone_again _ (enumerating _ _) before.gone one.gone;
      silent = λ known.
          let missed = rw c.in_default.is at (one.ends known) in
          inr (silent_after (before.gone.steps known).went.led missed.told);
      missed = λ known.
          let missed = rw c.in_default.is at (one.ends known) in
          let steps = before.gone.steps known in
          let next = one.gone.steps known in
          misses_then steps.went next.went steps.keeps next.keeps (before.missed known) missed.so;
      said = λ known.
          let steps = before.gone.steps known in
          said_after (before.said known) (one.gone.steps known).went.led steps.went
          steps.keeps.within (c.in_ok-device.ensures.said known);
    }

pub returns-in-Some : goal.returns-in-Some
returns-in-Some g c =
    let before = c.loop-pass.invariant in
    let one = c.in_ok-device.ensures.part in
    record {
      addressed = rw c.in-Some.is at c.in_ok-device.ensures.addressed;
      part = record {
        gone = gone_more _ 3 (enumerating _ _) before.gone one.gone c.loop-pass-test.true;
        ends = λ known.
            let steps = before.gone.steps known in
            let found = rw c.in-Some.is at (one.ends known) in
            let taken = found.so in
            record {
              told = descriptor_after steps.went.led found.told;
              so = record {
                address = taken.address;
                pre = taken.pre;
                takes = takes_after steps.keeps.within taken.takes;
                still = taken.still;
                found = record {
                  found = λ f p is t order. taken.found.found f p is
                      (steps.keeps.within.stays f p is t) (steps.went.order order);
                };
                reaches = record {
                  reached = λ f p is t order occupied none.
                      let next = (one.gone.steps known).went in
                      let at = steps.keeps.only.at f p is t (next.led.sound none) in
                      taken.reaches.reached f p is (steps.keeps.within.stays f p is t)
                      (steps.went.order order) (occupied_on p at.spares occupied) none;
                };
              };
            };
      };
      said = λ known.
          let steps = before.gone.steps known in
          said_after (before.said known) (one.gone.steps known).went.led steps.went
          steps.keeps.within (c.in_ok-device.ensures.said known);
    }

pub returns-in_err-device : goal.returns-in_err-device
returns-in_err-device g c =
    let before = c.loop-pass.invariant in
    let one = c.in_err-device.ensures.part in
    rw (failed c.from_residual.result c.from_residual.ensures.1) (record {
      addressed = search rules;
      part = record {
        gone = gone_more _ 3 (enumerating _ _) before.gone one.gone c.loop-pass-test.true;
        ends = λ known.
            let steps = before.gone.steps known in
            let next = one.gone.steps known in
            record {
              told = at_after _ c.args.port c.args.address _ steps.went.led (one.ends known).told;
              so = stops_then steps.went next.went steps.keeps next.keeps
                  (before.missed known) _ (one.ends known).so;
            };
      };
      said = λ known.
          let steps = before.gone.steps known in
          said_after (before.said known) (one.gone.steps known).went.led steps.went
          steps.keeps.within (c.in_err-device.ensures.said known);
    })

pub returns-clause-part : goal.returns-clause-part
returns-clause-part g c =
    let all : c.loop-pass._pass ≡ 3 =
    omega (arith, c.loop-pass-test.false, c.loop-pass.auto._pass-end) in
    record {
      gone = gone_stopped (gone_times _ 3 (pass_bound c.args.port) c.loop-pass.invariant.gone
          c.loop-pass.auto._pass-end) tt;
      ends = λ known. record {
        told = silent (c.loop-pass.invariant.silent known);
        so = thrice_missed addressed_fault _ (rw all at (c.loop-pass.invariant.missed known));
      };
    }
  where
    silent : (c.loop-pass._pass ≡ 0)
        ⊎ NoAnswerTold c.args.port c.args.address (g.B.Bus.world c.args.bus.now)
        (g.B.Bus.world c.loop-pass.bus)
        → RefusedEarly c.args.port c.args.address (g.B.Bus.world c.args.bus.now)
        (g.B.Bus.world c.loop-pass.bus) Silent
    silent (inl none) =
        absurd (omega (arith, none, c.loop-pass-test.false, c.loop-pass.auto._pass-end))
    silent (inr told) = answered told.target told.is told.failed

pub returns-clause-said : goal.returns-clause-said
returns-clause-said g c known = c.loop-pass.invariant.said known
