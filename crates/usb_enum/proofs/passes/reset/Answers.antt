use Rattle.usb_enum.specs.{not_enabled}
use Rattle.std.proofs.Common.{arith}
use Rattle.std.proofs.lemmas.Bool.{not-false}
use Rattle.usb_hub.proofs.Interface.{is_asked_stays}
use Rattle.usb_enum.proofs.devices.Frames.{at_asked}
use Rattle.usb_enum.proofs.Parts.{enumerating, gone_as, gone_joined, gone_stopped, gone_then}
use Rattle.usb_enum.proofs.Parts.{gone_wider, part_failed}
use Rattle.usb_enum.proofs.devices.Presence.{reset_finds}
use Rattle.usb_enum.proofs.devices.ReachedDevices.{done_at, reset_reaches}
use Rattle.usb_enum.proofs.courses.Fairness.{called_faulted, faulted_after, status_faulted}
use Rattle.usb_enum.proofs.stops.StopReasons.{reset_goes, reset_lost, settle_failed}
use Rattle.usb_world.proofs.Interface.{not-true}
use Rattle.usb_enum.proofs.stops.Reasons.{fault_after, fault_by}
use Rattle.usb_enum.proofs.passes.reset.Goals as goal

pub read_status-requires : goal.read_status-requires
read_status-requires g c =
    is_asked_stays _ _ _ _ _
    (λ known. ((c.begin_reset.ensures.part 0).gone.steps known).run.spends) c.requires.port

pub settle-requires : goal.settle-requires
settle-requires g c =
    is_asked_stays _ _ _ _ _ (λ known. (c.read_status.ensures.read.gone.steps known).run.spends)
    (is_asked_stays _ _ _ _ _
    (λ known. ((c.begin_reset.ensures.part 0).gone.steps known).run.spends) c.requires.port)

pub returns-in_err-begin_reset-clause-part : goal.returns-in_err-begin_reset-clause-part
returns-in_err-begin_reset-clause-part g c a =
    let why = c.in_err-begin_reset.field-0.0 in
    let begun = c.in_err-begin_reset.ensures.part a in
    part_failed c.from_residual.ensures.1 (gone_wider begun.gone (omega arith)) (λ known.
    let steps = begun.gone.steps known in
    record {
      told = begun.ends known;
      so = record {
        why = (called_faulted steps.went steps.keeps
            (fault_by _ why _ _ (begun.ends known)) (c.in_err-begin_reset.ensures.calls known)).why;
      };
    })

pub returns-in_err-status-clause-part : goal.returns-in_err-status-clause-part
returns-in_err-status-clause-part g c a =
    let why = c.in_err-status.field-0.0 in
    let begun = (c.in_ok-begin_reset.ensures.part a).gone in
    let status = c.in_err-status.ensures.read in
    let asked = gone_as (at_asked _ a) status.gone in
    part_failed c.from_residual-in_err-status.ensures.1
    (gone_then (enumerating _ a) begun asked (omega arith)) (λ known.
    let before = begun.steps known in
    let next = asked.steps known in
    record {
      told = fault_after _ why _ before.went.led (status.ends known);
      so = record {
        why = (faulted_after before.went next.went before.keeps (status_faulted next.went next.keeps
            (fault_by _ why _ _ (status.ends known)) (c.in_err-status.ensures.status known))).why;
      };
    })

pub returns-then-not-status-clause-part : goal.returns-then-not-status-clause-part
returns-then-not-status-clause-part g c a =
    let begun = (c.in_ok-begin_reset.ensures.part a).gone in
    let status = c.in_ok-status.ensures.read.gone in
    let off = not-true c.in_ok-status.status.enabled c.if-not-status.true in
    record {
      gone = gone_stopped (gone_then (enumerating _ a) begun (gone_as (at_asked _ a) status)
          (omega arith)) tt;
      ends = λ known.
          let before = begun.steps known in
          let next = status.steps known in
          let shown = c.in_ok-status.ensures.status known in
          record {
            told = not_enabled (record {
              before = g.B.Bus.world c.begin_reset.new.bus;
              led = before.went.led;
              status = c.in_ok-status.status;
              read = rw (done_at shown.told) at shown.read;
              off = off;
            });
            so = reset_lost before.went next.went before.keeps next.keeps
                (c.in_ok-begin_reset.ensures.calls known) shown off;
          };
    }

pub returns-in_err-settle-clause-part : goal.returns-in_err-settle-clause-part
returns-in_err-settle-clause-part g c a =
    let why = c.in_err-settle.field-0.0 in
    let settle = c.in_err-settle.ensures.part a in
    let told = gone_joined (enumerating _ a) (c.in_ok-begin_reset.ensures.part a).gone
    (gone_as (at_asked _ a) c.in_ok-status.ensures.read.gone) in
    part_failed c.from_residual-in_err-settle.ensures.1
    (gone_then (enumerating _ a) told settle.gone (omega arith)) (λ known.
    let before = told.steps known in
    let next = settle.gone.steps known in
    record {
      told = fault_after _ why _ before.went.led (settle.ends known);
      so = record {
        why = (faulted_after before.went next.went before.keeps (called_faulted next.went next.keeps
            (fault_by _ why _ _ (settle.ends known)) (settle_failed
            (c.in_err-settle.ensures.calls known)))).why;
      };
    })

pub returns-clause-part : goal.returns-clause-part
returns-clause-part g c a =
    let port = c.args.port in
    let begun = (c.in_ok-begin_reset.ensures.part a).gone in
    let status = c.in_ok-status.ensures.read.gone in
    let settle = (c.in_ok-settle.ensures.part a).gone in
    let told = gone_joined (enumerating port a) begun (gone_as (at_asked port a) status) in
    let all = gone_joined (enumerating port a) told settle in
    record {
      gone = gone_wider all (omega arith);
      ends = λ known.
          let one = begun.steps known in
          let two = status.steps known in
          let three = settle.steps known in
          let shown = c.in_ok-status.ensures.status known in
          let settles = c.in_ok-settle.ensures.calls known in
          record {
            speed = λ none. reset_finds one.went two.went three.went
                (c.begin_reset.ensures.resets known) shown (c.settle.ensures.devices known)
                (all.steps known).keeps.within none;
            reaches = reset_reaches one.went two.went three.went one.keeps two.keeps
                (told.steps known).keeps three.keeps shown
                (not-false c.in_ok-status.status.enabled c.if-not-status.false) settles;
            goes = reset_goes one.went two.went three.went
                (c.in_ok-begin_reset.ensures.calls known) shown settles;
          };
    }
