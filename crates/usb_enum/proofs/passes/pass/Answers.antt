use Rattle.usb_enum.specs.{Stalled}
use Rattle.usb_enum.proofs.stops.PlainStops.{answered_early}
use Rattle.std.proofs.Common.{inl, inr, arith, refl, rules}
use Rattle.usb_enum.proofs.devices.Presence.{addressed_granted, spoken_finds}
use Rattle.usb_enum.proofs.devices.SaidBytes.{said_on, whole_said_at}
use Rattle.usb_enum.proofs.devices.ReachedDevices.{reaches_addressed, reaches_rest}
use Rattle.usb_enum.proofs.devices.Enumerations.{takes_after, takes_answered}
use Rattle.usb_enum.proofs.devices.Frames.{at_asked}
use Rattle.usb_enum.proofs.Parts.{enumerating, gone_addressed, gone_as, gone_then, gone_wider}
use Rattle.usb_enum.proofs.courses.Courses.{went_steps}
use Rattle.usb_enum.proofs.courses.Fairness.{stops_wider}
use Rattle.usb_enum.proofs.refusals.Refusals.{answered_ok, failed}
use Rattle.usb_enum.proofs.stops.StopReasons.{address_stops, addressed_early, descriptor_stops}
use Rattle.usb_enum.proofs.stops.StopReasons.{pass_misses}
use Rattle.usb_enum.specs.declared.cause.Request.TheVariants.{Address}
use Rattle.usb_enum.proofs.stops.Reasons.{at_after, descriptor_after, failing_after, stop_told_at}
use Rattle.usb_enum.proofs.stops.Reasons.{told_faults, write_stop_told}
use Rattle.usb_enum.proofs.passes.pass.Goals as goal

pub returns-in_err-target : goal.returns-in_err-target
returns-in_err-target g c =
    let early = c.in_err-target.ensures.part c.args.address in
    rw (failed c.from_residual.result c.from_residual.ensures.1) (record {
      addressed = search rules;
      part = record {
        gone = gone_wider early.gone (omega arith);
        ends = λ known. record {
          told = (early.ends known).told;
          so = stops_wider _ addressed_early (early.ends known).so;
        };
      };
      said = λ known. c.in_err-target.ensures.said known c.args.address;
    })

pub returns-in_err-answered_or : goal.returns-in_err-answered_or
returns-in_err-answered_or g c =
    let a = c.args.address in
    let is = c.in_ok-target.ensures.target in
    let set = c.set_address.ensures in
    let early = c.in_ok-target.ensures.part a in
    let addressed = gone_addressed _ early.gone is.zero c.requires.least
    c.in_err-answered_or.ensures set.uses set.ordered set.what set.gives in
    rw
    (failed c.from_residual-in_err-answered_or.result c.from_residual-in_err-answered_or.ensures.1)
    (record {
      addressed = answered_early (Stalled Address) _ _ tt c.in_err-answered_or.ensures;
      part = record {
        gone = gone_wider addressed (omega arith);
        ends = λ known.
            let zero = c.in_ok-target.ensures.part 0 in
            let ordered = set.ordered known in
            let first = early.gone.steps known in
            record {
              told = at_after _ _ a _ first.went.led (stop_told_at _ _ _
                  (record { at = inl is.zero; pre = is.pre })
                  (write_stop_told Address _ (a, refl) c.in_err-answered_or.ensures ordered));
              so = address_stops _ a _ c.set_address.result first.went
                  (went_steps (set.uses.steps known)) first.keeps (addressed.steps known).keeps is
                  (zero.ends known) ordered (set.what known) (set.why known) _
                  c.in_err-answered_or.ensures;
            };
      };
      said = λ known. said_on (c.in_ok-target.ensures.said known a)
          (went_steps (set.uses.steps known)).led;
    })

pub returns-in_err-bytes : goal.returns-in_err-bytes
returns-in_err-bytes g c =
    let a = c.args.address in
    let t = c.in_ok-target.target in
    let is = c.in_ok-target.ensures.target in
    let set = rw (answered_ok _ c.in_ok-answered_or.ensures) at c.set_address.ensures in
    let early = c.in_ok-target.ensures.part a in
    let addressed = gone_addressed (Stalled Address) early.gone is.zero c.requires.least refl
    set.uses set.ordered set.what set.gives in
    let bytes = c.in_err-bytes.ensures.read in
    rw (failed c.from_residual-in_err-bytes.result c.from_residual-in_err-bytes.ensures.1) (record {
      addressed = search rules;
      part = record {
        gone = gone_then (enumerating _ a) addressed (gone_as (at_asked _ a) bytes.gone)
            (omega arith);
        ends = λ known.
            let zero = c.in_ok-target.ensures.part 0 in
            let first = early.gone.steps known in
            let second = addressed.steps known in
            let next = bytes.gone.steps known in
            let stops = bytes.ends known in
            record {
              told = at_after _ _ a _ second.went.led (stop_told_at _ _ _
                  (record { at = inr refl; pre = is.pre }) stops.told);
              so = descriptor_stops first.went (went_steps (set.uses.steps known)) next.went
                  first.keeps second.keeps next.keeps is
                  (zero.ends known) (set.ordered known) (set.what known) _
                  (told_faults _ (record t { addr = a }) _ _ stops.told) stops.so;
            };
      };
      said = λ known.
          let second = addressed.steps known in
          let next = bytes.gone.steps known in
          whole_said_at t (record { at = inr refl; pre = is.pre }) is.zero refl
          (c.in_ok-target.ensures.said known a) (early.ends known).found (set.what known)
          (went_steps (set.uses.steps known)).led second.went second.keeps.within next.went
          next.keeps.addresses (c.in_err-bytes.ensures.said known);
    })

pub returns-in-Some : goal.returns-in-Some
returns-in-Some g c =
    let is = c.in_ok-target.ensures.target in
    let set = rw (answered_ok _ c.in_ok-answered_or.ensures) at c.set_address.ensures in
    let a = c.args.address in
    let t = c.in_ok-target.target in
    let early = c.in_ok-target.ensures.part a in
    let addressed = gone_addressed (Stalled Address) early.gone is.zero c.requires.least refl
    set.uses set.ordered set.what set.gives in
    let bytes = c.in_ok-bytes.ensures.read in
    record {
      addressed = (refl, (rw c.in-Some.is at c.in_ok-bytes.ensures.device).1);
      part = record {
        gone = gone_then (enumerating _ a) addressed (gone_as (at_asked _ a) bytes.gone)
            (omega arith);
        ends = λ known.
            let waits = early.ends known in
            let second = addressed.steps known in
            let next = bytes.gone.steps known in
            let found = rw c.in-Some.is at (bytes.ends known) in
            record {
              told = descriptor_after second.went.led found.told;
              so = record {
                address = refl;
                pre = is.pre;
                takes = takes_after second.keeps.within
                    (takes_answered _ next.keeps.addresses found.so.who);
                still = found.so.still;
                found = spoken_finds _ t is.zero refl (addressed_granted _) waits.found
                    (set.what known) second.keeps.within found.so next.went next.keeps.addresses;
                reaches = reaches_rest next.went next.keeps.ports (reaches_addressed _
                    (went_steps (set.uses.steps known)) (set.ordered known) waits.reaches);
              };
            };
      };
      said = λ known.
          let second = addressed.steps known in
          let next = bytes.gone.steps known in
          whole_said_at t (record { at = inr refl; pre = is.pre }) is.zero refl
          (c.in_ok-target.ensures.said known a) (early.ends known).found (set.what known)
          (went_steps (set.uses.steps known)).led second.went second.keeps.within next.went
          next.keeps.addresses (c.in_ok-bytes.ensures.said known);
    }

pub returns-in-None : goal.returns-in-None
returns-in-None g c =
    let a = c.args.address in
    let t = c.in_ok-target.target in
    let is = c.in_ok-target.ensures.target in
    let set = rw (answered_ok _ c.in_ok-answered_or.ensures) at c.set_address.ensures in
    let early = c.in_ok-target.ensures.part a in
    let addressed = gone_addressed (Stalled Address) early.gone is.zero c.requires.least refl
    set.uses set.ordered set.what set.gives in
    let bytes = c.in_ok-bytes.ensures.read in
    record {
      addressed = search rules;
      part = record {
        gone = gone_then (enumerating _ a) addressed (gone_as (at_asked _ a) bytes.gone)
            (omega arith);
        ends = λ known.
            let first = early.gone.steps known in
            let second = addressed.steps known in
            let next = bytes.gone.steps known in
            let none = rw c.in-None.is at (bytes.ends known) in
            record {
              told = record {
                target = record t { addr = a };
                is = record { at = inr refl; pre = is.pre };
                failed = failing_after second.went.led none.told;
              };
              so = pass_misses first.went (went_steps (set.uses.steps known)) next.went first.keeps
                  second.keeps next.keeps is ((c.in_ok-target.ensures.part 0).ends known)
                  (set.ordered known) (set.what known) none.so;
            };
      };
      said = λ known.
          let second = addressed.steps known in
          let next = bytes.gone.steps known in
          whole_said_at t (record { at = inr refl; pre = is.pre }) is.zero refl
          (c.in_ok-target.ensures.said known a) (early.ends known).found (set.what known)
          (went_steps (set.uses.steps known)).led second.went second.keeps.within next.went
          next.keeps.addresses (c.in_ok-bytes.ensures.said known);
    }
