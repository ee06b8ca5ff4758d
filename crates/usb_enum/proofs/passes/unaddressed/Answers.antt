use Rattle.usb_enum.specs.{needs_pre}
use Rattle.std.proofs.Common.{◌≡◌, inl, ◌&&◌, ◌∙◌, ap, arith, refl, rules, sym}
use Rattle.usb_enum.proofs.devices.Frames.{at_asked}
use Rattle.usb_enum.proofs.Parts.{enumerating, gone_as, gone_then, gone_wider}
use Rattle.usb_enum.proofs.devices.Presence.{unaddressed_finds}
use Rattle.usb_enum.proofs.devices.SaidBytes.{head_said_at}
use Rattle.usb_enum.proofs.courses.Fairness.{stops_wider}
use Rattle.usb_enum.proofs.devices.ReachedDevices.{reaches_rest}
use Rattle.usb_enum.proofs.stops.StopReasons.{head_stops}
use Rattle.usb_enum.proofs.courses.Losses.{no_stretch_then}
use Rattle.usb_enum.proofs.stops.Reasons.{at_after, stop_told_at, told_faults}
use Rattle.usb_transfer.specs.{Target}
use Rattle.usb_enum.proofs.refusals.Refusals.{failed}
use Rattle.usb_enum.proofs.passes.unaddressed.Goals as goal
use Rattle.usb_enum.proofs.passes.unaddressed.Goals.{then-low, else-low}

pub returns-in_err-low : goal.returns-in_err-low
returns-in_err-low g c =
    rw (failed c.from_residual.result c.from_residual.ensures.1) (record {
      target = search rules;
      part = λ a.
          let reset = c.in_err-low.ensures.part a in
          record {
            gone = gone_wider reset.gone (omega arith);
            ends = λ known. record {
              told = (reset.ends known).told;
              so = stops_wider _ (λ spec cause e. absurd cc) (reset.ends known).so;
            };
          };
      said = λ known a. inl refl;
    })

pub returns-in_err-max : goal.returns-in_err-max
returns-in_err-max g c =
    let port = c.args.port in
    let low = c.in_ok-low.low in
    let t : Target = record { addr = 0; max = 8; low = low; pre = c.if-low.pre } in
    let pre : c.if-low.pre ≡ (low && needs_pre port) = elim c.if-low.branch [
      | then-low w ↦ w.pre-is ∙ w.needs_pre-pre.ensures ∙ sym
          (ap (λ b. b && needs_pre port) w.if-low.true)
      | else-low w ↦ w.pre-is ∙ w.if-low.false ∙ sym (ap (λ b. b && needs_pre port) w.if-low.false)
    ] in
    let head = c.in_err-max.ensures.read in
    rw (failed c.from_residual-in_err-max.result c.from_residual-in_err-max.ensures.1) (record {
      target = search rules;
      part = λ a.
          let reset = c.in_ok-low.ensures.part a in
          record {
            gone = gone_then (enumerating port a) reset.gone (gone_as (at_asked port a) head.gone)
                (omega arith);
            ends = λ known.
                let zero = c.in_ok-low.ensures.part 0 in
                let first = reset.gone.steps known in
                let next = head.gone.steps known in
                let stops = head.ends known in
                record {
                  told = at_after _ port a _ first.went.led (stop_told_at _ _
                      _ (record { at = inl refl; pre = pre }) stops.told);
                  so = head_stops _ _ first.went next.went first.keeps
                      (zero.gone.steps known).keeps next.keeps (zero.ends known) pre
                      (told_faults _ t _ _ stops.told) stops.so;
                };
          };
      said = λ known a.
          let reset = (c.in_ok-low.ensures.part a).gone.steps known in
          let next = head.gone.steps known in
          head_said_at (record { at = inl refl; pre = pre }) reset.went next.went
          reset.keeps.within next.keeps.addresses (c.in_err-max.ensures.said known);
    })

pub returns : goal.returns
returns g c =
    let port = c.args.port in
    let low = c.in_ok-low.low in
    let t : Target = record { addr = 0; max = 8; low = low; pre = c.if-low.pre } in
    let pre : c.if-low.pre ≡ (low && needs_pre port) = elim c.if-low.branch [
      | then-low w ↦ w.pre-is ∙ w.needs_pre-pre.ensures ∙ sym
          (ap (λ b. b && needs_pre port) w.if-low.true)
      | else-low w ↦ w.pre-is ∙ w.if-low.false ∙ sym (ap (λ b. b && needs_pre port) w.if-low.false)
    ] in
    let head = c.in_ok-max.ensures.read in
    record {
      target = search rules;
      part = λ a.
          let reset = c.in_ok-low.ensures.part a in
          record {
            gone = gone_then (enumerating port a) reset.gone (gone_as (at_asked port a) head.gone)
                (omega arith);
            ends = λ known.
                let waits = reset.ends known in
                let next = head.gone.steps known in
                let found = head.ends known in
                record {
                  found = unaddressed_finds low _ _ waits.speed found.answers next.went
                      (reset.gone.steps known).keeps.within next.keeps.addresses;
                  reaches = reaches_rest next.went next.keeps.ports waits.reaches;
                  goes = λ none. no_stretch_then (waits.goes (next.went.led.sound none)) found.goes;
                };
          };
      said = λ known a.
          let reset = (c.in_ok-low.ensures.part a).gone.steps known in
          let next = head.gone.steps known in
          head_said_at (record { at = inl refl; pre = pre }) reset.went next.went
          reset.keeps.within next.keeps.addresses (c.in_ok-max.ensures.said known);
    }
