use Rattle.std.proofs.Common.{inl, inr, ◌≤◌, ◌∙◌, ap, arith, refl, rules, sym, take}
use Rattle.usb_enum.proofs.devices.SaidBytes.{head_said}
use Rattle.usb_enum.specs.{BadDevice, IsRefusedFor, head_fault, bad_head, Stalled}
use Rattle.usb_enum.proofs.readings.Heads.{gave, head_failed, head_refused, head_answered}
use Rattle.usb_enum.proofs.refusals.Refusals.{answered_ok, failed, stop_explains}
use Rattle.usb_enum.proofs.stops.PlainStops.{answered_early}
use Rattle.usb_descriptor.specs.{device_head_of}
use Rattle.usb_hub.specs.{device_given}
use Rattle.usb_enum.proofs.Parts.{gone_asked, gone_stopped}
use Rattle.usb_enum.proofs.courses.Losses.{device_goes}
use Rattle.usb_enum.specs.declared.cause.Request.TheVariants.{Device}
use Rattle.usb_enum.proofs.stops.Reasons.{read_stop_told, reading}
use Rattle.usb_enum.proofs.passes.first_maximum.Goals as goal

pub returns-in-Ok : goal.returns-in-Ok
returns-in-Ok g c =
    let device = rw (answered_ok _ c.in_ok-bytes.ensures) at c.get_device.ensures in
    record {
      fits = search rules;
      read = record {
        gone = gone_asked device_given 8 BadDevice (omega (arith, c.requires.max)) refl device.uses
            device.asked device.what (λ known. (device.addresses known).keeps);
        ends = λ known.
            let asked = device.asked known in
            let answers = head_answered
            (sym (rw c.as_slice-2.ensures.value at c.in-Ok.ensures.answer))
            (gave 8 asked (device.addresses known) (device.what known)) in
            record { answers = answers; goes = device_goes 8 asked answers.still };
      };
      said = λ known. head_said (c.keep.ensures ∙ ap (take 18) c.as_slice.ensures.value)
          (gave 8 (device.asked known) (device.addresses known) (device.what known));
    }

pub returns-in_err-bytes : goal.returns-in_err-bytes
returns-in_err-bytes g c =
    let device = c.get_device.ensures in
    let wide : 8 ≤ c.args.unaddressed.max = omega (arith, c.requires.max) in
    rw (failed c.from_residual.result c.from_residual.ensures.1) (record {
      fits = answered_early (Stalled Device) _ _ tt c.in_err-bytes.ensures;
      read = record {
        gone = gone_asked device_given 8 _ wide c.in_err-bytes.ensures device.uses device.asked
            device.what (λ known. (device.addresses known).keeps);
        ends = λ known. record {
          told = read_stop_told Device _ (8, refl) c.in_err-bytes.ensures (device.asked known);
          so = stop_explains (g.B.Bus.world c.get_device.new.bus) (device.what known) wide
              (device.why known)
              (IsRefusedFor (head_fault c.args.unaddressed.low)) (Stalled Device) _
              c.in_err-bytes.ensures (λ spec fault fails. head_failed c.args.unaddressed.low spec
              fault (fails (inr (omega arith))));
        };
      };
      said = λ known. inl refl;
    })

pub returns : goal.returns
returns g c =
    let device = rw (answered_ok _ c.in_ok-bytes.ensures) at c.get_device.ensures in
    let bytes = c.in_ok-bytes.bytes in
    let bad = ap (device_head_of c.args.unaddressed.low) (sym c.as_slice-2.ensures.value) ∙ sym
    c.device_head.ensures.answer ∙ c.in-Err.is in
    record {
      fits = search rules;
      read = record {
        gone = gone_stopped (gone_asked device_given 8 BadDevice (omega (arith, c.requires.max))
            refl device.uses device.asked device.what (λ known. (device.addresses known).keeps)) tt;
        ends = λ known. record {
          told = bad_head bytes.items c.in-Err.field-0 (reading (device.asked known).stages) bad;
          so = head_refused bad
              (gave 8 (device.asked known) (device.addresses known) (device.what known));
        };
      };
      said = λ known. head_said (c.keep.ensures ∙ ap (take 18) c.as_slice.ensures.value)
          (gave 8 (device.asked known) (device.addresses known) (device.what known));
    }
