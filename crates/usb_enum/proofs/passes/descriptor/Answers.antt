use Rattle.std.proofs.Common.{inl, arith, ◌≡◌, ◌∙◌, Err, ap, refl, rules, sym, take}
use Rattle.std.proofs.lemmas.List.{take-take}
use Rattle.usb_enum.specs.{AtMaximum, BadDevice, HasDescriptor, answered_or, device_fault}
use Rattle.usb_enum.specs.{is_device, bad_front, Stalled}
use Rattle.usb_enum.proofs.devices.SaidBytes.{whole_said}
use Rattle.usb_enum.proofs.readings.Heads.{gave, answered, device_ungiven, descriptor_none}
use Rattle.usb_enum.proofs.readings.Heads.{descriptor_refused, device_read, no_answer, some_answer}
use Rattle.usb_enum.proofs.readings.Heads.{refused_who, short_device}
use Rattle.usb_enum.proofs.refusals.Refusals.{answered_ok, failed, request_refused}
use Rattle.usb_enum.proofs.stops.PlainStops.{answered_early, device_good, device_reported}
use Rattle.usb_transfer.specs.declared.fault.PipeFault.TheVariants.{NoAnswer}
use Rattle.usb_hub.specs.{device_given}
use Rattle.usb_enum.proofs.Parts.{gone_asked, gone_ended, gone_on, gone_stopped}
use Rattle.usb_request.specs.{get_device_descriptor}
use Rattle.usb_enum.specs.declared.cause.Request.TheVariants.{Device}
use Rattle.usb_enum.proofs.stops.Reasons.{read_stop_told, reading, unanswered_ends_failing}
use Rattle.usb_enum.proofs.passes.descriptor.Goals as goal

pub returns-then-eq : goal.returns-then-eq
returns-then-eq g c =
    let device = c.get_device-outcome.ensures in
    let silent : _ ≡ Err NoAnswer = no_answer _ _ _ (sym c.eq.ensures ∙ c.if-eq.true) refl refl refl
    (λ why. refl) refl in
    record {
      device = search rules;
      read = record {
        gone = gone_on (gone_asked device_given 18 _ c.requires.max
            (sym (ap (answered_or BadDevice) silent)) device.uses device.asked device.what
            (λ known. (device.addresses known).keeps)) tt;
        ends = λ known.
            let asked = device.asked known in
            record {
              told = unanswered_ends_failing (get_device_descriptor 18) silent asked.stages;
              so = descriptor_none silent c.requires.max (device.what known)
                  (device.why known) asked;
            };
      };
      said = λ known. inl refl;
    }

pub returns-in_err-bytes : goal.returns-in_err-bytes
returns-in_err-bytes g c =
    let device = c.get_device-outcome.ensures in
    rw (failed c.from_residual.result c.from_residual.ensures.1) (record {
      device = answered_early (Stalled Device) _ _ tt c.in_err-bytes.ensures;
      read = record {
        gone = gone_asked device_given 18 _ c.requires.max c.in_err-bytes.ensures device.uses
            device.asked device.what (λ known. (device.addresses known).keeps);
        ends = λ known.
            let asked = device.asked known in
            record {
              told = read_stop_told Device _ (18, refl) c.in_err-bytes.ensures asked;
              so = record {
                why = request_refused (g.B.Bus.world c.get_device-outcome.new.bus)
                    (device.what known) c.requires.max (device.why known)
                    (device_fault c.args.target.low) (Stalled Device) _ c.in_err-bytes.ensures
                    (device_ungiven c.args.target.low);
                who = refused_who asked (device.addresses known) _ c.in_err-bytes.ensures
                    (some_answer _ _ _ (sym c.eq.ensures ∙ c.if-eq.false) refl);
              };
            };
      };
      said = λ known. inl refl;
    })

pub returns-in-Some : goal.returns-in-Some
returns-in-Some g c =
    let t = c.args.target in
    let device = rw (answered_ok _ c.in_ok-bytes.ensures) at c.get_device-outcome.ensures in
    let front = c.in-Some.ensures.cases.same ∙ ap (take 18) c.as_slice-2.ensures.value in
    let said = c.keep.ensures ∙ ap (take 18) c.as_slice.ensures.value in
    rw c.device_bytes.ensures (record {
      device = device_good t.low c.in-Some.bytes.now _ (said ∙ sym front);
      read = record {
        gone = gone_ended _ (gone_asked device_given 18 BadDevice c.requires.max refl device.uses
            device.asked device.what (λ known. (device.addresses known).keeps))
            (device_reported _ t.low c.in-Some.bytes.now);
        ends = λ known.
            let got = gave 18 (device.asked known) (device.addresses known) (device.what known) in
            device_read (record {
              all = c.in_ok-bytes.bytes.items;
              read = reading got.asked.stages;
              front = front;
            }) (answered (AtMaximum t (HasDescriptor c.in-Some.bytes.now)) got
            (λ s loud free allowed first max. front ∙ ap (take 18) (first (inl max))
            ∙ take-take 18 18 s.spec.descriptor (omega arith))) (λ bad. record {
              why = descriptor_refused (ap (is_device t.low) (sym front) ∙ bad) got;
              who = λ cause e. got.addresses.who;
            });
      };
      said = λ known. whole_said said
          (gave 18 (device.asked known) (device.addresses known) (device.what known));
    })

pub returns : goal.returns
returns g c =
    let device = rw (answered_ok _ c.in_ok-bytes.ensures) at c.get_device-outcome.ensures in
    let bytes = c.in_ok-bytes.bytes in
    let short = rw c.as_slice-2.ensures.value at c.in-None.ensures.cases in
    let bad = short_device c.args.target.low bytes.items short in
    record {
      device = search rules;
      read = record {
        gone = gone_stopped (gone_asked device_given 18 BadDevice c.requires.max refl device.uses
            device.asked device.what (λ known. (device.addresses known).keeps)) tt;
        ends = λ known.
            let got = gave 18 (device.asked known) (device.addresses known) (device.what known) in
            record {
              told = bad_front (take 18 bytes.items) (record {
                all = bytes.items;
                read = reading got.asked.stages;
                front = refl;
              }) bad;
              so = record { why = descriptor_refused bad got; who = λ cause e. got.addresses.who };
            };
      };
      said = λ known. whole_said (c.keep.ensures ∙ ap (take 18) c.as_slice.ensures.value)
          (gave 18 (device.asked known) (device.addresses known) (device.what known));
    }
