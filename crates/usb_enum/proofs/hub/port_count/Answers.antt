use Rattle.std.proofs.Common.{◌∙◌, inl, ap, refl, sym}
use Rattle.usb_enum.specs.{hub_fault, BadHub, bad_descriptor, no_descriptor}
use Rattle.usb_enum.proofs.ports.Hubs.{bad_hub, hub_ungiven, count_refused, count_told}
use Rattle.usb_enum.proofs.ports.Hubs.{ports_learned}
use Rattle.usb_enum.proofs.refusals.Refusals.{answered_ok, failed, request_refused}
use Rattle.usb_enum.proofs.stops.PlainStops.{answered_hub}
use Rattle.usb_descriptor.specs.{hub_spelled}
use Rattle.usb_hub.specs.{hub_given}
use Rattle.usb_enum.proofs.Parts.{gone_asked, gone_stopped}
use Rattle.usb_request.specs.{get_hub_descriptor}
use Rattle.usb_enum.proofs.stops.Reasons.{bad_hub_told, reading, reads_failed}
use Rattle.usb_enum.proofs.hub.port_count.Goals as goal

pub returns-in-Ok : goal.returns-in-Ok
returns-in-Ok g c =
    let hub = rw (answered_ok _ c.in_ok-bytes.ensures) at c.hub_descriptor.ensures in
    let same = c.in-Ok.ensures.view ∙ c.as_slice.ensures.value in
    record {
      count = (
        (c.ports.ensures.least, c.ports.ensures.most),
        rw c.ports.ensures.value c.in-Ok.ensures.ports.1,
      );
      read = record {
        gone = gone_asked hub_given 9 BadHub c.requires.max refl hub.uses hub.asked hub.what
            hub.keeps;
        ends = λ known. rw c.ports.ensures.value (record {
          told = count_told c.args.wide (hub.asked known) (cc) same;
          so = ports_learned (g.B.Bus.world c.hub_descriptor.new.bus) (cc) same (hub.what known);
        });
      };
    }

pub returns-in_err-bytes : goal.returns-in_err-bytes
returns-in_err-bytes g c =
    let old = g.B.Bus.world c.args.bus.now in
    let new = g.B.Bus.world c.hub_descriptor.new.bus in
    let hub = c.hub_descriptor.ensures in
    rw (failed c.from_residual.result c.from_residual.ensures.1) (record {
      count = answered_hub _ _ c.in_err-bytes.ensures;
      read = record {
        gone = gone_asked hub_given 9 _ c.requires.max c.in_err-bytes.ensures hub.uses hub.asked
            hub.what hub.keeps;
        ends = λ known.
            let asked = hub.asked known in
            record {
              told = bad_hub_told c.args.wide get_hub_descriptor
                  c.hub_descriptor.result _ 3 1 c.in_err-bytes.ensures (reads_failed
                  c.args.target get_hub_descriptor c.hub_descriptor.result old new asked.stages)
                  asked.ends no_descriptor;
              so = request_refused new (hub.what known) c.requires.max (hub.why known) (hub_fault
                  c.args.wide) BadHub _ c.in_err-bytes.ensures
                  (λ spec none. bad_hub c.args.wide spec
                  (hub_ungiven c.args.wide spec spec.hub none));
            };
      };
    })

pub returns-clause-read : goal.returns-clause-read
returns-clause-read g c =
    let hub = rw (answered_ok _ c.in_ok-bytes.ensures) at c.hub_descriptor.ensures in
    let bad = ap (hub_spelled c.args.wide) (sym c.as_slice.ensures.value)
    ∙ sym c.read_hub.ensures.answer
    ∙ c.in-Err.is in
    record {
      gone = gone_stopped (gone_asked hub_given 9 BadHub c.requires.max refl hub.uses hub.asked
          hub.what hub.keeps) tt;
      ends = λ known. record {
        told = inl (
          refl,
          bad_descriptor c.in_ok-bytes.bytes.items c.in-Err.field-0
              (reading (hub.asked known).stages) bad,
        );
        so = count_refused c.args.wide (g.B.Bus.world c.hub_descriptor.new.bus) bad
            (hub.what known);
      };
    }
