use Rattle.std.proofs.Common.{subst, sym, ◌∙◌}
use Rattle.usb_diagnosis.specs.{IsPathSlip}
use Rattle.usb_diagnosis.proofs.PathSlips.{slip_above}
use Rattle.usb_diagnosis.proofs.path_slip.path_slip.Goals as goal

pub returns-in-Some-parent : goal.returns-in-Some-parent
returns-in-Some-parent c =
    subst (λ wide. IsPathSlip wide c.args.text.now c.hub_slip.result) c.wide_hubs-wide.ensures
    (slip_above c.wide_hubs-wide.result c.args.text.now c.in-Some.path c.in-Some-parent.parent
    c.hub_slip.result (sym c.path_in.ensures ∙ c.in-Some.is)
    (sym c.parent.ensures ∙ c.in-Some-parent.is) c.hub_slip.ensures)
