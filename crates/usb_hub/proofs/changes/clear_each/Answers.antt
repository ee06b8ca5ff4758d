use Rattle.std.proofs.Common.{arith, refl, subst}
use Rattle.usb_request.specs.{C_HUB_LOCAL_POWER}
use Rattle.usb_transfer.proofs.Interface.{uses_then, uses_wider}
use Rattle.usb_hub.specs.{ClearsIfReported, both, first_failed}
use Rattle.std.proofs.lemmas.Result.{err_from_is_err_and}
use Rattle.usb_hub.proofs.changes.clear_each.Goals as goal

pub returns-in_err-clear_told-clause-cleared : goal.returns-in_err-clear_told-clause-cleared
returns-in_err-clear_told-clause-cleared g c known =
    let told = err_from_is_err_and c.from_residual.result c.from_residual.ensures.1 in
    rw (told.1, told.2) (first_failed c.in_err-clear_told.field-0.0
    (subst (λ r. ClearsIfReported c.args.status.power_changed c.args.hub C_HUB_LOCAL_POWER
    (g.B.Bus.world c.args.bus.now) r (g.B.Bus.world c.clear_told.new.bus))
    c.in_err-clear_told.was (c.clear_told.ensures.cleared known)) refl)

pub returns-clause-cleared : goal.returns-clause-cleared
returns-clause-cleared g c known =
    both (g.B.Bus.world c.clear_told.new.bus)
    (subst (λ r. ClearsIfReported c.args.status.power_changed c.args.hub C_HUB_LOCAL_POWER
    (g.B.Bus.world c.args.bus.now) r (g.B.Bus.world c.clear_told.new.bus))
    c.in_ok-clear_told.was (c.clear_told.ensures.cleared known))
    (c.clear_told-2.ensures.cleared known)

pub returns-clause-uses : goal.returns-clause-uses
returns-clause-uses g c =
    uses_wider (uses_then c.clear_told.ensures.uses c.clear_told-2.ensures.uses) (omega arith)
