use Rattle.std.proofs.Common.{rules, arith}
use Rattle.usb_bus.proofs.Interface.{went_wider}
use Rattle.usb_transfer.proofs.Interface.{bound_wide}
use Rattle.usb_table.proofs.control.write_to.Goals as goal

pub returns-else-setup-eq0-clause-any_bus : goal.returns-else-setup-eq0-clause-any_bus
returns-else-setup-eq0-clause-any_bus g c = (
  (
    omega (
      arith,
      c.control_out.ensures.any_bus.0.0,
      bound_wide c.args.target.max c.args.setup.length c.requires.wide,
    ),
    search rules,
  ),
  search rules,
)

pub returns-else-setup-eq0-clause-steps : goal.returns-else-setup-eq0-clause-steps
returns-else-setup-eq0-clause-steps g c known =
    went_wider _ _ (c.control_out.ensures.steps known)
    (omega (arith, bound_wide c.args.target.max c.args.setup.length c.requires.wide))
