use Rattle.std.proofs.Common.{rules, arith}
use Rattle.usb_bus.proofs.Interface.{went_wider}
use Rattle.usb_transfer.proofs.Interface.{bound_wide}
use Rattle.usb_table.proofs.control.read_from.Goals as goal

pub returns-clause-any_bus : goal.returns-clause-any_bus
returns-clause-any_bus g c = (
  (
    omega (
      arith,
      c.control_in.ensures.any_bus.0.0,
      bound_wide c.args.target.max c.args.setup.length c.requires.wide,
    ),
    search rules,
  ),
  search rules,
)

pub returns-clause-steps : goal.returns-clause-steps
returns-clause-steps g c known =
    went_wider _ _ (c.control_in.ensures.steps known)
    (omega (arith, bound_wide c.args.target.max c.args.setup.length c.requires.wide))
