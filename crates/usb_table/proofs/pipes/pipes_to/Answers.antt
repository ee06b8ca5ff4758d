use Rattle.std.proofs.Common.{◌∙◌, sym}
use Rattle.usb_table.proofs.levels.NewPipes.{new_function_fits}
use Rattle.usb_table.proofs.pipes.pipes_to.Goals as goal

pub returns-clause-fits : goal.returns-clause-fits
returns-clause-fits c = rw c.new.ensures
    (new_function_fits c.args.device.now c.args.below_hub
    (sym c.is_some.ensures ∙ c.if-is_some.false))
