use Rattle.std.proofs.Common.{arith}
use Rattle.usb_table.proofs.levels.SetLevels.{loss_fits, set_fits}
use Rattle.usb_table.proofs.function_pipes.FunctionPipes.follow.Goals as goal

pub returns-in-Ok-clause-fits : goal.returns-in-Ok-clause-fits
returns-in-Ok-clause-fits c =
    rw c.take_setting.ensures.value
    (set_fits c.args.device.now c.args.below_hub c.args.interface c.args.setting c.args.self.now
    c.requires.are c.requires.has (omega (arith, c.ranges.interface.fits))
    (rw c.take_setting.ensures.value at c.take_setting.ensures.whole))

pub returns-then-not-is_refusal-clause-fits : goal.returns-then-not-is_refusal-clause-fits
returns-then-not-is_refusal-clause-fits c =
    rw c.lose.ensures.value
    (loss_fits c.args.device.now c.args.below_hub c.args.interface c.args.setting c.args.self.now
    c.requires.are c.requires.has (omega (arith, c.ranges.interface.fits))
    (rw c.lose.ensures.value at c.lose.ensures.whole))
