use Rattle.usb_table.proofs.levels.NewPipes.{sound_target_wide}
use Rattle.usb_table.proofs.target.target_to.Goals as goal

pub returns-clause-wide : goal.returns-clause-wide
returns-clause-wide c = rw c.target.ensures (sound_target_wide c.args.device.now c.args.below_hub
    c.requires)
