use Rattle.usb_descriptor.proofs.Texts.{config_of-is}
use Rattle.usb_descriptor.proofs.choice.first_counting.Goals as goal

pub returns-then-is_some-clause-text : goal.returns-then-is_some-clause-text
returns-then-is_some-clause-text c = config_of-is c.args.config.now _
    c.items-item-items.ensures.whole

pub returns-clause-text : goal.returns-clause-text
returns-clause-text c = config_of-is c.args.config.now _ c.items-item-items.ensures.whole
