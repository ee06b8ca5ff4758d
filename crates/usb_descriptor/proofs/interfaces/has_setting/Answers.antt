use Rattle.usb_descriptor.proofs.Texts.{config_of-is}
use Rattle.usb_descriptor.proofs.interfaces.has_setting.Goals as goal

pub returns-then-is_setting-clause-text : goal.returns-then-is_setting-clause-text
returns-then-is_setting-clause-text c = config_of-is c.args.config.now _
    c.items-item-items.ensures.whole

pub returns-clause-text : goal.returns-clause-text
returns-clause-text c = config_of-is c.args.config.now _ c.items-item-items.ensures.whole
