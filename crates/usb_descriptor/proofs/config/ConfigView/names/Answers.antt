use Rattle.std.proofs.Common.{rules}
use Rattle.usb_descriptor.specs.{names_in}
use Rattle.usb_descriptor.proofs.Texts.{config_of-is}
use Rattle.usb_descriptor.proofs.config.ConfigView.names.Goals as goal

pub returns-then-is_named-clause-text : goal.returns-then-is_named-clause-text
unfolding names_in
returns-then-is_named-clause-text c =
    let text = config_of-is c.args.self.now _ c.items-item-items.ensures.whole in
    rw text (search rules)

pub returns-clause-text : goal.returns-clause-text
unfolding names_in
returns-clause-text c =
    let text = config_of-is c.args.self.now _ c.items-item-items.ensures.whole in
    rw text (search rules)
