use Rattle.clap.proofs.SimpleLemmas.{plain_fields}
use Rattle.usb_words.proofs.words.with_command.Goals as goal

pub returns : goal.returns
returns c = c.in_ok-whole.ensures.shape (plain_fields c.args.command c.requires).globals
