use Rattle.std.proofs.Common.{◌≡◌, subst, IfOk}
use Rattle.clap.specs.Simple.{app_of, with_subcommand}
use Rattle.usb_words.proofs.words.with_text_command.Goals as goal

pub returns : goal.returns
returns c =
    subst (λ a. IfOk c.with_command.result
    (λ whole. app_of whole ≡ with_subcommand (app_of c.args.program) a.top))
    c.in_ok-command.ensures c.with_command.ensures
