use Rattle.std.proofs.Common.{◌≡◌, ◌∙◌, ap₂, codes, subst, IfOk}
use Rattle.clap.specs.Simple.{app_of, with_subcommand}
use Rattle.usb_words.specs.{with_text}
use Rattle.usb_words.proofs.words.run_commands.Goals as goal

pub returns : goal.returns
returns c =
    let drawn = c.in_ok-with_draw.ensures
    ∙ ap₂ (λ p q. with_subcommand p q.top) c.in_ok-first.ensures c.in_ok-draw.ensures in
    subst (λ p. IfOk c.with_text_command.result (λ whole. app_of whole ≡ with_text p (codes "run")))
    drawn c.with_text_command.ensures
