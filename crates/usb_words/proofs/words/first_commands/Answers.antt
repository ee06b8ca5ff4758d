use Rattle.std.proofs.Common.{◌≡◌, ◌∙◌, ap, codes, subst, IfOk}
use Rattle.clap.specs.Simple.{app_of}
use Rattle.usb_words.specs.{with_text}
use Rattle.usb_words.proofs.words.first_commands.Goals as goal

pub returns : goal.returns
returns c =
    let first = c.in_ok-with_packet.ensures
    ∙ ap (λ p. with_text p (codes "packet")) c.in_ok-plain.ensures in
    let second = c.in_ok-with_check.ensures ∙ ap (λ p. with_text p (codes "check")) first in
    subst (λ p. IfOk c.with_text_command-3.result
    (λ whole. app_of whole ≡ with_text p (codes "tree")))
    second c.with_text_command-3.ensures
