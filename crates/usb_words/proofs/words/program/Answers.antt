use Rattle.std.proofs.Common.{◌≡◌, ◌∙◌, ap, ap₂, codes, subst, IfOk}
use Rattle.clap.specs.Simple.{app_of, with_subcommand}
use Rattle.usb_words.specs.{with_text}
use Rattle.usb_words.proofs.words.program.Goals as goal

pub returns : goal.returns
returns c =
    let fourth = c.in_ok-with_explain.ensures
    ∙ ap₂ (λ p q. with_subcommand p q.top) c.in_ok-with_run.ensures c.in_ok-explain.ensures in
    let fifth = c.in_ok-with_page.ensures ∙ ap (λ p. with_text p (codes "page")) fourth in
    let sixth = c.in_ok-with_pcap.ensures ∙ ap (λ p. with_text p (codes "pcap")) fifth in
    let seventh = c.in_ok-with_device.ensures
    ∙ ap₂ (λ p q. with_subcommand p q.top) sixth c.in_ok-device.ensures in
    let eighth = c.in_ok-with_far.ensures
    ∙ ap₂ (λ p q. with_subcommand p q.top) seventh c.in_ok-far.ensures in
    subst (λ p. IfOk c.with_command-4.result (λ whole. app_of whole ≡ p))
    (ap₂ (λ p q. with_subcommand p q.top) eighth c.in_ok-live.ensures) c.with_command-4.ensures
