use Rattle.std.proofs.Common.{◌≤◌, ◌∙◌, ap, length, subst, sym, unwrap_or}
use Rattle.usb_pcap.proofs.Items.{path_end-within}
use Rattle.usb_pcap.proofs.part.path_end.Goals as goal

pub returns-clause-within : goal.returns-clause-within
returns-clause-within c =
    let text = c.args.text.now in
    subst (λ n. n ≤ length text) (sym (c.unwrap_or.ensures
    ∙ ap (λ o. unwrap_or o (length text)) c.path_stop.ensures)) (path_end-within text)
