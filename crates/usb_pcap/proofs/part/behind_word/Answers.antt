use Rattle.std.proofs.Common.{◌≡◌, ℕ, List, option_map, subst}
use Rattle.usb_pcap.specs.{strip}
use Rattle.usb_pcap.proofs.Texts.{strip_result}
use Rattle.usb_pcap.proofs.part.behind_word.Goals as goal

pub returns : goal.returns
returns c =
    subst (λ (w : List ℕ). option_map (λ r. r.now) c.strip_prefix.result ≡ strip w c.args.text.now)
    c.as_bytes.ensures.value (strip_result _ _ _ c.strip_prefix.ensures.cases)
