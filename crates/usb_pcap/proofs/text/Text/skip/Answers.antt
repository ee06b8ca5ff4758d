use Rattle.usb_pcap.proofs.Texts.{strip_found, strip_none}
use Rattle.usb_pcap.proofs.text.Text.skip.Goals as goal

pub returns-in-Some-clause-found : goal.returns-in-Some-clause-found
returns-in-Some-clause-found c =
    let cases = c.in-Some.ensures.cases in rw (← c.self.view_is) (strip_found _ _ _ cases.0 cases.1)

pub returns-in-None-clause-found : goal.returns-in-None-clause-found
returns-in-None-clause-found c = rw (← c.self.view_is) (strip_none _ _ c.in-None.ensures.cases)
