use Rattle.usb_packet.proofs.SpellingLemmas.{one_spelling, spells_once}
use Rattle.usb_packet.proofs.laws.spelling_laws.Goals as goal

pub returns : goal.returns
returns c = record { one_spelling = one_spelling; one_packet = spells_once }
