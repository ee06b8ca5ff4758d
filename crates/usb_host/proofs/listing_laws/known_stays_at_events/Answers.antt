use Rattle.usb_host.proofs.knowledge.Soundness.{owning_came, sound_came}
use Rattle.usb_host.proofs.listing_laws.known_stays_at_events.Goals as goal

pub returns : goal.returns
returns c = record { sound = sound_came; owning = owning_came }
