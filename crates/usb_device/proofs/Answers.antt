-- What is answered begins the read that the request asks for.
use Rattle.std.proofs.Common.{◌≡◌, ℕ, List, refl}
use Rattle.usb_port.specs.{PortState}
use Rattle.usb_device.specs.declared.request.Source.{Source}
use Rattle.usb_device.specs.declared.request.Source.TheVariants.{Taken}
use Rattle.usb_device.specs.declared.request.Reaction.TheVariants.{Answer}
use Rattle.usb_device.specs.{State, first_stage, meaning_of, reads, source_bytes}

pub answered-reads : (d : State) (row : List PortState) (wanted : ℕ) (source : Source)
    → reads wanted (source_bytes d.spec d.taken source)
    ≡ first_stage row d wanted (meaning_of d.spec (Answer source))
answered-reads d row wanted Taken = refl
answered-reads d row wanted source = refl

pub ruleset answers = answered-reads
