use Rattle.usb_places.proofs.Histories.{known_next}
use Rattle.usb_places.proofs.places.Places.see.Goals as goal

pub returns-clause-known : goal.returns-clause-known
returns-clause-known c = λ history is. rw c.note.ensures
    (known_next history c.args.seen.now c.args.self.now is)
