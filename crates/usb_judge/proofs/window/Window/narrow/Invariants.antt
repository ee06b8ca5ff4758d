use Rattle.usb_judge.proofs.Places.{Upto}
use Rattle.usb_judge.proofs.window.Window.narrow.Given as goal

-- the places below this one were looked at
abbrev pub invariant-places : goal.invariant-places
invariant-places l = Upto l.fn.source l.fn.bytes l.fn.self l.place l.narrow
