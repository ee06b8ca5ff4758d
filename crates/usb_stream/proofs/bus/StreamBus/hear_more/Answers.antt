use Rattle.usb_stream.specs.{kept_of, unread_of, written_of}
use Rattle.usb_stream.proofs.Hearing.{heard_more, hears_no_more}
use Rattle.usb_stream.proofs.bus.StreamBus.hear_more.Goals as goal

pub returns-in-Ok-clause-hears : goal.returns-in-Ok-clause-hears
returns-in-Ok-clause-hears g c = λ sound.
    rw c.hear.ensures.writer (heard_more (unread_of g.R.Read.remaining c.args.self.now)
    (unread_of g.R.Read.remaining c.hear.new.self) (written_of g.W.Write.contents c.args.self.now)
    (kept_of c.args.self.now) (kept_of c.hear.new.self) c.in-Ok.answer c.requires sound
    c.in-Ok.ensures.ok c.hear.ensures.same)

pub returns-in-Err-clause-hears : goal.returns-in-Err-clause-hears
returns-in-Err-clause-hears g c = λ sound.
    rw c.hear.ensures.writer (hears_no_more (unread_of g.R.Read.remaining c.args.self.now)
    (unread_of g.R.Read.remaining c.hear.new.self) (written_of g.W.Write.contents c.args.self.now)
    (kept_of c.args.self.now) (kept_of c.hear.new.self) c.in-Err.found c.requires
    c.in-Err.ensures.err c.hear.ensures.same)
