use Rattle.std.proofs.Common.{ap, Err}
use Rattle.usb_watch.specs.{ReadLong, pipe_of}
use Rattle.usb_far.specs.{played_of}
use Rattle.usb_far.proofs.Lines.{not_read}
use Rattle.usb_far.proofs.far_end.FarEnd.next_line.Goals as goal

pub returns-in-Err : goal.returns-in-Err
returns-in-Err g c =
    not_read (played_of c.args.self.now) (pipe_of g.R.Read.remaining c.args.reader.now)
    (pipe_of g.R.Read.remaining c.read_line.new.reader) c.in-Err.fault c.from.result
    c.from.ensures c.in-Err.ensures.line
    (λ same. c.in-Err.ensures.read (ap Err same))
    (λ other. c.in-Err.ensures.unmarked (λ e. other cc))

pub returns-in-Ok-Long : goal.returns-in-Ok-Long
returns-in-Ok-Long g c =
    let before = pipe_of g.R.Read.remaining c.args.reader.now in
    let long : ReadLong before.bytes (pipe_of g.R.Read.remaining c.read_line.new.reader).bytes
    c.in-Ok-Long.front.items = rw c.in-Ok-Long.field-0-is at c.in-Ok-Long.ensures.line in
    c.long_line.ensures before long.more long.unbroken long.read
    (c.in-Ok-Long.ensures.unmarked (λ e. cc))
