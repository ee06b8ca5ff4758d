use Rattle.std.proofs.Common.{◌∙◌, subst}
use Rattle.usb_watch.specs.{FailsToFlush, Flushes, out_pipe_of}
use Rattle.usb_stream.specs.{kept_of, unread_of, written_of}
use Rattle.usb_stream.proofs.Hearing.{asks_by, asks_no_more_at_limit, not_written}
use Rattle.usb_stream.proofs.bus.StreamBus.exchange.Goals as goal

pub returns-then-self-eq0-clause-asked : goal.returns-then-self-eq0-clause-asked
returns-then-self-eq0-clause-asked g c =
    asks_no_more_at_limit c.args.question.now (unread_of g.R.Read.remaining c.args.self.now)
    (written_of g.W.Write.contents c.args.self.now) (kept_of c.args.self.now) c.if-self-eq0.true

pub returns-in-Ok-clause-asked : goal.returns-in-Ok-clause-asked
returns-in-Ok-clause-asked g c =
    let before = written_of g.W.Write.contents c.args.self.now in
    let now = out_pipe_of g.W.Write.contents c.put_lines.new.writer in
    let text = c.as_slice.ensures.value ∙ c.line_for-line.ensures in
    let gone = subst (λ t. Flushes before t now) text c.in-Ok.ensures in
    let one = c.attempts_in.ensures in
    let kind = c.asked-asked.ensures in
    let more = c.more_answers-self.ensures.value in
    rw c.hear.ensures.writer (asks_by c.args.question.now
    (unread_of g.R.Read.remaining c.args.self.now) (unread_of g.R.Read.remaining c.hear.new.self)
    before now (kept_of c.args.self.now) (kept_of c.hear.new.self) c.hear.result gone
    c.if-self-eq0.false c.requires.sound (rw (one, kind, more) at c.hear.ensures.ok)
    (rw (one, kind, more) at c.hear.ensures.err) (rw (one, kind, more) at c.hear.ensures.same))

pub returns-in-Err-clause-asked : goal.returns-in-Err-clause-asked
returns-in-Err-clause-asked g c =
    let before = written_of g.W.Write.contents c.args.self.now in
    let now = out_pipe_of g.W.Write.contents c.put_lines.new.writer in
    let text = c.as_slice.ensures.value ∙ c.line_for-line.ensures in
    let torn = subst (λ t. FailsToFlush before t now) text c.in-Err.ensures in
    rw (c.attempts_in.ensures, c.asked-asked.ensures, c.more_answers-self.ensures.value)
    (not_written c.args.question.now (unread_of g.R.Read.remaining c.args.self.now) before now
    (kept_of c.args.self.now) torn c.if-self-eq0.false)
