use Rattle.usb_watch.specs.{out_pipe_of}
use Rattle.usb_wire.specs.{IsQuestion}
use Rattle.usb_far.specs.{RowFront, played_of}
use Rattle.usb_far.proofs.Lines.{row_size}
use Rattle.usb_far.proofs.far_end.FarEnd.reply_all.Given as goal

-- the attempts so far were replied to, and this is left
abbrev pub invariant-attempts : goal.invariant-attempts
invariant-attempts g l = IsQuestion l.asked
    × RowFront l.fn.question (played_of l.fn.self) (out_pipe_of g.W.Write.contents l.fn.writer)
    (played_of l.self) (out_pipe_of g.W.Write.contents l.writer) l.asked

abbrev pub decreases-attempts : goal.decreases-attempts
decreases-attempts g l = row_size l.asked
