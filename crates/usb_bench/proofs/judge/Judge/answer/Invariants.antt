use Rattle.usb_watch.specs.{out_pipe_of}
use Rattle.usb_wire.specs.{IsQuestion}
use Rattle.usb_far.specs.{played_of}
use Rattle.usb_bench.specs.{RowJudged}
use Rattle.usb_far.proofs.Lines.{row_size}
use Rattle.usb_bench.proofs.judge.Judge.answer.Given as goal

-- the attempts so far were judged and replied to, and this is left
abbrev pub invariant-attempts : goal.invariant-attempts
invariant-attempts g l = IsQuestion l.asked
    × RowJudged l.fn.last l.fn.question l.fn.self (played_of l.fn.far)
    (out_pipe_of g.W.Write.contents l.fn.writer) l.self (played_of l.far)
    (out_pipe_of g.W.Write.contents l.writer) l.asked

abbrev pub decreases-attempts : goal.decreases-attempts
decreases-attempts g l = row_size l.asked
