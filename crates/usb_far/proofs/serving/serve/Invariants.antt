use Rattle.std.proofs.Common.{◌-◌}
use Rattle.usb_far.specs.{ServedSome, scene}
use Rattle.usb_far.proofs.serving.serve.Given as goal

-- the lines so far were answered
abbrev pub invariant-lines : goal.invariant-lines
invariant-lines g l =
    ServedSome (scene g.R.Read.remaining g.W.Write.contents l.fn.far l.fn.reader l.fn.writer)
    (l.number - 1) (scene g.R.Read.remaining g.W.Write.contents l.far l.reader l.writer)
