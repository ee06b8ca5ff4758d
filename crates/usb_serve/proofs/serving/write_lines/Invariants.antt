use Rattle.std.proofs.Common.{◌≡◌, take}
use Rattle.usb_text.specs.{written_lines}
use Rattle.std.specs.Io.KnownBytes.{Appends}
use Rattle.usb_serve.proofs.serving.write_lines.Given as goal

-- the lines so far are written
abbrev pub invariant-lines : goal.invariant-lines
invariant-lines g l = record {
  wrote : Appends (g.T.Trace.text l.fn.writer) (g.T.Trace.text l.writer)
      (written_lines (take l.line-index l.lines));
  unmarked : g.T.Trace.failed l.writer ≡ g.T.Trace.failed l.fn.writer;
}
