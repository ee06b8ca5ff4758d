use Rattle.std.proofs.Common.{◌≡◌, take, None, ◌⊎◌}
use Rattle.usb_text.specs.{written_lines}
use Rattle.usb_run.specs.{AppendsText}
use Rattle.usb_serve.proofs.serving.put_lines.Given as goal

-- the lines so far are written
abbrev pub invariant-lines : goal.invariant-lines
invariant-lines g l = record {
  puts : AppendsText (written_lines (take l.line-index l.lines))
      l.fn.runner.host l.runner.host;
  over : l.runner.over ≡ l.fn.runner.over;
  calm : (l.runner.host ≡ l.fn.runner.host) ⊎ (l.runner.host.world.fault ≡ None);
}
