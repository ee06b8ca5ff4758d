use Rattle.std.proofs.Common.{◌≡◌, take}
use Rattle.usb_run.specs.{written_lines}
use Rattle.usb_live.proofs.host.joined.Given as goal

-- the lines so far
abbrev pub invariant-lines : goal.invariant-lines
invariant-lines l = l.text.items ≡ written_lines (take l.line-index l.lines)
