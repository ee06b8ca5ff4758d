use Rattle.std.proofs.Common.{◌≡◌, ◌≤◌, ◌-◌, length, take, false}
use Rattle.std.specs.Io.KnownBytes.{Appends}
use Rattle.usb_watch.specs.{inner_of, has_failed}
use Rattle.usb_serve.proofs.output.write_out.Given as goal

-- so many bytes are written, and no write has failed
abbrev pub invariant-parts : goal.invariant-parts
invariant-parts g l = record {
  few : l.gone ≤ length l.bytes;
  wrote : Appends (g.W.Write.contents (inner_of l.fn.writer))
      (g.W.Write.contents (inner_of l.writer)) (take l.gone l.bytes);
  unmarked : has_failed l.writer ≡ false;
}

abbrev pub decreases-parts : goal.decreases-parts
decreases-parts g l = length l.bytes - l.gone
