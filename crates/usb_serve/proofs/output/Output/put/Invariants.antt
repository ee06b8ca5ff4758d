use Rattle.std.proofs.Common.{◌≡◌, ◌≤◌, ◌-◌, length, take}
use Rattle.std.specs.Io.KnownBytes.{Appends}
use Rattle.usb_serve.specs.{has_ended, held}
use Rattle.usb_serve.proofs.output.Output.put.Given as goal

-- so many bytes of the piece are held
abbrev pub invariant-parts : goal.invariant-parts
invariant-parts g l = record {
  few : l.gone ≤ length l.piece;
  wrote : Appends (held g.W.Write.contents l.fn.self) (held g.W.Write.contents l.self)
      (take l.gone l.piece);
  unmarked : has_ended l.self ≡ has_ended l.fn.self;
}

abbrev pub decreases-parts : goal.decreases-parts
decreases-parts g l = length l.piece - l.gone
