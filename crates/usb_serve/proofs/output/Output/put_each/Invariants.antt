use Rattle.std.proofs.Common.{◌≡◌, flat_map, take}
use Rattle.std.specs.Io.KnownBytes.{Appends}
use Rattle.usb_serve.specs.{has_ended, held}
use Rattle.usb_serve.proofs.output.Output.put_each.Given as goal

-- the pieces so far are held
abbrev pub invariant-pieces : goal.invariant-pieces
invariant-pieces g l = record {
  wrote : Appends (held g.W.Write.contents l.fn.self) (held g.W.Write.contents l.self)
      (flat_map (λ p. p.now) (take l.piece-index l.pieces));
  unmarked : has_ended l.self ≡ has_ended l.fn.self;
}
