use Rattle.std.proofs.Common.{◌≡◌, ◌++◌, drop, flat_map}
use Rattle.usb_watch.proofs.watched.joined.Given as goal

-- what is joined, and the pieces to come
abbrev pub invariant-pieces : goal.invariant-pieces
invariant-pieces l = l.line.items ++ flat_map (λ p. p.now) (drop l.piece-index l.fn.pieces)
    ≡ flat_map (λ p. p.now) l.fn.pieces
