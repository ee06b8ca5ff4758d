use Rattle.std.proofs.Common.{◌≡◌, ℕ, ◌||◌, List, ◌++◌, length}
use Rattle.std.specs.Io.KnownBytes.{Appends}
use Rattle.usb_watch.specs.{has_failed, has_pending, inner_of, is_some_text}
use Rattle.usb_watch.proofs.watched.put_piece.Given as goal

-- what is gone from the piece has been appended
abbrev pub invariant-parts : goal.invariant-parts
invariant-parts g l = record {
  gone : (done : List ℕ) × (l.fn.piece ≡ done ++ l.rest)
      × Appends (g.W.Write.contents (inner_of l.fn.writer)) (g.W.Write.contents (inner_of l.writer))
      done
      × (has_pending l.writer ≡ (has_pending l.fn.writer || is_some_text done));
  unmarked : has_failed l.writer ≡ has_failed l.fn.writer;
}

abbrev pub decreases-parts : goal.decreases-parts
decreases-parts g l = length l.rest
