use Rattle.std.proofs.Common.{ℕ, List, Bor, ap, flat_map}
use Rattle.usb_watch.specs.{has_failed, known_text}
use Rattle.usb_watch.proofs.Fronts.{puts_then}
use Rattle.usb_watch.proofs.watched.+put_each.Goals as goal

pub returns : goal.returns
returns g t c =
    puts_then (known_text g.W.Write.contents) has_failed _ _ _ c.put_each.result _ _ _
    (ap (λ (l : List (Bor (List ℕ))). flat_map (λ p. p.now) l) c.in-Some.ensures.cases.0)
    c.in_ok-put_piece.ensures.ok c.in_ok-put_piece.ensures.unmarked c.put_each.ensures
