-- Texts that are written piece by piece.
use Rattle.std.proofs.Common.{◌≡◌, ◌∙◌, ap, subst, append_assoc, ℕ, List, ◌++◌, Result, OnOk}

-- one more piece is behind those that are written
pub pieces_more : (old all before piece now : List ℕ) → before ≡ old ++ all → now ≡ before ++ piece
    → now ≡ old ++ (all ++ piece)
pieces_more old all before piece now a b = b ∙ ap (λ t. t ++ piece) a ∙ append_assoc old all piece

-- the last one, where it was written
pub last_one : {E : Type 0} (r : Result (Unit {0}) E) (old all before piece now : List ℕ)
    → before ≡ old ++ all → OnOk r (now ≡ before ++ piece) → OnOk r (now ≡ old ++ (all ++ piece))
last_one r old all before piece now a h = subst (λ t. OnOk r (now ≡ t)) (ap (λ t. t ++ piece) a
    ∙ append_assoc old all piece) h
