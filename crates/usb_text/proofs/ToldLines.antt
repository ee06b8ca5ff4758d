-- The lines of entries, with what their devices said.
use Rattle.std.proofs.Common.{◌≡◌, ◌∙◌, ap, sym, suc, zero, arith, ℕ, ◌<◌, List, [], ◌∷◌, ◌++◌}
use Rattle.std.proofs.Common.{length, take, get_or, append_assoc, append-nil}
use Rattle.usb_enum.specs.{Finding}
use Rattle.usb_text.specs.{entry_lines, said_lines, told_lines}

-- the lines up to an entry, and those of that entry
pub told_lines-take : (entries : List (List ℕ × Finding)) (said : List (List ℕ)) (i : ℕ)
    (entry : List ℕ × Finding) → i < length entries → entry ≡ get_or entries i entry
    → told_lines (take (suc i) entries) said ≡ told_lines (take i entries) said ++
    (entry_lines entry ++ said_lines entry.0 (get_or said i []))
unfolding told_lines
told_lines-take [] said i entry lt is = absurd (omega (arith, lt))
told_lines-take (e ∷ entries) [] zero entry lt is =
    ap (λ (x : List ℕ × Finding). entry_lines x ++ said_lines x.0 []) (sym is)
told_lines-take (e ∷ entries) (first ∷ said) zero entry lt is =
    append-nil (entry_lines e ++ said_lines e.0 first)
    ∙ ap (λ (x : List ℕ × Finding). entry_lines x ++ said_lines x.0 first) (sym is)
told_lines-take (e ∷ entries) [] (suc i) entry lt is =
    ap (λ lines. entry_lines e ++ lines)
    (told_lines-take entries [] i entry (omega (arith, lt)) is)
    ∙ sym (append_assoc (entry_lines e) (told_lines (take i entries) [])
    (entry_lines entry ++ said_lines entry.0 []))
told_lines-take (e ∷ entries) (first ∷ said) (suc i) entry lt is =
    let front = entry_lines e ++ said_lines e.0 first in
    ap (λ lines. front ++ lines) (told_lines-take entries said i entry (omega (arith, lt)) is)
    ∙ sym (append_assoc front (told_lines (take i entries) said)
    (entry_lines entry ++ said_lines entry.0 (get_or said i [])))
