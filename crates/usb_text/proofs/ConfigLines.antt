-- Lists of printed lines.
use Rattle.std.proofs.Common.{◌≡◌, ◌∙◌, ap, suc, zero, arith, ℕ, ◌+◌, ◌<◌, List, [], ◌∷◌, ◌++◌}
use Rattle.std.proofs.Common.{length, take, get_or, ◌==◌}
use Rattle.usb_text.specs.{config_line, config_lines}

-- the lines up to a text, and that text's line
pub config_lines-take : (path : List ℕ) (index chosen : ℕ) (texts : List (List ℕ)) (i : ℕ)
    (other : List ℕ) → i < length texts
    → config_lines path index chosen (take (suc i) texts) ≡ config_lines path index chosen
    (take i texts) ++ config_line path (index + i) (get_or texts i other)
    ((index + i) == chosen) ∷ []
unfolding config_lines
config_lines-take path index chosen [] i other lt = absurd (omega (arith, lt))
config_lines-take path index chosen (t ∷ ts) zero other lt =
    let same : index ≡ index + 0 = omega arith in
    ap (λ n. config_line path n t (n == chosen) ∷ []) same
config_lines-take path index chosen (t ∷ ts) (suc i) other lt =
    let same : index + 1 + i ≡ index + suc i = omega arith in
    let rest = config_lines-take path (index + 1) chosen ts i other (omega (arith, lt)) in
    ap (λ lines. config_line path index t (index == chosen) ∷ lines)
    (rest ∙ ap (λ n. config_lines path (index + 1) chosen (take i ts) ++ config_line path n
    (get_or ts i other) (n == chosen) ∷ []) same)

-- the same from index 0 on
pub config_lines_at : (path : List ℕ) (chosen : ℕ) (texts : List (List ℕ)) (i : ℕ) (other : List ℕ)
    → i < length texts
    → config_lines path 0 chosen (take (suc i) texts) ≡ config_lines path 0 chosen (take i texts) ++
    config_line path i (get_or texts i other) (i == chosen) ∷ []
config_lines_at path chosen texts i other lt =
    let same : 0 + i ≡ i = omega arith in
    config_lines-take path 0 chosen texts i other lt
    ∙ ap (λ n. config_lines path 0 chosen (take i texts) ++ config_line path n
    (get_or texts i other) (n == chosen) ∷ []) same
