-- A text that is cut at its first space.
use Rattle.std.proofs.Common.{◌≡◌, ◌≢◌, ℕ, suc, ◌<◌, false, ◌==◌, List, [], ◌∷◌, ◌++◌}
use Rattle.std.proofs.Common.{length, get_or, Option, Some, None, option_map, refl, ap, ◌∙◌, arith}
use Rattle.std.proofs.Common.{Bor, lit<}
use Rattle.std.proofs.lemmas.Bool.Decides.{nat_tests}
use Rattle.std.proofs.lemmas.Str.Pattern.{IsSplitOnceResult, split_parts}
use Rattle.usb_verdict.specs.{cut_space}

abbrev HasNoSpace : List ℕ → Type 0
HasNoSpace text = (i : ℕ) → i < length text → get_or text i 0 ≢ 32

is_none : (c : ℕ) → c ≢ 32 → (c == 32) ≡ false
is_none c other = grind (arith, nat_tests)

cut_space-none : (text : List ℕ) → HasNoSpace text → cut_space text ≡ None
unfolding cut_space
cut_space-none [] h = refl
cut_space-none (c ∷ text) h =
    rw (
      is_none c (h 0 (omega arith)),
      cut_space-none text (λ i less. h (suc i) (omega arith)),
    ) refl

cut_space-mark : (text rest : List ℕ) → HasNoSpace text → cut_space (text ++ 32 ∷ rest)
    ≡ Some (text, rest)
unfolding cut_space
cut_space-mark [] rest h = refl
cut_space-mark (c ∷ text) rest h =
    rw (
      is_none c (h 0 (omega arith)),
      cut_space-mark text rest (λ i less. h (suc i) (omega arith)),
    ) refl

-- what `split_once` gives
pub cut_space-split_once : (text : List ℕ) (r : Option (Bor (List ℕ) × Bor (List ℕ)))
    → IsSplitOnceResult 32 text r
    → cut_space text ≡ option_map (λ cut. (cut.0.now, cut.1.now)) r
cut_space-split_once text None h =
    cut_space-none text (split_parts 32 text None h (lit< tt))
cut_space-split_once text (Some cut) h =
    let parts = split_parts 32 text (Some cut) h (lit< tt) in
    ap cut_space parts.0 ∙ cut_space-mark cut.0.now cut.1.now parts.1
