-- The words of a line, and the texts that have no space.
use Rattle.std.proofs.Common.{◌≡◌, ◌≢◌, ℕ, zero, suc, Bor, lit<, ◌<◌, ◌≤◌, Bool, true, false, ◌&&◌}
use Rattle.std.proofs.Common.{◌==◌, nat_le, cond, List, [], ◌∷◌, ◌++◌, length, get_or, Option, Some}
use Rattle.std.proofs.Common.{None, refl, sym, ap, ◌∙◌, arith}
use Rattle.std.specs.Option.{MatchOption}
use Rattle.std.specs.Str.{IsAscii}
use Rattle.std.proofs.lemmas.Str.Ascii.{IsAscii-cons, IsAscii-nil}
use Rattle.std.specs.List.{join_with_byte, list_all, onto_first}
use Rattle.std.proofs.lemmas.Bool.{and_parts}
use Rattle.std.proofs.lemmas.Bool.Decides.{nat_tests}
use Rattle.std.proofs.lemmas.List.Folds.{list_all-append}
use Rattle.std.proofs.lemmas.List.Splits.{join_with_byte-slice_split, length-slice_split}
use Rattle.std.proofs.lemmas.Str.Pattern.{IsSplitOnceResult, split_parts}
use Rattle.usb_wire.specs.{all_printable, is_printable, words}

-- there is no space in the text
abbrev pub HasNoSpace : List ℕ → Type 0
HasNoSpace text = (i : ℕ) → i < length text → get_or text i 0 ≢ 32

eqb-other : (c : ℕ) → c ≢ 32 → (c == 32) ≡ false
eqb-other c other = grind (arith, nat_tests)

pub words_none : (text : List ℕ) → HasNoSpace text → words text ≡ text ∷ []
words_none [] h = refl
words_none (c ∷ text) h =
    let first : (c == 32) ≡ false = eqb-other c (h 0 (omega arith)) in
    let rest : words text ≡ text ∷ [] = words_none text (λ i less. h (suc i) (omega arith)) in
    ap (λ b. cond b ([] ∷ words text) (onto_first c (words text))) first ∙ ap (onto_first c) rest

pub words_cut : (text rest : List ℕ) → HasNoSpace text
    → words (text ++ 32 ∷ rest) ≡ text ∷ words rest
words_cut [] rest h = refl
words_cut (c ∷ text) rest h =
    let first : (c == 32) ≡ false = eqb-other c (h 0 (omega arith)) in
    let more : words (text ++ 32 ∷ rest) ≡ text ∷ words rest =
    words_cut text rest (λ i less. h (suc i) (omega arith)) in
    let all = words (text ++ 32 ∷ rest) in
    ap (λ b. cond b ([] ∷ all) (onto_first c all)) first ∙ ap (onto_first c) more

-- what `split_once` says of words
pub words-split_once : (line : List ℕ) (r : Option (Bor (List ℕ) × Bor (List ℕ)))
    → IsSplitOnceResult 32 line r
    → MatchOption r (words line ≡ line ∷ []) (λ cut. words line ≡ cut.0.now ∷ words cut.1.now)
words-split_once line None h = words_none line (split_parts 32 line None h (lit< tt))
words-split_once line (Some cut) h =
    let parts = split_parts 32 line (Some cut) h (lit< tt) in
    ap words parts.0 ∙ words_cut cut.0.now cut.1.now parts.1

-- the line that the words make
pub joined-words : (line : List ℕ) (ws : List (List ℕ)) → words line ≡ ws
    → line ≡ join_with_byte 32 ws
joined-words line ws e = sym (join_with_byte-slice_split 32 line) ∙ ap (join_with_byte 32) e

-- ---- visible texts: printable ASCII, and no space

abbrev pub is_visible : ℕ → Bool
is_visible c = nat_le 33 c && nat_le c 126

abbrev pub all_visible : List ℕ → Bool
all_visible text = list_all is_visible text

visible_other : (c : ℕ) → is_visible c ≡ true → c ≢ 32
visible_other c h e = absurd (grind (arith, nat_tests))

visible_printable : (c : ℕ) → is_visible c ≡ true → is_printable c ≡ true
visible_printable c h = grind (arith, nat_tests)

pub HasNoSpace-visible : (text : List ℕ) → all_visible text ≡ true → HasNoSpace text
HasNoSpace-visible [] h i less = absurd (omega arith)
HasNoSpace-visible (c ∷ text) h zero less =
    visible_other c (and_parts (is_visible c) (all_visible text) h).0
HasNoSpace-visible (c ∷ text) h (suc i) less =
    HasNoSpace-visible text (and_parts (is_visible c) (all_visible text) h).1 i (omega arith)

pub all_printable-visible : (text : List ℕ) → all_visible text ≡ true → all_printable text ≡ true
all_printable-visible [] h = refl
all_printable-visible (c ∷ text) h =
    let parts = and_parts (is_visible c) (all_visible text) h in
    rw (visible_printable c parts.0, all_printable-visible text parts.1) refl

pub all_printable-append : (text more : List ℕ) → all_printable text ≡ true
    → all_printable more ≡ true → all_printable (text ++ more) ≡ true
all_printable-append text more h t = list_all-append is_printable text more ∙ rw (h, t) refl

-- a text has a word
pub some-words : (text : List ℕ) → 1 ≤ length (words text)
some-words text = omega (arith, length-slice_split (λ c. c == 32) text)

-- the words after four others
pub five-words : (text a b c d after_a after_b after_c last : List ℕ)
    → words text ≡ a ∷ words after_a → words after_a ≡ b ∷ words after_b
    → words after_b ≡ c ∷ words after_c → words after_c ≡ d ∷ words last → 5 ≤ length (words text)
five-words text a b c d after_a after_b after_c last one two three four =
    let some = some-words last in
    rw (one, two, three, four) (omega arith)

below_128 : (c : ℕ) → is_printable c ≡ true → c < 128
below_128 c h = grind (arith, nat_tests)

pub IsAscii-printable : (text : List ℕ) → all_printable text ≡ true → IsAscii text
IsAscii-printable [] h = IsAscii-nil
IsAscii-printable (c ∷ text) h =
    let parts = and_parts (is_printable c) (all_printable text) h in
    IsAscii-cons c text (below_128 c parts.0) (IsAscii-printable text parts.1)
