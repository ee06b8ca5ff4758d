-- No event ends its line early.
use Rattle.std.proofs.Common.{◌≡◌, ◌≢◌, ◌∙◌, refl, sym, ap₂, subst, arith, ℕ, zero, suc, ◌+◌, ◌/◌}
use Rattle.std.proofs.Common.{◌%◌, Bool, true, false, List, [], ◌∷◌, ◌++◌, append-nil, flat_map}
use Rattle.std.proofs.Common.{get_or, length, ◌<◌, ◌==◌, ◌&&◌, not, slice_index, codes, encode_utf8}
use Rattle.std.proofs.Common.{if◌then◌else◌, nat_lt}
use Rattle.std.specs.Str.{chars}
use Rattle.std.proofs.lemmas.Bool.Decides.{nat_tests}
use Rattle.std.proofs.lemmas.List.Folds.{list_all-append}
use Rattle.std.proofs.lemmas.Str.{inside_one}
use Rattle.hex.specs.Hex.{encode_with, upper_digits}
use Rattle.usb_port.specs.{number_text, path_text}
use Rattle.usb_watch.specs.{escaped, is_unbroken, is_escaped, shown_char, shown_name}
use Rattle.usb_world.specs.{plug_line}

abbrev HasNoNewline : List ℕ → Type 0
HasNoNewline bytes = is_unbroken bytes ≡ true

-- one after the other
no_newline-append : (xs ys : List ℕ) → HasNoNewline xs → HasNoNewline ys → HasNoNewline (xs ++ ys)
no_newline-append xs ys p q = list_all-append (λ (byte : ℕ). not (byte == 10)) xs ys
    ∙ ap₂ (λ (a b : Bool). a && b) p q

no_newline-cons : (x : ℕ) (xs : List ℕ) → x ≢ 10 → HasNoNewline xs → HasNoNewline (x ∷ xs)
no_newline-cons x xs differs rest =
    let other : not (x == 10) ≡ true = grind (arith, nat_tests) in
    ap₂ (λ (a b : Bool). a && b) other rest

no_newline_each : (xs : List ℕ) → ((k : ℕ) → k < length xs → get_or xs k 0 ≢ 10) → HasNoNewline xs
no_newline_each [] h = refl
no_newline_each (x ∷ xs) h = no_newline-cons x xs (h 0 (omega arith))
    (no_newline_each xs (λ k lt. h (suc k) (omega (arith, lt))))

-- a byte below 128 is a character of its own
utf8_unbroken : (c : ℕ) → c ≢ 10 → HasNoNewline (encode_utf8 c)
utf8_unbroken c differs = no_newline_each (encode_utf8 c)
    (λ k lt e. differs (inside_one c [] (encode_utf8 c) k (sym (append-nil (encode_utf8 c))) lt
    (omega (arith, e)) ∙ e))

-- no item of such bytes is a newline, nor is what stands for none
slice_index-no_newline : (xs : List ℕ) (i : ℕ) → HasNoNewline xs → not (slice_index xs i == 10)
    ≡ true
slice_index-no_newline [] i p = refl
slice_index-no_newline (x ∷ xs) zero p = first (not (x == 10)) (is_unbroken xs) p
  where
    first : (a b : Bool) → (a && b) ≡ true → a ≡ true
    first true b e = refl
    first false b e = e
slice_index-no_newline (x ∷ xs) (suc i) p =
    slice_index-no_newline xs i (rest (not (x == 10)) (is_unbroken xs) p)
  where
    rest : (a b : Bool) → (a && b) ≡ true → b ≡ true
    rest true b e = e
    rest false b e = absurd (cc e)

encode_with-no_newline : (table bytes : List ℕ) → HasNoNewline table
    → HasNoNewline (encode_with table bytes)
unfolding encode_with
encode_with-no_newline table [] p = refl
encode_with-no_newline table (b ∷ bytes) p =
    ap₂ (λ (x y : Bool). x && y) (slice_index-no_newline table (b / 16) p)
    (ap₂ (λ (x y : Bool). x && y) (slice_index-no_newline table (b % 16) p)
    (encode_with-no_newline table bytes p))

escaped_unbroken : (c : ℕ) → HasNoNewline (escaped c)
escaped_unbroken c =
    let high = encode_with upper_digits (c / 256 ∷ []) in
    no_newline-append (codes "\\u" ++ high) _
    (no_newline-append (codes "\\u") high refl (encode_with-no_newline upper_digits _ refl))
    (encode_with-no_newline upper_digits _ refl)

char_unbroken : (c : ℕ) → HasNoNewline (shown_char c)
char_unbroken c = split (is_escaped c) refl
  where
    split : (b : Bool) → is_escaped c ≡ b → HasNoNewline (if b then escaped c else encode_utf8 c)
    split true e = escaped_unbroken c
    split false e = utf8_unbroken c (λ is. cc (subst (λ x. is_escaped x ≡ false) is e))

all_unbroken : (cs : List ℕ) → HasNoNewline (flat_map shown_char cs)
all_unbroken [] = refl
all_unbroken (c ∷ cs) = no_newline-append (shown_char c) (flat_map shown_char cs) (char_unbroken c)
    (all_unbroken cs)

number_unbroken : (n : ℕ) → HasNoNewline (number_text n)
unfolding number_text
number_unbroken n = split (nat_lt n 10)
  where
    split : (b : Bool) → HasNoNewline (if b then (48 + n) ∷ [] else 49 ∷ (38 + n) ∷ [])
    split true = no_newline-cons (48 + n) [] (λ e. omega (arith, e)) refl
    split false = no_newline-cons 49 ((38 + n) ∷ []) (λ e. omega (arith, e))
        (no_newline-cons (38 + n) [] (λ e. omega (arith, e)) refl)

path_unbroken : (numbers : List ℕ) → HasNoNewline (path_text numbers)
unfolding path_text
path_unbroken [] = refl
path_unbroken (n ∷ []) = number_unbroken n
path_unbroken (n ∷ m ∷ ns) = no_newline-append (number_text n) (46 ∷ path_text (m ∷ ns))
    (number_unbroken n) (path_unbroken (m ∷ ns))

pub plug_unbroken : (path name : List ℕ) → HasNoNewline (plug_line path (shown_name name))
plug_unbroken path name =
    let at = no_newline-append (codes "plug ") (path_text path) refl (path_unbroken path) in
    no_newline-append (codes "plug " ++ path_text path ++ codes " ") (shown_name name)
    (no_newline-append (codes "plug " ++ path_text path) (codes " ") at refl)
    (all_unbroken (chars name))
