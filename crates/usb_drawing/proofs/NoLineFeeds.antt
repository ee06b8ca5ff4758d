-- Texts in which no newline is.
use Rattle.std.proofs.Common.{◌≡◌, ◌≢◌, ◌∙◌, refl, ap, ap₂, arith, ℕ, zero, suc, ◌+◌, ◌/◌, ◌%◌}
use Rattle.std.proofs.Common.{Bool, true, false, List, [], ◌∷◌, ◌++◌, ◌==◌, ◌&&◌, not, nat_lt}
use Rattle.std.proofs.Common.{slice_index, decimal, if◌then◌else◌}
use Rattle.std.specs.Fmt.{digit_glyph, digits, digits_onto}
use Rattle.std.proofs.lemmas.Bool.Decides.{nat_tests}
use Rattle.std.proofs.lemmas.List.Folds.{list_all-append}
use Rattle.hex.specs.Hex.{encode_with, lower_digits, upper_digits}
use Rattle.usb_drawing.specs.{is_unbroken}

abbrev pub HasNoLineFeed : List ℕ → Type 0
HasNoLineFeed bytes = is_unbroken bytes ≡ true

-- one after the other
pub no_line_feed-append : (xs ys : List ℕ) → HasNoLineFeed xs → HasNoLineFeed ys
    → HasNoLineFeed (xs ++ ys)
no_line_feed-append xs ys p q = list_all-append (λ (byte : ℕ). not (byte == 10)) xs ys
    ∙ ap₂ (λ (a b : Bool). a && b) p q

other : (x : ℕ) → x ≢ 10 → not (x == 10) ≡ true
other x differs = grind (arith, nat_tests)

pub one_no_line_feed : (x : ℕ) → x ≢ 10 → HasNoLineFeed (x ∷ [])
one_no_line_feed x differs = ap (λ b. b && true) (other x differs)

pub no_line_feed-cons : (x : ℕ) (xs : List ℕ) → x ≢ 10 → HasNoLineFeed xs → HasNoLineFeed (x ∷ xs)
no_line_feed-cons x xs differs rest = ap₂ (λ (a b : Bool). a && b) (other x differs) rest

pub choice : (b : Bool) (xs ys : List ℕ) → HasNoLineFeed xs → HasNoLineFeed ys
    → HasNoLineFeed (if b then xs else ys)
choice true xs ys p q = p
choice false xs ys p q = q

-- Numbers

glyph_other : (d : ℕ) → digit_glyph false d ≢ 10
glyph_other d = split (nat_lt d 10)
  where
    split : (b : Bool) → (if b then 48 + d else 87 + d) ≢ 10
    split true e = omega (arith, e)
    split false e = omega (arith, e)

digits_onto-no_line_feed : (k n : ℕ) (acc : List ℕ) → HasNoLineFeed acc
    → HasNoLineFeed (digits_onto k 10 false n acc)
digits_onto-no_line_feed zero n acc p = p
digits_onto-no_line_feed (suc k) n acc p =
    let more = no_line_feed-cons (digit_glyph false (n % 10)) acc (glyph_other (n % 10)) p in
    choice (n / 10 == 0) _ _ more (digits_onto-no_line_feed k (n / 10)
    (digit_glyph false (n % 10) ∷ acc) more)

pub number : (n : ℕ) → HasNoLineFeed (decimal n)
unfolding digits
number n = digits_onto-no_line_feed 64 n [] refl

-- no item of such bytes is a newline, nor is what stands for none
slice_index-no_line_feed : (xs : List ℕ) (i : ℕ) → HasNoLineFeed xs → not (slice_index xs i == 10)
    ≡ true
slice_index-no_line_feed [] i p = refl
slice_index-no_line_feed (x ∷ xs) zero p = first (not (x == 10)) (is_unbroken xs) p
  where
    first : (a b : Bool) → (a && b) ≡ true → a ≡ true
    first true b e = refl
    first false b e = e
slice_index-no_line_feed (x ∷ xs) (suc i) p =
    slice_index-no_line_feed xs i (rest (not (x == 10)) (is_unbroken xs) p)
  where
    rest : (a b : Bool) → (a && b) ≡ true → b ≡ true
    rest true b e = e
    rest false b e = absurd (cc e)

encoded : (table bytes : List ℕ) → HasNoLineFeed table → HasNoLineFeed (encode_with table bytes)
unfolding encode_with
encoded table [] p = refl
encoded table (b ∷ bytes) p = ap₂ (λ (x y : Bool). x && y)
    (slice_index-no_line_feed table (b / 16) p)
    (ap₂ (λ (x y : Bool). x && y) (slice_index-no_line_feed table (b % 16) p)
    (encoded table bytes p))

pub lower : (bytes : List ℕ) → HasNoLineFeed (encode_with lower_digits bytes)
lower bytes = encoded lower_digits bytes refl

pub upper : (bytes : List ℕ) → HasNoLineFeed (encode_with upper_digits bytes)
upper bytes = encoded upper_digits bytes refl

-- of a text that is joined of others, with what is chosen between two
pub ruleset unbroken = (no_line_feed-append, choice, number, lower, upper)
