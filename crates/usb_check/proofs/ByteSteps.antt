-- Eight bits go into the register at once, by a table.
use Rattle.std.proofs.Common.{rules, ◌≡◌, ℕ, zero, suc, ◌+◌, ◌/◌, ◌%◌, ◌^◌, ◌<◌, List, [], ◌∷◌}
use Rattle.std.proofs.Common.{◌++◌, length, map, get_or, Bool, false, bit_xor, bit_and, refl, sym}
use Rattle.std.proofs.Common.{◌∙◌, ap, ap₂, arith, append_assoc, append-nil, length-append}
use Rattle.std.proofs.lemmas.Nat.{and_mask, xor_lt}
use Rattle.usb_check.specs.{low_bits, plus, sum_of, zeros_along, times, generator16, step, run}
use Rattle.usb_check.specs.{TABLE}
use Rattle.usb_check.proofs.BitLemmas.{low_bits-xor, low_bits-add, low_bits-mod}
use Rattle.usb_check.proofs.SumLemmas.{plus_same, sum_of_comm, sum_of_assoc, sum_of_twice}
use Rattle.usb_check.proofs.SumLemmas.{sum_of-append, sum_of-zeros, zeros-sum, zeros_twice}
use Rattle.usb_check.proofs.SumLemmas.{length-zeros, length-sum_of}
use Rattle.usb_check.proofs.Division.{length-step}

-- ---- the register is linear

exchange_plus : (x y a b : Bool) → plus (plus x y) (plus a b) ≡ plus (plus x a) (plus y b)
exchange_plus x y a b = grind arith

exchange_sums : (x y a b : List Bool) → sum_of (sum_of x y) (sum_of a b)
    ≡ sum_of (sum_of x a) (sum_of y b)
exchange_sums x y a b = grind (arith, sum_of_assoc, sum_of_comm)

sum_of_same : (xs : List Bool) → sum_of xs xs ≡ zeros_along xs
sum_of_same [] = refl
sum_of_same (x ∷ xs) = ap₂ (λ (b : Bool) (l : List Bool). b ∷ l) (plus_same x) (sum_of_same xs)

times-plus : (c d : Bool) (low : List Bool)
    → times (plus c d) low ≡ sum_of (times c low) (times d low)
times-plus c d low = grind (arith, sum_of-zeros, sum_of_same, zeros-sum, zeros_twice)

step-sum : (low u v : List Bool) (a b : Bool) → length u ≡ length v
    → step low (sum_of u v) (plus a b) ≡ sum_of (step low u a) (step low v b)
unfolding step
step-sum low u v a b e = grind (arith, exchange_sums, sum_of-append, times-plus)

run-sum : (low u v bits others : List Bool) → length u ≡ length low → length v ≡ length low
    → length bits ≡ length others
    → run low (sum_of u v) (sum_of bits others) ≡ sum_of (run low u bits) (run low v others)
unfolding run
run-sum low u v [] [] eu ev e = refl
run-sum low u v (a ∷ bits) (b ∷ others) eu ev e =
    ap (λ (l : List Bool). run low l (sum_of bits others)) (step-sum low u v a b (eu ∙ sym ev))
    ∙ run-sum low (step low u a) (step low v b) bits others (length-step low u a eu)
    (length-step low v b ev) (omega (arith, e))
run-sum low u v _ _ eu ev e = cc

-- bits that go into a register that begins with them only move it up
run_own : (low bits rest : List Bool) → length (bits ++ rest) ≡ length low
    → run low (bits ++ rest) bits ≡ rest ++ zeros_along bits
unfolding step run
run_own low [] rest e = sym (append-nil rest)
run_own low (b ∷ bits) rest e =
    let moved : List Bool = rest ++ false ∷ [] in
    let size : length ((bits ++ rest) ++ false ∷ []) ≡ length low =
    grind (arith, length-append) in
    let one : step low (b ∷ (bits ++ rest)) b ≡ bits ++ moved =
    grind (arith, append_assoc, sum_of-zeros) in
    ap (λ (l : List Bool). run low l bits) one
    ∙ run_own low bits moved (grind (arith, append_assoc))
    ∙ append_assoc rest (false ∷ []) (zeros_along bits)

-- the rest of the register moves up, and what its first part and the bits make of a register is
-- added
run_parts : (low first rest bits : List Bool) → length first ≡ length bits
    → length (first ++ rest) ≡ length low → run low (first ++ rest) bits
    ≡ sum_of (rest ++ zeros_along bits) (run low (sum_of first bits ++ zeros_along rest)
    (zeros_along bits))
run_parts low first rest bits same size =
    let mixed : List Bool = sum_of first bits in
    let mixed_size : length bits ≡ length mixed = sym (length-sum_of first bits same) in
    let front : first ++ rest ≡ sum_of (bits ++ rest) (mixed ++ zeros_along rest) =
    grind (arith, sum_of-append, sum_of-zeros, sum_of_twice) in
    let size_own : length (bits ++ rest) ≡ length low =
    grind (arith, length-append) in
    let size_mixed : length (mixed ++ zeros_along rest) ≡ length low =
    grind (arith, length-append, length-zeros) in
    ap₂ (run low) front (sym (sum_of-zeros bits bits refl))
    ∙ run-sum low (bits ++ rest) (mixed ++ zeros_along rest) bits (zeros_along bits) size_own
    size_mixed (sym (length-zeros bits))
    ∙ ap (λ (l : List Bool). sum_of l (run low (mixed ++ zeros_along rest) (zeros_along bits)))
    (run_own low bits rest size_own)

-- ---- the table

-- what becomes of a register that holds a number, when eight bits 0 go in
unfoldable entry : ℕ → List Bool
entry n = run generator16 (low_bits 8 n ++ zeros_along (low_bits 8 0)) (zeros_along (low_bits 8 0))

unfoldable table_entries : ℕ → ℕ → List (List Bool)
table_entries zero n = []
table_entries (suc count) n = entry n ∷ table_entries count (suc n)

table_is_entries : map (low_bits 16) TABLE ≡ table_entries 256 0
unfolding low_bits run step entry table_entries
table_is_entries = refl

table_entry : (words : List ℕ) (count n i : ℕ) → map (low_bits 16) words ≡ table_entries count n
    → i < count → low_bits 16 (get_or words i 0) ≡ entry (n + i)
unfolding table_entries
table_entry words zero n i e h = absurd (omega (arith, h))
table_entry [] (suc count) n i e h = cc
table_entry (w ∷ words) (suc count) n zero e h =
    grind arith
table_entry (w ∷ words) (suc count) n (suc i) e h =
    let tail : map (low_bits 16) words ≡ table_entries count (suc n) = cc in
    table_entry words count (suc n) i tail (omega (arith, h))
    ∙ ap entry (let s : suc n + i ≡ n + suc i = omega arith in s)

-- a byte goes in, by the table
pub table_byte : (r b : ℕ) → r < 2 ^ 16 → b < 2 ^ 8
    → low_bits 16 (bit_xor (r / 256) (get_or TABLE (bit_xor (bit_and r 255) b) 0))
    ≡ run generator16 (low_bits 16 r) (low_bits 8 b)
unfolding low_bits entry
table_byte r b hr hb =
    let index : ℕ = bit_xor (bit_and r 255) b in
    let masked : bit_and r 255 ≡ r % 256 = and_mask r 8 in
    let below : index < 256 = xor_lt 8 (bit_and r 255) b (omega (arith, masked)) hb in
    let mixed : low_bits 8 index ≡ sum_of (low_bits 8 r) (low_bits 8 b) =
    low_bits-xor 8 (bit_and r 255) b ∙ ap (λ (l : List Bool). sum_of l (low_bits 8 b))
    (ap (low_bits 8) masked ∙ low_bits-mod 8 0 r) in
    let high : low_bits 16 (r / 256) ≡ low_bits 8 (r / 256) ++ zeros_along (low_bits 8 0) =
    search rules in
    let zeros : List Bool = zeros_along (low_bits 8 0) in
    let looked : low_bits 16 (get_or TABLE index 0)
    ≡ run generator16 (sum_of (low_bits 8 r) (low_bits 8 b) ++ zeros) zeros =
    table_entry TABLE 256 0 index table_is_entries below
    ∙ ap entry (let s : 0 + index ≡ index = omega arith in s)
    ∙ ap (λ (l : List Bool). run generator16 (l ++ zeros) zeros) mixed in
    low_bits-xor 16 (r / 256) (get_or TABLE index 0)
    ∙ ap₂ sum_of high looked
    ∙ sym (run_parts generator16 (low_bits 8 r) (low_bits 8 (r / 256)) (low_bits 8 b) refl refl)
    ∙ ap (λ (l : List Bool). run generator16 l (low_bits 8 b)) (sym (low_bits-add 8 8 r))
