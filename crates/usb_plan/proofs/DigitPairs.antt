-- The table of digits, and the byte of a pair of them.
use Rattle.std.proofs.Common.{◌≡◌, ℕ, zero, suc, ◌+◌, ◌*◌, ◌<◌, ◌≤◌, ◌⊎◌, inl, inr, List, [], ◌∷◌}
use Rattle.std.proofs.Common.{length, map, get_or, slice_index, slice_set, take, drop, nat_le, Bool}
use Rattle.std.proofs.Common.{true, false, Option, Some, None, Result, Ok, Err, refl, sym, ap, ap₂}
use Rattle.std.proofs.Common.{◌∙◌, arith, le-leb, MatchResult, if◌then◌else◌}
use Rattle.std.proofs.lemmas.Bool.{lt-leb}
use Rattle.hex.specs.Hex.{hex_digit_value, digit_or_error, value_at, pair_value, decode_of}
use Rattle.hex.specs.Hex.{decode_pairs}
use Rattle.hex.proofs.HexLemmas.{decode_of-even}
use Rattle.hex.proofs.Pairs.{prepend, decode_step, decode_err, decode_done}
use Rattle.hex.specs.declared.error.FromHexError.{FromHexError}
use Rattle.usb_plan.specs.{DIGITS}

-- the digit that an entry of the table is
digit_of : ℕ → Option ℕ
digit_of v = if nat_le v 15 then Some v else None

digits_from : ℕ → ℕ → List (Option ℕ)
digits_from zero n = []
digits_from (suc count) n = hex_digit_value n ∷ digits_from count (suc n)

digits_is_table : map digit_of DIGITS ≡ digits_from 256 0
unfolding digit_of digits_from
digits_is_table = refl

digit_of-entry : (values : List ℕ) (count n i : ℕ) → map digit_of values ≡ digits_from count n
    → i < count → digit_of (get_or values i 0) ≡ hex_digit_value (n + i)
unfolding digits_from
digit_of-entry values zero n i e h = absurd (omega (arith, h))
digit_of-entry [] (suc count) n i e h = cc
digit_of-entry (v ∷ values) (suc count) n zero e h =
    let head : digit_of v ≡ hex_digit_value n = cc in
    head ∙ ap hex_digit_value (let s : n ≡ n + 0 = omega arith in s)
digit_of-entry (v ∷ values) (suc count) n (suc i) e h =
    let tail : map digit_of values ≡ digits_from count (suc n) = cc in
    digit_of-entry values count (suc n) i tail (omega (arith, h))
    ∙ ap hex_digit_value (let s : suc n + i ≡ n + suc i = omega arith in s)

value_of : (c : ℕ) → c < 256 → digit_of (get_or DIGITS c 0) ≡ hex_digit_value c
value_of c h =
    digit_of-entry DIGITS 256 0 c digits_is_table h
    ∙ ap hex_digit_value (let s : 0 + c ≡ c = omega arith in s)

digit_read : (c i : ℕ) → c < 256 → get_or DIGITS c 0 ≤ 15 → value_at c i ≡ Ok (get_or DIGITS c 0)
unfolding digit_of
digit_read c i h few =
    let is : hex_digit_value c ≡ Some (get_or DIGITS c 0) =
    sym (value_of c h) ∙ rw (le-leb (get_or DIGITS c 0) 15 few) refl in
    ap (digit_or_error c i) is

digit_refused : (c i : ℕ) → c < 256 → 15 < get_or DIGITS c 0 → (e : FromHexError)
    × (value_at c i ≡ Err e)
unfolding digit_of
digit_refused c i h many =
    let is : hex_digit_value c ≡ None =
    sym (value_of c h) ∙ rw (lt-leb (get_or DIGITS c 0) 15 many) refl in
    (_, ap (digit_or_error c i) is)

-- two digits
pair_read : (high low i : ℕ) → high < 256 → low < 256 → get_or DIGITS high 0 ≤ 15
    → get_or DIGITS low 0 ≤ 15
    → pair_value high low i ≡ Ok (get_or DIGITS high 0 * 16 + get_or DIGITS low 0)
pair_read high low i h l few few' = rw (digit_read high i h few, digit_read low (i + 1) l few') refl

-- the first of two bytes that is no digit
abbrev pub IsRefused : ℕ → ℕ → Type 0
IsRefused high low = (15 < get_or DIGITS high 0)
    ⊎ ((get_or DIGITS high 0 ≤ 15) × (15 < get_or DIGITS low 0))

pair_refused : (high low i : ℕ) → high < 256 → low < 256 → IsRefused high low
    → (e : FromHexError) × (pair_value high low i ≡ Err e)
pair_refused high low i h l (inl many) = let r = digit_refused high i h many in (r.0, rw r.1 refl)
pair_refused high low i h l (inr second) =
    let r = digit_refused low (i + 1) l second.1 in
    (r.0, rw (digit_read high i h second.0, r.1) refl)

-- the bytes of the first i pairs are put
abbrev pub ArePut : List ℕ → List ℕ → ℕ → Type 0
ArePut digits bytes i = decode_pairs 0 digits
    ≡ prepend (take i bytes) (decode_pairs (2 * i) (drop (2 * i) digits))

-- the two bytes of a pair
pub record IsPair (digits bytes : List ℕ) (i high low : ℕ) : Type 0 where
  pub sizes : length digits ≡ 2 * length bytes
  pub within : i < length bytes
  pub first : high ≡ get_or digits (2 * i) 0
  pub second : low ≡ get_or digits (2 * i + 1) 0
  pub are_bytes : (k : ℕ) → get_or digits k 0 < 256

pair_high : (digits bytes : List ℕ) (i high low : ℕ) → IsPair digits bytes i high low → high < 256
pair_high digits bytes i high low p = let b = p.are_bytes (2 * i) in let e = p.first in
    omega (arith, b, e)

pair_low : (digits bytes : List ℕ) (i high low : ℕ) → IsPair digits bytes i high low → low < 256
pair_low digits bytes i high low p = let b = p.are_bytes (2 * i + 1) in let e = p.second in
    omega (arith, b, e)

same_pair : (digits bytes : List ℕ) (i high low : ℕ) → IsPair digits bytes i high low
    → pair_value (slice_index digits (2 * i)) (slice_index digits (2 * i + 1)) (2 * i)
    ≡ pair_value high low (2 * i)
same_pair digits bytes i high low p = ap₂ (λ (h l : ℕ). pair_value h l (2 * i)) (sym p.first)
    (sym p.second)

pub put_one : (digits bytes : List ℕ) (i high low : ℕ) → IsPair digits bytes i high low
    → ArePut digits bytes i → get_or DIGITS high 0 ≤ 15 → get_or DIGITS low 0 ≤ 15
    → ArePut digits (slice_set bytes i (get_or DIGITS high 0 * 16 + get_or DIGITS low 0)) (i + 1)
put_one digits bytes i high low p put h l =
    let sizes = p.sizes in
    let within = p.within in
    decode_step digits bytes i _ (omega (arith, sizes, within)) within
    (same_pair digits bytes i high low p
    ∙ pair_read high low (2 * i) (pair_high digits bytes i high low p)
    (pair_low digits bytes i high low p) h l) put

pub refused_one : (digits bytes : List ℕ) (i high low : ℕ) → IsPair digits bytes i high low
    → ArePut digits bytes i → IsRefused high low → (e : FromHexError) × (decode_of digits ≡ Err e)
refused_one digits bytes i high low p put no_digit =
    let sizes = p.sizes in
    let within = p.within in
    let r = pair_refused high low (2 * i) (pair_high digits bytes i high low p)
    (pair_low digits bytes i high low p) no_digit in (
      r.0,
      decode_of-even digits (omega (arith, sizes))
          ∙ decode_err digits bytes i r.0 (omega (arith, sizes, within))
          (same_pair digits bytes i high low p ∙ r.1) put,
    )

pub all_put : (digits bytes : List ℕ) (i : ℕ) → length digits ≡ 2 * length bytes → length bytes ≤ i
    → ArePut digits bytes i → decode_of digits ≡ Ok bytes
all_put digits bytes i sizes all put =
    decode_of-even digits (omega (arith, sizes))
    ∙ decode_done digits bytes i all (omega (arith, sizes, all)) put

-- what was told of a text
pub told_read : (d : Result (List ℕ) FromHexError) (bytes : List ℕ) (answer : Bool) (put : List ℕ)
    → d ≡ Ok bytes → answer ≡ true → put ≡ bytes
    → MatchResult d (λ spelled. (answer ≡ true) × (put ≡ spelled)) (λ _. answer ≡ false)
told_read (Ok spelled) bytes answer put is told same =
    (told, same ∙ (let e : bytes ≡ spelled = cc in e))
told_read (Err e) bytes answer put is told same = cc

pub told_refused : (d : Result (List ℕ) FromHexError) (e : FromHexError) (answer : Bool)
    (put : List ℕ) → d ≡ Err e → answer ≡ false
    → MatchResult d (λ spelled. (answer ≡ true) × (put ≡ spelled)) (λ _. answer ≡ false)
told_refused (Ok spelled) e answer put is told = cc
told_refused (Err f) e answer put is told = told
