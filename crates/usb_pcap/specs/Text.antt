-- Words, numbers and bytes at the front of a text, with what stands behind them.
use Rattle.std.specs.Prelude.{ℕ, ◌+◌, ◌-◌, ◌*◌, ◌^◌, ◌==◌, ◌&&◌, ◌||◌, nat_lt, nat_le, Bool, List}
use Rattle.std.specs.Prelude.{[], ◌∷◌, ◌++◌, length, Option, Some, None, option_map, decimal}
use Rattle.std.specs.Prelude.{if◌then◌else◌}
use Rattle.std.specs.Char.{is_ascii_digit}
use Rattle.std.specs.Option.{option_and_then}

-- what stands behind a word, where the text begins with it
unfoldable pub strip : List ℕ → List ℕ → Option (List ℕ)
strip [] text = Some text
strip (c ∷ word) [] = None
strip (c ∷ word) (d ∷ text) = if d == c then strip word text else None

-- what is read of what was found, else another reading
abbrev pub if_found : {A B : Type 0} → Option A → (A → Option B) → Option B → Option B
if_found (Some x) read other = read x
if_found None read other = other

-- what stands behind the first of the words that the text begins with
unfoldable pub strip_any : List (List ℕ) → List ℕ → Option (List ℕ)
strip_any [] text = None
strip_any (word ∷ words) text = if_found (strip word text) Some (strip_any words text)

-- a value with a digit more; None where it is 2 ^ 64 or more
abbrev pub with_digit : ℕ → ℕ → Option ℕ
with_digit value c = if nat_lt (value * 10 + (c - 48)) (2 ^ 64) then Some (value * 10 + (c - 48))
    else None

-- the value of the digits that a text begins with, behind those of a value; None where it is 2 ^ 64
-- or more
unfoldable pub number_on : ℕ → List ℕ → Option ℕ
number_on value [] = Some value
number_on value (c ∷ text) =
    if is_ascii_digit c then (if nat_lt (value * 10 + (c - 48)) (2 ^ 64) then number_on
    (value * 10 + (c - 48)) text else None)
    else Some value

-- the number below 2 ^ 64 that a text begins with, as it is printed
unfoldable pub decimal_in : List ℕ → Option (ℕ × List ℕ)
decimal_in text = option_and_then (λ n. option_map (λ rest. (n, rest)) (strip (decimal n) text))
    (number_on 0 text)

-- an upper-case hexadecimal digit, and its value
abbrev pub is_digit : ℕ → Bool
is_digit c = is_ascii_digit c || (nat_le 65 c && nat_le c 70)

abbrev pub value_of : ℕ → ℕ
value_of c = if nat_lt c 65 then c - 48 else c - 55

-- the bytes in pairs of digits that a text begins with, behind these; None where they are more than
-- 64
unfoldable pub bytes_on : List ℕ → List ℕ → Option (List ℕ × List ℕ)
bytes_on bytes [] = Some (bytes, [])
bytes_on bytes (h ∷ []) = Some (bytes, h ∷ [])
bytes_on bytes (h ∷ l ∷ text) =
    if is_digit h && is_digit l then (if nat_lt (length bytes) 64 then bytes_on
    (bytes ++ (value_of h * 16 + value_of l) ∷ []) text else None)
    else Some (bytes, h ∷ l ∷ text)
