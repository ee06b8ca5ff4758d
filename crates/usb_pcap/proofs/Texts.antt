-- Lemmas on words at the front of a text.
use Rattle.std.proofs.Common.{◌≡◌, ℕ, ◌-◌, ◌*◌, ◌<◌, ◌≤◌, ◌++◌, get_or, arith, Bool, true, false}
use Rattle.std.proofs.Common.{◌&&◌, ◌==◌, if◌then◌else◌, List, [], ◌∷◌, length, take, drop, Option}
use Rattle.std.proofs.Common.{Some, None, refl, sym, ap, ◌∙◌, ◌+◌, is_some, option_map, Bor}
use Rattle.std.proofs.lemmas.List.{take_all}
use Rattle.std.proofs.lemmas.Bool.{lt-ltb}
use Rattle.std.specs.Option.{MatchOption}
use Rattle.std.specs.Cmp.Lexicographic.{pointwise}
use Rattle.usb_pcap.specs.{bytes_on, is_digit, strip, value_of}

strip_step : {A : Type 0} (same equal : Bool) (r : Option A) (x : A)
    → r ≡ (if equal then Some x else None) → (if same then r else None)
    ≡ (if same && equal then Some x else None)
strip_step true _ r x e = e
strip_step false _ r x e = refl

-- what `strip_prefix` tests
pub strip_by : (word text : List ℕ) → strip word text
    ≡ (if pointwise (λ a b. a == b) (take (length word) text) word then Some
    (drop (length word) text) else None)
unfolding strip
strip_by [] text = refl
strip_by (c ∷ word) [] = refl
strip_by (c ∷ word) (d ∷ text) = strip_step (d == c) _ _ _ (strip_by word text)

pub strip_found : (word text rest : List ℕ)
    → pointwise (λ a b. a == b) (take (length word) text) word ≡ true
    → rest ≡ drop (length word) text → strip word text ≡ Some rest
strip_found word text _ same e = (rw same at (strip_by word text)) ∙ ap Some (sym e)

pub strip_none : (word text : List ℕ) → pointwise (λ a b. a == b) (take (length word) text) word
    ≡ false → strip word text ≡ None
strip_none word text other = rw other at (strip_by word text)

-- what `strip_prefix` tells of what it found
abbrev Stripped : List ℕ → List ℕ → Option (Bor (List ℕ)) → Type 0
Stripped word text found =
    MatchOption found (pointwise (λ a b. a == b) (take (length word) text) word ≡ false)
    (λ x. (pointwise (λ a b. a == b) (take (length word) text) word ≡ true)
    × (x.now ≡ drop (length word) text) × (length x.now + length word ≡ length text))

-- whether it found the word
pub is_some-strip : (word text : List ℕ) (found : Option (Bor (List ℕ)))
    → Stripped word text found
    → is_some found ≡ is_some (strip word text)
is_some-strip _ _ None h = ap is_some (sym (strip_none _ _ h))
is_some-strip _ _ (Some x) h = ap is_some (sym (strip_found _ _ _ h.0 h.1))

-- one pair of digits is read
pub bytes_on-pair : (bytes text : List ℕ) → 2 ≤ length text → is_digit (get_or text 0 0) ≡ true
    → is_digit (get_or text 1 0) ≡ true → length bytes < 64
    → bytes_on bytes text ≡ bytes_on (bytes ++
    (value_of (get_or text 0 0) * 16 + value_of (get_or text 1 0)) ∷ [])
    (take (length text - 2) (drop 2 text))
unfolding bytes_on
bytes_on-pair bytes [] two high low room = absurd (omega arith)
bytes_on-pair _ (h ∷ []) two high low room = absurd (omega arith)
bytes_on-pair _ (h ∷ l ∷ rest) two high low room =
    let all : take (length (h ∷ l ∷ rest) - 2) rest ≡ rest =
    take_all (length (h ∷ l ∷ rest) - 2) rest (omega arith) in
    rw (high, low, lt-ltb _ 64 room, all)

-- the same of what it found
pub strip_result : (word text : List ℕ) (found : Option (Bor (List ℕ)))
    → Stripped word text found
    → option_map (λ x. x.now) found ≡ strip word text
strip_result _ _ None h = sym (strip_none _ _ h)
strip_result _ _ (Some x) h = sym (strip_found _ _ _ h.0 h.1)
