-- Which words spell bytes.
use Rattle.std.proofs.Common.{◌≡◌, ◌≢◌, ℕ, List, [], ◌∷◌, Result, Ok, Err, Some, None}
use Rattle.std.proofs.Common.{Bool, true, false, refl, sym, ◌∙◌, ap, codes, arith}
use Rattle.std.proofs.Common.{if◌then◌else◌}
use Rattle.std.specs.Result.{result_ok}
use Rattle.std.specs.Str.{bytes_eq}
use Rattle.std.proofs.lemmas.Bool.{and_parts, eqb-true, false≢true}
use Rattle.std.proofs.lemmas.List.Sums.{AllPass-from_list_all, list_all-from_AllPass}
use Rattle.hex.specs.Hex.{decode_of, is_hex_digit}
use Rattle.hex.specs.declared.error.FromHexError.{FromHexError}
use Rattle.hex.proofs.HexLemmas.{decode_of-digits, decode_of-ok}
use Rattle.usb_verdict.specs.{are_digit_pairs, bytes_in}

-- pairs of digits decode
digits_decode : (word : List ℕ) → are_digit_pairs word ≡ true
    → (bytes : List ℕ) × (decode_of word ≡ Ok bytes)
digits_decode word h =
    let parts = and_parts _ _ h in
    decode_of-digits word (eqb-true _ _ (and_parts _ _ parts.0).1)
    (AllPass-from_list_all is_hex_digit word parts.1)

spelled : (dash : Bool) (r : Result (List ℕ) FromHexError) (bytes : List ℕ) → r ≡ Ok bytes
    → (if dash then Some [] else result_ok r) ≢ None
spelled true r bytes h none = cc none
spelled false r bytes h none = cc (sym (ap result_ok h) ∙ none)

-- they spell bytes
pub digits_spell : (word : List ℕ) → are_digit_pairs word ≡ true → bytes_in word ≢ None
digits_spell [] h none = cc h
digits_spell (c ∷ word) h none =
    let d = digits_decode (c ∷ word) h in
    spelled (bytes_eq (c ∷ word) (codes "-")) (decode_of (c ∷ word)) d.0 d.1 none

-- what decodes is pairs of digits
decoded_pairs : (c : ℕ) (word bytes : List ℕ) → decode_of (c ∷ word) ≡ Ok bytes
    → are_digit_pairs (c ∷ word) ≡ true
decoded_pairs c word bytes h =
    let ok = decode_of-ok (c ∷ word) bytes h in
    grind (arith, ok.0, list_all-from_AllPass is_hex_digit (c ∷ word) ok.1)

none_decoded : (c : ℕ) (word : List ℕ) (r : Result (List ℕ) FromHexError)
    → decode_of (c ∷ word) ≡ r → are_digit_pairs (c ∷ word) ≡ false → result_ok r ≡ None
none_decoded c word (Err e) h other = refl
none_decoded c word (Ok bytes) h other =
    absurd (false≢true (sym other ∙ decoded_pairs c word bytes h))

-- nothing else does, a dash apart
pub other_spells_none : (word : List ℕ) → bytes_eq word (codes "-") ≡ false
    → are_digit_pairs word ≡ false → bytes_in word ≡ None
other_spells_none [] dash other = refl
other_spells_none (c ∷ word) dash other =
    rw dash (none_decoded c word (decode_of (c ∷ word)) refl other)
