-- What words of bytes, numbers and paths stand for, both ways.
use Rattle.std.proofs.Common.{◌≡◌, ℕ, zero, suc, ◌+◌, ◌*◌, ◌/◌, ◌%◌, ◌^◌, ◌<◌, ◌≤◌, Bool, true}
use Rattle.std.proofs.Common.{false, not, ◌&&◌, ◌||◌, ◌==◌, nat_le, nat_lt, cond, if◌then◌else◌}
use Rattle.std.proofs.Common.{List, [], ◌∷◌, length, get_or, take, Option, Some, None, ok_or}
use Rattle.std.proofs.Common.{Result, Ok, Err, All, ◌⊎◌, refl, sym, subst, ap, ◌∙◌, arith, inl, inr}
use Rattle.std.proofs.Common.{decimal, codes, lit<, ◌++◌}
use Rattle.std.proofs.lemmas.List.{append-nil}
use Rattle.std.specs.Char.{is_ascii_digit}
use Rattle.std.specs.List.{AllPass, list_all}
use Rattle.std.specs.Option.{option_and_then}
use Rattle.std.specs.Result.{MatchResult, result_ok, result_unwrap_or}
use Rattle.std.proofs.lemmas.Result.{MatchResult-at_ok}
use Rattle.std.specs.Str.{all_ascii_digits, bytes_eq}
use Rattle.std.specs.Str.Parse.{digits_value, ParsesUnsigned}
use Rattle.std.proofs.Math.Bool.{and-false, or-true}
use Rattle.std.proofs.lemmas.Bool.{and_parts, eqb-true, le-leb, le-ltb, leb-true, lt-leb, lt-ltb}
use Rattle.std.proofs.lemmas.Bool.{ltb-false, ltb-true, or_cases, cases_lt}
use Rattle.std.proofs.lemmas.Bool.Decides.{nat_tests}
use Rattle.std.proofs.lemmas.Fmt.{decimal-digits_value, decimal_digit, decimal_nonempty}
use Rattle.std.proofs.lemmas.Fmt.{digits_decimal, digits_value-decimal, first_decimal}
use Rattle.std.proofs.lemmas.List.Elements.{All-cons, All-head, All-nil, All-tail}
use Rattle.std.proofs.lemmas.Option.{cond_some, none-some, same_Some}
use Rattle.std.proofs.lemmas.Slice.Eq.{bytes_eq-Decides}
use Rattle.std.proofs.lemmas.Str.Parse.{IsNumeralModel, numerals_by_value, parse_digits}
use Rattle.std.proofs.lemmas.Str.Parse.{tells_all_ascii_digits}
use Rattle.hex.specs.declared.error.FromHexError.{FromHexError}
use Rattle.hex.specs.Hex.{decode_of, decode_sized, encode_upper, encode_with, is_hex_digit, IsBytes}
use Rattle.hex.proofs.HexLemmas.{decode_of-digits, decode_of-encode_upper, decode_of-ok}
use Rattle.hex.proofs.HexLemmas.{decode_sized-twice}
use Rattle.usb_packet.specs.{hex_text}
use Rattle.usb_port.specs.{IsPortNumber, number_text, path_text}
use Rattle.usb_port.proofs.Interface.{number_text-below, number_text-from}
use Rattle.usb_request.specs.{is_endpoint_address}
use Rattle.usb_request.proofs.Interface.{address_byte}
use Rattle.usb_wire.specs.{address_spelled, address_named, address_text, hex_length, hex_value}
use Rattle.usb_wire.specs.{is_dash, is_decimal, is_hex, number_within}
use Rattle.usb_wire.specs.{BadHex, BadLength, bytes_of_word, count_in, status_of_word}
use Rattle.usb_wire.specs.Reading.{◌>>=◌}
use Rattle.usb_wire.proofs.WordLemmas.{all_visible, is_visible}

-- a Bool is one of two
pub true_or_false : (b : Bool) → ((b ≡ true) ⊎ (b ≡ false))
true_or_false true = inl refl
true_or_false false = inr refl

pub Ok-from_result_ok : {A E : Type 0} (r : Result A E) (x : A) → result_ok r ≡ Some x → r ≡ Ok x
Ok-from_result_ok (Ok y) x e = ap Ok (same_Some y x e)
Ok-from_result_ok (Err e) x h = absurd (none-some x h)

not_zero : (c : ℕ) → not (c == 48) ≡ true → c ≡ 48 → ⊥
not_zero c other same = absurd (grind (arith, nat_tests))

first_digit : (n : ℕ) → n < 2 ^ 64 → get_or (decimal n) 0 0 ≡ 48 → length (decimal n) ≡ 1
first_digit zero small h = ap length (decimal_digit 0 (lit< tt))
first_digit (suc n) small h =
    let above : 48 < get_or (decimal (suc n)) 0 0 = first_decimal (suc n) (omega arith) small in
    absurd (omega arith)

-- ---- hexadecimal digits

AllPass-digits : (word : List ℕ) → list_all is_hex_digit word ≡ true → AllPass is_hex_digit word
AllPass-digits [] h = All-nil (λ c. is_hex_digit c ≡ true)
AllPass-digits (c ∷ word) h =
    let parts = and_parts (is_hex_digit c) (list_all is_hex_digit word) h in
    All-cons (λ c. is_hex_digit c ≡ true) c word parts.0 (AllPass-digits word parts.1)

digits-AllPass : (word : List ℕ) → AllPass is_hex_digit word → list_all is_hex_digit word ≡ true
digits-AllPass [] h = refl
digits-AllPass (c ∷ word) h =
    rw (
      All-head (λ c. is_hex_digit c ≡ true) c word h,
      digits-AllPass word (All-tail (λ c. is_hex_digit c ≡ true) c word h),
    ) refl

-- pairs of digits
pub record Pairs (word : List ℕ) : Type 0 where
  pub some : 0 < length word
  pub even : length word % 2 ≡ 0
  pub digits : AllPass is_hex_digit word

pub pairs-hex : (word : List ℕ) → is_hex word ≡ true → Pairs word
pairs-hex word h =
    let all = and_parts (nat_lt 0 (length word) && (length word % 2 == 0))
    (list_all is_hex_digit word) h in
    let front = and_parts (nat_lt 0 (length word)) (length word % 2 == 0) all.0 in
    record {
      some = ltb-true 0 (length word) front.0;
      even = eqb-true (length word % 2) 0 front.1;
      digits = AllPass-digits word all.1;
    }

pub hex-pairs : (word : List ℕ) → Pairs word → is_hex word ≡ true
hex-pairs word h = rw (lt-ltb 0 (length word) h.some, h.even, digits-AllPass word h.digits) refl

-- what a word of bytes spells
pub record Spelled (word bytes : List ℕ) : Type 0 where
  pub hex : (is_dash word || is_hex word) ≡ true
  pub count : hex_length word ≡ length bytes
  pub small : IsBytes bytes

spelled_dash : (word bytes : List ℕ) → is_dash word ≡ true → [] ≡ bytes → Spelled word bytes
spelled_dash word bytes dash e = rw (← e) (record {
  hex = rw dash refl;
  count = rw dash refl;
  small = λ i. omega arith;
})

spelled_pairs : (word bytes : List ℕ) → is_dash word ≡ false → is_hex word ≡ true
    → decode_of word ≡ Ok bytes → Spelled word bytes
spelled_pairs word bytes dash hex e =
    let ok = decode_of-ok word bytes e in
    let twice = ok.2 in
    let half : length word / 2 ≡ length bytes = omega (arith, twice) in
    record { hex = rw (dash, hex) refl; count = rw dash half; small = ok.3 }

pub spelled-value : (word bytes : List ℕ) → hex_value word ≡ Some bytes → Spelled word bytes
spelled-value word bytes h =
    elim (true_or_false (is_dash word)) [
      | inl dash ↦ spelled_dash word bytes dash (same_Some [] bytes (rw dash at h))
      | inr other ↦
          elim (true_or_false (is_hex word)) [
            | inl hex ↦ spelled_pairs word bytes other hex
                (Ok-from_result_ok (decode_of word) bytes (rw (other, hex) at h))
            | inr bad ↦ absurd (none-some bytes (rw (other, bad) at h))
          ]
    ]

value_by : (word : List ℕ) (dash hex : Bool) → is_dash word ≡ dash → is_hex word ≡ hex
    → (dash || hex) ≡ true → (bytes : List ℕ) × (hex_value word ≡ Some bytes)
value_by word true hex d h e = ([], rw d refl)
value_by word false true d h e =
    let pairs = pairs-hex word h in
    let found = decode_of-digits word pairs.even pairs.digits in
    (found.0, rw (d, h) (ap result_ok found.1))
value_by word false false d h e = cc

-- what a word in hexadecimal digits spells
pub value-hex : (word : List ℕ) → (is_dash word || is_hex word) ≡ true → (bytes : List ℕ)
    × (hex_value word ≡ Some bytes)
value-hex word h = value_by word (is_dash word) (is_hex word) refl refl h

pub other_hex : (dash hex : Bool) → dash ≡ false → (dash || hex) ≡ true → hex ≡ true
other_hex true hex e h = cc
other_hex false hex e h = h

dash-pair : (a b : ℕ) (more : List ℕ) → is_dash (a ∷ b ∷ more) ≡ false
dash-pair a b more = and-false (a == 45)

-- bytes as they are written
pub hex_value-hex_text : (bytes : List ℕ) → IsBytes bytes → hex_value (hex_text bytes) ≡ Some bytes
unfolding encode_with
hex_value-hex_text [] small = refl
hex_value-hex_text (b ∷ bytes) small =
    let back = decode_of-encode_upper (b ∷ bytes) small in
    let ok = decode_of-ok (encode_upper (b ∷ bytes)) (b ∷ bytes) back in
    let pairs : Pairs (encode_upper (b ∷ bytes)) =
    record { some = omega arith; even = ok.0; digits = ok.1 } in
    rw (dash-pair _ _ (encode_upper bytes), hex-pairs (encode_upper (b ∷ bytes)) pairs)
    (ap result_ok back)

-- ---- addresses of endpoints

-- the word spells the endpoint's address
pub record IsEndpointWord (word : List ℕ) (a : ℕ) : Type 0 where
  pub text : word ≡ address_text a
  pub address : is_endpoint_address a ≡ true

spelled_address : (word bytes : List ℕ) (a : ℕ) → address_spelled word bytes ≡ Some a
    → IsEndpointWord word a
spelled_address word [] a e = absurd (none-some a e)
spelled_address word (b ∷ []) a e =
    let found = cond_some (bytes_eq word (address_text b) && is_endpoint_address b) b a e in
    let both = and_parts (bytes_eq word (address_text b)) (is_endpoint_address b) found.0 in
    subst (IsEndpointWord word) found.1 (record {
      text = (bytes_eq-Decides word (address_text b)).0 both.0;
      address = both.1;
    })
spelled_address word (b ∷ c ∷ more) a e = absurd (none-some a e)

address_in : (word : List ℕ) (o : Option (List ℕ)) (a : ℕ)
    → option_and_then (address_spelled word) o ≡ Some a → IsEndpointWord word a
address_in word None a e = absurd (none-some a e)
address_in word (Some bytes) a e = spelled_address word bytes a e

pub address_named-word : (word : List ℕ) (a : ℕ) → address_named word ≡ Some a
    → IsEndpointWord word a
address_named-word word a e = address_in word (hex_value word) a e

pub small_address : (a : ℕ) → is_endpoint_address a ≡ true → IsBytes (a ∷ [])
small_address a h zero = address_byte a h
small_address a h (suc i) = omega arith

pub address_named-text : (a : ℕ) → is_endpoint_address a ≡ true
    → address_named (address_text a) ≡ Some a
address_named-text a h =
    let value = hex_value-hex_text (a ∷ []) (small_address a h) in
    let same = (bytes_eq-Decides (address_text a) (address_text a)).1 refl in
    ap (option_and_then (address_spelled (address_text a))) value ∙ rw (same, h) refl

-- ---- numbers

decimal_is_model : IsNumeralModel (λ ds. all_ascii_digits ds ≡ true) (digits_value 10)
decimal_is_model = numerals_by_value (λ ds. all_ascii_digits ds ≡ true) tells_all_ascii_digits

-- digits, with no zero before them
pub record Digits (word : List ℕ) : Type 0 where
  pub digits : all_ascii_digits word ≡ true
  pub some : 0 < length word
  pub first : get_or word 0 0 ≡ 48 → length word ≡ 1

same_digits : (word : List ℕ) → list_all is_ascii_digit word ≡ all_ascii_digits word
same_digits [] = refl
same_digits (c ∷ word) = ap (λ b. is_ascii_digit c && b) (same_digits word)

pub digits-decimal : (word : List ℕ) → is_decimal word ≡ true → Digits word
digits-decimal word h =
    let all = and_parts (nat_lt 0 (length word) && list_all is_ascii_digit word)
    (length word == 1 || not (get_or word 0 0 == 48)) h in
    let front = and_parts (nat_lt 0 (length word)) (list_all is_ascii_digit word) all.0 in
    record {
      digits = sym (same_digits word) ∙ front.1;
      some = ltb-true 0 (length word) front.0;
      first = λ same. elim (or_cases (length word == 1) (not (get_or word 0 0 == 48)) all.1) [
        | inl one ↦ eqb-true (length word) 1 one
        | inr other ↦ absurd (not_zero (get_or word 0 0) other same)
      ];
    }

first_test : (word : List ℕ) → (get_or word 0 0 ≡ 48 → length word ≡ 1)
    → (length word == 1 || not (get_or word 0 0 == 48)) ≡ true
first_test word h =
    elim (true_or_false (get_or word 0 0 == 48)) [
      | inl same ↦ rw (h (eqb-true (get_or word 0 0) 48 same)) refl
      | inr other ↦ rw other (or-true (length word == 1))
    ]

pub decimal-digits : (word : List ℕ) → Digits word → is_decimal word ≡ true
decimal-digits word h =
    rw (lt-ltb 0 (length word) h.some, same_digits word, h.digits, first_test word h.first) refl

pub record IsNumberWord (least most : ℕ) (word : List ℕ) (n : ℕ) : Type 0 where
  pub low : least ≤ n
  pub high : n ≤ most
  pub text : word ≡ decimal n

pub numbered-within : (least most : ℕ) (word : List ℕ) (n : ℕ) → most < 2 ^ 64
    → number_within least most word ≡ Some n → IsNumberWord least most word n
numbered-within least most word n small h =
    let v : ℕ = digits_value 10 word in
    let found = cond_some (is_decimal word && nat_le least v && nat_le v most) v n h in
    let front = and_parts (is_decimal word && nat_le least v) (nat_le v most) found.0 in
    let parts = and_parts (is_decimal word) (nat_le least v) front.0 in
    let digits = digits-decimal word parts.0 in
    let low : least ≤ v = leb-true least v parts.1 in
    let high : v ≤ most = leb-true v most front.1 in
    let text : decimal v ≡ word = decimal-digits_value decimal_is_model word digits.digits
    digits.some digits.first (omega arith) in
    subst (IsNumberWord least most word) found.1
    (record { low = low; high = high; text = sym text })

pub within-decimal : (least most n : ℕ) → least ≤ n → n ≤ most → n < 2 ^ 64
    → number_within least most (decimal n) ≡ Some n
within-decimal least most n low high small =
    let value : digits_value 10 (decimal n) ≡ n = digits_value-decimal decimal_is_model n small in
    let digits : Digits (decimal n) = record {
      digits = digits_decimal decimal_is_model n small;
      some = decimal_nonempty n small;
      first = λ same. first_digit n small same;
    } in
    rw (decimal-digits (decimal n) digits, value, le-leb least n low, le-leb n most high) refl

no_number : (b : Bool) (v : ℕ) → cond (b && false) (Some v) None ≡ None
no_number true v = refl
no_number false v = refl

-- the number of a word that `parse` refuses is in no range
pub within-unparsed : {E : Type 0} (least most : ℕ) (word : List ℕ) (e : E) → most < 2 ^ 64
    → is_decimal word ≡ true → ParsesUnsigned 64 10 word (Err e) → number_within least most word
    ≡ None
within-unparsed least most word e small h refused =
    let digits = digits-decimal word h in
    let v : ℕ = digits_value 10 word in
    let large : ¬ ((0 < length word) × (v < 2 ^ 64)) =
    parse_digits decimal_is_model 64 word (Err e) refused digits.digits in
    elim (true_or_false (nat_lt v (2 ^ 64))) [
      | inl less ↦ absurd (large (digits.some, ltb-true v (2 ^ 64) less))
      | inr more ↦
          let above : 2 ^ 64 ≤ v = ltb-false v (2 ^ 64) more in
          let out : nat_le v most ≡ false = lt-leb v most (omega (arith, small, above)) in
          rw out (no_number (is_decimal word && nat_le least v) v)
    ]

-- ---- visible texts

digit_visible : (c : ℕ) → is_ascii_digit c ≡ true → is_visible c ≡ true
digit_visible c h = grind (arith, nat_tests)

all_visible-digits : (word : List ℕ) → all_ascii_digits word ≡ true → all_visible word ≡ true
all_visible-digits [] h = refl
all_visible-digits (c ∷ word) h =
    let parts = and_parts (is_ascii_digit c) (all_ascii_digits word) h in
    rw (digit_visible c parts.0, all_visible-digits word parts.1) refl

pub all_digits-decimal : (n : ℕ) → n < 2 ^ 64 → all_ascii_digits (decimal n) ≡ true
all_digits-decimal n small = digits_decimal decimal_is_model n small

pub all_visible-decimal : (n : ℕ) → n < 2 ^ 64 → all_visible (decimal n) ≡ true
all_visible-decimal n small = all_visible-digits (decimal n)
    (digits_decimal decimal_is_model n small)

hex_visible : (c : ℕ) → is_hex_digit c ≡ true → is_visible c ≡ true
hex_visible c h = grind (arith, nat_tests)

all_visible-hex_digits : (word : List ℕ) → list_all is_hex_digit word ≡ true
    → all_visible word ≡ true
all_visible-hex_digits [] h = refl
all_visible-hex_digits (c ∷ word) h =
    let parts = and_parts (is_hex_digit c) (list_all is_hex_digit word) h in
    rw (hex_visible c parts.0, all_visible-hex_digits word parts.1) refl

pub all_visible-hex : (word : List ℕ) → (is_dash word || is_hex word) ≡ true
    → all_visible word ≡ true
all_visible-hex word h =
    elim (true_or_false (is_dash word)) [
      | inl dash ↦ rw ((bytes_eq-Decides word (codes "-")).0 dash) refl
      | inr other ↦
          let hex = other_hex (is_dash word) (is_hex word) other h in
          all_visible-hex_digits word (and_parts (nat_lt 0 (length word) && (length word % 2 == 0))
          (list_all is_hex_digit word) hex).1
    ]

digit_is_visible : (d : ℕ) → 33 ≤ d → d ≤ 126 → is_visible d ≡ true
digit_is_visible d low high = rw (le-leb 33 d low, le-leb d 126 high) refl

-- what is visible before visible text
visible_number : (n : ℕ) (text : List ℕ) → IsPortNumber n → all_visible text ≡ true
    → all_visible (number_text n ++ text) ≡ true
visible_number n text h rest = elim (cases_lt n 10) [
  | inl below ↦ rw (
    number_text-below n below,
    digit_is_visible (48 + n) (omega arith) (omega arith),
    rest,
  ) refl
  | inr from ↦ rw (
    number_text-from n from,
    digit_is_visible (38 + n) (omega arith) (omega (arith, h.1)),
    rest,
  ) refl
]

pub all_visible-path_text : (p : List ℕ) → All IsPortNumber p → all_visible (path_text p) ≡ true
unfolding path_text
all_visible-path_text [] h = refl
all_visible-path_text (n ∷ []) h = subst (λ t. all_visible t ≡ true) (append-nil (number_text n))
    (visible_number n [] (All-head IsPortNumber n [] h) refl)
all_visible-path_text (n ∷ m ∷ p) h =
    visible_number n (46 ∷ path_text (m ∷ p)) (All-head IsPortNumber n (m ∷ p) h)
    (rw (all_visible-path_text (m ∷ p) (All-tail IsPortNumber n (m ∷ p) h)) refl)

-- ---- readings

-- the count of bytes that was read
pub record Counted (word : List ℕ) (n : ℕ) : Type 0 where
  pub hex : (is_dash word || is_hex word) ≡ true
  pub count : hex_length word ≡ n

counted_by : (hex : Bool) (m n : ℕ) → (if hex then Ok m else Err BadHex) ≡ Ok n → (hex ≡ true)
    × (m ≡ n)
counted_by true m n e = (refl, ap (λ r. result_unwrap_or r 0) e)
counted_by false m n e = cc

pub counted-count_in : (word : List ℕ) (n : ℕ) → count_in word ≡ Ok n → Counted word n
unfolding count_in
counted-count_in word n e =
    let parts = counted_by (is_dash word || is_hex word) (hex_length word) n e in
    record { hex = parts.0; count = parts.1 }

bytes_by : (most : ℕ) (hex : Bool) (m n : ℕ) (o : Option (List ℕ)) (xs : List ℕ) → hex ≡ true
    → m ≡ n → nat_lt most n ≡ false → o ≡ Some xs → ((if hex then Ok m else Err BadHex) >>=
    (λ count. if nat_lt most count then Err BadLength else ok_or o BadHex)) ≡ Ok xs
bytes_by most true m n o xs h same few is = rw (same, few, is) refl
bytes_by most false m n o xs h same few is = cc

hex_status : (hex : Bool) (m : ℕ) (o : Option (List ℕ)) (xs : List ℕ) → hex ≡ true → m ≡ 4
    → o ≡ Some xs → ((if hex then Ok m else Err BadHex) >>=
    (λ count. if count == 4 then ok_or o BadHex else Err BadLength)) ≡ Ok xs
hex_status true m o xs h same is = rw (same, is) refl
hex_status false m o xs h same is = cc

pub bytes_of_word-value : (most : ℕ) (word : List ℕ) (n : ℕ) (bytes : List ℕ) → Counted word n
    → n ≤ most → hex_value word ≡ Some bytes → bytes_of_word most word ≡ Ok bytes
unfolding bytes_of_word count_in
bytes_of_word-value most word n bytes h few e =
    let fits = le-ltb most n few in
    bytes_by most (is_dash word || is_hex word) (hex_length word) n (hex_value word) bytes h.hex
    h.count fits e

pub status_of_word-value : (word bytes : List ℕ) → Counted word 4 → hex_value word ≡ Some bytes
    → status_of_word word ≡ Ok bytes
unfolding status_of_word count_in
status_of_word-value word bytes h e = hex_status (is_dash word || is_hex word) (hex_length word)
    (hex_value word) bytes h.hex h.count e

length-zero : (bytes : List ℕ) → length bytes ≡ 0 → bytes ≡ []
length-zero [] e = refl
length-zero (b ∷ bytes) e = absurd (omega arith)

pub bytes_of_word-none : (most : ℕ) (word : List ℕ) → Counted word 0
    → bytes_of_word most word ≡ Ok []
bytes_of_word-none most word h =
    let value = value-hex word h.hex in
    let spelled = spelled-value word value.0 value.1 in
    bytes_of_word-value most word 0 [] h (omega arith) (value.1
    ∙ ap Some (length-zero value.0 (sym spelled.count ∙ h.count)))

-- what decoding gives where some bytes are counted
pub record Decoded (word : List ℕ) (n : ℕ) : Type 0 where
  pub bytes : List ℕ
  pub value : hex_value word ≡ Some bytes
  pub count : length bytes ≡ n
  pub decoded : decode_sized word n ≡ Ok bytes

hex_not_dash : (word : List ℕ) (n : ℕ) → hex_length word ≡ n → 0 < n → is_dash word ≡ true → ⊥
hex_not_dash word n e some dash =
    let none : 0 ≡ hex_length word = sym (rw dash refl) in
    absurd (omega (arith, none, e))

pub decoded-counted : (word : List ℕ) (n : ℕ) → Counted word n → 0 < n → Decoded word n
decoded-counted word n h some =
    let value = value-hex word h.hex in
    let spelled = spelled-value word value.0 value.1 in
    elim (true_or_false (is_dash word)) [
      | inl dash ↦ absurd (hex_not_dash word n h.count some dash)
      | inr other ↦
          let hex = other_hex (is_dash word) (is_hex word) other h.hex in
          let unfolded : hex_value word ≡ result_ok (decode_of word) = rw (other, hex) refl in
          let value_is : result_ok (decode_of word) ≡ Some value.0 = sym unfolded ∙ value.1 in
          let found : decode_of word ≡ Ok value.0 =
          Ok-from_result_ok (decode_of word) value.0 value_is in
          let size = sym spelled.count ∙ h.count in
          let twice = (decode_of-ok word value.0 found).2 in
          record {
            bytes = value.0;
            value = value.1;
            count = size;
            decoded = decode_sized-twice word n (omega (arith, twice, size)) ∙ found;
          }
    ]

-- two digits for each byte
digit_pairs : (word bytes : List ℕ) → hex_value word ≡ Some bytes → is_dash word ≡ false
    → length word ≡ 2 * length bytes
digit_pairs word bytes e other =
    let spelled = spelled-value word bytes e in
    let hex = other_hex (is_dash word) (is_hex word) other spelled.hex in
    let even = (pairs-hex word hex).even in
    let unfolded : hex_length word ≡ length word / 2 = rw other refl in
    let half : length word / 2 ≡ length bytes = sym unfolded ∙ spelled.count in
    omega (arith, even, half)

-- and a dash for none
one_dash : (word : List ℕ) → is_dash word ≡ true → length word ≡ 1
one_dash word dash = let text : word ≡ codes "-" = (bytes_eq-Decides word (codes "-")).0 dash in
    ap length text

pub hex_value-within : (word bytes : List ℕ) (most : ℕ) → hex_value word ≡ Some bytes → 1 ≤ most
    → 2 * length bytes ≤ most → length word ≤ most
hex_value-within word bytes most e one few = elim (true_or_false (is_dash word)) [
  | inl dash ↦ omega (arith, one_dash word dash)
  | inr other ↦ omega (arith, digit_pairs word bytes e other)
]

pub hex_value-fills : (word bytes : List ℕ) → hex_value word ≡ Some bytes
    → 2 * length bytes ≤ length word
hex_value-fills word bytes e = elim (true_or_false (is_dash word)) [
  | inl dash ↦
      let none = (spelled-value word bytes e).count in
      let zero : hex_length word ≡ 0 = rw dash refl in
      omega (arith, none, zero)
  | inr other ↦ omega (arith, digit_pairs word bytes e other)
]

-- the digits of bytes are at most one more than twice as many
pub hex_value-length : (word bytes : List ℕ) → hex_value word ≡ Some bytes
    → length word ≤ 2 * length bytes + 1
hex_value-length word bytes e =
    hex_value-within word bytes (2 * length bytes + 1) e (omega arith) (omega arith)

-- the four bytes of a status, decoded
pub status-decoded : (word given status : List ℕ) (r : Result (List ℕ) FromHexError)
    → Counted word 4 → given ≡ word → r ≡ decode_sized given 4 → r ≡ Ok status
    → Ok status ≡ status_of_word word
status-decoded word given status r counted is found ok =
    let decoded = decoded-counted word 4 counted (lit< tt) in
    let same : ◌≡◌ {A = Result (List ℕ) FromHexError} (Ok status) (Ok decoded.bytes) = sym ok
    ∙ found ∙ ap (λ w. decode_sized w 4) is ∙ decoded.decoded in
    sym (status_of_word-value word decoded.bytes counted decoded.value
    ∙ ap Ok (sym (ap (λ (r : Result (List ℕ) FromHexError). result_unwrap_or r []) same)))

pub status-undecoded : (word given : List ℕ) (r : Result (List ℕ) FromHexError) (e : FromHexError)
    → Counted word 4 → given ≡ word → r ≡ decode_sized given 4 → r ≡ Err e → ⊥
status-undecoded word given r e counted is found bad =
    let decoded = decoded-counted word 4 counted (lit< tt) in
    let same : ◌≡◌ {A = Result (List ℕ) FromHexError} (Err e) (Ok decoded.bytes) = sym bad ∙ found
    ∙ ap (λ w. decode_sized w 4) is ∙ decoded.decoded in
    cc

-- what `decode_into` says where the digits decode
pub into_given : (word : List ℕ) (n : ℕ) (bytes : List ℕ) (found : Bool) (after : List ℕ)
    → decode_sized word n ≡ Ok bytes
    → MatchResult (decode_sized word n) (λ bytes. (found ≡ true) × (take n after ≡ bytes))
    (λ e. found ≡ false) → (found ≡ true) × (take n after ≡ bytes)
into_given word n bytes found after e h =
    MatchResult-at_ok (λ bytes. (found ≡ true) × (take n after ≡ bytes)) (λ e. found ≡ false) bytes
    e h
