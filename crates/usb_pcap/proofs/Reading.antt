-- What a reading took from the front of a text is as it is printed.
use Rattle.std.proofs.Common.{◌≡◌, ℕ, zero, suc, ◌+◌, ◌-◌, ◌*◌, ◌/◌, ◌%◌, ◌^◌, ◌<◌, ◌≤◌, inl, inr}
use Rattle.std.proofs.Common.{◌==◌, ◌&&◌, nat_lt, Bool, true, false, if◌then◌else◌, List, [], ◌∷◌}
use Rattle.std.proofs.Common.{◌++◌, length, slice_index, Option, Some, None, option_map, decimal}
use Rattle.std.proofs.Common.{refl, sym, ap, ap₂, subst, ◌∙◌, arith, append_assoc, length-append}
use Rattle.std.proofs.lemmas.Option.{option_and_then_some, same_Some}
use Rattle.std.proofs.lemmas.Bool.{and_parts, cases_lt, eqb-true, ltb-true}
use Rattle.std.proofs.lemmas.Bool.Decides.{nat_tests}
use Rattle.usb_packet.specs.{IsBytes}
use Rattle.usb_packet.proofs.Interface.{encode_upper-append}
use Rattle.hex.specs.Hex.{encode_upper, encode_with, upper_digits}
use Rattle.usb_pcap.specs.{bytes_on, decimal_in, if_found, is_digit, number_on, strip, value_of}

-- a test was met, and what it led to
pub if-some : {A P : Type 0} (b : Bool) (o : Option A) (y : A) → (if b then o else None) ≡ Some y
    → (b ≡ true → o ≡ Some y → P) → P
if-some true o y e k = k refl e
if-some false o y e k = absurd (cc)

pub if_either : {A P : Type 0} (b : Bool) (o p : Option A) (y : A) → (if b then o else p) ≡ Some y
    → (b ≡ true → o ≡ Some y → P) → (b ≡ false → p ≡ Some y → P) → P
if_either true o p y e k l = k refl e
if_either false o p y e k l = l refl e

pub map_some : {A B P : Type 0} (f : A → B) (o : Option A) (y : B) → option_map f o ≡ Some y
    → ((x : A) → o ≡ Some x → f x ≡ y → P) → P
map_some f (Some x) y e k = k x refl (same_Some (f x) y e)
map_some f None y e k = absurd (cc)

pub found_some : {A B P : Type 0} (o : Option A) (read : A → Option B) (other : Option B) (y : B)
    → if_found o read other ≡ Some y
    → ((x : A) → o ≡ Some x → read x ≡ Some y → P) → (other ≡ Some y → P) → P
found_some (Some x) _ _ y e k l = k x refl e
found_some None _ _ y e k l = l e

pub strip-some : (word text rest : List ℕ) → strip word text ≡ Some rest → text ≡ word ++ rest
unfolding strip
strip-some [] text rest e = same_Some text rest e
strip-some (c ∷ word) [] rest e = absurd (cc)
strip-some (c ∷ word) (d ∷ text) rest e =
    if-some _ _ _ e
    (λ same more. ap₂ (λ (x : ℕ) (l : List ℕ). x ∷ l) (eqb-true d c same)
    (strip-some word text rest more))

number_on-few : (value : ℕ) (text : List ℕ) (n : ℕ) → value < 2 ^ 64 → number_on value text ≡ Some n
    → n < 2 ^ 64
unfolding number_on
number_on-few value [] n few e = subst (λ m. m < 2 ^ 64) (same_Some _ _ e) few
number_on-few value (c ∷ text) n few e =
    if_either _ _ _ _ e
    (λ digit more. if-some _ _ _ more
    (λ below rest. number_on-few (value * 10 + (c - 48)) text n
    (ltb-true _ _ below) rest))
    (λ other end. subst (λ m. m < 2 ^ 64) (same_Some value n end) few)

pub decimal_in-some : (text : List ℕ) (r : ℕ × List ℕ) → decimal_in text ≡ Some r
    → (text ≡ decimal r.0 ++ r.1) × (r.0 < 2 ^ 64)
unfolding decimal_in
decimal_in-some text r e =
    option_and_then_some _ _ r e
    (λ n h more. map_some _ _ _ more
    (λ rest found is. subst (λ (s : ℕ × List ℕ). (text ≡ decimal s.0 ++ s.1) × (s.0 < 2 ^ 64)) is
    (strip-some (decimal n) text rest found, number_on-few 0 text n (omega arith) h)))

-- every upper-case digit stands at its value in the table
abbrev stands_at_value : ℕ → Bool
stands_at_value c = if is_digit c then (slice_index upper_digits (value_of c) == c) &&
    nat_lt (value_of c) 16 else true

abbrev all_stand_there : ℕ → Bool
all_stand_there zero = true
all_stand_there (suc n) = stands_at_value n && all_stand_there n

all_stand-at : (n c : ℕ) → all_stand_there n ≡ true → c < n → stands_at_value c ≡ true
all_stand-at zero c h lt = absurd (omega arith)
all_stand-at (suc n) c h lt =
    let parts = and_parts _ _ h in
    elim (cases_lt c n) [
      | inl below ↦ all_stand-at n c parts.1 below
      | inr top ↦
          let e : c ≡ n = omega arith in
          rw e parts.0
    ]

is_digit-few : (c : ℕ) → is_digit c ≡ true → c < 71
is_digit-few c h = grind (arith, nat_tests)

pub digit_there : (c : ℕ) → is_digit c ≡ true → (slice_index upper_digits (value_of c) ≡ c)
    × (value_of c < 16)
digit_there c h =
    let all = all_stand-at 71 c refl (is_digit-few c h) in
    let parts = and_parts _ _
    (rw h at all) in
    (eqb-true _ c parts.0, ltb-true _ 16 parts.1)

pub encode_upper-pair : (h l : ℕ) → is_digit h ≡ true → is_digit l ≡ true
    → encode_upper ((value_of h * 16 + value_of l) ∷ []) ≡ h ∷ l ∷ []
unfolding encode_with
encode_upper-pair h l hd ld =
    let high = digit_there h hd in
    let low = digit_there l ld in
    let few = low.1 in
    let top : (value_of h * 16 + value_of l) / 16 ≡ value_of h = omega arith in
    let end : (value_of h * 16 + value_of l) % 16 ≡ value_of l = omega arith in
    rw (top, end, high.0, low.0)

-- every value has its upper-case digit
abbrev spelled_there : ℕ → Bool
spelled_there v = is_digit (slice_index upper_digits v) &&
    (value_of (slice_index upper_digits v) == v)

abbrev all_spelled : ℕ → Bool
all_spelled zero = true
all_spelled (suc n) = spelled_there n && all_spelled n

all_spelled-at : (n v : ℕ) → all_spelled n ≡ true → v < n → spelled_there v ≡ true
all_spelled-at zero v h lt = absurd (omega arith)
all_spelled-at (suc n) v h lt =
    let parts = and_parts _ _ h in
    elim (cases_lt v n) [
      | inl below ↦ all_spelled-at n v parts.1 below
      | inr top ↦
          let e : v ≡ n = omega arith in
          rw e parts.0
    ]

pub digit_spelled : (v : ℕ) → v < 16 → (is_digit (slice_index upper_digits v) ≡ true)
    × (value_of (slice_index upper_digits v) ≡ v)
digit_spelled v few =
    let both = and_parts _ _ (all_spelled-at 16 v refl few) in
    (both.0, eqb-true _ v both.1)

pub encode_step : (b : ℕ) (bytes : List ℕ) → encode_upper (b ∷ bytes) ≡ slice_index upper_digits
    (b / 16) ∷ slice_index upper_digits (b % 16) ∷ encode_upper bytes
unfolding encode_with
encode_step b _ = refl

pub bytes_on-some : (bytes text : List ℕ) (r : List ℕ × List ℕ) → bytes_on bytes text ≡ Some r
    → encode_upper bytes ++ text ≡ encode_upper r.0 ++ r.1
unfolding bytes_on
bytes_on-some bytes [] r e = ap (λ (s : List ℕ × List ℕ). encode_upper s.0 ++ s.1)
    (same_Some (bytes, []) r e)
bytes_on-some bytes (h ∷ []) r e = ap (λ (s : List ℕ × List ℕ). encode_upper s.0 ++ s.1)
    (same_Some (bytes, h ∷ []) r e)
bytes_on-some bytes (h ∷ l ∷ text) r e =
    let byte : ℕ = value_of h * 16 + value_of l in
    if_either _ _ _ _ e
    (λ digits more. if-some _ _ _ more
    (λ room rest.
    let both = and_parts (is_digit h) (is_digit l) digits in
    let pair = encode_upper-pair h l both.0 both.1 in
    let front : encode_upper (bytes ++ byte ∷ []) ≡ encode_upper bytes ++ h ∷ l ∷ [] =
    encode_upper-append bytes (byte ∷ []) ∙ ap (λ d. encode_upper bytes ++ d) pair in
    sym (ap (λ d. d ++ text) front ∙ append_assoc (encode_upper bytes) (h ∷ l ∷ []) text)
    ∙ bytes_on-some (bytes ++ byte ∷ []) text r rest))
    (λ other end. ap (λ (s : List ℕ × List ℕ). encode_upper s.0 ++ s.1)
    (same_Some (bytes, h ∷ l ∷ text) r end))

push_small : (xs : List ℕ) (b : ℕ) → IsBytes xs → b < 256 → (i : ℕ)
    → slice_index (xs ++ b ∷ []) i < 256
push_small [] b h few zero = few
push_small [] b h few (suc i) = omega arith
push_small (x ∷ xs) b h _ zero = h zero
push_small (x ∷ xs) b h few (suc i) = push_small xs b (λ j. h (suc j)) few i

pub bytes_on-data : (bytes text : List ℕ) (r : List ℕ × List ℕ) → length bytes ≤ 64 → IsBytes bytes
    → bytes_on bytes text ≡ Some r → (length r.0 ≤ 64) × IsBytes r.0
unfolding bytes_on
bytes_on-data bytes [] r few small e = subst (λ (s : List ℕ × List ℕ). (length s.0 ≤ 64)
    × IsBytes s.0) (same_Some (bytes, []) r e) (few, small)
bytes_on-data bytes (h ∷ []) r few small e = subst (λ (s : List ℕ × List ℕ). (length s.0 ≤ 64)
    × IsBytes s.0) (same_Some (bytes, h ∷ []) r e) (few, small)
bytes_on-data bytes (h ∷ l ∷ text) r few small e =
    let byte : ℕ = value_of h * 16 + value_of l in
    if_either _ _ _ _ e
    (λ digits more. if-some _ _ _ more
    (λ room rest.
    let both = and_parts (is_digit h) (is_digit l) digits in
    let high = (digit_there h both.0).1 in
    let low = (digit_there l both.1).1 in
    let below : byte < 256 = omega (arith, high, low) in
    let long = length-append bytes (byte ∷ []) in
    let free = ltb-true (length bytes) 64 room in
    bytes_on-data (bytes ++ byte ∷ []) text r (omega (arith, long, free))
    (push_small bytes byte small below) rest))
    (λ other end. subst (λ (s : List ℕ × List ℕ). (length s.0 ≤ 64) × IsBytes s.0)
    (same_Some (bytes, h ∷ l ∷ text) r end) (few, small))
