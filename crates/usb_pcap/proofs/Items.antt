-- The pieces of a line: what is read of a text is a piece at its front, and each piece is read.
use Rattle.std.proofs.Common.{◌≡◌, ℕ, zero, suc, ◌+◌, ◌-◌, ◌*◌, ◌/◌, ◌%◌, ◌^◌, ◌<◌, ◌≤◌, inl, inr}
use Rattle.std.proofs.Common.{◌==◌, ◌&&◌, not, nat_lt, Bool, true, false, if◌then◌else◌, List, []}
use Rattle.std.proofs.Common.{◌∷◌, ◌++◌, length, Option, Some, None, option_map, codes, decimal}
use Rattle.std.proofs.Common.{refl, sym, ap, subst, ◌∙◌, arith, append_assoc, append-nil}
use Rattle.std.proofs.Common.{length-append, get_or, drop, drop-cons, drop_of_length-le, add-one}
use Rattle.std.proofs.Common.{Bor}
use Rattle.std.proofs.lemmas.Option.{same_Some}
use Rattle.std.proofs.lemmas.Bool.{and_parts, eqb-true, lt-ltb, not-true}
use Rattle.std.proofs.lemmas.Bool.Decides.{nat_tests}
use Rattle.std.proofs.lemmas.Fmt.{decimal_by_steps}
use Rattle.std.specs.Char.{is_ascii_digit}
use Rattle.std.specs.Option.{option_and_then}
use Rattle.usb_pcap.specs.{Item, Byte, Letter, decimal_in, if_found, is_digit, number_on}
use Rattle.usb_pcap.specs.{strip, strip_any, with_digit, AreUnits, IsUnit, IsOneOf, IsPiece, Piece}
use Rattle.usb_pcap.specs.{behind_bytes, behind_escape, behind_item, behind_items, behind_piece}
use Rattle.usb_pcap.specs.{behind_endpoint, is_escape, is_plain, value_of}
use Rattle.usb_request.proofs.Interface.{address_byte}
use Rattle.hex.specs.Hex.{encode_with}
use Rattle.usb_port.specs.{IsPortNumber, number_text, path_of, path_text}
use Rattle.usb_port.proofs.Interface.{number_text-below, number_text-from, reads_back, some_if}
use Rattle.usb_pcap.specs.{behind_path, ends_path, is_from_root, path_end}
use Rattle.std.proofs.Common.{All, take, slice_index}
use Rattle.std.proofs.Math.Seq.{take-append_seam, drop-append_seam}
use Rattle.std.proofs.lemmas.List.{take-append-drop}
use Rattle.std.proofs.lemmas.List.Elements.{All-head, All-tail}
use Rattle.std.proofs.lemmas.Bool.{cases_lt, le-leb, leb-true}
use Rattle.std.proofs.lemmas.Str.{IsUtf8-from_ascii}
use Rattle.std.proofs.lemmas.Str.Ascii.{IsAscii-cons, IsAscii-nil}
use Rattle.std.specs.List.{position_or_len}
use Rattle.std.proofs.Common.{cond, unwrap_or}
use Rattle.std.proofs.lemmas.Bool.{ltb-false}
use Rattle.std.proofs.lemmas.List.Sums.{prefix_len-le-length}
use Rattle.std.specs.Str.{IsAscii, IsUtf8}
use Rattle.usb_pcap.proofs.Reading.{decimal_in-some, found_some, if_either, if-some, map_some}
use Rattle.usb_pcap.proofs.Reading.{digit_spelled, encode_step, encode_upper-pair, strip-some}

-- ---- words

pub strip-append : (word rest : List ℕ) → strip word (word ++ rest) ≡ Some rest
unfolding strip
strip-append [] rest = refl
strip-append (c ∷ word) rest = let same : (c == c) ≡ true = grind (arith, nat_tests) in
    rw same (strip-append word rest)

-- two words differ where both have a character
abbrev pub differ_at_key : List ℕ → List ℕ → Bool
differ_at_key [] v = false
differ_at_key (c ∷ w) [] = false
differ_at_key (c ∷ w) (d ∷ v) = if d == c then differ_at_key w v else true

if_none_or : (b x : Bool) (o : Option (List ℕ)) → (if b then x else true) ≡ true
    → (x ≡ true → o ≡ None) → (if b then o else None) ≡ None
if_none_or true x o e k = k e
if_none_or false x o e k = refl

apart-strip : (w v rest : List ℕ) → differ_at_key w v ≡ true → strip w (v ++ rest) ≡ None
unfolding strip
apart-strip [] v rest e = absurd (cc)
apart-strip (c ∷ w) [] rest e = absurd (cc)
apart-strip (c ∷ w) (d ∷ v) rest e = if_none_or _ _ (strip w (v ++ rest)) e
    (apart-strip w v rest)

abbrev pub all_apart : List ℕ → List (List ℕ) → Bool
all_apart w [] = true
all_apart w (v ∷ vs) = differ_at_key w v && all_apart w vs

abbrev pub distinct_words : List (List ℕ) → Bool
distinct_words [] = true
distinct_words (w ∷ ws) = all_apart w ws && distinct_words ws

apart_each : (w : List ℕ) (ws : List (List ℕ)) (text rest : List ℕ) → all_apart w ws ≡ true
    → IsOneOf ws text → strip w (text ++ rest) ≡ None
apart_each w [] text rest e is = absurd is
apart_each w (v ∷ vs) _ rest e (inl same) = let both =
    and_parts _ _ e in
    subst (λ t. strip w (t ++ rest) ≡ None) (sym same) (apart-strip w v rest both.0)
apart_each w (v ∷ vs) text rest e (inr is) = let both =
    and_parts _ _ e in apart_each w vs text rest both.1 is

if_found-none : {A B : Type 0} (o : Option A) (read : A → Option B) (other : Option B) → o ≡ None
    → if_found o read other ≡ other
if_found-none None _ _ e = refl
if_found-none (Some x) _ _ e = absurd (cc)

if_found-some : {A B : Type 0} (o : Option A) (x : A) (read : A → Option B) (other : Option B)
    → o ≡ Some x → if_found o read other ≡ read x
if_found-some None x _ _ e = absurd (cc)
if_found-some (Some y) x read _ e = ap read (same_Some y x e)

strip_any-complete : (ws : List (List ℕ)) (text rest : List ℕ) → distinct_words ws ≡ true
    → IsOneOf ws text → strip_any ws (text ++ rest) ≡ Some rest
unfolding strip_any
strip_any-complete [] text rest e is = absurd is
strip_any-complete (w ∷ ws) text rest e (inl same) =
    if_found-some (strip w (text ++ rest)) rest Some (strip_any ws (text ++ rest))
    (subst (λ t. strip w (t ++ rest) ≡ Some rest) (sym same) (strip-append w rest))
strip_any-complete (w ∷ ws) text rest e (inr is) =
    let both = and_parts _ _ e in
    if_found-none _ Some (strip_any ws (text ++ rest))
    (apart_each w ws _ rest both.0 is) ∙ strip_any-complete ws text rest both.1 is

strip_any-sound : (ws : List (List ℕ)) (text rest : List ℕ) → strip_any ws text ≡ Some rest
    → (first : List ℕ) × IsOneOf ws first × (text ≡ first ++ rest)
unfolding strip_any
strip_any-sound [] text rest e = absurd (cc)
strip_any-sound (w ∷ ws) text rest e =
    found_some (strip w text) Some (strip_any ws text) rest e
    (λ r found is. (
      w,
      inl refl,
      strip-some w _ r found ∙ ap (λ l. w ++ l) (same_Some r _ is),
    ))
    (λ more. let (first, one, split) = strip_any-sound ws text rest more in (first, inr one, split))

-- ---- items

escape-sound : (s : ℕ) (text rest : List ℕ) → s ≡ 92 → behind_escape text ≡ Some rest
    → (item : List ℕ) × IsUnit Letter item × (s ∷ text ≡ item ++ rest)
escape-sound s (u ∷ a ∷ b ∷ c ∷ d ∷ text) rest back e =
    if-some _ _ _ e (λ fit is.
    let both = and_parts (u == 117) (is_escape a b c d) fit in
    let small = eqb-true u 117 both.0 in
    let same = same_Some text rest is in
    (92 ∷ 117 ∷ a ∷ b ∷ c ∷ d ∷ [], inr (a, b, c, d, both.1, refl), cc))
escape-sound s _ rest back e = absurd (cc)

item-sound : (kind : Item) (text rest : List ℕ) → behind_item kind text ≡ Some rest
    → (item : List ℕ) × IsUnit kind item × (text ≡ item ++ rest)
unfolding behind_item
item-sound Byte [] rest e = absurd (cc)
item-sound Byte (h ∷ []) _ e = absurd (cc)
item-sound Byte (h ∷ l ∷ text) _ e =
    if-some _ _ _ e
    (λ fit is. (h ∷ l ∷ [], (h, l, fit, refl), ap (λ t. h ∷ l ∷ t) (same_Some _ _ is)))
item-sound Letter [] rest e = absurd (cc)
item-sound Letter (c ∷ text) _ e =
    if_either _ _ _ _ e
    (λ fit is. (c ∷ [], inl (c, fit, refl), ap (λ t. c ∷ t) (same_Some _ _ is)))
    (λ non more. if-some _ _ _ more
    (λ back is. escape-sound c _ _ (eqb-true c 92 back) is))

item-complete : (kind : Item) (item rest : List ℕ) → IsUnit kind item
    → behind_item kind (item ++ rest) ≡ Some rest
unfolding behind_item
item-complete Byte _ _ (h, l, fit, e) = rw (e, fit) refl
item-complete Letter _ _ (inl (c, fit, e)) = rw (e, fit) refl
item-complete Letter _ _ (inr (a, b, c, d, fit, e)) = rw (e, fit) refl

item-some : (kind : Item) (item : List ℕ) → IsUnit kind item → 1 ≤ length item
item-some Byte _ (h, l, fit, e) = rw e (omega arith)
item-some Letter _ (inl (c, fit, e)) = rw e (omega arith)
item-some Letter _ (inr (a, b, c, d, fit, e)) = rw e (omega arith)

items_step : (kind : Item) (n : ℕ) (text : List ℕ) (found : Option (List ℕ))
    → behind_item kind text ≡ found → ((t : List ℕ) → (items : List ℕ) × AreUnits kind n items
    × (t ≡ items ++ behind_items kind n t)) → (items : List ℕ) × AreUnits kind (suc n) items
    × (text ≡ items ++ elim found [ None ↦ text | Some rest ↦ behind_items kind n rest ])
items_step _ n _ None e _ = ([], inl refl, refl)
items_step kind n _ (Some rest) e more =
    let (item, is, split) = item-sound _ _ _ e in
    let (items, are, whole) = more rest in (
      item ++ items,
      inr (item, items, is, are, refl),
      split ∙ ap (λ l. item ++ l) whole ∙ sym (append_assoc item items (behind_items kind n rest)),
    )

pub items-sound : (kind : Item) (n : ℕ) (text : List ℕ) → (items : List ℕ) × AreUnits kind n items
    × (text ≡ items ++ behind_items kind n text)
unfolding behind_items
items-sound _ zero _ = ([], refl, refl)
items-sound kind (suc n) text = items_step kind n text (behind_item kind text) refl
    (λ t. items-sound kind n t)

behind_more : (kind : Item) (m : ℕ) (text rest : List ℕ) → behind_item kind text ≡ Some rest
    → behind_items kind (suc m) text ≡ behind_items kind m rest
unfolding behind_items
behind_more _ m _ _ e = rw (behind_items, e) refl

-- one item more is behind
pub items_goes : (kind : Item) (n i : ℕ) (start text : List ℕ) (found : Option (Bor (List ℕ)))
    (more : Bor (List ℕ)) → i < n
    → behind_items kind n start ≡ behind_items kind (n - i) text → option_map (λ r. r.now) found
    ≡ behind_item kind text → found ≡ Some more
    → behind_items kind n start ≡ behind_items kind (n - (i + 1)) more.now
items_goes kind n i _ text _ more below before e is =
    let own : behind_item kind text ≡ Some more.now = sym e
    ∙ ap (option_map (λ (r : Bor (List ℕ)). r.now)) is in
    let left : n - i ≡ suc (n - (i + 1)) = omega arith in
    before ∙ ap (λ k. behind_items kind k text) left
    ∙ behind_more _ (n - (i + 1)) _ _ own

behind_end : (kind : Item) (m : ℕ) (text : List ℕ) → behind_item kind text ≡ None
    → behind_items kind m text ≡ text
unfolding behind_items
behind_end _ zero _ e = refl
behind_end _ (suc m) _ e = rw (behind_items, e) refl

pub items-complete : (kind : Item) (n m : ℕ) (items rest : List ℕ) → n ≤ m → AreUnits kind n items
    → behind_item kind rest ≡ None → behind_items kind m (items ++ rest) ≡ rest
items-complete kind zero m _ rest le are end =
    subst (λ l. behind_items kind m (l ++ rest) ≡ rest) (sym are) (behind_end _ m _ end)
items-complete _ (suc n) zero _ _ le are end = absurd (omega arith)
items-complete kind (suc n) (suc m) _ rest le (inl none) end =
    subst (λ l. behind_items kind (suc m) (l ++ rest) ≡ rest) (sym none)
    (behind_end _ (suc m) _ end)
items-complete kind (suc n) (suc m) _ rest le (inr (item, more, is, are, e)) end =
    subst (λ l. behind_items kind (suc m) l ≡ rest)
    (sym (ap (λ l. l ++ rest) e ∙ append_assoc item more rest))
    (behind_more _ m _ _
    (item-complete _ _ (more ++ rest) is)
    ∙ items-complete kind n m more rest (omega arith) are end)

pub no_length : (l : List ℕ) → length l ≤ 0 → l ≡ []
no_length [] few = refl
no_length (c ∷ l) few = absurd (omega arith)

-- there are non more items than characters
pub items_fewer : (kind : Item) (n m : ℕ) (items : List ℕ) → length items ≤ m
    → AreUnits kind n items → AreUnits kind m items
items_fewer _ zero zero _ _ are = are
items_fewer _ zero (suc m) _ _ are = inl are
items_fewer _ (suc n) zero _ few _ = no_length _ few
items_fewer _ (suc n) (suc m) _ _ (inl none) = inl none
items_fewer kind (suc n) (suc m) _ few (inr (item, more, is, are, e)) =
    let some = item-some _ _ is in
    let both = ap length e ∙ length-append item more in
    inr (item, more, is, items_fewer kind n m more (omega (arith, some, both)) are, e)

-- ---- where a piece ends

-- a text that goes on with this character does not go on with the piece
abbrev pub halts : Piece → ℕ → Bool
halts (Piece.word w) c = true
halts (Piece.one_of words) c = true
halts Piece.path c = ends_path c
halts Piece.endpoint c = true
halts Piece.number c = not (is_ascii_digit c)
halts Piece.bytes c = not (is_digit c)
halts Piece.string c = not (is_plain c) && not (c == 92)
halts Piece.name c = false

abbrev pub StopsAt : Piece → List ℕ → Type 0
StopsAt piece [] = Unit {0}
StopsAt piece (c ∷ rest) = halts piece c ≡ true

byte_end : (rest : List ℕ) → StopsAt Piece.bytes rest → behind_item Byte rest ≡ None
unfolding behind_item
byte_end [] h = refl
byte_end (c ∷ []) h = refl
byte_end (c ∷ d ∷ rest) h = let non = not-true _ h in rw non refl

letter_end : (rest : List ℕ) → StopsAt Piece.string rest → behind_item Letter rest ≡ None
unfolding behind_item
letter_end [] h = refl
letter_end (c ∷ rest) h =
    let both = and_parts (not (is_plain c)) (not (c == 92)) h in
    let other = not-true (is_plain c) both.0 in
    let non = not-true (c == 92) both.1 in
    rw (other, non) refl

-- ---- numbers

number_digit : (value d : ℕ) (rest : List ℕ) → d < 10 → value * 10 + d < 2 ^ 64
    → number_on value ((48 + d) ∷ rest) ≡ number_on (value * 10 + d) rest
unfolding number_on
number_digit _ d _ small few =
    let digit : is_ascii_digit (48 + d) ≡ true = grind (arith, nat_tests) in
    let own : (48 + d) - 48 ≡ d = omega arith in
    rw (digit, own, lt-ltb _ _ few) refl

abbrev ReadsAs : ℕ → List ℕ → Type 0
ReadsAs n ds = n < 2 ^ 64 → (rest : List ℕ) → number_on 0 (ds ++ rest) ≡ number_on n rest

reads_one : (n : ℕ) → n < 10 → ReadsAs n ((48 + n) ∷ [])
reads_one n small few rest = let same : 0 * 10 + n ≡ n = omega arith in
    number_digit 0 n rest small (omega arith) ∙ ap (λ m. number_on m rest) same

reads_more : (n : ℕ) (ds : List ℕ) → 10 ≤ n → ReadsAs (n / 10) ds
    → ReadsAs n (ds ++ ((48 + n % 10) ∷ []))
reads_more n ds many before few rest =
    let small : n % 10 < 10 = omega arith in
    let whole : n / 10 * 10 + n % 10 ≡ n = omega arith in
    ap (number_on 0) (append_assoc ds ((48 + n % 10) ∷ []) rest)
    ∙ before (omega arith) ((48 + n % 10) ∷ rest)
    ∙ number_digit (n / 10) _ rest small (omega (arith, whole))
    ∙ ap (λ m. number_on m rest) whole

-- ---- digit after digit

digits_over : (i : ℕ) (text : List ℕ) → i < length text
    → drop i text ≡ get_or text i 0 ∷ drop (i + 1) text
digits_over i text below = rw (add-one, drop-cons text i 0)

number_at : (value i : ℕ) (text : List ℕ) → i < length text → number_on value (drop i text)
    ≡ number_on value (get_or text i 0 ∷ drop (i + 1) text)
number_at value i _ below = ap (number_on value) (digits_over i _ below)

other_next : (value c : ℕ) (rest : List ℕ) → is_ascii_digit c ≡ false
    → number_on value (c ∷ rest) ≡ Some value
unfolding number_on
other_next _ c _ other = rw other refl

pub number_halts : (value i : ℕ) (text : List ℕ) → i < length text
    → number_on 0 text ≡ number_on value (drop i text) → is_ascii_digit (get_or text i 0) ≡ false
    → Some value ≡ number_on 0 text
number_halts value i text below before other =
    sym (before ∙ number_at value i _ below
    ∙ other_next value _ (drop (i + 1) text) other)

pub number_on-end : (value i : ℕ) (text : List ℕ) → length text ≤ i
    → number_on 0 text ≡ number_on value (drop i text) → Some value ≡ number_on 0 text
unfolding number_on
number_on-end value i text over before =
    sym (before ∙ ap (number_on value) (drop_of_length-le text {i = i} over))

by_room : (b : Bool) (n : ℕ) (rest : List ℕ) → (if b then number_on n rest else None)
    ≡ option_and_then (λ more. number_on more rest) (if b then Some n else None)
by_room true n _ = refl
by_room false n _ = refl

digit_next : (value c : ℕ) (rest : List ℕ) → is_ascii_digit c ≡ true
    → number_on value (c ∷ rest) ≡ option_and_then (λ more. number_on more rest)
    (with_digit value c)
unfolding number_on
digit_next value c rest digit = rw digit (by_room (nat_lt (value * 10 + (c - 48)) (2 ^ 64))
    (value * 10 + (c - 48)) rest)

pub number_goes : (value i more : ℕ) (text : List ℕ) (found : Option ℕ) → i < length text
    → number_on 0 text ≡ number_on value (drop i text)
    → is_ascii_digit (get_or text i 0) ≡ true → found ≡ with_digit value (get_or text i 0)
    → found ≡ Some more → number_on 0 text ≡ number_on more (drop (i + 1) text)
number_goes value i _ text _ below before digit e is =
    before ∙ number_at value i _ below ∙ digit_next value _ (drop (i + 1) text)
    digit
    ∙ ap (option_and_then (λ m. number_on m (drop (i + 1) text))) (sym e ∙ is)

pub number_over : (value i : ℕ) (text : List ℕ) (found : Option ℕ) → i < length text
    → number_on 0 text ≡ number_on value (drop i text)
    → is_ascii_digit (get_or text i 0) ≡ true → found ≡ with_digit value (get_or text i 0)
    → found ≡ None → None ≡ number_on 0 text
number_over value i text _ below before digit e is =
    sym (before ∙ number_at value i _ below
    ∙ digit_next value _ (drop (i + 1) text) digit
    ∙ ap (option_and_then (λ m. number_on m (drop (i + 1) text))) (sym e ∙ is))

number_stop : (n : ℕ) (rest : List ℕ) → StopsAt Piece.number rest → number_on n rest ≡ Some n
unfolding number_on
number_stop n [] h = refl
number_stop n (c ∷ rest) h = let non = not-true _ h in rw non refl

pub decimal_in-complete : (n : ℕ) (rest : List ℕ) → n < 2 ^ 64 → StopsAt Piece.number rest
    → decimal_in (decimal n ++ rest) ≡ Some (n, rest)
unfolding decimal_in
decimal_in-complete n rest few stop =
    let value : number_on 0 (decimal n ++ rest) ≡ Some n =
    decimal_by_steps ReadsAs reads_one reads_more n few few rest ∙ number_stop n rest stop in
    rw (value, strip-append (decimal n) rest) refl

-- ---- pieces

piece_bytes-sound : (text rest : List ℕ) → behind_bytes text ≡ Some rest → (first : List ℕ)
    × IsPiece Piece.bytes first × (text ≡ first ++ rest)
piece_bytes-sound text rest e =
    found_some (strip (codes "-") text) Some (option_map (λ r. behind_items Byte (length r) r)
    (behind_item Byte text)) rest e
    (λ r found is. (
      codes "-",
      inl refl,
      strip-some (codes "-") text r found ∙ ap (λ l. codes "-" ++ l) (same_Some r rest is),
    ))
    (λ more. map_some _ _ _ more
    (λ after found is.
    let (first, item, split) = item-sound Byte text after found in
    let (items, are, whole) = items-sound Byte (length after) after in (
      first ++ items,
      inr (length after, first, items, item, are, refl),
      split ∙ ap (λ l. first ++ l) (whole ∙ ap (λ l. items ++ l) is)
          ∙ sym (append_assoc first items rest),
    )))

piece_endpoint-sound : (text rest : List ℕ) → behind_endpoint text ≡ Some rest → (first : List ℕ)
    × IsPiece Piece.endpoint first × (text ≡ first ++ rest)
piece_endpoint-sound [] rest e = absurd (cc)
piece_endpoint-sound (h ∷ []) _ e = absurd (cc)
piece_endpoint-sound (h ∷ l ∷ text) _ e =
    if-some _ _ _ e (λ fit is.
    let a = value_of h * 16 + value_of l in
    let both = and_parts _ _ fit in
    let digits = and_parts _ _ both.0 in (
      h ∷ l ∷ [],
      (a, both.1, sym (encode_upper-pair h l digits.0 digits.1)),
      ap (λ t. h ∷ l ∷ t) (same_Some _ _ is),
    ))

-- each byte of a path's text is a digit or a dot
abbrev all_in_path : List ℕ → Bool
all_in_path [] = true
all_in_path (c ∷ text) = not (ends_path c) && all_in_path text

digit_in_path : (d : ℕ) → 48 ≤ d → d ≤ 57 → not (ends_path d) ≡ true
digit_in_path d low high = grind (arith, nat_tests)

number_in_path : (n : ℕ) (text : List ℕ) → IsPortNumber n → all_in_path text ≡ true
    → all_in_path (number_text n ++ text) ≡ true
number_in_path n _ is rest = elim (cases_lt n 10) [
  | inl below ↦ rw (
    number_text-below n below,
    digit_in_path (48 + n) (omega arith) (omega arith),
    rest,
  ) refl
  | inr from ↦ rw (
    number_text-from n from,
    digit_in_path (38 + n) (omega arith) (omega (arith, is.1)),
    rest,
  ) refl
]

text_in_path : (p : List ℕ) → All IsPortNumber p → all_in_path (path_text p) ≡ true
unfolding path_text
text_in_path [] h = refl
text_in_path (n ∷ []) h = subst (λ t. all_in_path t ≡ true) (append-nil (number_text n))
    (number_in_path n [] (All-head IsPortNumber n [] h) refl)
text_in_path (n ∷ m ∷ p) h =
    number_in_path n (46 ∷ path_text (m ∷ p)) (All-head IsPortNumber n (m ∷ p) h)
    (rw (text_in_path (m ∷ p) (All-tail IsPortNumber n (m ∷ p) h)) refl)

path_stop : (rest : List ℕ) → StopsAt Piece.path rest → position_or_len ends_path rest ≡ 0
path_stop [] stop = refl
path_stop (c ∷ rest) stop = rw stop refl

first_end : (text rest : List ℕ) → all_in_path text ≡ true → StopsAt Piece.path rest
    → position_or_len ends_path (text ++ rest) ≡ length text
first_end [] rest h stop = path_stop rest stop
first_end (c ∷ text) rest h stop =
    let both = and_parts (not (ends_path c)) (all_in_path text) h in
    let on = first_end text rest both.1 stop in
    rw (both.0, on) (omega arith)

-- it is the first other byte, or the end of the text
end_if : (few : Bool) (end all : ℕ) → nat_lt end all ≡ few → end ≤ all
    → unwrap_or (cond few (Some end) None) all ≡ end
end_if true _ _ e le = refl
end_if false end all e le = let over = ltb-false end all e in omega (arith, over, le)

path_end-is : (text : List ℕ) → path_end text ≡ position_or_len ends_path text
path_end-is text = end_if (nat_lt (position_or_len ends_path text) (length text))
    (position_or_len ends_path text) (length text) refl
    (prefix_len-le-length (λ c. not (ends_path c)) text)

pub path_end-within : (text : List ℕ) → path_end text ≤ length text
path_end-within text = subst (λ n. n ≤ length text) (sym (path_end-is text))
    (prefix_len-le-length (λ c. not (ends_path c)) text)

cut_at_end : (text rest p : List ℕ) (end : ℕ) → end ≡ length text → path_of text ≡ Some p
    → slice_index p 0 ≤ 7
    → (if is_from_root (path_of (take end (text ++ rest))) then Some (drop end (text ++ rest))
    else None) ≡ Some rest
cut_at_end text rest p _ e found root = rw (
  e,
  take-append_seam text rest,
  drop-append_seam text rest,
  found,
  le-leb (slice_index p 0) 7 root,
) refl

piece_path-complete : (text rest : List ℕ) → IsPiece Piece.path text → StopsAt Piece.path rest
    → behind_path (text ++ rest) ≡ Some rest
piece_path-complete text rest (p, is, root, e) stop =
    let inside : all_in_path text ≡ true = subst (λ t. all_in_path t ≡ true) (sym e)
    (text_in_path p is.2) in
    let end : path_end (text ++ rest) ≡ length text = path_end-is (text ++ rest)
    ∙ first_end _ _ inside stop in
    let found : path_of text ≡ Some p = ap path_of e ∙ reads_back p is in
    cut_at_end _ rest p _ end found root

path_found : (o : Option (List ℕ)) → is_from_root o ≡ true → (p : List ℕ) × (o ≡ Some p)
    × (slice_index p 0 ≤ 7)
path_found None h = absurd (cc)
path_found (Some p) h = (p, refl, leb-true _ 7 h)

piece_path-sound : (text rest : List ℕ) → behind_path text ≡ Some rest → (first : List ℕ)
    × IsPiece Piece.path first × (text ≡ first ++ rest)
piece_path-sound text _ e =
    let end = path_end text in
    let front : List ℕ = take end text in
    if-some _ _ _ e (λ fit is.
    let (p, found, root) = path_found _ fit in
    let own = some_if (Some p) front (sym found) in (
      front,
      (p, own.0, root, sym own.1),
      sym (take-append-drop end text) ∙ ap (λ l. front ++ l) (same_Some _ _ is),
    ))

-- a text that is no UTF-8 is of no path
small_in_path : (c : ℕ) → not (ends_path c) ≡ true → c < 128
small_in_path c h = grind (arith, nat_tests)

ascii_in_path : (text : List ℕ) → all_in_path text ≡ true → IsAscii text
ascii_in_path [] h = IsAscii-nil
ascii_in_path (c ∷ text) h =
    let both = and_parts (not (ends_path c)) (all_in_path text) h in
    IsAscii-cons c text (small_in_path c both.0) (ascii_in_path text both.1)

path_by : (o : Option (List ℕ)) (text : List ℕ) → o ≡ path_of text → (IsUtf8 text → ⊥)
    → is_from_root o ≡ false
path_by None _ e _ = refl
path_by (Some p) text e other =
    let own = some_if (Some p) text e in
    let inside : all_in_path text ≡ true = subst (λ t. all_in_path t ≡ true) own.1
    (text_in_path p own.0.2) in
    absurd (other (IsUtf8-from_ascii text (ascii_in_path _ inside)))

pub no_path : (text : List ℕ) → (IsUtf8 text → ⊥) → is_from_root (path_of text) ≡ false
no_path text other = path_by (path_of text) text refl other

pub piece-sound : (piece : Piece) (text rest : List ℕ) → behind_piece piece text ≡ Some rest
    → (first : List ℕ) × IsPiece piece first × (text ≡ first ++ rest)
unfolding behind_piece
piece-sound (Piece.word w) _ _ e = (w, refl, strip-some w _ _ e)
piece-sound (Piece.one_of words) _ _ e = strip_any-sound _ _ _ e
piece-sound Piece.path _ _ e = piece_path-sound _ _ e
piece-sound Piece.endpoint _ _ e = piece_endpoint-sound _ _ e
piece-sound Piece.number _ _ e =
    map_some _ _ _ e (λ n found is.
    let own = decimal_in-some _ n found in
    (decimal n.0, (n.0, own.1, refl), own.0 ∙ ap (λ l. decimal n.0 ++ l) is))
piece-sound Piece.bytes _ _ e = piece_bytes-sound _ _ e
piece-sound Piece.string text _ e =
    let (items, are, whole) = items-sound Letter (length text) text in (
      items,
      (length text, are),
      whole ∙ ap (λ l. items ++ l) (same_Some _ _ e),
    )
piece-sound Piece.name [] rest e = absurd (cc)
piece-sound Piece.name (c ∷ text) rest e = (
  c ∷ text,
  (λ none. absurd (cc)),
  sym (ap (λ l. (c ∷ text) ++ l) (sym (same_Some [] rest e)) ∙ append-nil (c ∷ text)),
)

pub dash_apart : (h : ℕ) → is_digit h ≡ true → (h == 45) ≡ false
dash_apart h digit = grind (arith, nat_tests)

no_dash : (first rest : List ℕ) → IsUnit Byte first → strip (codes "-") (first ++ rest) ≡ None
unfolding strip
no_dash _ _ (h, l, fit, e) =
    let other = dash_apart h (and_parts _ _ fit).0 in rw (e, other) refl

piece_bytes-complete : (text rest : List ℕ) → IsPiece Piece.bytes text → StopsAt Piece.bytes rest
    → behind_bytes (text ++ rest) ≡ Some rest
piece_bytes-complete text rest (inl dash) stop =
    if_found-some (strip (codes "-") (text ++ rest)) rest Some
    (option_map (λ r. behind_items Byte (length r) r) (behind_item Byte (text ++ rest)))
    (subst (λ t. strip (codes "-") (t ++ rest) ≡ Some rest) (sym dash)
    (strip-append (codes "-") rest))
piece_bytes-complete text rest (inr (n, first, more, is, are, e)) stop =
    let own : text ++ rest ≡ first ++ (more ++ rest) = ap (λ l. l ++ rest) e
    ∙ append_assoc first more rest in
    let long = length-append more rest in
    let all : behind_items Byte (length (more ++ rest)) (more ++ rest) ≡ rest =
    items-complete Byte (length more) (length (more ++ rest)) more rest (omega (arith, long))
    (items_fewer Byte n (length more) more (omega arith) are) (byte_end rest stop) in
    subst (λ t. behind_bytes t ≡ Some rest) (sym own)
    (if_found-none (strip (codes "-") (first ++ (more ++ rest))) Some
    (option_map (λ r. behind_items Byte (length r) r)
    (behind_item Byte (first ++ (more ++ rest)))) (no_dash first (more ++ rest) is)
    ∙ ap (option_map (λ r. behind_items Byte (length r) r))
    (item-complete Byte first (more ++ rest) is) ∙ ap Some all)

piece_endpoint-complete : (text rest : List ℕ) → IsPiece Piece.endpoint text
    → behind_endpoint (text ++ rest) ≡ Some rest
unfolding encode_with
piece_endpoint-complete _ rest (a, named, e) =
    let few = address_byte a named in
    let high = digit_spelled (a / 16) (omega (arith, few)) in
    let low = digit_spelled (a % 16) (omega arith) in
    let whole : a / 16 * 16 + a % 16 ≡ a = omega arith in
    ap (λ t. behind_endpoint (t ++ rest)) (e ∙ encode_step a [])
    ∙ rw (high.0, low.0, high.1, low.1, whole, named) refl

abbrev pub distinct : Piece → Bool
distinct (Piece.one_of words) = distinct_words words
distinct _ = true

pub piece-complete : (piece : Piece) (text rest : List ℕ) → distinct piece ≡ true
    → IsPiece piece text → StopsAt piece rest → behind_piece piece (text ++ rest) ≡ Some rest
unfolding behind_piece
piece-complete (Piece.word w) text rest h is stop =
    subst (λ t. strip w (t ++ rest) ≡ Some rest) (sym is) (strip-append w rest)
piece-complete (Piece.one_of words) text rest h is stop = strip_any-complete words text rest h is
piece-complete Piece.path text rest h is stop = piece_path-complete text rest is stop
piece-complete Piece.endpoint text rest h is stop = piece_endpoint-complete text rest is
piece-complete Piece.number text rest h (n, few, e) stop =
    rw (e, decimal_in-complete n rest few stop) refl
piece-complete Piece.bytes text rest h is stop = piece_bytes-complete text rest is stop
piece-complete Piece.string text rest h (n, are) stop =
    let long = length-append text rest in
    ap Some (items-complete Letter (length text) (length (text ++ rest)) text rest
    (omega (arith, long)) (items_fewer Letter n (length text) text (omega arith) are)
    (letter_end rest stop))
piece-complete Piece.name [] rest h is stop = absurd (is refl)
piece-complete Piece.name (c ∷ text) [] h is stop = refl
piece-complete Piece.name (c ∷ text) (d ∷ rest) h is stop = absurd (cc)
