-- Names as a run shows them: how they go on, byte after byte.
use Rattle.std.proofs.Common.{◌≡◌, ◌≢◌, ◌⊎◌, inl, inr, ℕ, zero, suc, ◌+◌, ◌*◌, ◌/◌, ◌%◌, ◌<◌}
use Rattle.std.proofs.Common.{◌≤◌, ◌==◌, ◌&&◌, ◌||◌, Bool, true, false, List, [], ◌∷◌, ◌++◌, length}
use Rattle.std.proofs.Common.{All, Decides, flat_map, encode_utf8, refl, sym, ap, ap₂, subst, ◌∙◌}
use Rattle.std.proofs.Common.{arith, append_assoc, append-nil, codes, length-append, slice_index}
use Rattle.std.proofs.Common.{IsAscii, IsUtf8, Option, Some, None, not}
use Rattle.std.proofs.lemmas.Bool.{and_parts, cases_lt, eqb-true, not-true}
use Rattle.std.proofs.lemmas.Bool.Decides.{nat_tests}
use Rattle.std.proofs.lemmas.List.{nil_from_length}
use Rattle.std.proofs.lemmas.List.Concat.{flat_map-append}
use Rattle.std.proofs.lemmas.List.Elements.{All-head, All-nil, All-push}
use Rattle.std.proofs.lemmas.List.Elements.{All-tail}
use Rattle.std.proofs.lemmas.Str.{encodes-IsAscii}
use Rattle.std.proofs.lemmas.Str.{IsUtf8-encode, char_from_byte, cons_from_encodes, length-encode}
use Rattle.std.specs.Char.{IsScalar, len_utf8}
use Rattle.usb_watch.specs.{escaped, is_escaped, shown_char}
use Rattle.usb_pcap.specs.{Begins, IsPlainChar, IsShownChar, IsShownText, is_escape_of}
use Rattle.usb_pcap.specs.{is_escaped_pair, pair_value}
use Rattle.hex.specs.Hex.{encode_upper, encode_with, upper_digits}
use Rattle.std.proofs.lemmas.Option.{same_Some}
use Rattle.usb_pcap.proofs.Reading.{digit_spelled, digit_there, encode_step, encode_upper-pair}
use Rattle.usb_pcap.proofs.Reading.{if-some}
use lib.Utf8.{low_scalar, scalar, scalars}

-- ---- one character

-- it is itself, or its number
by_escape : {P : Type 0} (c : ℕ) (text : List ℕ) → text ≡ shown_char c
    → (is_escaped c ≡ true → text ≡ escaped c → P)
    → (is_escaped c ≡ false → text ≡ encode_utf8 c → P) → P
by_escape {P} c _ is marked plain = go (is_escaped c) refl
  where
    go : (b : Bool) → is_escaped c ≡ b → P
    go true e = marked e (is ∙ rw e refl)
    go false e = plain e (is ∙ rw e refl)

shown_marked : (c : ℕ) → is_escaped c ≡ true → shown_char c ≡ escaped c
shown_marked c e = rw e refl

shown_plain : (c : ℕ) → is_escaped c ≡ false → shown_char c ≡ encode_utf8 c
shown_plain c e = rw e refl

few_bytes : (c : ℕ) → (1 ≤ len_utf8 c) × (len_utf8 c ≤ 4)
few_bytes c = grind (arith, nat_tests)

escaped_length : (c : ℕ) → length (escaped c) ≡ 6
unfolding encode_with
escaped_length c = refl

shown_length : (text : List ℕ) → IsShownChar text → (1 ≤ length text) × (length text ≤ 6)
shown_length _ (c, scalar, is) = by_escape c _ is
    (λ marked e. let six = escaped_length c in rw e (omega (arith, six), omega (arith, six)))
    (λ plain e. let few = few_bytes c in let all = length-encode c in rw e (
      omega (arith, few.0, all),
      omega (arith, few.1, all),
    ))

cons_alone : (d c : ℕ) (es : List ℕ) → d ∷ [] ≡ c ∷ es → es ≡ []
cons_alone d c es e = cc

backslash : (d : ℕ) → is_escaped d ≡ false → d ≡ 92 → ⊥
backslash d plain e =
    let bad : is_escaped 92 ≡ false = subst (λ x. is_escaped x ≡ false) e plain in cc

-- none begins another one
shown_alone : (p q text : List ℕ) → IsShownChar p → IsShownChar text → text ≡ p ++ q → q ≡ []
shown_alone p q text (c, cs, cis) (d, ds, dis) split =
    by_escape c p cis
    (λ cm ce. by_escape d _ dis
    (λ dm de. let whole : escaped d ≡ escaped c ++ q = sym de ∙ split ∙ ap (λ l. l ++ q) ce in
    let long : length (escaped d) ≡ length (escaped c) + length q =
    ap length whole ∙ length-append (escaped c) q in
    nil_from_length q (omega (arith, long, escaped_length c, escaped_length d)))
    (λ dp de. absurd (backslash d dp (char_from_byte text [] d (de
    ∙ sym (append-nil (encode_utf8 d)))
    (rw (split, ce) (omega arith)) (rw (split, ce) (omega arith))
    ∙ rw (split, ce) refl))))
    (λ cp ce. by_escape d _ dis
    (λ dm de. absurd (backslash c cp (char_from_byte text q c (split ∙ ap (λ l. l ++ q) ce)
    (rw de (omega arith)) (rw de (omega arith)) ∙ rw de refl)))
    (λ dp de. let whole : encode_utf8 d ++ [] ≡ encode_utf8 c ++ q =
    append-nil (encode_utf8 d) ∙ sym de ∙ split ∙ ap (λ l. l ++ q) ce in
    let (es, one, rest) = cons_from_encodes (d ∷ []) q c whole in
    sym rest ∙ rw (cons_alone d c es one) refl))

-- ---- texts of them

-- of two fronts of a list the longer one begins with the other one
front_split : {X : Type 0} (a b c d : List X) → a ++ b ≡ c ++ d → length a ≤ length c
    → (m : List X) × (c ≡ a ++ m) × (b ≡ m ++ d)
front_split [] b c d e le = (c, refl, e)
front_split (x ∷ a) b [] d e le = absurd (omega arith)
front_split (x ∷ a) b (y ∷ c) d e le =
    let same : x ≡ y = cc in
    let rest : a ++ b ≡ c ++ d = cc in
    let (m, is, more) = front_split a b c d rest (omega arith) in
    (m, ap₂ (λ h l. h ∷ l) (sym same) is, more)

-- two texts of which each begins with a character begin with the same one
same_first : (u v x y : List ℕ) → IsShownChar u → IsShownChar v → u ++ x ≡ v ++ y
    → (u ≡ v) × (x ≡ y)
same_first u v x y us vs e = elim (cases_lt (length v) (length u)) [
  | inl less ↦
      let (m, is, more) = front_split v y u x (sym e) (omega arith) in
      let none = shown_alone v m u vs us is in
      (is ∙ ap (λ l. v ++ l) none ∙ append-nil v, sym (more ∙ ap (λ l. l ++ x) none))
  | inr most ↦
      let (m, is, more) = front_split u x v y e most in
      let none = shown_alone u m v us vs is in
      (sym (is ∙ ap (λ l. u ++ l) none ∙ append-nil u), more ∙ ap (λ l. l ++ y) none)
]

-- what stands behind characters that a text begins with is a text of them too
shown_behind : (ls ms rest : List ℕ) → All IsScalar ls → All IsScalar ms
    → flat_map shown_char ms ≡ flat_map shown_char ls ++ rest → IsShownText rest
shown_behind [] ms rest las mas e = (ms, mas, sym e)
shown_behind (l ∷ ls) [] rest las mas e =
    let some = shown_length _ (l, All-head IsScalar l ls las, refl) in
    let all : 0 ≡ length (shown_char l) + length (flat_map shown_char ls ++ rest) =
    ap length (e ∙ append_assoc (shown_char l) (flat_map shown_char ls) rest)
    ∙ length-append (shown_char l) (flat_map shown_char ls ++ rest) in
    absurd (omega (arith, some.0, all))
shown_behind (l ∷ ls) (m ∷ ms) rest las mas e =
    let (first, more) = same_first _ _ _
    _ (m, All-head IsScalar m ms mas, refl)
    (l, All-head IsScalar l ls las, refl)
    (e ∙ append_assoc (shown_char l) (flat_map shown_char ls) rest) in
    shown_behind ls ms rest (All-tail IsScalar l ls las) (All-tail IsScalar m ms mas) more

-- ---- a line, byte after byte

pub begins_none : Begins [] []
begins_none = record {
  letters = [];
  more = [];
  scalar = All-nil IsScalar;
  split = refl;
  none = λ first rest is e. let some = shown_length _ is in
      let all : 0 ≡ length first + length rest = ap length e ∙ length-append first rest in
      absurd (omega (arith, some.0, all));
  stuck = inl refl;
}

pub is_stuck : (begun : List ℕ) → (length begun == 6) ≡ true → length begun ≡ 6
is_stuck _ e = eqb-true _ 6 e

pub has_room : (begun : List ℕ) → (length begun == 6) ≡ false → length begun ≤ 6 → length begun < 6
has_room _ e fits = grind (arith, nat_tests)

-- behind six bytes that are none it goes on in any way
pub begins_stuck : (line begun : List ℕ) (b : ℕ) → length begun ≡ 6 → Begins line begun
    → Begins (line ++ b ∷ []) begun
begins_stuck _ begun b full h = record {
  letters = h.letters;
  more = h.more ++ b ∷ [];
  scalar = h.scalar;
  split = ap (λ l. l ++ b ∷ []) h.split
      ∙ append_assoc (flat_map shown_char h.letters) (begun ++ h.more) (b ∷ [])
      ∙ ap (λ l. flat_map shown_char h.letters ++ l) (append_assoc begun h.more (b ∷ []));
  none = h.none;
  stuck = inr full;
}

no_more : (begun more : List ℕ) → (more ≡ []) ⊎ (length begun ≡ 6) → length begun < 6 → more ≡ []
no_more _ _ (inl none) _ = none
no_more _ _ (inr full) room = absurd (omega (arith, full, room))

-- the line ends with what has begun
line_on : (line begun : List ℕ) (b : ℕ) (h : Begins line begun) → length begun < 6
    → line ++ b ∷ [] ≡ flat_map shown_char h.letters ++ (begun ++ b ∷ [])
line_on line begun b h room =
    let none = no_more _ _ h.stuck room in
    let short : line ≡ flat_map shown_char h.letters ++ begun =
    h.split ∙ ap (λ l. flat_map shown_char h.letters ++ l) (ap (λ l. begun ++ l) none
    ∙ append-nil begun) in
    ap (λ l. l ++ b ∷ []) short ∙ append_assoc (flat_map shown_char h.letters) begun (b ∷ [])

-- a character has ended
pub begins_anew : (line begun : List ℕ) (b : ℕ) → length begun < 6 → IsShownChar (begun ++ b ∷ [])
    → Begins line begun → Begins (line ++ b ∷ []) []
begins_anew line _ b room (c, scalar, is) h = record {
  letters = h.letters ++ c ∷ [];
  more = [];
  scalar = All-push IsScalar h.letters c h.scalar scalar;
  split = line_on line _ b h room ∙ ap (λ l. flat_map shown_char h.letters ++ l)
      (is ∙ sym (append-nil (shown_char c)))
      ∙ sym (flat_map-append shown_char h.letters (c ∷ []))
      ∙ sym (append-nil (flat_map shown_char (h.letters ++ c ∷ [])));
  none = begins_none.none;
  stuck = inl refl;
}

-- a byte more of one
pub begins_more : (line begun : List ℕ) (b : ℕ) → length begun < 6
    → (IsShownChar (begun ++ b ∷ []) → ⊥) → Begins line begun
    → Begins (line ++ b ∷ []) (begun ++ b ∷ [])
begins_more line begun b room other h = record {
  letters = h.letters;
  more = [];
  scalar = h.scalar;
  split = line_on line _ b h room
      ∙ ap (λ l. flat_map shown_char h.letters ++ l) (sym (append-nil (begun ++ b ∷ [])));
  none = λ first rest is e. elim (cases_lt (length begun) (length first)) [
    | inl longer ↦
        let all : length begun + 1 ≡ length first + length rest =
        sym (length-append begun (b ∷ [])) ∙ ap length e ∙ length-append first rest in
        let end : rest ≡ [] = nil_from_length rest (omega (arith, all, longer)) in
        other (subst IsShownChar (sym (e ∙ ap (λ l. first ++ l) end ∙ append-nil first)) is)
    | inr most ↦
        let (m, split, more) = front_split _ _ _ _ (sym e) most in
        h.none first m is split
  ];
  stuck = inl refl;
}

-- ---- the end of a line

pub shown_whole : (line begun : List ℕ) → begun ≡ [] → Begins line begun → IsShownText line
shown_whole _ _ empty h =
    let none = no_more _ _ h.stuck (rw empty (omega arith)) in
    (h.letters, h.scalar, h.split ∙ rw (none, empty) (append-nil (flat_map shown_char h.letters)))

first_begun : (begun more first rest : List ℕ) → begun ≢ [] → (more ≡ []) ⊎ (length begun ≡ 6)
    → begun ++ more ≡ first ++ rest → IsShownChar first
    → ((first rest : List ℕ) → IsShownChar first → begun ≢ first ++ rest) → ⊥
first_begun begun _ first rest some stuck e is none =
    let few = shown_length _ is in
    elim stuck [
      | inl end ↦ none first rest is (sym (append-nil begun) ∙ ap (λ l. begun ++ l) (sym end) ∙ e)
      | inr full ↦
          let (m, split, behind) = front_split _ _ _ _ (sym e)
          (omega (arith, full, few.1)) in
          none first m is split
    ]

pub not_whole : (line begun : List ℕ) → begun ≢ [] → Begins line begun → IsShownText line → ⊥
not_whole _ begun some h (ms, mas, is) =
    let (ns, nas, e) = shown_behind _ ms _ h.scalar mas
    (sym is ∙ h.split) in
    go ns nas e
  where
    go : (ns : List ℕ) → All IsScalar ns → begun ++ h.more ≡ flat_map shown_char ns → ⊥
    go [] nas e = let all : length begun + length h.more ≡ 0 =
        sym (length-append begun h.more) ∙ ap length e in
        some (nil_from_length begun (omega (arith, all)))
    go (n ∷ ns) nas e = first_begun _ _ _ _ some
        h.stuck e (n, All-head IsScalar n ns nas, refl) h.none

pub shown_decided : (line begun : List ℕ) (shown : Bool) → shown ≡ (length begun == 0)
    → Begins line begun → Decides shown (IsShownText line)
shown_decided line [] shown is h = (λ _. shown_whole line [] refl h, λ _. is)
shown_decided _ (b ∷ begun) _ is h = (
  λ e. let none = eqb-true _ 0 (sym is ∙ e) in absurd (omega (arith, none)),
  λ text. absurd (not_whole _ _ (λ none. let long : length (b ∷ begun) ≡ 0 =
      ap length none in omega (arith, long)) h text),
)

-- ---- the digits of a character

escaped_fits : (c : ℕ) → is_escaped c ≡ true → c < 0x3000
escaped_fits c e = grind (arith, nat_tests)

-- two digits are those of their number
pair_of_digits : (h l n : ℕ) → pair_value h l ≡ Some n
    → (encode_upper (n ∷ []) ≡ h ∷ l ∷ []) × (n < 256)
pair_of_digits h l n e =
    if-some _ _ _ e
    (λ fit is. let both = and_parts _ _ fit in
    let same = same_Some _ n is in
    let high = digit_there h both.0 in
    let low = digit_there l both.1 in
    let few = high.1 in
    let less = low.1 in (
      subst (λ m. encode_upper (m ∷ []) ≡ h ∷ l ∷ []) same (encode_upper-pair h l both.0 both.1),
      omega (arith, few, less, same),
    ))

nothing_more : (h l : ℕ) → h ∷ l ∷ encode_upper [] ≡ h ∷ l ∷ []
unfolding encode_with
nothing_more h l = refl

pair_there : (n : ℕ) → n < 256 → (h : ℕ) × (l : ℕ) × (encode_upper (n ∷ []) ≡ h ∷ l ∷ [])
    × (pair_value h l ≡ Some n)
pair_there n few =
    let a = digit_spelled (n / 16) (omega (arith, few)) in
    let b = digit_spelled (n % 16) (omega arith) in
    let h = slice_index upper_digits (n / 16) in
    let l = slice_index upper_digits (n % 16) in
    let whole : n / 16 * 16 + n % 16 ≡ n = omega arith in (
      h,
      l,
      encode_step n [] ∙ nothing_more h l,
      rw (a.0, b.0, a.1, b.1, whole) refl,
    )

escaped_pair_some : (high low : Option ℕ) → is_escaped_pair high low ≡ true
    → (h : ℕ) × (l : ℕ) × (high ≡ Some h) × (low ≡ Some l) × (is_escaped (h * 256 + l) ≡ true)
escaped_pair_some (Some h) (Some l) e = (h, l, refl, refl, e)
escaped_pair_some (Some h) None e = absurd (cc)
escaped_pair_some None _ e = absurd (cc)

escape_sound : (text : List ℕ) → is_escape_of text ≡ true → IsShownChar text
unfolding is_escape_of
escape_sound (s ∷ u ∷ a ∷ b ∷ c ∷ d ∷ []) e =
    let two = and_parts _ _ e
    in
    let one = and_parts _ _ two.0 in
    let slash = eqb-true s 92 one.0 in
    let letter = eqb-true u _ one.1 in
    let (h, l, high, low, marked) = escaped_pair_some _ _ two.1 in
    let first = pair_of_digits a b h high in
    let second = pair_of_digits c d l low in
    let few = second.1 in
    let n = h * 256 + l in
    let top : n / 256 ≡ h = omega (arith, few) in
    let end : n % 256 ≡ l = omega (arith, few) in
    let spelled : escaped n ≡ 92 ∷ 117 ∷ a ∷ b ∷ c ∷ d ∷ [] =
    ap₂ (λ x y. codes "\\u" ++ encode_upper (x ∷ []) ++ encode_upper (y ∷ [])) top end
    ∙ ap₂ (λ x y. codes "\\u" ++ x ++ y) first.0 second.0 in
    let small = escaped_fits n marked in
    let same : s ∷ u ∷ a ∷ b ∷ c ∷ d ∷ [] ≡ 92 ∷ 117 ∷ a ∷ b ∷ c ∷ d ∷ [] =
    ap₂ (λ x y. x ∷ y ∷ a ∷ b ∷ c ∷ d ∷ []) slash letter in
    (n, low_scalar n (omega (arith, small)), same ∙ sym spelled ∙ sym (shown_marked n marked))
escape_sound _ e = absurd (cc)

escape_fits : (a b c d h l : ℕ) → pair_value a b ≡ Some h → pair_value c d ≡ Some l
    → is_escaped (h * 256 + l) ≡ true → is_escape_of (92 ∷ 117 ∷ a ∷ b ∷ c ∷ d ∷ []) ≡ true
unfolding is_escape_of
escape_fits a b c d h l high low marked =
    ap₂ (λ x y. is_escaped_pair x y) high low ∙ marked

escape_complete : (c : ℕ) → is_escaped c ≡ true → is_escape_of (escaped c) ≡ true
escape_complete c e =
    let small = escaped_fits c e in
    let (a, b, first, high) = pair_there (c / 256) (omega (arith, small)) in
    let (d, f, second, low) = pair_there (c % 256) (omega arith) in
    let whole : c / 256 * 256 + c % 256 ≡ c = omega arith in
    let spelled : escaped c ≡ 92 ∷ 117 ∷ a ∷ b ∷ d ∷ f ∷ [] =
    ap₂ (λ x y. codes "\\u" ++ x ++ y) first second in
    ap is_escape_of spelled ∙ escape_fits a b d f _ _ high low
    (subst (λ n. is_escaped n ≡ true) (sym whole) e)

pub shown_char_decides : (text : List ℕ) (plain escape : Bool) → Decides plain (IsPlainChar text)
    → escape ≡ is_escape_of text → Decides (plain || escape) (IsShownChar text)
shown_char_decides _ true _ (of, to) is = (
  λ _. let (c, scalar, plain, e) = of refl in
      (c, scalar, e ∙ sym (shown_plain c plain)),
  λ _. refl,
)
shown_char_decides _ false _ (of, to) is = (
  λ e. escape_sound _ (sym is ∙ e),
  λ shown. let (c, scalar, e) = shown in by_escape c _ e
      (λ marked same. is ∙ ap is_escape_of same ∙ escape_complete c marked)
      (λ plain same. let bad = to (c, scalar, plain, same) in cc),
)

-- ---- one character in UTF-8

-- what a text of one character is read as
one_char : (d c : ℕ) → encode_utf8 d ≡ encode_utf8 c → d ≡ c
one_char d c e =
    let (es, one, rest) = cons_from_encodes (d ∷ []) [] c (append-nil (encode_utf8 d) ∙ e
    ∙ sym (append-nil (encode_utf8 c))) in
    cons_heads d c es one
  where
    cons_heads : (d c : ℕ) (es : List ℕ) → d ∷ [] ≡ c ∷ es → d ≡ c
    cons_heads d c es same = cc

one_scalar : (text : List ℕ) (c : ℕ) → IsUtf8 text → text ≡ encode_utf8 c → IsScalar c
one_scalar _ c (cs, (are, spell)) e =
    let (es, one, rest) = cons_from_encodes cs [] c (spell ∙ e ∙ sym (append-nil (encode_utf8 c)))
    in
    (and_parts _ _ (subst (λ (l : List ℕ). scalars l ≡ true) one are)).0

pub plain_decides : (text : List ℕ) (c : ℕ) (marked : Bool) → IsUtf8 text → text ≡ encode_utf8 c
    → marked ≡ is_escaped c → Decides (not marked) (IsPlainChar text)
plain_decides _ c _ utf is same = (
  λ e. (c, one_scalar _ c utf is, sym same ∙ not-true _ e, is),
  λ plain. let (d, scalar, free, spelled) = plain in
      let one = one_char d c (sym spelled ∙ is) in
      ap not (same ∙ ap is_escaped (sym one) ∙ free),
)

pub no_text : (text : List ℕ) → (IsUtf8 text → ⊥) → IsPlainChar text → ⊥
no_text _ none (c, scalar, free, is) =
    none (subst IsUtf8 (sym is) (IsUtf8-encode c scalar))

one_ascii : (b : ℕ) → b < 128 → IsAscii (b ∷ [])
one_ascii b few zero = few
one_ascii b few (suc i) = omega arith

pub begins_plain : (line begun : List ℕ) (b : ℕ) → (length begun == 0) ≡ true → b < 128
    → is_escaped b ≡ false → Begins line begun → Begins (line ++ b ∷ []) begun
begins_plain line [] b none few free h =
    let alone : encode_utf8 b ≡ b ∷ [] = sym (append-nil (encode_utf8 b))
    ∙ encodes-IsAscii (b ∷ []) (one_ascii b few) in
    begins_anew line [] b (omega arith)
    (b, low_scalar b (omega (arith, few)), sym alone ∙ sym (shown_plain b free)) h
begins_plain _ (x ∷ begun) b none few free h =
    let empty = eqb-true _ 0 none in absurd (omega (arith, empty))
