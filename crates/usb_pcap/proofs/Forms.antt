-- The forms of lines: a text fits a form where it is of that form.
use Rattle.std.proofs.Common.{◌≡◌, ◌≢◌, ℕ, zero, suc, ◌+◌, ◌-◌, ◌≤◌, inl, inr, ◌&&◌, ◌||◌, Bool}
use Rattle.std.proofs.Common.{true, false, List, [], ◌∷◌, ◌++◌, length, take, drop, Option, Some}
use Rattle.std.proofs.Common.{None, refl, sym, ap, subst, ◌∙◌, arith, append_assoc, append-nil}
use Rattle.std.proofs.Common.{length-append}
use Rattle.std.proofs.Math.Bool.{or-true}
use Rattle.std.proofs.lemmas.Bool.{and_parts, eqb-true}
use Rattle.std.proofs.lemmas.List.{length-take, take-append-drop}
use Rattle.usb_pcap.specs.{IsForm, IsOneOf, IsPiece, Piece, behind_piece, fits_form, HasForm}
use Rattle.usb_pcap.specs.{IsPlug, IsReport, has_form, plug_form, report_forms, longest}
use Rattle.usb_pcap.proofs.Items.{StopsAt, distinct, halts, no_length, piece-complete, piece-sound}
use Rattle.usb_port.proofs.Interface.{length-path_text}

-- ---- a form in which each piece ends where the next one begins

abbrev first_stops : Piece → List ℕ → Bool
first_stops p [] = false
first_stops p (c ∷ w) = halts p c

abbrev all_stop : Piece → List (List ℕ) → Bool
all_stop p [] = true
all_stop p (w ∷ ws) = first_stops p w && all_stop p ws

-- a piece that ends by itself
abbrev is_free : Piece → Bool
is_free (Piece.word w) = true
is_free (Piece.one_of words) = true
is_free _ = false

abbrev stops_before : Piece → Piece → Bool
stops_before p (Piece.word w) = first_stops p w
stops_before p (Piece.one_of words) = all_stop p words
stops_before p _ = false

abbrev stopped_by : Piece → List Piece → Bool
stopped_by p [] = true
stopped_by p (q ∷ form) = is_free p || stops_before p q

abbrev has_pieces : List Piece → Bool
has_pieces [] = true
has_pieces (p ∷ form) = distinct p && stopped_by p form && has_pieces form

free_stops : (p : Piece) (rest : List ℕ) → is_free p ≡ true → StopsAt p rest
free_stops p [] h = tt
free_stops (Piece.word w) (c ∷ rest) h = refl
free_stops (Piece.one_of words) (c ∷ rest) h = refl
free_stops _ (c ∷ rest) h = absurd (cc)

word_stops : (p : Piece) (w more rest : List ℕ) → first_stops p w ≡ true → rest ≡ w ++ more
    → StopsAt p rest
word_stops p [] more rest h e = absurd (cc)
word_stops p (c ∷ w) _ _ h e = subst (StopsAt p) (sym e) h

one_stops : (p : Piece) (ws : List (List ℕ)) (first more rest : List ℕ) → all_stop p ws ≡ true
    → IsOneOf ws first → rest ≡ first ++ more → StopsAt p rest
one_stops p [] first more rest h is e = absurd is
one_stops p (w ∷ ws) _ more rest h (inl same) e =
    word_stops p w more rest (and_parts _ _ h).0 (e
    ∙ ap (λ l. l ++ more) same)
one_stops p (w ∷ ws) first more rest h (inr is) e =
    one_stops p ws first more rest (and_parts _ _ h).1 is e

next_stops : (p q : Piece) (first more rest : List ℕ) → stops_before p q ≡ true → IsPiece q first
    → rest ≡ first ++ more → StopsAt p rest
next_stops p (Piece.word w) _ more rest h is e =
    word_stops p w more rest h (e ∙ ap (λ l. l ++ more) is)
next_stops p (Piece.one_of words) _ _ _ h is e = one_stops p _ _ _ _ h is e
next_stops p _ _ _ _ h is e = absurd (cc)

or_cases : {P : Type 0} (a b : Bool) → (a || b) ≡ true → (a ≡ true → P) → (b ≡ true → P) → P
or_cases true b h k l = k refl
or_cases false b h k l = l h

ends : (p : Piece) (form : List Piece) (rest : List ℕ) → stopped_by p form ≡ true → IsForm form rest
    → StopsAt p rest
ends p [] rest h e = subst (StopsAt p) (sym e) tt
ends p (q ∷ form) rest h (first, more, is, of, e) =
    or_cases _ _ h (free_stops p rest)
    (λ stops. next_stops p q _ _ _ stops is e)

-- ---- fitting

some_fits : {P : Type 0} (o : Option (List ℕ)) (f : List ℕ → Bool)
    → elim o [ None ↦ false | Some rest ↦ f rest ] ≡ true
    → ((rest : List ℕ) → o ≡ Some rest → f rest ≡ true → P) → P
some_fits None f e k = absurd (cc)
some_fits (Some rest) f e k = k rest refl e

pub fits_form-sound : (form : List Piece) (text : List ℕ) → fits_form form text ≡ true
    → IsForm form text
unfolding fits_form
fits_form-sound [] text e = let none = eqb-true (length text) 0 e in
    no_length text (omega (arith, none))
fits_form-sound (p ∷ form) text e =
    some_fits (behind_piece p text) (fits_form form) e (λ rest found more.
    let (first, is, split) = piece-sound p text rest found in
    (first, rest, is, fits_form-sound form rest more, split))

fits_more : (p : Piece) (form : List Piece) (text rest : List ℕ) → behind_piece p text ≡ Some rest
    → fits_form (p ∷ form) text ≡ fits_form form rest
unfolding fits_form
fits_more p _ _ _ e = rw (fits_form, e) refl

fits_none : (text : List ℕ) → text ≡ [] → fits_form [] text ≡ true
unfolding fits_form
fits_none _ e = rw e refl

pub fits_form-complete : (form : List Piece) (text : List ℕ) → has_pieces form ≡ true
    → IsForm form text → fits_form form text ≡ true
fits_form-complete [] text h e = fits_none _ e
fits_form-complete (p ∷ form) _ h (first, more, is, of, e) =
    let one = and_parts _ _ h in
    let two = and_parts _ _ one.0 in
    subst (λ t. fits_form (p ∷ form) t ≡ true) (sym e)
    (fits_more p form _ _
    (piece-complete p _ _ two.0 is (ends p _ _ two.1 of))
    ∙ fits_form-complete form more one.1 of)

abbrev all_parted : List (List Piece) → Bool
all_parted [] = true
all_parted (form ∷ forms) = has_pieces form && all_parted forms

has_form-sound : (forms : List (List Piece)) (line : List ℕ) → has_form forms line ≡ true
    → HasForm forms line
has_form-sound [] line e = absurd (cc)
has_form-sound (form ∷ forms) line e = or_cases (fits_form form line) (has_form forms line) e
    (λ h. inl (fits_form-sound form line h)) (λ h. inr (has_form-sound forms line h))

has_form-complete : (forms : List (List Piece)) (line : List ℕ) → all_parted forms ≡ true
    → HasForm forms line → has_form forms line ≡ true
has_form-complete [] line h is = absurd is
has_form-complete (form ∷ forms) line h (inl is) =
    rw (fits_form-complete form line (and_parts (has_pieces form) (all_parted forms) h).0 is) refl
has_form-complete (form ∷ forms) line h (inr is) =
    rw (has_form-complete forms line (and_parts (has_pieces form) (all_parted forms) h).1 is)
    (or-true (fits_form form line))

pub is_report-sound : (line : List ℕ) → has_form report_forms line ≡ true → IsReport line
is_report-sound line e = has_form-sound report_forms line e

pub is_report-complete : (line : List ℕ) → IsReport line → has_form report_forms line ≡ true
is_report-complete line is = has_form-complete report_forms line refl is

-- ---- plugs, by their first bytes

some_more : (name tail : List ℕ) → name ≢ [] → name ++ tail ≢ []
some_more [] tail some e = some refl
some_more (c ∷ name) tail some e = absurd (cc)

-- a text that ends in a name goes on with any more
form_more : (form : List Piece) (text tail : List ℕ) → IsForm (form ++ Piece.name ∷ []) text
    → IsForm (form ++ Piece.name ∷ []) (text ++ tail)
form_more [] text tail (name, none, some, over, e) = (
  name ++ tail,
  [],
  some_more name tail some,
  refl,
  ap (λ l. l ++ tail) (e ∙ ap (λ l. name ++ l) over) ∙ simp append-nil,
)
form_more (p ∷ form) text tail (first, more, is, of, e) = (
  first,
  more ++ tail,
  is,
  form_more form more tail of,
  ap (λ l. l ++ tail) e ∙ append_assoc first more tail,
)

pub plug_taken : (front line : List ℕ) → front ≡ take longest line
    → fits_form plug_form front ≡ true → IsPlug line
plug_taken front line e fit =
    let whole : front ++ drop longest line ≡ line = ap (λ l. l ++ drop longest line) e
    ∙ take-append-drop longest line in
    subst IsPlug whole
    (form_more (take 3 plug_form) _ (drop longest line) (fits_form-sound _ _ fit))

take_past : (n : ℕ) (xs ys : List ℕ) → length xs ≤ n
    → take n (xs ++ ys) ≡ xs ++ take (n - length xs) ys
take_past n [] ys le = let same : n ≡ n - 0 = omega arith in ap (λ k. take k ys) same
take_past zero (x ∷ xs) ys le = absurd (omega arith)
take_past (suc m) (x ∷ xs) ys le =
    let same : m - length xs ≡ suc m - length (x ∷ xs) = omega arith in
    ap (λ l. x ∷ l) (take_past m xs ys (omega arith) ∙ ap (λ k. xs ++ take k ys) same)

take_some : (k : ℕ) (name : List ℕ) → 1 ≤ k → name ≢ [] → take k name ≢ []
take_some k [] some has e = has refl
take_some k (c ∷ name) some has e =
    let long = length-take k (c ∷ name) in
    let none : length (take k (c ∷ name)) ≡ 0 = ap length e in
    absurd (omega (arith, long, none))

plug_front : (line : List ℕ) → IsPlug line → IsPlug (take longest line)
plug_front line (
  a,
  after,
  is_a,
  (p, behind, is_p, (b, last, is_b, (name, none, some, over, e4), e3), e2),
  e1,
) =
    let (numbers, is, root, e) = is_p in
    let few = length-path_text numbers in
    let most = is.1 in
    let long_p : length p ≤ 20 = let n = ap length e in omega (arith, n, few, most) in
    let long_a : length a ≡ 5 = ap length is_a in
    let long_b : length b ≡ 1 = ap length is_b in
    let head : List ℕ = a ++ (p ++ b) in
    let long : length head ≡ length a + (length p + length b) = length-append a (p ++ b)
    ∙ ap (λ n. length a + n) (length-append p b) in
    let rest : List ℕ = take (longest - length head) name in
    let whole : line ≡ head ++ name =
    e1 ∙ ap (λ l. a ++ l) (e2 ∙ ap (λ l. p ++ l) (e3
    ∙ ap (λ l. b ++ l) (e4 ∙ ap (λ l. name ++ l) over ∙ append-nil name)))
    ∙ simp append_assoc in
    let cut : take longest line ≡ head ++ rest = ap (take longest) whole
    ∙ take_past longest head name (omega (arith, long, long_p, long_a, long_b)) in
    let has = take_some (longest - length head) name (omega (arith, long, long_p, long_a, long_b))
    some in
    let again : take longest line ≡ a ++ (p ++ (b ++ (rest ++ []))) = cut
    ∙ simp (append_assoc, append-nil) in
    (a, _, is_a, (p, _, is_p, (b, _, is_b, (rest, [], has, refl, refl), refl), refl), again)

pub no_plug : (front line : List ℕ) → front ≡ take longest line → fits_form plug_form front ≡ false
    → IsPlug line → ⊥
no_plug front line e non is =
    let fit = fits_form-complete plug_form front refl (subst IsPlug (sym e) (plug_front line is)) in
    absurd (cc)
