-- Questions and their lines, both ways.
use Rattle.std.proofs.Common.{◌≡◌, ◌≢◌, ℕ, zero, suc, ◌+◌, ◌<◌, ◌≤◌, Bool, true}
use Rattle.std.proofs.Common.{false, ◌==◌, nat_lt, if◌then◌else◌, List, [], ◌∷◌, ◌++◌, length}
use Rattle.std.proofs.Common.{get_or, IfSome, Option, Some, None, option_map, Result, Ok, Err, refl}
use Rattle.std.proofs.Common.{sym, subst, ap, ◌∙◌, arith, append_assoc, codes, decimal}
use Rattle.std.proofs.Common.{length-append, lit≤, Bor}
use Rattle.std.specs.Result.{result_ok}
use Rattle.std.specs.Char.{is_ascii_digit}
use Rattle.std.specs.Str.{all_ascii_digits, bytes_eq}
use Rattle.std.proofs.lemmas.Bool.{and_parts, eq-eqb, eqb-true, le-ltb}
use Rattle.std.proofs.lemmas.Bool.Decides.{nat_tests}
use Rattle.std.proofs.lemmas.List.Folds.{list_all-append}
use Rattle.std.proofs.lemmas.Option.{same_Some}
use Rattle.std.proofs.lemmas.Str.Pattern.{IsSplitOnceResult, split_parts}
use Rattle.hex.specs.Hex.{IsBytes}
use Rattle.usb_packet.specs.{TokenKind, OutTok, InTok, SetupTok, Toggle, Zero, One, data_name}
use Rattle.usb_packet.specs.{hex_text, token_name, Speed, Full, Low, LowBelowHub}
use Rattle.usb_packet.proofs.SpellingLemmas.{IsBytes-none}
use Rattle.usb_port.specs.{PortCall, SetPower, SetReset, ClearEnable, ClearPower}
use Rattle.usb_port.specs.{ClearConnectionChange, ClearEnableChange, ClearResetChange}
use Rattle.usb_request.specs.{Setup as SetupData, bytes_of}
use Rattle.usb_request.proofs.Interface.{length-bytes_of}
use Rattle.usb_wire.specs.{WireFault, LineTooLong, BadCharacter, Endpoint, Question}
use Rattle.usb_wire.specs.{hex_value, after_pre, asked_in, behind_pre_word}
use Rattle.usb_wire.specs.{call_in, cut_at, data_behind, endpoint_in, in_question, out_question}
use Rattle.usb_wire.specs.{port_question, question_of, setup_by, setup_in, setup_question}
use Rattle.usb_wire.specs.{toggle_named, token_behind, token_of_words, IsEndpoint, IsQuestion}
use Rattle.usb_wire.specs.{IsQuestionLine, IsSetupData, call_text, data_with, between_text}
use Rattle.usb_wire.specs.{question_bytes, question_line, question_in_digits, speed_text}
use Rattle.usb_wire.specs.{token_text, bytes_of_word, number_of_word, text_of_line, all_printable}
use Rattle.usb_wire.specs.{direction_in, direction_text, restart_question}
use Rattle.usb_wire.specs.{IsMost, ins_question, ins_text, outs_question, outs_text, row_limit}
use Rattle.usb_wire.specs.{row_or, some_bytes}
use Rattle.usb_wire.specs.declared.question.Question.TheVariants.{Hello, Setup, Out, In, Port}
use Rattle.usb_wire.specs.declared.question.Question.TheVariants.{Ins, Outs, Restart, Wait}
use Rattle.usb_wire.specs.QuestionReading.{◌>>=◌}
use Rattle.usb_wire.proofs.FieldLemmas.{Ok-from_result_ok as ok_read, all_digits-decimal}
use Rattle.usb_wire.proofs.FieldLemmas.{all_visible-decimal, hex_value-hex_text}
use Rattle.usb_wire.proofs.ReadLaws.{IsVisibleWord, bytes_word, decimal-is_word, read_bytes}
use Rattle.usb_wire.proofs.ReadLaws.{read_number}
use Rattle.usb_wire.proofs.SaidLaws.{IsDataWord, bytes_of_word-data}
use Rattle.usb_wire.proofs.SaidLaws.{number_of_word-ok as number_read, same_Ok, word_is}
use Rattle.usb_wire.proofs.SetupLemmas.{IsBytes-bytes_of}
use Rattle.usb_wire.proofs.SetupLemmas.{setup_in_bytes-bytes_of, setup_in_bytes-some}
use Rattle.usb_wire.proofs.WordLemmas.{HasNoSpace-visible, all_printable-append}
use Rattle.usb_wire.proofs.WordLemmas.{all_printable-visible, all_visible, is_visible}

-- ---- cuts

-- the mark is not in the text
abbrev HasNo : ℕ → List ℕ → Type 0
HasNo mark text = (i : ℕ) → i < length text → get_or text i 0 ≢ mark

other_unit : (mark c : ℕ) → c ≢ mark → (c == mark) ≡ false
other_unit mark c other = grind (arith, nat_tests)

cut_at-none : (mark : ℕ) (text : List ℕ) → HasNo mark text → cut_at mark text ≡ None
unfolding cut_at
cut_at-none mark [] h = refl
cut_at-none mark (c ∷ text) h =
    rw (
      other_unit mark c (h 0 (omega arith)),
      cut_at-none mark text (λ i less. h (suc i) (omega arith)),
    ) refl

cut_at-mark : (mark : ℕ) (text rest : List ℕ) → HasNo mark text → cut_at mark (text ++ mark ∷ rest)
    ≡ Some (text, rest)
unfolding cut_at
cut_at-mark mark [] rest h = rw (eq-eqb mark mark refl) refl
cut_at-mark mark (c ∷ text) rest h =
    rw (
      other_unit mark c (h 0 (omega arith)),
      cut_at-mark mark text rest (λ i less. h (suc i) (omega arith)),
    ) refl

-- what `split_once` gives
pub cut_at-split_once : (mark : ℕ) (text : List ℕ) (r : Option (Bor (List ℕ) × Bor (List ℕ)))
    → mark < 128 → IsSplitOnceResult mark text r
    → cut_at mark text ≡ option_map (λ cut. (cut.0.now, cut.1.now)) r
cut_at-split_once mark text None small h =
    cut_at-none mark text (split_parts mark text None h small)
cut_at-split_once mark text (Some cut) small h =
    let parts = split_parts mark text (Some cut) h small in
    ap (cut_at mark) parts.0 ∙ cut_at-mark mark cut.0.now cut.1.now parts.1

cut_step : (mark c : ℕ) (b : Bool) (text : List ℕ) (o : Option (List ℕ × List ℕ)) (r : List ℕ
    × List ℕ) → (c == mark) ≡ b → ((s : List ℕ × List ℕ) → o ≡ Some s → text ≡ s.0 ++ mark ∷ s.1)
    → (if b then Some ([], text) else option_map (λ cut. (c ∷ cut.0, cut.1)) o) ≡ Some r
    → c ∷ text ≡ r.0 ++ mark ∷ r.1
cut_step mark c true text o r same h e =
    let is = same_Some ([], text) r e in
    subst (λ (r : List ℕ × List ℕ). c ∷ text ≡ r.0 ++ mark ∷ r.1) is
    (ap (λ x. x ∷ text) (eqb-true c mark same))
cut_step mark c false text None r other h e = absurd (cc)
cut_step mark c false text (Some s) r other h e =
    let is = same_Some (c ∷ s.0, s.1) r e in
    subst (λ (r : List ℕ × List ℕ). c ∷ text ≡ r.0 ++ mark ∷ r.1) is (ap (λ t. c ∷ t) (h s refl))

cut_at-some : (mark : ℕ) (text : List ℕ) (r : List ℕ × List ℕ) → cut_at mark text ≡ Some r
    → text ≡ r.0 ++ mark ∷ r.1
unfolding cut_at
cut_at-some mark [] r e = absurd (cc)
cut_at-some mark (c ∷ text) r e = cut_step mark c (c == mark) text (cut_at mark text) r refl
    (λ s found. cut_at-some mark text s found) e

-- ---- what was read, step by step

bind_some : {A B P : Type 0} (o : Option A) (f : A → Option B) (y : B) → (o >>= f) ≡ Some y
    → ((x : A) → o ≡ Some x → f x ≡ Some y → P) → P
bind_some (Some x) f y e k = k x refl e
bind_some None f y e k = absurd (cc)

if_some_cases : {A P : Type 0} (b : Bool) (o p : Option A) (y : A) → (if b then o else p) ≡ Some y
    → (b ≡ true → o ≡ Some y → P) → (p ≡ Some y → P) → P
if_some_cases true o p y e k l = k refl e
if_some_cases false o p y e k l = l e

none_not_some : {A P : Type 0} (y : A) → ◌≡◌ {A = Option A} None (Some y) → P
none_not_some y e = absurd (cc)

-- the word is the name, or another
by_word : {A : Type 0} (P : List ℕ → Type 0) (word name : List ℕ) (r s : Option A) (y : A)
    → (if bytes_eq word name then r else s) ≡ Some y → (r ≡ Some y → P name)
    → (s ≡ Some y → P word) → P word
by_word P word name r s y e k l = if_some_cases (bytes_eq word name) r s y e
    (λ same e. subst P (sym (word_is word name same)) (k e)) l

-- ---- endpoints

-- an endpoint's text
abbrev endpoint_text : Endpoint → List ℕ
endpoint_text e = decimal e.address ++ 46 ∷ decimal e.number

record IsDevice (word : List ℕ) (e : Endpoint) : Type 0 where
  fits : IsEndpoint e
  text : word ≡ endpoint_text e

endpoint_in-device : (word : List ℕ) (e : Endpoint) → endpoint_in word ≡ Some e → IsDevice word e
unfolding endpoint_in
endpoint_in-device word e h =
    bind_some (cut_at 46 word) _ e h (λ cut found h.
    bind_some (result_ok (number_of_word 0 127 cut.0)) _ e h (λ a first h.
    bind_some (result_ok (number_of_word 0 15 cut.1)) _ e h (λ n second h.
    let one = number_read 0 127 cut.0 a (omega arith)
    (ok_read (number_of_word 0 127 cut.0) a first) in
    let two = number_read 0 15 cut.1 n (omega arith)
    (ok_read (number_of_word 0 15 cut.1) n second) in
    let f : ℕ → ℕ → Endpoint = λ a n. record { address = a; number = n } in
    subst (IsDevice word) (same_Some (f a n) e h) (record {
      fits = (omega (arith, one.high), omega (arith, two.high));
      text = cut_at-some 46 word cut found ∙ ap (λ t. t ++ 46 ∷ cut.1) one.text
          ∙ ap (λ t. decimal a ++ 46 ∷ t) two.text;
    }))))

digit_dot : (c : ℕ) → is_ascii_digit c ≡ true → c ≢ 46
digit_dot c h e = absurd (grind (arith, nat_tests))

no_dot : (word : List ℕ) → all_ascii_digits word ≡ true → HasNo 46 word
no_dot [] h i less = absurd (omega arith)
no_dot (c ∷ word) h zero less = digit_dot c (and_parts (is_ascii_digit c) (all_ascii_digits word)
    h).0
no_dot (c ∷ word) h (suc i) less = no_dot word (and_parts (is_ascii_digit c) (all_ascii_digits word)
    h).1 i (omega arith)

endpoint_read : (e : Endpoint) → IsEndpoint e → endpoint_in (endpoint_text e) ≡ Some e
unfolding endpoint_in
endpoint_read e h =
    rw (
      cut_at-mark 46 (decimal e.address) (decimal e.number)
          (no_dot (decimal e.address) (all_digits-decimal e.address (omega (arith, h.0)))),
      read_number 0 127 e.address (omega arith) (omega (arith, h.0)) (omega (arith, h.0)),
      read_number 0 15 e.number (omega arith) (omega (arith, h.1)) (omega (arith, h.1)),
    ) refl

-- ---- what a line asks

record IsAsked (line : List ℕ) (q : Question) : Type 0 where
  fits : IsQuestion q
  asks : IsQuestionLine line q

asked_same_line : (line other : List ℕ) (q : Question) → line ≡ other → IsAsked other q
    → IsAsked line q
asked_same_line line other q e h = subst (λ t. IsAsked t q) (sym e) h

asked_with : (line digits : List ℕ) (q : Question) → IsQuestion q
    → hex_value digits ≡ Some (question_bytes q) → line ≡ question_in_digits digits q
    → IsAsked line q
asked_with line digits q fits spelled written =
    record { fits = fits; asks = record { digits = digits; spelled = spelled; written = written } }

-- the word of a token
abbrev token_word : TokenKind → List ℕ
token_word SetupTok = codes "SETUP"
token_word OutTok = codes "OUT"
token_word InTok = codes "IN"

named_token : (kind : TokenKind) (rest : List ℕ) → token_word kind ++ 32 ∷ rest ≡ token_name kind ++
    rest
named_token SetupTok rest = refl
named_token _ rest = refl

token_spelled : (kind : TokenKind) (e : Endpoint) (rest : List ℕ)
    → token_word kind ++ 32 ∷ (endpoint_text e ++ rest) ≡ token_text kind e ++ rest
token_spelled kind e rest =
    let a : List ℕ = decimal e.address in
    let n : List ℕ = decimal e.number in
    let name : List ℕ = token_name kind in
    named_token kind (endpoint_text e ++ rest) ∙ ap (λ t. name ++ t) (append_assoc a (46 ∷ n) rest)
    ∙ sym (append_assoc (name ++ a ++ codes ".") n rest
    ∙ append_assoc (name ++ a) (codes ".") (n ++ rest)
    ∙ append_assoc name a (46 ∷ (n ++ rest)))

sent_spelled : (speed : Speed) (kind : TokenKind) (e : Endpoint) (rest : List ℕ)
    → speed_text speed ++ (token_word kind ++ 32 ∷ (endpoint_text e ++ rest))
    ≡ (speed_text speed ++ token_text kind e) ++ rest
sent_spelled speed kind e rest = ap (λ t. speed_text speed ++ t) (token_spelled kind e rest)
    ∙ sym (append_assoc (speed_text speed) (token_text kind e) rest)

toggle_found : (word : List ℕ) (t : Toggle) (rest : List ℕ) → toggle_named word ≡ Some t
    → word ++ 32 ∷ rest ≡ data_name t ++ rest
unfolding toggle_named
toggle_found word t rest e =
    let P : List ℕ → Type 0 = λ w. w ++ 32 ∷ rest ≡ data_name t ++ rest in
    by_word P word (codes "DATA0") (Some Zero) _ t e
    (λ is. ap (λ t. data_name t ++ rest) (same_Some Zero t is)) (λ e.
    by_word P word (codes "DATA1") (Some One) _ t e
    (λ is. ap (λ t. data_name t ++ rest) (same_Some One t is)) (λ e. none_not_some t e))

pre_found : (text rest : List ℕ) → behind_pre_word text ≡ Some rest → text ≡ codes "PRE " ++ rest
unfolding behind_pre_word
pre_found text rest e =
    bind_some (cut_at 32 text) _ rest e (λ cut found e.
    if_some_cases (bytes_eq cut.0 (codes "PRE")) (Some cut.1) _ rest e (λ same is.
    cut_at-some 32 text cut found ∙ ap (λ w. w ++ 32 ∷ cut.1) (word_is cut.0 (codes "PRE") same)
    ∙ ap (λ r. codes "PRE " ++ r) (same_Some cut.1 rest is))
    (λ e. none_not_some rest e))

after_found : (speed : Speed) (text rest : List ℕ) → after_pre speed text ≡ Some rest
    → codes " / " ++ text ≡ between_text speed ++ rest
unfolding after_pre
after_found LowBelowHub text rest e = ap (λ r. codes " / " ++ r) (pre_found text rest e)
after_found _ text rest e = ap (λ r. codes " / " ++ r) (same_Some text rest e)

data_found : (speed : Speed) (text : List ℕ) (sent : Toggle × List ℕ)
    → data_behind speed text ≡ Some sent → 32 ∷ text ≡ between_text speed ++ data_with sent.0 sent.1
unfolding data_behind
data_found speed text sent e =
    bind_some (cut_at 32 text) _ sent e (λ cut found e.
    bind_some (if bytes_eq cut.0 (codes "/") then after_pre speed cut.1 else None) _ sent e
    (λ rest behind e.
    bind_some (cut_at 32 rest) _ sent e (λ named second e.
    bind_some (toggle_named named.0) _ sent e (λ t third is.
    if_some_cases (bytes_eq cut.0 (codes "/")) (after_pre speed cut.1) None rest behind
    (λ same after.
    let front : 32 ∷ text ≡ codes " / " ++ cut.1 = ap (λ r. 32 ∷ r) (cut_at-some 32 text cut found)
    ∙ ap (λ w. 32 ∷ (w ++ 32 ∷ cut.1)) (word_is cut.0 (codes "/") same) in
    let whole : 32 ∷ text ≡ between_text speed ++ data_with t named.1 =
    front ∙ after_found speed cut.1 rest after
    ∙ ap (λ r. between_text speed ++ r) (cut_at-some 32 rest named second
    ∙ toggle_found named.0 t named.1 third) in
    subst (λ (s : Toggle × List ℕ). 32 ∷ text ≡ between_text speed ++ data_with s.0 s.1)
    (same_Some (t, named.1) sent is) whole)
    (λ e. none_not_some rest e)))))

-- an attempt with data of the host
data_spelled : (speed : Speed) (kind : TokenKind) (e : Endpoint) (text device rest : List ℕ)
    (t : Toggle) (digits : List ℕ) → text ≡ device ++ 32 ∷ rest → device ≡ endpoint_text e
    → 32 ∷ rest ≡ between_text speed ++ data_with t digits
    → speed_text speed ++ (token_word kind ++ 32 ∷ text) ≡ speed_text speed ++ token_text kind e ++
    between_text speed ++ data_with t digits
data_spelled speed kind e text device rest t digits cut is behind =
    ap (λ r. speed_text speed ++ (token_word kind ++ 32 ∷ r)) (cut ∙ ap (λ d. d ++ 32 ∷ rest) is
    ∙ ap (λ r. endpoint_text e ++ r) behind)
    ∙ sent_spelled speed kind e (between_text speed ++ data_with t digits)
    ∙ sym (append_assoc (speed_text speed ++ token_text kind e) (between_text speed)
    (data_with t digits))

in_found : (speed : Speed) (text : List ℕ) (q : Question) → in_question speed text ≡ Some q
    → IsAsked (speed_text speed ++ (codes "IN" ++ 32 ∷ text)) q
unfolding in_question
in_found speed text q e =
    bind_some (cut_at 32 text) _ q e (λ cut found e.
    bind_some (endpoint_in cut.0) _ q e (λ dev first e.
    bind_some (result_ok (number_of_word 1 64 cut.1)) _ q e (λ most second is.
    let device = endpoint_in-device cut.0 dev first in
    let number = number_read 1 64 cut.1 most (omega arith)
    (ok_read (number_of_word 1 64 cut.1) most second) in
    let text_is : text ≡ endpoint_text dev ++ 32 ∷ decimal most = cut_at-some 32 text cut found
    ∙ ap (λ d. d ++ 32 ∷ cut.1) device.text
    ∙ ap (λ r. endpoint_text dev ++ 32 ∷ r) number.text in
    let line_is : speed_text speed ++ (codes "IN" ++ 32 ∷ text) ≡ speed_text speed ++ token_text
    InTok dev ++ codes " " ++ decimal most =
    ap (λ r. speed_text speed ++ (codes "IN" ++ 32 ∷ r)) text_is
    ∙ sent_spelled speed InTok dev (32 ∷ decimal most)
    ∙ sym (append_assoc (speed_text speed ++ token_text InTok dev) (codes " ") (decimal most))
    in
    subst (IsAsked _) (same_Some (In speed dev most) q is)
    (asked_with _ (codes "-") (In speed dev most) (device.fits, number.low, number.high) refl
    line_is))))

out_found : (speed : Speed) (text : List ℕ) (q : Question) → out_question speed text ≡ Some q
    → IsAsked (speed_text speed ++ (codes "OUT" ++ 32 ∷ text)) q
unfolding out_question
out_found speed text q e =
    bind_some (cut_at 32 text) _ q e (λ cut found e.
    bind_some (endpoint_in cut.0) _ q e (λ dev first e.
    bind_some (data_behind speed cut.1) _ q e (λ sent second e.
    bind_some (result_ok (bytes_of_word 64 sent.1)) _ q e (λ xs third is.
    let device = endpoint_in-device cut.0 dev first in
    let given = bytes_of_word-data 64 sent.1 xs (ok_read (bytes_of_word 64 sent.1) xs third) in
    let asked : Question = Out speed dev (record { toggle = sent.0; bytes = record { items = xs } })
    in
    subst (IsAsked _) (same_Some asked q is) (asked_with _ sent.1 asked (device.fits, given.few)
    given.value
    (data_spelled speed OutTok dev text cut.0 cut.1 sent.0 sent.1 (cut_at-some 32 text cut found)
    device.text (data_found speed cut.1 sent second)))))))

-- ---- rows

not_zero : (n : ℕ) → (n == 0) ≡ false → 1 ≤ n
not_zero zero e = absurd (cc)
not_zero (suc n) e = omega arith

ins_parts : (front most last : List ℕ) → front ++ codes " " ++ most ++ codes " " ++ last
    ≡ front ++ (32 ∷ (most ++ 32 ∷ last))
ins_parts front most last = append_assoc (front ++ codes " " ++ most) (codes " ") last
    ∙ append_assoc (front ++ codes " ") most (32 ∷ last)
    ∙ append_assoc front (codes " ") (most ++ 32 ∷ last)

outs_parts : (front name digits most : List ℕ) → front ++ (name ++ digits) ++ codes " " ++ most
    ≡ front ++ (name ++ (digits ++ 32 ∷ most))
outs_parts front name digits most = append_assoc (front ++ (name ++ digits)) (codes " ") most
    ∙ append_assoc front (name ++ digits) (32 ∷ most)
    ∙ ap (λ r. front ++ r) (append_assoc name digits (32 ∷ most))

ins_found : (speed : Speed) (text : List ℕ) (q : Question) → ins_question speed text ≡ Some q
    → IsAsked (speed_text speed ++ (codes "IN" ++ 32 ∷ text)) q
unfolding ins_question
ins_found speed text q e =
    bind_some (cut_at 32 text) _ q e (λ cut found e.
    bind_some (endpoint_in cut.0) _ q e (λ dev first e.
    bind_some (cut_at 32 cut.1) _ q e (λ row second e.
    bind_some (result_ok (number_of_word 1 64 row.0)) _ q e (λ most third e.
    bind_some (cut_at 32 row.1) _ q e (λ named fourth e.
    bind_some (toggle_named named.0) _ q e (λ t fifth e.
    bind_some (result_ok (number_of_word 1 64 named.1)) _ q e (λ packets sixth is.
    let device = endpoint_in-device cut.0 dev first in
    let number = number_read 1 64 row.0 most (omega arith)
    (ok_read (number_of_word 1 64 row.0) most third) in
    let count = number_read 1 64 named.1 packets (omega arith)
    (ok_read (number_of_word 1 64 named.1) packets sixth) in
    let last : row.1 ≡ data_with t (decimal packets) = cut_at-some 32 row.1 named fourth
    ∙ toggle_found named.0 t named.1 fifth ∙ ap (λ w. data_name t ++ w) count.text in
    let behind : cut.1 ≡ decimal most ++ 32 ∷ data_with t (decimal packets) =
    cut_at-some 32 cut.1 row second ∙ ap (λ w. w ++ 32 ∷ row.1) number.text
    ∙ ap (λ w. decimal most ++ 32 ∷ w) last in
    let text_is : text ≡ endpoint_text dev ++ 32 ∷ (decimal most ++ 32 ∷ data_with t
    (decimal packets)) = cut_at-some 32 text cut found ∙ ap (λ d. d ++ 32 ∷ cut.1) device.text
    ∙ ap (λ r. endpoint_text dev ++ 32 ∷ r) behind in
    let line_is : speed_text speed ++ (codes "IN" ++ 32 ∷ text) ≡ ins_text speed dev most t packets
    = ap (λ r. speed_text speed ++ (codes "IN" ++ 32 ∷ r)) text_is
    ∙ sent_spelled speed InTok dev (32 ∷ (decimal most ++ 32 ∷ data_with t (decimal packets)))
    ∙ sym (ins_parts (speed_text speed ++ token_text InTok dev) (decimal most)
    (data_with t (decimal packets))) in
    subst (IsAsked _) (same_Some (Ins speed dev most t packets) q is)
    (asked_with _ (codes "-") (Ins speed dev most t packets)
    (device.fits, (number.low, number.high), (count.low, count.high)) refl line_is))))))))

-- some bytes, at most as many as a row may have
record GivenRow (digits xs : List ℕ) : Type 0 where
  given : IsDataWord row_limit digits xs
  some : 1 ≤ length xs

row_given : (b : Bool) (digits xs ys : List ℕ) → (length xs == 0) ≡ b
    → (if b then None else Some xs) ≡ Some ys → IsDataWord row_limit digits xs → GivenRow digits ys
row_given true digits xs ys none e given = absurd (cc)
row_given false digits xs ys some e given = subst (GivenRow digits) (same_Some xs ys e)
    (record { given = given; some = not_zero (length xs) some })

some_found : (digits xs : List ℕ) → some_bytes digits ≡ Some xs → GivenRow digits xs
unfolding some_bytes
some_found digits xs e =
    bind_some (result_ok (bytes_of_word row_limit digits)) _ xs e (λ ys read is.
    row_given (length ys == 0) digits ys xs refl is
    (bytes_of_word-data row_limit digits ys (ok_read (bytes_of_word row_limit digits) ys read)))

outs_found : (speed : Speed) (text : List ℕ) (q : Question) → outs_question speed text ≡ Some q
    → IsAsked (speed_text speed ++ (codes "OUT" ++ 32 ∷ text)) q
unfolding outs_question
outs_found speed text q e =
    bind_some (cut_at 32 text) _ q e (λ cut found e.
    bind_some (endpoint_in cut.0) _ q e (λ dev first e.
    bind_some (data_behind speed cut.1) _ q e (λ sent second e.
    bind_some (cut_at 32 sent.1) _ q e (λ row third e.
    bind_some (some_bytes row.0) _ q e (λ xs fourth e.
    bind_some (result_ok (number_of_word 1 64 row.1)) _ q e (λ most fifth is.
    let device = endpoint_in-device cut.0 dev first in
    let given = some_found row.0 xs fourth in
    let number = number_read 1 64 row.1 most (omega arith)
    (ok_read (number_of_word 1 64 row.1) most fifth) in
    let asked : Question = Outs speed dev most sent.0 (record { items = xs }) in
    let front : List ℕ = speed_text speed ++ token_text OutTok dev ++ between_text speed in
    let last : sent.1 ≡ row.0 ++ 32 ∷ decimal most = cut_at-some 32 sent.1 row third
    ∙ ap (λ w. row.0 ++ 32 ∷ w) number.text in
    let line_is : speed_text speed ++ (codes "OUT" ++ 32 ∷ text) ≡ outs_text speed dev most sent.0
    row.0 =
    data_spelled speed OutTok dev text cut.0 cut.1 sent.0 sent.1 (cut_at-some 32 text cut found)
    device.text (data_found speed cut.1 sent second)
    ∙ ap (λ w. front ++ data_with sent.0 w) last
    ∙ sym (outs_parts front (data_name sent.0) row.0 (decimal most)) in
    subst (IsAsked _) (same_Some asked q is) (asked_with _ row.0 asked
    (device.fits, (number.low, number.high), (given.some, given.given.few)) given.given.value
    line_is)))))))

-- what is read is the row or the single attempt
row_found : (P : Question → Type 0) (row single : Option Question) (q : Question)
    → row_or row single ≡ Some q → (row ≡ Some q → P q) → (single ≡ Some q → P q) → P q
row_found P (Some r) single q e k l = k e
row_found P None single q e k l = l e

-- ---- setup data

record GivenSetup (t : Toggle) (digits : List ℕ) (setup : SetupData) : Type 0 where
  zero_toggle : t ≡ Zero
  fits : IsSetupData setup
  value : hex_value digits ≡ Some (bytes_of setup)

setup_given : (t : Toggle) (digits xs : List ℕ) (setup : SetupData) → IsDataWord 64 digits xs
    → setup_by t xs ≡ Some setup → GivenSetup t digits setup
setup_given One digits xs setup given e = absurd (cc)
setup_given Zero digits xs setup given e =
    let is = setup_in_bytes-some xs setup given.few.1 e in
    record { zero_toggle = refl; fits = is.fits; value = given.value ∙ ap Some (sym is.bytes) }

setup_read : (t : Toggle) (digits : List ℕ) (setup : SetupData) → setup_in t digits ≡ Some setup
    → GivenSetup t digits setup
unfolding setup_in
setup_read t digits setup e =
    bind_some (result_ok (bytes_of_word 64 digits)) _ setup e
    (λ xs read e. setup_given t digits xs setup
    (bytes_of_word-data 64 digits xs (ok_read (bytes_of_word 64 digits) xs read)) e)

setup_found : (speed : Speed) (text : List ℕ) (q : Question) → setup_question speed text ≡ Some q
    → IsAsked (speed_text speed ++ (codes "SETUP" ++ 32 ∷ text)) q
unfolding setup_question
setup_found speed text q e =
    bind_some (cut_at 32 text) _ q e (λ cut found e.
    bind_some (endpoint_in cut.0) _ q e (λ dev first e.
    bind_some (data_behind speed cut.1) _ q e (λ sent second e.
    bind_some (setup_in sent.0 sent.1) _ q e (λ setup third is.
    let device = endpoint_in-device cut.0 dev first in
    let given = setup_read sent.0 sent.1 setup third in
    let behind : 32 ∷ cut.1 ≡ between_text speed ++ data_with Zero sent.1 =
    data_found speed cut.1 sent second ∙ ap (λ t. between_text speed ++ data_with t sent.1)
    given.zero_toggle in
    subst (IsAsked _) (same_Some (Setup speed dev setup) q is)
    (asked_with _ sent.1 (Setup speed dev setup) (device.fits, given.fits) given.value
    (data_spelled speed SetupTok dev text cut.0 cut.1 Zero sent.1 (cut_at-some 32 text cut found)
    device.text behind))))))

call_if : (text : List ℕ) (a b : PortCall) (r : Option PortCall)
    → (if bytes_eq text (call_text a) then Some a else r) ≡ Some b → (r ≡ Some b
    → text ≡ call_text b) → text ≡ call_text b
call_if text a b r e k = by_word (λ t. t ≡ call_text b) text (call_text a) (Some a) r b e
    (λ is. ap call_text (same_Some a b is)) k

call_found : (text : List ℕ) (call : PortCall) → call_in text ≡ Some call → text ≡ call_text call
unfolding call_in
call_found text call e =
    call_if text SetPower call _ e (λ e. call_if text SetReset call _ e (λ e.
    call_if text ClearEnable call _ e (λ e. call_if text ClearPower call _ e (λ e.
    call_if text ClearConnectionChange call _ e (λ e. call_if text ClearEnableChange call _ e (λ e.
    call_if text ClearResetChange call _ e (λ e. none_not_some call e)))))))

three_parts : (front first last : List ℕ) → front ++ (first ++ 32 ∷ last) ≡ front ++ first ++
    codes " " ++ last
three_parts front first last = sym (append_assoc (front ++ first) (codes " ") last
    ∙ append_assoc front first (32 ∷ last))

three_dots : (front first last : List ℕ) → front ++ (first ++ 46 ∷ last) ≡ front ++ first ++
    codes "." ++ last
three_dots front first last = sym (append_assoc (front ++ first) (codes ".") last
    ∙ append_assoc front first (46 ∷ last))

some_endpoint : (b : Bool) (p q : Question) → (if b then None else Some p) ≡ Some q
    → (b ≡ false) × (p ≡ q)
some_endpoint true p q e = absurd (cc)
some_endpoint false p q e = (refl, same_Some p q e)

port_found : (text : List ℕ) (q : Question) → port_question text ≡ Some q
    → IsAsked (codes "port" ++ 32 ∷ text) q
unfolding port_question
port_found text q e =
    bind_some (cut_at 32 text) _ q e (λ cut found e.
    bind_some (result_ok (number_of_word 1 7 cut.0)) _ q e (λ n first e.
    bind_some (call_in cut.1) _ q e (λ call second is.
    let number = number_read 1 7 cut.0 n (omega arith)
    (ok_read (number_of_word 1 7 cut.0) n first) in
    let text_is : text ≡ decimal n ++ 32 ∷ call_text call = cut_at-some 32 text cut found
    ∙ ap (λ d. d ++ 32 ∷ cut.1) number.text
    ∙ ap (λ r. decimal n ++ 32 ∷ r) (call_found cut.1 call second) in
    let line_is : codes "port" ++ 32 ∷ text ≡ codes "port " ++ decimal n ++ codes " " ++ call_text
    call = ap (λ r. codes "port " ++ r) text_is
    ∙ three_parts (codes "port ") (decimal n) (call_text call) in
    subst (IsAsked _) (same_Some (Port n call) q is)
    (asked_with _ (codes "-") (Port n call) (number.low, number.high) refl line_is))))

direction_found : (word : List ℕ) (is_in : Bool) → direction_in word ≡ Some is_in
    → word ≡ direction_text is_in
unfolding direction_in
direction_found word is_in e =
    by_word (λ t. t ≡ direction_text is_in) word (codes "in") (Some true) _ is_in e
    (λ is. ap direction_text (same_Some true is_in is)) (λ e.
    by_word (λ t. t ≡ direction_text is_in) word (codes "out") (Some false) _ is_in e
    (λ is. ap direction_text (same_Some false is_in is)) (λ e. none_not_some is_in e))

-- an endpoint's text in a line
device_parts : (front last : List ℕ) (e : Endpoint)
    → front ++ (endpoint_text e ++ 32 ∷ last)
    ≡ front ++ decimal e.address ++ codes "." ++ decimal e.number ++ codes " " ++ last
device_parts front last e =
    let a : List ℕ = decimal e.address in
    let n : List ℕ = decimal e.number in
    three_parts front (endpoint_text e) last
    ∙ ap (λ t. t ++ codes " " ++ last) (three_dots front a n)

restart_found : (text : List ℕ) (q : Question) → restart_question text ≡ Some q
    → IsAsked (codes "restart" ++ 32 ∷ text) q
unfolding restart_question
restart_found text q e =
    bind_some (cut_at 32 text) _ q e (λ cut found e.
    bind_some (endpoint_in cut.0) _ q e (λ dev first e.
    bind_some (direction_in cut.1) _ q e (λ is_in second e.
    let some = some_endpoint (dev.number == 0) (Restart dev is_in) q e in
    let device = endpoint_in-device cut.0 dev first in
    let text_is : text ≡ endpoint_text dev ++ 32 ∷ direction_text is_in =
    cut_at-some 32 text cut found ∙ ap (λ d. d ++ 32 ∷ cut.1) device.text
    ∙ ap (λ r. endpoint_text dev ++ 32 ∷ r) (direction_found cut.1 is_in second) in
    let line_is : codes "restart" ++ 32 ∷ text ≡ question_in_digits (codes "-") (Restart dev is_in)
    = ap (λ r. codes "restart " ++ r) text_is
    ∙ device_parts (codes "restart ") (direction_text is_in) dev in
    subst (IsAsked _) some.1
    (asked_with _ (codes "-") (Restart dev is_in) (device.fits, not_zero dev.number some.0) refl
    line_is))))

token_found : (speed : Speed) (word text : List ℕ) (q : Question) → token_of_words speed word text
    ≡ Some q → IsAsked (speed_text speed ++ (word ++ 32 ∷ text)) q
unfolding token_of_words
token_found speed word text q e =
    let P : List ℕ → Type 0 = λ w. IsAsked (speed_text speed ++ (w ++ 32 ∷ text)) q in
    by_word P word (codes "SETUP") (setup_question speed text) _ q e (setup_found speed text q)
    (λ e.
    by_word P word (codes "OUT") (row_or (outs_question speed text) (out_question speed text)) _ q e
    (λ e. row_found (λ q. IsAsked (speed_text speed ++ (codes "OUT" ++ 32 ∷ text)) q)
    (outs_question speed text) (out_question speed text) q e (outs_found speed text q)
    (out_found speed text q)) (λ e.
    by_word P word (codes "IN") (row_or (ins_question speed text) (in_question speed text)) _ q e
    (λ e. row_found (λ q. IsAsked (speed_text speed ++ (codes "IN" ++ 32 ∷ text)) q)
    (ins_question speed text) (in_question speed text) q e (ins_found speed text q)
    (in_found speed text q)) (λ e. none_not_some q e)))

behind_found : (speed : Speed) (text : List ℕ) (q : Question) → token_behind speed text ≡ Some q
    → IsAsked (speed_text speed ++ text) q
unfolding token_behind
behind_found speed text q e =
    bind_some (cut_at 32 text) _ q e (λ cut found e. asked_same_line (speed_text speed ++ text)
    (speed_text speed ++ (cut.0 ++ 32 ∷ cut.1)) q
    (ap (λ t. speed_text speed ++ t) (cut_at-some 32 text cut found))
    (token_found speed cut.0 cut.1 q e))

several_found : (text : List ℕ) (q : Question) → asked_in text ≡ Some q → IsAsked text q
unfolding asked_in
several_found text q e =
    bind_some (cut_at 32 text) _ q e (λ cut found e.
    let P : List ℕ → Type 0 = λ w. IsAsked (w ++ 32 ∷ cut.1) q in
    asked_same_line text (cut.0 ++ 32 ∷ cut.1) q (cut_at-some 32 text cut found)
    (by_word P cut.0 (codes "port") (port_question cut.1) _ q e (port_found cut.1 q) (λ e.
    by_word P cut.0 (codes "restart") (restart_question cut.1) _ q e (restart_found cut.1 q) (λ e.
    by_word P cut.0 (codes "low") (token_behind Low cut.1) _ q e (behind_found Low cut.1 q) (λ e.
    by_word P cut.0 (codes "PRE") (token_behind LowBelowHub cut.1) _ q e
    (behind_found LowBelowHub cut.1 q) (λ e. token_found Full cut.0 cut.1 q e))))))

text_read : (l p : Bool) (line text : List ℕ)
    → ◌≡◌ {A = Result (List ℕ) WireFault} (if l then Err LineTooLong else if p then Ok line else Err
    BadCharacter) (Ok text) → line ≡ text
text_read false true line text e = same_Ok line text e
text_read _ _ line text e = absurd (cc)

text_of_line-ok : (line text : List ℕ) → text_of_line line ≡ Ok text → line ≡ text
unfolding text_of_line
text_of_line-ok line text e = text_read (nat_lt 1024 (length line)) (all_printable line) line text e

question_found : (line : List ℕ) (q : Question) → question_of line ≡ Some q → IsAsked line q
unfolding question_of
question_found line q e =
    bind_some (result_ok (text_of_line line)) _ q e (λ text read e.
    asked_same_line line text q (text_of_line-ok line text (ok_read (text_of_line line) text read))
    (
    by_word (λ t. IsAsked t q) text (codes "wait") (Some Wait) _ q e
    (λ is. subst (IsAsked _) (same_Some Wait q is)
    (asked_with (codes "wait") (codes "-") Wait tt refl refl)) (λ e.
    by_word (λ t. IsAsked t q) text (codes "usbplan live 1") (Some Hello) _ q e
    (λ is. subst (IsAsked _) (same_Some Hello q is)
    (asked_with (codes "usbplan live 1") (codes "-") Hello tt refl refl)) (λ e.
    several_found text q e))))

pub question_read-some : (line : List ℕ) (r : Option Question) → r ≡ question_of line
    → IfSome r (λ q. IsQuestion q × IsQuestionLine line q)
question_read-some line None e = tt
question_read-some line (Some q) e = let found = question_found line q (sym e) in
    (found.fits, found.asks)

-- ---- what is asked is read

-- printable text of at most so many bytes
record Fine (most : ℕ) (text : List ℕ) : Type 0 where
  short : length text ≤ most
  printable : all_printable text ≡ true

fine-append : (m n : ℕ) (text more : List ℕ) → Fine m text → Fine n more
    → Fine (m + n) (text ++ more)
fine-append m n text more h k = record {
  short = let size = length-append text more in omega (arith, size, h.short, k.short);
  printable = all_printable-append text more h.printable k.printable;
}

fine_word : (word : List ℕ) → IsVisibleWord 129 word → Fine 129 word
fine_word word w = record { short = w.short; printable = all_printable-visible word w.visible }

fine_speed : (speed : Speed) → Fine 9 (speed_text speed)
fine_speed Full = record { short = lit≤ tt; printable = refl }
fine_speed _ = record { short = lit≤ tt; printable = refl }

fine_pre : (speed : Speed) → Fine 9 (between_text speed)
fine_pre Full = record { short = lit≤ tt; printable = refl }
fine_pre _ = record { short = lit≤ tt; printable = refl }

fine_name : (kind : TokenKind) → Fine 9 (token_name kind)
fine_name SetupTok = record { short = lit≤ tt; printable = refl }
fine_name _ = record { short = lit≤ tt; printable = refl }

fine_data : (t : Toggle) → Fine 9 (data_name t)
fine_data Zero = record { short = lit≤ tt; printable = refl }
fine_data One = record { short = lit≤ tt; printable = refl }

fine_call : (call : PortCall) → Fine 40 (call_text call)
fine_call SetPower = record { short = lit≤ tt; printable = refl }
fine_call _ = record { short = lit≤ tt; printable = refl }

fine_direction : (is_in : Bool) → Fine 3 (direction_text is_in)
fine_direction true = record { short = lit≤ tt; printable = refl }
fine_direction false = record { short = lit≤ tt; printable = refl }

fine_blank : Fine 1 (codes " ")
fine_blank = record { short = lit≤ tt; printable = refl }

fine_number : (n : ℕ) → n ≤ 1000 → Fine 129 (decimal n)
fine_number n few = fine_word (decimal n) (decimal-is_word 129 n (omega arith) few)

fine_token : (speed : Speed) (kind : TokenKind) (e : Endpoint) → IsEndpoint e
    → Fine (9 + (9 + 129 + 1 + 129)) (speed_text speed ++ token_text kind e)
fine_token speed kind e h =
    let a = fine_number e.address (omega (arith, h.0)) in
    let n = fine_number e.number (omega (arith, h.1)) in
    let dot : Fine 1 (codes ".") = record { short = lit≤ tt; printable = refl } in
    fine-append 9 (9 + 129 + 1 + 129) (speed_text speed) (token_text kind e) (fine_speed speed)
    (fine-append (9 + 129 + 1) 129 (token_name kind ++ decimal e.address ++ codes ".")
    (decimal e.number)
    (fine-append (9 + 129) 1 (token_name kind ++ decimal e.address) (codes ".")
    (fine-append 9 129 (token_name kind) (decimal e.address) (fine_name kind) a) dot) n)

fine_sent : (speed : Speed) (kind : TokenKind) (e : Endpoint) (t : Toggle) (digits xs : List ℕ)
    → IsEndpoint e → hex_value digits ≡ Some xs → length xs ≤ 64
    → Fine (277 + 9 + (9 + 129)) (speed_text speed ++ token_text kind e ++ between_text speed ++
    data_with t digits)
fine_sent speed kind e t digits xs h value few =
    fine-append (277 + 9) (9 + 129) (speed_text speed ++ token_text kind e ++ between_text speed)
    (data_with t digits)
    (fine-append 277 9 (speed_text speed ++ token_text kind e) (between_text speed)
    (fine_token speed kind e h) (fine_pre speed))
    (fine-append 9 129 (data_name t) digits (fine_data t)
    (fine_word digits (bytes_word 64 digits xs value few)))

fine_text : (m : ℕ) (line : List ℕ) → m ≤ 1024 → Fine m line → text_of_line line ≡ Ok line
unfolding text_of_line
fine_text m line most h = rw (le-ltb 1024 (length line) (omega (arith, h.short, most)), h.printable)
    refl

-- the question in a text
abbrev question_in : List ℕ → Option Question
question_in text = if bytes_eq text (codes "wait") then Some Wait else if bytes_eq text
    (codes "usbplan live 1") then Some Hello else asked_in text

question_of-text : (m : ℕ) (line : List ℕ) → m ≤ 1024 → Fine m line
    → question_of line ≡ question_in line
unfolding question_of
question_of-text m line most h = ap (λ r. result_ok r >>= question_in) (fine_text m line most h)

-- a token's words lead to its reader
token_reached : (speed : Speed) (kind : TokenKind) (rest : List ℕ)
    → question_in (speed_text speed ++ (token_word kind ++ 32 ∷ rest))
    ≡ token_of_words speed (token_word kind) rest
unfolding asked_in cut_at token_behind
token_reached Full SetupTok rest = refl
token_reached Low SetupTok rest = refl
token_reached LowBelowHub SetupTok rest = refl
token_reached _ _ rest = refl

endpoint_visible : (e : Endpoint) → IsEndpoint e → all_visible (endpoint_text e) ≡ true
endpoint_visible e h =
    let a = all_visible-decimal e.address (omega (arith, h.0)) in
    let n = all_visible-decimal e.number (omega (arith, h.1)) in
    list_all-append is_visible (decimal e.address) (46 ∷ decimal e.number) ∙ rw (a, n) refl

device_cut : (e : Endpoint) (rest : List ℕ) → IsEndpoint e
    → cut_at 32 (endpoint_text e ++ 32 ∷ rest) ≡ Some (endpoint_text e, rest)
device_cut e rest h = cut_at-mark 32 (endpoint_text e) rest
    (HasNoSpace-visible (endpoint_text e) (endpoint_visible e h))

-- what stands behind an endpoint and its space, before the host's data
abbrev behind_device : Speed → Toggle → List ℕ → List ℕ
behind_device LowBelowHub t digits = codes "/ PRE " ++ data_with t digits
behind_device _ t digits = codes "/ " ++ data_with t digits

pre_is : (speed : Speed) (t : Toggle) (digits : List ℕ) → between_text speed ++ data_with t digits
    ≡ 32 ∷ behind_device speed t digits
pre_is Full t digits = refl
pre_is _ t digits = refl

data_reached_at : (speed : Speed) (t : Toggle) (digits : List ℕ)
    → data_behind speed (behind_device speed t digits) ≡ Some (t, digits)
unfolding data_behind cut_at after_pre behind_pre_word toggle_named
data_reached_at Full Zero digits = refl
data_reached_at Low Zero digits = refl
data_reached_at LowBelowHub Zero digits = refl
data_reached_at _ _ digits = refl

call_read : (call : PortCall) → call_in (call_text call) ≡ Some call
unfolding call_in
call_read SetPower = refl
call_read _ = refl

port_cut : (rest : List ℕ) → cut_at 32 (codes "port " ++ rest) ≡ Some (codes "port", rest)
unfolding cut_at
port_cut rest = refl

port_reached : (number : ℕ) (call : PortCall) → 1 ≤ number → number ≤ 7
    → question_in (codes "port " ++ (decimal number ++ 32 ∷ call_text call))
    ≡ Some (Port number call)
unfolding asked_in port_question
port_reached number call low high =
    let visible = all_visible-decimal number (omega arith) in
    let first = port_cut (decimal number ++ 32 ∷ call_text call) in
    let second = cut_at-mark 32 (decimal number) (call_text call)
    (HasNoSpace-visible (decimal number) visible) in
    rw (first, second, read_number 1 7 number low high (omega arith), call_read call) refl

restart_cut : (rest : List ℕ) → cut_at 32 (codes "restart " ++ rest) ≡ Some (codes "restart", rest)
unfolding cut_at
restart_cut rest = refl

direction_read : (is_in : Bool) → direction_in (direction_text is_in) ≡ Some is_in
unfolding direction_in
direction_read true = refl
direction_read false = refl

some_number : (n : ℕ) → 1 ≤ n → (n == 0) ≡ false
some_number n some = grind (arith, nat_tests)

restart_reached : (e : Endpoint) (is_in : Bool) → IsEndpoint e → 1 ≤ e.number
    → question_in (codes "restart " ++ (endpoint_text e ++ 32 ∷ direction_text is_in))
    ≡ Some (Restart e is_in)
unfolding asked_in restart_question
restart_reached e is_in h some =
    rw (
      restart_cut (endpoint_text e ++ 32 ∷ direction_text is_in),
      device_cut e (direction_text is_in) h,
      endpoint_read e h,
      direction_read is_in,
      some_number e.number some,
    ) refl

in_read : (speed : Speed) (e : Endpoint) (most : ℕ) → IsEndpoint e → 1 ≤ most → most ≤ 64
    → in_question speed (endpoint_text e ++ 32 ∷ decimal most) ≡ Some (In speed e most)
unfolding in_question
in_read speed e most h low high = rw (
  device_cut e (decimal most) h,
  endpoint_read e h,
  read_number 1 64 most low high (omega arith),
) refl

out_read : (speed : Speed) (e : Endpoint) (t : Toggle) (digits xs : List ℕ) → IsEndpoint e
    → hex_value digits ≡ Some xs → length xs ≤ 64
    → out_question speed (endpoint_text e ++ (between_text speed ++ data_with t digits))
    ≡ Some (Out speed e (record { toggle = t; bytes = record { items = xs } }))
unfolding out_question
out_read speed e t digits xs h value few =
    rw (
      pre_is speed t digits,
      device_cut e (behind_device speed t digits) h,
      endpoint_read e h,
      data_reached_at speed t digits,
      read_bytes 64 digits xs value few,
    ) refl

setup_read_back : (speed : Speed) (e : Endpoint) (digits : List ℕ) (s : SetupData) → IsEndpoint e
    → IsSetupData s → hex_value digits ≡ Some (bytes_of s)
    → setup_question speed (endpoint_text e ++ (between_text speed ++ data_with Zero digits))
    ≡ Some (Setup speed e s)
unfolding setup_question setup_in
setup_read_back speed e digits s h fits value =
    let few : length (bytes_of s) ≤ 64 = let size = length-bytes_of s in omega (arith, size) in
    rw (
      pre_is speed Zero digits,
      device_cut e (behind_device speed Zero digits) h,
      endpoint_read e h,
      data_reached_at speed Zero digits,
      read_bytes 64 digits (bytes_of s) value few,
      setup_in_bytes-bytes_of s,
    ) refl

-- a single attempt is no row
no_more_words : (most : ℕ) → most ≤ 64 → cut_at 32 (decimal most) ≡ None
no_more_words most few = cut_at-none 32 (decimal most)
    (HasNoSpace-visible (decimal most) (all_visible-decimal most (omega (arith, few))))

in_no_row : (speed : Speed) (e : Endpoint) (most : ℕ) → IsEndpoint e → most ≤ 64
    → ins_question speed (endpoint_text e ++ 32 ∷ decimal most) ≡ None
unfolding ins_question
in_no_row speed e most h few =
    rw (device_cut e (decimal most) h, endpoint_read e h, no_more_words most few) refl

out_no_row : (speed : Speed) (e : Endpoint) (t : Toggle) (digits xs : List ℕ) → IsEndpoint e
    → hex_value digits ≡ Some xs → length xs ≤ 64
    → outs_question speed (endpoint_text e ++ (between_text speed ++ data_with t digits)) ≡ None
unfolding outs_question
out_no_row speed e t digits xs h value few =
    rw (
      pre_is speed t digits,
      device_cut e (behind_device speed t digits) h,
      endpoint_read e h,
      data_reached_at speed t digits,
      cut_at-none 32 digits (HasNoSpace-visible digits (bytes_word 64 digits xs value few).visible),
    ) refl

-- the first word of a data packet
abbrev toggle_word : Toggle → List ℕ
toggle_word Zero = codes "DATA0"
toggle_word One = codes "DATA1"

name_cut : (t : Toggle) (rest : List ℕ) → cut_at 32 (data_with t rest)
    ≡ Some (toggle_word t, rest)
unfolding cut_at
name_cut Zero rest = refl
name_cut One rest = refl

toggle_read : (t : Toggle) → toggle_named (toggle_word t) ≡ Some t
unfolding toggle_named
toggle_read Zero = refl
toggle_read One = refl

number_cut : (most : ℕ) (rest : List ℕ) → most ≤ 64 → cut_at 32 (decimal most ++ 32 ∷ rest)
    ≡ Some (decimal most, rest)
number_cut most rest few = cut_at-mark 32 (decimal most) rest
    (HasNoSpace-visible (decimal most) (all_visible-decimal most (omega (arith, few))))

ins_read : (speed : Speed) (e : Endpoint) (most : ℕ) (t : Toggle) (packets : ℕ) → IsEndpoint e
    → IsMost most → IsMost packets
    → ins_question speed
    (endpoint_text e ++ 32 ∷ (decimal most ++ 32 ∷ data_with t (decimal packets)))
    ≡ Some (Ins speed e most t packets)
unfolding ins_question
ins_read speed e most t packets h m p =
    rw (
      device_cut e (decimal most ++ 32 ∷ data_with t (decimal packets)) h,
      endpoint_read e h,
      number_cut most (data_with t (decimal packets)) m.1,
      read_number 1 64 most m.0 m.1 (omega (arith, m.1)),
      name_cut t (decimal packets),
      toggle_read t,
      read_number 1 64 packets p.0 p.1 (omega (arith, p.1)),
    ) refl

some_read : (digits xs : List ℕ) → hex_value digits ≡ Some xs → 1 ≤ length xs
    → length xs ≤ row_limit → some_bytes digits ≡ Some xs
unfolding some_bytes
some_read digits xs value some few =
    rw (read_bytes row_limit digits xs value few, some_number (length xs) some) refl

outs_read : (speed : Speed) (e : Endpoint) (most : ℕ) (t : Toggle) (digits xs : List ℕ)
    → IsEndpoint e → IsMost most → hex_value digits ≡ Some xs → 1 ≤ length xs
    → length xs ≤ row_limit
    → outs_question speed
    (endpoint_text e ++ (between_text speed ++ data_with t (digits ++ 32 ∷ decimal most)))
    ≡ Some (Outs speed e most t (record { items = xs }))
unfolding outs_question
outs_read speed e most t digits xs h m value some few =
    rw (
      pre_is speed t (digits ++ 32 ∷ decimal most),
      device_cut e (behind_device speed t (digits ++ 32 ∷ decimal most)) h,
      endpoint_read e h,
      data_reached_at speed t (digits ++ 32 ∷ decimal most),
      cut_at-mark 32 digits (decimal most)
          (HasNoSpace-visible digits (bytes_word row_limit digits xs value few).visible),
      some_read digits xs value some few,
      read_number 1 64 most m.0 m.1 (omega (arith, m.1)),
    ) refl

-- short numbers and tokens
fine_few : (n : ℕ) → n ≤ 1000 → Fine 4 (decimal n)
fine_few n few =
    let w = decimal-is_word 4 n (omega arith) few in
    record { short = w.short; printable = all_printable-visible (decimal n) w.visible }

fine_device : (speed : Speed) (kind : TokenKind) (e : Endpoint) → IsEndpoint e
    → Fine (9 + (9 + 4 + 1 + 4)) (speed_text speed ++ token_text kind e)
fine_device speed kind e h =
    let a = fine_few e.address (omega (arith, h.0)) in
    let n = fine_few e.number (omega (arith, h.1)) in
    let dot : Fine 1 (codes ".") = record { short = lit≤ tt; printable = refl } in
    fine-append 9 (9 + 4 + 1 + 4) (speed_text speed) (token_text kind e) (fine_speed speed)
    (fine-append (9 + 4 + 1) 4 (token_name kind ++ decimal e.address ++ codes ".")
    (decimal e.number)
    (fine-append (9 + 4) 1 (token_name kind ++ decimal e.address) (codes ".")
    (fine-append 9 4 (token_name kind) (decimal e.address) (fine_name kind) a) dot) n)

fine_ins : (speed : Speed) (e : Endpoint) (most : ℕ) (t : Toggle) (packets : ℕ) → IsEndpoint e
    → IsMost most → IsMost packets
    → Fine (27 + 1 + 4 + 1 + (9 + 4)) (ins_text speed e most t packets)
fine_ins speed e most t packets h m p =
    let front : List ℕ = speed_text speed ++ token_text InTok e in
    fine-append (27 + 1 + 4 + 1) (9 + 4) (front ++ codes " " ++ decimal most ++ codes " ")
    (data_with t (decimal packets))
    (fine-append (27 + 1 + 4) 1 (front ++ codes " " ++ decimal most) (codes " ")
    (fine-append (27 + 1) 4 (front ++ codes " ") (decimal most)
    (fine-append 27 1 front (codes " ") (fine_device speed InTok e h) fine_blank)
    (fine_few most (omega (arith, m.1)))) fine_blank)
    (fine-append 9 4 (data_name t) (decimal packets) (fine_data t)
    (fine_few packets (omega (arith, p.1))))

fine_outs : (speed : Speed) (e : Endpoint) (most : ℕ) (t : Toggle) (digits xs : List ℕ)
    → IsEndpoint e → IsMost most → hex_value digits ≡ Some xs → length xs ≤ row_limit
    → Fine (27 + 9 + (9 + 897) + 1 + 4) (outs_text speed e most t digits)
fine_outs speed e most t digits xs h m value few =
    let w = bytes_word row_limit digits xs value few in
    let word : Fine 897 digits = record {
      short = w.short;
      printable = all_printable-visible digits w.visible;
    } in
    let front : List ℕ = speed_text speed ++ token_text OutTok e in
    fine-append (27 + 9 + (9 + 897) + 1) 4
    (front ++ between_text speed ++ data_with t digits ++ codes " ") (decimal most)
    (fine-append (27 + 9 + (9 + 897)) 1 (front ++ between_text speed ++ data_with t digits)
    (codes " ")
    (fine-append (27 + 9) (9 + 897) (front ++ between_text speed) (data_with t digits)
    (fine-append 27 9 front (between_text speed) (fine_device speed OutTok e h) (fine_pre speed))
    (fine-append 9 897 (data_name t) digits (fine_data t) word)) fine_blank)
    (fine_few most (omega (arith, m.1)))

asked_read : (digits : List ℕ) (q : Question) → IsQuestion q
    → hex_value digits ≡ Some (question_bytes q) → question_of (question_in_digits digits q)
    ≡ Some q
unfolding token_of_words
asked_read digits Hello h e = question_of-text 20 (codes "usbplan live 1") (lit≤ tt)
    (record { short = lit≤ tt; printable = refl })
asked_read digits Wait h e = question_of-text 20 (codes "wait") (lit≤ tt)
    (record { short = lit≤ tt; printable = refl })
asked_read digits (In speed dev most) h e =
    let fine = fine-append (277 + 1) 129 (speed_text speed ++ token_text InTok dev ++ codes " ")
    (decimal most) (fine-append 277 1 (speed_text speed ++ token_text InTok dev) (codes " ")
    (fine_token speed InTok dev h.0) fine_blank) (fine_number most (omega (arith, h.2))) in
    question_of-text (277 + 1 + 129) _ (lit≤ tt) fine
    ∙ ap question_in (append_assoc (speed_text speed ++ token_text InTok dev) (codes " ")
    (decimal most) ∙ sym (sent_spelled speed InTok dev (32 ∷ decimal most)))
    ∙ token_reached speed InTok (endpoint_text dev ++ 32 ∷ decimal most)
    ∙ ap (λ r. row_or r (in_question speed (endpoint_text dev ++ 32 ∷ decimal most)))
    (in_no_row speed dev most h.0 h.2)
    ∙ in_read speed dev most h.0 h.1 h.2
asked_read digits (Ins speed dev most t packets) h e =
    let rest : List ℕ = endpoint_text dev ++ 32 ∷ (decimal most ++ 32 ∷ data_with t
    (decimal packets)) in
    question_of-text (27 + 1 + 4 + 1 + (9 + 4)) _ (lit≤ tt)
    (fine_ins speed dev most t packets h.0 h.1 h.2)
    ∙ ap question_in (ins_parts (speed_text speed ++ token_text InTok dev) (decimal most)
    (data_with t (decimal packets))
    ∙ sym (sent_spelled speed InTok dev
    (32 ∷ (decimal most ++ 32 ∷ data_with t (decimal packets)))))
    ∙ token_reached speed InTok rest
    ∙ ap (λ r. row_or r (in_question speed rest)) (ins_read speed dev most t packets h.0 h.1 h.2)
asked_read digits (Outs speed dev most t bytes) h e =
    let sent : List ℕ = between_text speed ++ data_with t (digits ++ 32 ∷ decimal most) in
    let rest : List ℕ = endpoint_text dev ++ sent in
    question_of-text (27 + 9 + (9 + 897) + 1 + 4) _ (lit≤ tt)
    (fine_outs speed dev most t digits bytes.items h.0 h.1 e h.2.1.0)
    ∙ ap question_in (outs_parts (speed_text speed ++ token_text OutTok dev ++ between_text speed)
    (data_name t) digits (decimal most)
    ∙ append_assoc (speed_text speed ++ token_text OutTok dev) (between_text speed)
    (data_with t (digits ++ 32 ∷ decimal most))
    ∙ sym (sent_spelled speed OutTok dev sent))
    ∙ token_reached speed OutTok rest
    ∙ ap (λ r. row_or r (out_question speed rest))
    (outs_read speed dev most t digits bytes.items h.0 h.1 e h.2.0 h.2.1.0)
asked_read digits (Out speed dev sent) h e =
    question_of-text (277 + 9 + (9 + 129)) _ (lit≤ tt)
    (fine_sent speed OutTok dev sent.toggle digits sent.bytes.items h.0 e h.1.0)
    ∙ ap question_in (append_assoc (speed_text speed ++ token_text OutTok dev) (between_text speed)
    (data_with sent.toggle digits)
    ∙ sym (sent_spelled speed OutTok dev
    (between_text speed ++ data_with sent.toggle digits)))
    ∙ token_reached speed OutTok (endpoint_text dev ++
    (between_text speed ++ data_with sent.toggle digits))
    ∙ ap (λ r. row_or r (out_question speed (endpoint_text dev ++
    (between_text speed ++ data_with sent.toggle digits))))
    (out_no_row speed dev sent.toggle digits sent.bytes.items h.0 e h.1.0)
    ∙ out_read speed dev sent.toggle digits sent.bytes.items h.0 e h.1.0
asked_read digits (Setup speed dev setup) h e =
    let few : length (bytes_of setup) ≤ 64 = let size = length-bytes_of setup in
    omega (arith, size) in
    question_of-text (277 + 9 + (9 + 129)) _ (lit≤ tt)
    (fine_sent speed SetupTok dev Zero digits (bytes_of setup) h.0 e few)
    ∙ ap question_in (append_assoc (speed_text speed ++ token_text SetupTok dev)
    (between_text speed) (data_with Zero digits)
    ∙ sym (sent_spelled speed SetupTok dev (between_text speed ++ data_with Zero digits)))
    ∙ token_reached speed SetupTok (endpoint_text dev ++
    (between_text speed ++ data_with Zero digits))
    ∙ setup_read_back speed dev digits setup h.0 h.1 e
asked_read digits (Port number call) h e =
    let front : Fine 5 (codes "port ") = record { short = lit≤ tt; printable = refl } in
    let fine = fine-append (5 + 129 + 1) 40 (codes "port " ++ decimal number ++ codes " ")
    (call_text call) (fine-append (5 + 129) 1 (codes "port " ++ decimal number) (codes " ")
    (fine-append 5 129 (codes "port ") (decimal number) front
    (fine_number number (omega (arith, h.1)))) fine_blank) (fine_call call) in
    question_of-text (5 + 129 + 1 + 40) _ (lit≤ tt) fine
    ∙ ap question_in (sym (three_parts (codes "port ") (decimal number) (call_text call)))
    ∙ port_reached number call h.0 h.1
asked_read digits (Restart dev is_in) h e =
    let front : Fine 8 (codes "restart ") = record { short = lit≤ tt; printable = refl } in
    let dot : Fine 1 (codes ".") = record { short = lit≤ tt; printable = refl } in
    let a : List ℕ = decimal dev.address in
    let n : List ℕ = decimal dev.number in
    let fine = fine-append (8 + 129 + 1 + 129 + 1) 3
    (codes "restart " ++ a ++ codes "." ++ n ++ codes " ") (direction_text is_in)
    (fine-append (8 + 129 + 1 + 129) 1 (codes "restart " ++ a ++ codes "." ++ n) (codes " ")
    (fine-append (8 + 129 + 1) 129 (codes "restart " ++ a ++ codes ".") n
    (fine-append (8 + 129) 1 (codes "restart " ++ a) (codes ".")
    (fine-append 8 129 (codes "restart ") a front
    (fine_number dev.address (omega (arith, h.0.0)))) dot)
    (fine_number dev.number (omega (arith, h.0.1)))) fine_blank) (fine_direction is_in) in
    question_of-text (8 + 129 + 1 + 129 + 1 + 3) _ (lit≤ tt) fine
    ∙ ap question_in (sym (device_parts (codes "restart ") (direction_text is_in) dev))
    ∙ restart_reached dev is_in h.0 h.1

pub question_read-asked : (line : List ℕ) (q : Question) → IsQuestion q → IsQuestionLine line q
    → question_of line ≡ Some q
question_read-asked line q h is = ap question_of is.written ∙ asked_read is.digits q h is.spelled

-- ---- what is written

question_small : (q : Question) → IsQuestion q → IsBytes (question_bytes q)
question_small (Setup speed endpoint setup) h = IsBytes-bytes_of setup h.1
question_small (Out speed endpoint sent) h = h.1.1
question_small (Outs speed endpoint most toggle bytes) h = h.2.1.1
question_small _ h = IsBytes-none

-- the line that is written asks what it was written for
pub IsQuestionLine-question_line : (q : Question) → IsQuestion q
    → IsQuestionLine (question_line q) q
IsQuestionLine-question_line q h = record {
  digits = hex_text (question_bytes q);
  spelled = hex_value-hex_text (question_bytes q) (question_small q h);
  written = refl;
}
