-- What is read of a line may be said, and stands there.
use Rattle.std.proofs.Common.{◌≡◌, ℕ, ◌^◌, ◌<◌, ◌≤◌, Bool, true, false, ◌&&◌, ◌==◌, nat_lt}
use Rattle.std.proofs.Common.{if◌then◌else◌, List, [], ◌∷◌, ◌++◌, length, Option, Some, None, ok_or}
use Rattle.std.proofs.Common.{Result, Ok, Err, IfOk, refl, sym, subst, ap, ◌∙◌, arith, append_assoc}
use Rattle.std.proofs.Common.{codes, decimal, not, length-append, ◌+◌, lit<}
use Rattle.std.proofs.lemmas.Fmt.{decimal_digit}
use Rattle.std.specs.List.{join_with_byte}
use Rattle.std.specs.Result.{result_unwrap_or}
use Rattle.std.specs.Str.{bytes_eq}
use Rattle.std.proofs.lemmas.Bool.{and_parts, eqb-true, ltb-false, ltb-true}
use Rattle.std.proofs.lemmas.Bool.Decides.{nat_tests}
use Rattle.std.proofs.lemmas.Slice.Eq.{bytes_eq-Decides}
use Rattle.usb_packet.specs.{Toggle, Zero, One}
use Rattle.usb_port.specs.{IsPath, path_of, path_text}
use Rattle.usb_port.proofs.Interface.{some_if}
use Rattle.usb_request.specs.{DIRECTION_IN, Setup, bytes_of}
use Rattle.usb_wire.specs.{ClearOf, Poll, ReceiveFrom, SendTo, clear_of_answer, endpoint_named}
use Rattle.usb_wire.specs.{address_named, address_text, poll_answer, receive_from_answer}
use Rattle.usb_wire.specs.{send_to_answer, send_to_limit, Interface, interface_answer}
use Rattle.usb_wire.specs.{Answer, Roots, RootsAndRows, second_answer, Ack, Nak, Stall, Nothing}
use Rattle.usb_wire.specs.{Data, Done, Show, End, Send}
use Rattle.usb_wire.specs.{ControlIn, ControlOut, IsSetupData, Look, News, answer_setup}
use Rattle.usb_wire.specs.{bare_control, both, control_answer, counted_write, has_bytes}
use Rattle.usb_wire.specs.{is_other_request, look_answer, request_of_word, request_with, said_bytes}
use Rattle.usb_wire.specs.{said_in_digits, said_setup, setup_in_bytes, with_three, write_answer}
use Rattle.usb_wire.specs.{IsWrite, Write, is_write, write_limit, write_of_words, write_text}
use Rattle.usb_wire.specs.{Receive, Clear, Said, Changed, Answered, WireFault, LineTooLong}
use Rattle.usb_wire.specs.{BadCharacter, NoAnswer, BadHex, BadLength, BadNumber, BadPath, Asked}
use Rattle.usb_wire.specs.{More as MoreWords, AreAtMost, MayAnswer, HasRoom, IsSaidLine, MayPush}
use Rattle.usb_wire.specs.{MaySay}
use Rattle.usb_wire.specs.{answer_bytes, answer_in_digits, send_limit, hex_value, number_within}
use Rattle.usb_wire.specs.{alone, said_of, bytes_of_word, clear_answer, count_in, data_answer}
use Rattle.usb_wire.specs.{line_says, may_push, number_of_word, path_in, status_change}
use Rattle.usb_wire.specs.{receive_answer, roots_answer, send_answer, shape_says, status_of_word}
use Rattle.usb_wire.specs.{text_of_line, three_say, with_one, with_two, words_say, AreWords}
use Rattle.usb_wire.specs.{all_printable, words}
use Rattle.usb_wire.specs.declared.question.Asked.TheVariants.{Hello, Attempt, Port, Wait}
use Rattle.usb_wire.specs.declared.words.Words.{Words}
use Rattle.usb_wire.specs.Reading.{◌>>=◌}
use Rattle.usb_wire.proofs.FieldLemmas.{IsEndpointWord, IsNumberWord, Spelled, counted-count_in}
use Rattle.usb_wire.proofs.FieldLemmas.{address_named-word, hex_value-fills, numbered-within}
use Rattle.usb_wire.proofs.FieldLemmas.{spelled-value}
use Rattle.usb_wire.proofs.SetupLemmas.{setup_in_bytes-some}
use Rattle.usb_wire.proofs.WordLemmas.{joined-words}

-- ---- what was read, step by step

pub same_Ok : {A : Type 0} (x y : A) → ◌≡◌ {A = Result A WireFault} (Ok x) (Ok y) → x ≡ y
same_Ok {A} x y e = ap (λ (r : Result A WireFault). result_unwrap_or r x) e

bind-ok : {A B P : Type 0} (r : Result A WireFault) (f : A → Result B WireFault) (y : B)
    → (r >>= f) ≡ Ok y → ((x : A) → r ≡ Ok x → f x ≡ Ok y → P) → P
bind-ok (Ok x) f y e k = k x refl e
bind-ok (Err fault) f y e k = absurd (cc)

if_ok : {A P : Type 0} (b : Bool) (r s : Result A WireFault) (y : A) → (if b then r else s) ≡ Ok y
    → (b ≡ true → r ≡ Ok y → P) → (s ≡ Ok y → P) → P
if_ok true r s y e k l = k refl e
if_ok false r s y e k l = l e

else_ok : {A : Type 0} (b : Bool) (fault : WireFault) (r : Result A WireFault) (y : A)
    → (if b then Err fault else r) ≡ Ok y → (b ≡ false) × (r ≡ Ok y)
else_ok true fault r y e = absurd (cc)
else_ok false fault r y e = (refl, e)

none_ok : {A P : Type 0} (fault : WireFault) (y : A)
    → ◌≡◌ {A = Result A WireFault} (Err fault) (Ok y) → P
none_ok fault y e = absurd (cc)

ok_or_ok : {A : Type 0} (o : Option A) (fault : WireFault) (y : A) → ok_or o fault ≡ Ok y
    → o ≡ Some y
ok_or_ok (Some x) fault y e = ap Some (same_Ok x y e)
ok_or_ok None fault y e = absurd (cc)

said_of-ok : {P : Type 0} (r : Result Answer WireFault) (s : Said) → said_of r ≡ Ok s
    → ((a : Answer) → r ≡ Ok a → Answered a ≡ s → P) → P
said_of-ok (Ok a) s e k = k a refl (same_Ok (Answered a) s e)
said_of-ok (Err fault) s e k = absurd (cc)

pub word_is : (word text : List ℕ) → bytes_eq word text ≡ true → word ≡ text
word_is word text h = (bytes_eq-Decides word text).0 h

-- ---- single words

pub record IsDataWord (most : ℕ) (word xs : List ℕ) : Type 0 where
  pub value : hex_value word ≡ Some xs
  pub few : AreAtMost most xs

pub bytes_of_word-data : (most : ℕ) (word xs : List ℕ) → bytes_of_word most word ≡ Ok xs
    → IsDataWord most word xs
unfolding bytes_of_word
bytes_of_word-data most word xs e =
    bind-ok (count_in word) _ xs e (λ n counted e.
    let parts = else_ok (nat_lt most n) BadLength (ok_or (hex_value word) BadHex) xs e in
    let value = ok_or_ok (hex_value word) BadHex xs parts.1 in
    let spelled = spelled-value word xs value in
    let same = (counted-count_in word n counted).count in
    let fits : n ≤ most = ltb-false most n parts.0 in
    let count = spelled.count in
    record { value = value; few = (omega (arith, same, count, fits), spelled.small) })

record IsStatusWord (word xs : List ℕ) : Type 0 where
  value : hex_value word ≡ Some xs
  four : length xs ≡ 4
  small : Spelled word xs

status_word : (word xs : List ℕ) → status_of_word word ≡ Ok xs → IsStatusWord word xs
unfolding status_of_word
status_word word xs e =
    bind-ok (count_in word) _ xs e (λ n counted e.
    if_ok (n == 4) (ok_or (hex_value word) BadHex) _ xs e (λ four e.
    let value = ok_or_ok (hex_value word) BadHex xs e in
    let spelled = spelled-value word xs value in
    let same = (counted-count_in word n counted).count in
    record { value = value; four = sym spelled.count ∙ same ∙ eqb-true n 4 four; small = spelled })
    (λ e. none_ok BadLength xs e))

pub number_of_word-ok : (least most : ℕ) (word : List ℕ) (n : ℕ) → most < 2 ^ 64
    → number_of_word least most word ≡ Ok n → IsNumberWord least most word n
unfolding number_of_word
number_of_word-ok least most word n small e =
    numbered-within least most word n small (ok_or_ok (number_within least most word) BadNumber n e)

record IsPathWord (word p : List ℕ) : Type 0 where
  is : IsPath p
  text : path_text p ≡ word

path_in-word : (word p : List ℕ) → path_in word ≡ Ok p → IsPathWord word p
unfolding path_in
path_in-word word p e =
    let found = some_if (Some p) word (sym (ok_or_ok (path_of word) BadPath p e)) in
    record { is = found.0; text = found.1 }

endpoint_named-word : (word : List ℕ) (a : ℕ) → endpoint_named word ≡ Ok a → IsEndpointWord word a
unfolding endpoint_named
endpoint_named-word word a e =
    address_named-word word a (ok_or_ok (address_named word) BadNumber a e)

pub record IsRequestWord (with_bytes : Bool) (word : List ℕ) (s : Setup) : Type 0 where
  pub value : hex_value word ≡ Some (bytes_of s)
  pub fits : IsSetupData s
  pub kind : is_other_request with_bytes s ≡ false

pub request_word : (with_bytes : Bool) (word : List ℕ) (s : Setup)
    → request_of_word with_bytes word ≡ Ok s → IsRequestWord with_bytes word s
unfolding request_of_word
request_word with_bytes word s e =
    bind-ok (bytes_of_word 8 word) _ s e (λ xs found e.
    let given = bytes_of_word-data 8 word xs found in
    bind-ok (ok_or (setup_in_bytes xs) BadLength) (request_with with_bytes) s e (λ t eight e.
    let found = ok_or_ok (setup_in_bytes xs) BadLength t eight in
    let is = setup_in_bytes-some xs t given.few.1 found in
    let right = else_ok (is_other_request with_bytes t) NoAnswer (Ok t) s e in
    subst (IsRequestWord with_bytes word) (same_Ok t s right.1) (record {
      value = given.value ∙ ap Some (sym is.bytes);
      fits = is.fits;
      kind = right.0;
    })))

-- bytes go with the setup data, as many as they say
record IsWriteWords (setup bytes : List ℕ) (w : Write) : Type 0 where
  request : IsRequestWord true setup w.setup
  payload : IsDataWord write_limit bytes w.bytes
  is : IsWrite w

both_ok : {A B : Type 0} (r : Result A WireFault) (s : Result B WireFault) (v : A × B)
    → both r s ≡ Ok v → (r ≡ Ok v.0) × (s ≡ Ok v.1)
both_ok {A} {B} (Ok x) (Ok y) v e =
    let is = same_Ok (x, y) v e in
    (ap (λ (p : A × B). Ok p.0) is, ap (λ (p : A × B). Ok p.1) is)
both_ok (Ok x) (Err fault) v e = absurd (cc)
both_ok (Err BadLength) (Ok y) v e = absurd (cc)
both_ok (Err BadLength) (Err fault) v e = absurd (cc)
both_ok (Err _) s v e = absurd (cc)

write_words : (setup bytes : List ℕ) (w : Write) → write_of_words setup bytes ≡ Ok w
    → IsWriteWords setup bytes w
unfolding write_of_words
write_words setup bytes w e =
    bind-ok (both (request_of_word true setup) (bytes_of_word write_limit bytes)) counted_write w e
    (λ v given e.
    let made : Write = record { setup = v.0; bytes = v.1 } in
    if_ok (is_write v.0 v.1) (Ok made) (Err BadLength) w e (λ same is.
    let read = both_ok (request_of_word true setup) (bytes_of_word write_limit bytes) v given in
    let parts = and_parts (nat_lt v.0.request_type DIRECTION_IN) (v.0.length == length v.1) same in
    subst (IsWriteWords setup bytes) (same_Ok made w is) (record {
      request = request_word true setup v.0 read.0;
      payload = bytes_of_word-data write_limit bytes v.1 read.1;
      is = (
        ltb-true v.0.request_type DIRECTION_IN parts.0,
        eqb-true v.0.length (length v.1) parts.1,
      );
    })) (λ e. none_ok BadLength w e))

-- ---- answers without bytes

record Plain (asked : Asked) (line : List ℕ) (a : Answer) : Type 0 where
  may : MayAnswer asked a
  none : (answer_setup a ≡ []) × (answer_bytes a ≡ [])
  text : line ≡ answer_in_digits (codes "-") (codes "-") a

plain_line : (asked : Asked) (count : ℕ) (line : List ℕ) (a : Answer) → Plain asked line a
    → MaySay asked count (Answered a) × IsSaidLine line (Answered a)
plain_line asked count line a h = (
  h.may,
  record {
    setup = codes "-";
    digits = codes "-";
    set_up = ap Some (sym h.none.0);
    spelled = ap Some (sym h.none.1);
    written = h.text;
  },
)

-- the word of an answer, or another
word_plain : (asked : Asked) (word : List ℕ) (a b : Answer) (r : Result Answer WireFault)
    → (if bytes_eq word (answer_in_digits (codes "-") (codes "-") a) then Ok a else r) ≡ Ok b
    → MayAnswer asked a → (answer_setup a ≡ []) × (answer_bytes a ≡ [])
    → (r ≡ Ok b → Plain asked word b) → Plain asked word b
word_plain asked word a b r e may none k =
    let text : List ℕ = answer_in_digits (codes "-") (codes "-") a in
    if_ok (bytes_eq word text) (Ok a) r b e (λ same e. subst (Plain asked word) (same_Ok a b e)
    (record { may = may; none = none; text = word_is word text same })) k

-- a line of bytes alone
of_bytes : {line : List ℕ} (digits : List ℕ) (s : Said) → said_setup s ≡ []
    → hex_value digits ≡ Some (said_bytes s) → line ≡ said_in_digits (codes "-") digits s
    → IsSaidLine line s
of_bytes digits s bare spelled text = record {
  setup = codes "-";
  digits = digits;
  set_up = ap Some (sym bare);
  spelled = spelled;
  written = text;
}

alone_says : (asked : Asked) (word : List ℕ) (a : Answer) → alone asked word ≡ Ok a
    → Plain asked word a
unfolding alone
alone_says Hello word a e = none_ok NoAnswer a e
alone_says Attempt word a e =
    word_plain Attempt word Ack a _ e tt (refl, refl) (λ e.
    word_plain Attempt word Nak a _ e tt (refl, refl) (λ e.
    word_plain Attempt word Stall a _ e tt (refl, refl) (λ e.
    word_plain Attempt word Nothing a _ e tt (refl, refl) (λ e. none_ok NoAnswer a e))))
alone_says Port word a e =
    word_plain Port word Done a _ e tt (refl, refl) (λ e. none_ok NoAnswer a e)
alone_says Wait word a e =
    word_plain Wait word Done a _ e tt (refl, refl) (λ e.
    word_plain Wait word Show a _ e tt (refl, refl) (λ e.
    word_plain Wait word End a _ e tt (refl, refl) (λ e.
    word_plain Wait word News a _ e tt (refl, refl) (λ e. none_ok NoAnswer a e))))

-- ---- lines

-- what is said may be said, and the words make a line of it
abbrev WordsSay : Asked → ℕ → List (List ℕ) → Said → Type 0
WordsSay asked count ws s = MaySay asked count s × IsSaidLine (join_with_byte 32 ws) s

-- and the line is short enough
abbrev FitsLine : List (List ℕ) → Type 0
FitsLine ws = length (join_with_byte 32 ws) ≤ 1024

-- the first word is a given one
says_same_word : (asked : Asked) (count : ℕ) (word text : List ℕ) (arguments : List (List ℕ))
    (s : Said) → bytes_eq word text ≡ true → WordsSay asked count (text ∷ arguments) s
    → WordsSay asked count (word ∷ arguments) s
says_same_word asked count word text arguments s same h =
    subst (λ w. WordsSay asked count (w ∷ arguments) s) (sym (word_is word text same)) h

said_is : (asked : Asked) (count : ℕ) (ws : List (List ℕ)) (a b : Said) → a ≡ b
    → WordsSay asked count ws a → WordsSay asked count ws b
said_is asked count ws a b e h = subst (WordsSay asked count ws) e h

roots_say : (count : ℕ) (word : List ℕ) (a : Answer) → roots_answer word ≡ Ok a
    → WordsSay Hello count (codes "roots" ∷ word ∷ []) (Answered a)
unfolding roots_answer
roots_say count word a e =
    bind-ok (number_of_word 1 7 word) _ a e (λ n read is.
    let number = number_of_word-ok 1 7 word n (omega arith) read in
    subst (λ a. WordsSay Hello count (codes "roots" ∷ word ∷ []) (Answered a))
    (same_Ok (Roots n) a is)
    (plain_line Hello count _ (Roots n) (record {
      may = (number.low, number.high);
      none = (refl, refl);
      text = ap (λ t. codes "roots " ++ t) number.text;
    })))

-- version 2
pub version_text : decimal 2 ≡ codes "2"
version_text = decimal_digit 2 (lit< tt)

second_say : (count : ℕ) (first second : List ℕ) (a : Answer) → second_answer first second ≡ Ok a
    → WordsSay Hello count (codes "roots" ∷ first ∷ second ∷ []) (Answered a)
unfolding second_answer
second_say count first second a e =
    bind-ok (number_of_word 1 7 first) _ a e (λ n read e.
    bind-ok (number_of_word 2 2 second) _ a e (λ v version is.
    let two = number_of_word-ok 2 2 second v (omega arith) version in
    let number = number_of_word-ok 1 7 first n (omega arith) read in
    let same : v ≡ 2 = omega (arith, two.low, two.high) in
    let last : second ≡ codes "2" = two.text ∙ ap decimal same ∙ version_text in
    subst (λ a. WordsSay Hello count (codes "roots" ∷ first ∷ second ∷ []) (Answered a))
    (same_Ok (RootsAndRows n) a is)
    (plain_line Hello count _ (RootsAndRows n) (record {
      may = (number.low, number.high);
      none = (refl, refl);
      text = ap (λ w. codes "roots " ++ (w ++ 32 ∷ second)) number.text
          ∙ ap (λ w. codes "roots " ++ (decimal n ++ 32 ∷ w)) last
          ∙ sym (append_assoc (codes "roots ") (decimal n) (codes " 2"));
    }))))

-- the first word of a data packet
abbrev data_first : Toggle → List ℕ
data_first Zero = codes "DATA0"
data_first One = codes "DATA1"

data_says : (count : ℕ) (toggle : Toggle) (word : List ℕ) (a : Answer)
    → data_answer toggle word ≡ Ok a → WordsSay Attempt count (data_first toggle ∷ word ∷ [])
    (Answered a)
unfolding data_answer
data_says count Zero word a e =
    bind-ok (bytes_of_word 64 word) _ a e (λ xs read is.
    let found = bytes_of_word-data 64 word xs read in
    subst (λ a. WordsSay Attempt count (codes "DATA0" ∷ word ∷ []) (Answered a))
    (same_Ok (Data (record { toggle = Zero; bytes = record { items = xs } })) a is) (
      found.few,
      of_bytes word (Answered (Data (record { toggle = Zero; bytes = record { items = xs } })))
          refl found.value refl,
    ))
data_says count One word a e =
    bind-ok (bytes_of_word 64 word) _ a e (λ xs read is.
    let found = bytes_of_word-data 64 word xs read in
    subst (λ a. WordsSay Attempt count (codes "DATA1" ∷ word ∷ []) (Answered a))
    (same_Ok (Data (record { toggle = One; bytes = record { items = xs } })) a is) (
      found.few,
      of_bytes word (Answered (Data (record { toggle = One; bytes = record { items = xs } })))
          refl found.value refl,
    ))

clear_says : (count : ℕ) (word : List ℕ) (a : Answer) → clear_answer word ≡ Ok a
    → WordsSay Wait count (codes "clear" ∷ word ∷ []) (Answered a)
unfolding clear_answer
clear_says count word a e =
    bind-ok (path_in word) _ a e (λ p read is.
    let found = path_in-word word p read in
    subst (λ a. WordsSay Wait count (codes "clear" ∷ word ∷ []) (Answered a))
    (same_Ok (Clear p) a is)
    (plain_line Wait count _ (Clear p) (record {
      may = found.is;
      none = (refl, refl);
      text = ap (λ t. codes "clear " ++ t) (sym found.text);
    })))

look_says : (count : ℕ) (word : List ℕ) (a : Answer) → look_answer word ≡ Ok a
    → WordsSay Wait count (codes "look" ∷ word ∷ []) (Answered a)
unfolding look_answer
look_says count word a e =
    bind-ok (path_in word) _ a e (λ p read is.
    let found = path_in-word word p read in
    subst (λ a. WordsSay Wait count (codes "look" ∷ word ∷ []) (Answered a))
    (same_Ok (Look p) a is)
    (plain_line Wait count _ (Look p) (record {
      may = found.is;
      none = (refl, refl);
      text = ap (λ t. codes "look " ++ t) (sym found.text);
    })))

-- three words, as the table writes them
three_text : (front first second : List ℕ) → front ++ first ++ codes " " ++ second
    ≡ front ++ (first ++ 32 ∷ second)
three_text front first second = append_assoc (front ++ first) (codes " ") second
    ∙ append_assoc front first (32 ∷ second)

-- a line that is short enough has room for the bytes in it
room_behind : (first second p xs : List ℕ) → IsPathWord first p → hex_value second ≡ Some xs
    → FitsLine (codes "send" ∷ first ∷ second ∷ []) → HasRoom p xs
room_behind first second p xs way value short =
    let size : length (first ++ 32 ∷ second) ≡ length first + length (32 ∷ second) =
    length-append first (32 ∷ second) in
    let same : length (path_text p) ≡ length first = ap length way.text in
    let fills = hex_value-fills second xs value in
    omega (arith, size, same, fills, short)

send_says : (count : ℕ) (first second : List ℕ) (a : Answer) → send_answer first second ≡ Ok a
    → FitsLine (codes "send" ∷ first ∷ second ∷ [])
    → WordsSay Wait count (codes "send" ∷ first ∷ second ∷ []) (Answered a)
unfolding send_answer
send_says count first second a e short =
    bind-ok (bytes_of_word send_limit second) _ a e (λ xs read e.
    bind-ok (path_in first) _ a e (λ p found is.
    let sent = bytes_of_word-data send_limit second xs read in
    let way = path_in-word first p found in
    let text : codes "send " ++ path_text p ++ codes " " ++ second
    ≡ codes "send " ++ (first ++ 32 ∷ second) =
    ap (λ t. codes "send " ++ t ++ codes " " ++ second) way.text
    ∙ three_text (codes "send ") first second in
    subst (λ a. WordsSay Wait count (codes "send" ∷ first ∷ second ∷ []) (Answered a))
    (same_Ok (Send p (record { items = xs })) a is) (
      (way.is, sent.few, room_behind first second p xs way sent.value short),
      of_bytes second (Answered (Send p (record { items = xs }))) refl sent.value (sym text),
    )))

receive_says : (count : ℕ) (first second : List ℕ) (a : Answer) → receive_answer first second ≡ Ok a
    → WordsSay Wait count (codes "receive" ∷ first ∷ second ∷ []) (Answered a)
unfolding receive_answer
receive_says count first second a e =
    bind-ok (number_of_word 0 1000 second) _ a e (λ n read e.
    bind-ok (path_in first) _ a e (λ p found is.
    let number = number_of_word-ok 0 1000 second n (omega arith) read in
    let way = path_in-word first p found in
    let text : codes "receive " ++ path_text p ++ codes " " ++ decimal n ≡ codes "receive " ++
    (first ++ 32 ∷ second) =
    ap (λ t. codes "receive " ++ t ++ codes " " ++ decimal n) way.text
    ∙ three_text (codes "receive ") first (decimal n)
    ∙ ap (λ t. codes "receive " ++ (first ++ 32 ∷ t)) (sym number.text) in
    subst (λ a. WordsSay Wait count (codes "receive" ∷ first ∷ second ∷ []) (Answered a))
    (same_Ok (Receive p n) a is)
    (plain_line Wait count _ (Receive p n) (record {
      may = (way.is, number.high);
      none = (refl, refl);
      text = sym text;
    }))))

-- a path and an endpoint, as the table writes them
named_text : (front first second p : List ℕ) (n : ℕ) → IsPathWord first p → IsEndpointWord second n
    → front ++ path_text p ++ codes " " ++ address_text n ≡ front ++ (first ++ 32 ∷ second)
named_text front first second p n way named =
    ap (λ t. front ++ t ++ codes " " ++ address_text n) way.text
    ∙ ap (λ t. front ++ first ++ codes " " ++ t) (sym named.text)
    ∙ three_text front first second

-- a last word behind three
four_text : (front first second third line : List ℕ) → line ≡ front ++ (first ++ 32 ∷ second)
    → line ++ codes " " ++ third ≡ front ++ (first ++ 32 ∷ (second ++ 32 ∷ third))
four_text front first second third line e =
    ap (λ t. t ++ codes " " ++ third) e
    ∙ append_assoc (front ++ (first ++ 32 ∷ second)) (codes " ") third
    ∙ append_assoc front (first ++ 32 ∷ second) (32 ∷ third)
    ∙ ap (λ t. front ++ t) (append_assoc first (32 ∷ second) (32 ∷ third))

-- and what stands behind them
named_more : (front first second third p : List ℕ) (n : ℕ) → IsPathWord first p
    → IsEndpointWord second n
    → front ++ path_text p ++ codes " " ++ address_text n ++ codes " " ++ third
    ≡ front ++ (first ++ 32 ∷ (second ++ 32 ∷ third))
named_more front first second third p n way named =
    four_text front first second third (front ++ path_text p ++ codes " " ++ address_text n)
    (named_text front first second p n way named)

poll_says : (count : ℕ) (first second : List ℕ) (a : Answer) → poll_answer first second ≡ Ok a
    → WordsSay Wait count (codes "interrupt" ∷ first ∷ second ∷ []) (Answered a)
unfolding poll_answer
poll_says count first second a e =
    bind-ok (endpoint_named second) _ a e (λ n read e.
    bind-ok (path_in first) _ a e (λ p found is.
    let named = endpoint_named-word second n read in
    let way = path_in-word first p found in
    subst (λ a. WordsSay Wait count (codes "interrupt" ∷ first ∷ second ∷ []) (Answered a))
    (same_Ok (Poll p n) a is)
    (plain_line Wait count _ (Poll p n) (record {
      may = (way.is, named.address);
      none = (refl, refl);
      text = sym (named_text (codes "interrupt ") first second p n way named);
    }))))

clear_of_says : (count : ℕ) (first second : List ℕ) (a : Answer)
    → clear_of_answer first second ≡ Ok a
    → WordsSay Wait count (codes "clear" ∷ first ∷ second ∷ []) (Answered a)
unfolding clear_of_answer
clear_of_says count first second a e =
    bind-ok (endpoint_named second) _ a e (λ n read e.
    bind-ok (path_in first) _ a e (λ p found is.
    let named = endpoint_named-word second n read in
    let way = path_in-word first p found in
    subst (λ a. WordsSay Wait count (codes "clear" ∷ first ∷ second ∷ []) (Answered a))
    (same_Ok (ClearOf p n) a is)
    (plain_line Wait count _ (ClearOf p n) (record {
      may = (way.is, named.address);
      none = (refl, refl);
      text = sym (named_text (codes "clear ") first second p n way named);
    }))))

send_to_says : (count : ℕ) (first second third : List ℕ) (a : Answer)
    → send_to_answer first second third ≡ Ok a
    → WordsSay Wait count (codes "send" ∷ first ∷ second ∷ third ∷ []) (Answered a)
unfolding send_to_answer
send_to_says count first second third a e =
    bind-ok (bytes_of_word send_to_limit third) _ a e (λ xs read e.
    bind-ok (endpoint_named second) _ a e (λ n given e.
    bind-ok (path_in first) _ a e (λ p found is.
    let sent = bytes_of_word-data send_to_limit third xs read in
    let named = endpoint_named-word second n given in
    let way = path_in-word first p found in
    let text = named_more (codes "send ") first second third p n way named in
    subst (λ a. WordsSay Wait count (codes "send" ∷ first ∷ second ∷ third ∷ []) (Answered a))
    (same_Ok (SendTo p n (record { items = xs })) a is) (
      (way.is, named.address, sent.few),
      of_bytes third (Answered (SendTo p n (record { items = xs }))) refl sent.value (sym text),
    ))))

receive_from_says : (count : ℕ) (first second third : List ℕ) (a : Answer)
    → receive_from_answer first second third ≡ Ok a
    → WordsSay Wait count (codes "receive" ∷ first ∷ second ∷ third ∷ []) (Answered a)
unfolding receive_from_answer
receive_from_says count first second third a e =
    bind-ok (number_of_word 0 1000 third) _ a e (λ k read e.
    bind-ok (endpoint_named second) _ a e (λ n given e.
    bind-ok (path_in first) _ a e (λ p found is.
    let number = number_of_word-ok 0 1000 third k (omega arith) read in
    let named = endpoint_named-word second n given in
    let way = path_in-word first p found in
    let text : codes "receive " ++ path_text p ++ codes " " ++ address_text n ++ codes " " ++
    decimal k ≡ codes "receive " ++ (first ++ 32 ∷ (second ++ 32 ∷ third)) =
    named_more (codes "receive ") first second (decimal k) p n way named
    ∙ ap (λ t. codes "receive " ++ (first ++ 32 ∷ (second ++ 32 ∷ t))) (sym number.text) in
    subst (λ a. WordsSay Wait count (codes "receive" ∷ first ∷ second ∷ third ∷ []) (Answered a))
    (same_Ok (ReceiveFrom p n k) a is)
    (plain_line Wait count _ (ReceiveFrom p n k) (record {
      may = (way.is, named.address, number.high);
      none = (refl, refl);
      text = sym text;
    })))))

interface_says : (count : ℕ) (first second third : List ℕ) (a : Answer)
    → interface_answer first second third ≡ Ok a
    → WordsSay Wait count (codes "interface" ∷ first ∷ second ∷ third ∷ []) (Answered a)
unfolding interface_answer
interface_says count first second third a e =
    bind-ok (number_of_word 0 255 third) _ a e (λ k read e.
    bind-ok (number_of_word 0 255 second) _ a e (λ n given e.
    bind-ok (path_in first) _ a e (λ p found is.
    let setting = number_of_word-ok 0 255 third k (omega arith) read in
    let interface = number_of_word-ok 0 255 second n (omega arith) given in
    let way = path_in-word first p found in
    let front : codes "interface " ++ path_text p ++ codes " " ++ decimal n
    ≡ codes "interface " ++ (first ++ 32 ∷ second) =
    ap (λ t. codes "interface " ++ t ++ codes " " ++ decimal n) way.text
    ∙ ap (λ t. codes "interface " ++ first ++ codes " " ++ t) (sym interface.text)
    ∙ three_text (codes "interface ") first second in
    let text : codes "interface " ++ path_text p ++ codes " " ++ decimal n ++ codes " " ++
    decimal k ≡ codes "interface " ++ (first ++ 32 ∷ (second ++ 32 ∷ third)) =
    four_text (codes "interface ") first second (decimal k)
    (codes "interface " ++ path_text p ++ codes " " ++ decimal n) front
    ∙ ap (λ t. codes "interface " ++ (first ++ 32 ∷ (second ++ 32 ∷ t))) (sym setting.text) in
    subst (λ a. WordsSay Wait count (codes "interface" ∷ first ∷ second ∷ third ∷ []) (Answered a))
    (same_Ok (Interface p n k) a is)
    (plain_line Wait count _ (Interface p n k) (record {
      may = (way.is, interface.high, setting.high);
      none = (refl, refl);
      text = sym text;
    })))))

control_text : (first second p : List ℕ) → IsPathWord first p
    → codes "control " ++ path_text p ++ codes " " ++ second
    ≡ codes "control " ++ (first ++ 32 ∷ second)
control_text first second p way =
    ap (λ t. codes "control " ++ t ++ codes " " ++ second) way.text
    ∙ three_text (codes "control ") first second

pub false_not : (b : Bool) → not b ≡ false → b ≡ true
false_not true h = refl
false_not false h = cc

no_zero : (n : ℕ) → n ≡ 0 → not (n == 0) ≡ true → ⊥
no_zero n zero some = absurd (grind (arith, nat_tests, zero, some))

-- a request without bytes for the device, by whether it reads
bare_says : (count : ℕ) (first second p : List ℕ) (s : Setup) (less : Bool)
    → nat_lt s.request_type DIRECTION_IN ≡ less → IsPathWord first p
    → IsRequestWord false second s
    → WordsSay Wait count (codes "control" ∷ first ∷ second ∷ [])
    (Answered (if less then ControlOut p (record { setup = s; bytes = [] }) else ControlIn p s))
bare_says count first second p s true less way request =
    let none : not (s.length == 0) ≡ false = sym (rw less refl) ∙ request.kind in (
      (
        way.is,
        request.fits,
        (
          ltb-true s.request_type DIRECTION_IN less,
          eqb-true s.length 0 (false_not (s.length == 0) none),
        ),
        (omega arith, λ i. omega arith),
      ),
      record {
        setup = second;
        digits = codes "-";
        set_up = request.value;
        spelled = refl;
        written = sym (control_text first second p way);
      },
    )
bare_says count first second p s false more way request = (
  (way.is, request.fits, ltb-false s.request_type DIRECTION_IN more),
  record {
    setup = second;
    digits = codes "-";
    set_up = request.value;
    spelled = refl;
    written = sym (control_text first second p way);
  },
)

control_says : (count : ℕ) (first second : List ℕ) (a : Answer) → control_answer first second ≡ Ok a
    → WordsSay Wait count (codes "control" ∷ first ∷ second ∷ []) (Answered a)
unfolding control_answer
control_says count first second a e =
    bind-ok (request_of_word false second) _ a e (λ s read e.
    bind-ok (path_in first) _ a e (λ p found is.
    subst (λ a. WordsSay Wait count (codes "control" ∷ first ∷ second ∷ []) (Answered a))
    (same_Ok (bare_control p s) a is)
    (bare_says count first second p s (nat_lt s.request_type DIRECTION_IN) refl
    (path_in-word first p found) (request_word false second s read))))

-- bytes after setup data, as the table writes them
write_text-some : (setup digits xs : List ℕ) (n : ℕ) → n ≡ length xs → not (n == 0) ≡ true
    → write_text setup digits xs ≡ setup ++ 32 ∷ digits
write_text-some setup digits [] n size some = absurd (no_zero n size some)
write_text-some setup digits (x ∷ xs) n size some = append_assoc setup (codes " ") digits

write_says : (count : ℕ) (first second third : List ℕ) (a : Answer)
    → write_answer first second third ≡ Ok a
    → WordsSay Wait count (codes "control" ∷ first ∷ second ∷ third ∷ []) (Answered a)
unfolding write_answer
write_says count first second third a e =
    bind-ok (write_of_words second third) _ a e (λ w read e.
    bind-ok (path_in first) _ a e (λ p found is.
    let written = write_words second third w read in
    let way = path_in-word first p found in
    let kind = and_parts (nat_lt w.setup.request_type DIRECTION_IN) (not (w.setup.length == 0))
    (false_not (has_bytes w.setup) written.request.kind) in
    let text : codes "control " ++ path_text p ++ codes " " ++ write_text second third w.bytes
    ≡ codes "control " ++ (first ++ 32 ∷ (second ++ 32 ∷ third)) =
    ap (λ t. codes "control " ++ t ++ codes " " ++ write_text second third w.bytes) way.text
    ∙ ap (λ t. codes "control " ++ first ++ codes " " ++ t)
    (write_text-some second third w.bytes w.setup.length written.is.1 kind.1)
    ∙ three_text (codes "control ") first (second ++ 32 ∷ third) in
    subst (λ a. WordsSay Wait count (codes "control" ∷ first ∷ second ∷ third ∷ []) (Answered a))
    (same_Ok (ControlOut p w) a is) (
      (way.is, written.request.fits, written.is, written.payload.few),
      record {
        setup = second;
        digits = third;
        set_up = written.request.value;
        spelled = written.payload.value;
        written = sym text;
      },
    )))

pushed_says : (asked : Asked) (count : ℕ) (first second : List ℕ) (s : Said) → MayPush asked
    → count < 256 → status_change count first second ≡ Ok s
    → WordsSay asked count (codes "port" ∷ first ∷ second ∷ []) s
unfolding status_change
pushed_says asked count first second s may small e =
    bind-ok (status_of_word second) _ s e (λ xs read e.
    bind-ok (number_of_word 1 count first) _ s e (λ n found is.
    let number = number_of_word-ok 1 count first n (omega arith) found in
    let sent = status_word second xs read in
    let text : codes "port " ++ decimal n ++ codes " " ++ second
    ≡ codes "port " ++ (first ++ 32 ∷ second) =
    ap (λ t. codes "port " ++ t ++ codes " " ++ second) (sym number.text)
    ∙ three_text (codes "port ") first second in
    said_is asked count (codes "port" ∷ first ∷ second ∷ []) (Changed n xs) s
    (same_Ok (Changed n xs) s is) (
      (may, number.low, number.high, sent.four, sent.small.small),
      of_bytes second (Changed n xs) refl sent.value (sym text),
    )))

one_says : (asked : Asked) (count : ℕ) (word argument : List ℕ) (a : Answer)
    → with_one asked word argument ≡ Ok a → WordsSay asked count (word ∷ argument ∷ []) (Answered a)
unfolding with_one
one_says Hello count word argument a e =
    if_ok (bytes_eq word (codes "roots")) (roots_answer argument) _ a e
    (λ same e. says_same_word Hello count word (codes "roots") (argument ∷ []) _ same
    (roots_say count argument a e)) (λ e. none_ok NoAnswer a e)
one_says Attempt count word argument a e =
    if_ok (bytes_eq word (codes "DATA0")) (data_answer Zero argument) _ a e
    (λ same e. says_same_word Attempt count word (codes "DATA0") (argument ∷ []) _ same
    (data_says count Zero argument a e)) (λ e.
    if_ok (bytes_eq word (codes "DATA1")) (data_answer One argument) _ a e
    (λ same e. says_same_word Attempt count word (codes "DATA1") (argument ∷ []) _ same
    (data_says count One argument a e)) (λ e.
    none_ok NoAnswer a e))
one_says Port count word argument a e = none_ok NoAnswer a e
one_says Wait count word argument a e =
    if_ok (bytes_eq word (codes "clear")) (clear_answer argument) _ a e
    (λ same e. says_same_word Wait count word (codes "clear") (argument ∷ []) _ same
    (clear_says count argument a e)) (λ e.
    if_ok (bytes_eq word (codes "look")) (look_answer argument) _ a e
    (λ same e. says_same_word Wait count word (codes "look") (argument ∷ []) _ same
    (look_says count argument a e)) (λ e. none_ok NoAnswer a e))

two_says : (asked : Asked) (count : ℕ) (word first second : List ℕ) (a : Answer)
    → with_two asked word first second ≡ Ok a → FitsLine (word ∷ first ∷ second ∷ [])
    → WordsSay asked count (word ∷ first ∷ second ∷ []) (Answered a)
unfolding with_two
two_says Wait count word first second a e short =
    let arguments : List (List ℕ) = first ∷ second ∷ [] in
    if_ok (bytes_eq word (codes "send")) (send_answer first second) _ a e
    (λ same e. says_same_word Wait count word (codes "send") arguments _ same
    (send_says count first second a e
    (subst (λ w. FitsLine (w ∷ arguments)) (word_is word (codes "send") same) short))) (λ e.
    if_ok (bytes_eq word (codes "receive")) (receive_answer first second) _ a e
    (λ same e. says_same_word Wait count word (codes "receive") arguments _ same
    (receive_says count first second a e)) (λ e.
    if_ok (bytes_eq word (codes "control")) (control_answer first second) _ a e
    (λ same e. says_same_word Wait count word (codes "control") arguments _ same
    (control_says count first second a e)) (λ e.
    if_ok (bytes_eq word (codes "interrupt")) (poll_answer first second) _ a e
    (λ same e. says_same_word Wait count word (codes "interrupt") arguments _ same
    (poll_says count first second a e)) (λ e.
    if_ok (bytes_eq word (codes "clear")) (clear_of_answer first second) _ a e
    (λ same e. says_same_word Wait count word (codes "clear") arguments _ same
    (clear_of_says count first second a e)) (λ e.
    none_ok NoAnswer a e)))))
two_says Hello count word first second a e short =
    if_ok (bytes_eq word (codes "roots")) (second_answer first second) _ a e
    (λ same e. says_same_word Hello count word (codes "roots") (first ∷ second ∷ []) _ same
    (second_say count first second a e)) (λ e. none_ok NoAnswer a e)
two_says _ count word first second a e short = none_ok NoAnswer a e

four_say : (asked : Asked) (count : ℕ) (word first second third : List ℕ) (a : Answer)
    → with_three asked word first second third ≡ Ok a
    → WordsSay asked count (word ∷ first ∷ second ∷ third ∷ []) (Answered a)
unfolding with_three
four_say Wait count word first second third a e =
    let arguments : List (List ℕ) = first ∷ second ∷ third ∷ [] in
    if_ok (bytes_eq word (codes "control")) (write_answer first second third) _ a e
    (λ same e. says_same_word Wait count word (codes "control") arguments _ same
    (write_says count first second third a e)) (λ e.
    if_ok (bytes_eq word (codes "send")) (send_to_answer first second third) _ a e
    (λ same e. says_same_word Wait count word (codes "send") arguments _ same
    (send_to_says count first second third a e)) (λ e.
    if_ok (bytes_eq word (codes "receive")) (receive_from_answer first second third) _ a e
    (λ same e. says_same_word Wait count word (codes "receive") arguments _ same
    (receive_from_says count first second third a e)) (λ e.
    if_ok (bytes_eq word (codes "interface")) (interface_answer first second third) _ a e
    (λ same e. says_same_word Wait count word (codes "interface") arguments _ same
    (interface_says count first second third a e)) (λ e.
    none_ok NoAnswer a e))))
four_say _ count word first second third a e = none_ok NoAnswer a e

may_push-true : (asked : Asked) → may_push asked ≡ true → MayPush asked
may_push-true Hello h = absurd (cc)
may_push-true _ h = tt

three_says : (asked : Asked) (count : ℕ) (word first second : List ℕ) (s : Said) → count < 256
    → three_say asked count word first second ≡ Ok s → FitsLine (word ∷ first ∷ second ∷ [])
    → WordsSay asked count (word ∷ first ∷ second ∷ []) s
unfolding three_say
three_says asked count word first second s small e short =
    if_ok (may_push asked && bytes_eq word (codes "port")) (status_change count first second) _ s e
    (λ same e. let parts = and_parts (may_push asked) (bytes_eq word (codes "port")) same in
    says_same_word asked count word (codes "port") (first ∷ second ∷ []) s parts.1
    (pushed_says asked count first second s (may_push-true asked parts.0) small e))
    (λ e. said_of-ok (with_two asked word first second) s e
    (λ a e is. said_is asked count (word ∷ first ∷ second ∷ []) (Answered a) s is
    (two_says asked count word first second a e short)))

words_says : (asked : Asked) (count : ℕ) (ws : List (List ℕ)) (s : Said) → count < 256
    → words_say asked count ws ≡ Ok s → FitsLine ws → WordsSay asked count ws s
unfolding words_say
words_says asked count (word ∷ []) s small e short =
    said_of-ok (alone asked word) s e (λ a e is. said_is asked count (word ∷ []) (Answered a) s is
    (plain_line asked count word a (alone_says asked word a e)))
words_says asked count (word ∷ argument ∷ []) s small e short =
    said_of-ok (with_one asked word argument) s e
    (λ a e is. said_is asked count (word ∷ argument ∷ []) (Answered a) s is
    (one_says asked count word argument a e))
words_says asked count (word ∷ first ∷ second ∷ []) s small e short =
    three_says asked count word first second s small e short
words_says asked count (word ∷ first ∷ second ∷ third ∷ []) s small e short =
    said_of-ok (with_three asked word first second third) s e
    (λ a e is. said_is asked count (word ∷ first ∷ second ∷ third ∷ []) (Answered a) s is
    (four_say asked count word first second third a e))
words_says asked count _ s small e short = none_ok NoAnswer s e

many_words : (asked : Asked) (count : ℕ) (ws : List (List ℕ)) → 5 ≤ length ws
    → words_say asked count ws ≡ Err NoAnswer
unfolding words_say
many_words asked count (word ∷ first ∷ second ∷ third ∷ fourth ∷ more) h = refl
many_words asked count _ h = absurd (omega arith)

-- words by their shape
pub words_say-shape : (asked : Asked) (count : ℕ) (ws : List (List ℕ)) (shape : Words)
    → AreWords ws shape → words_say asked count ws ≡ shape_says asked count shape
unfolding words_say shape_says
words_say-shape asked count ws MoreWords h = many_words asked count ws h
words_say-shape asked count ws _ h = ap (words_say asked count) h

text_is : (l p : Bool) (line : List ℕ) (f : List ℕ → Result Said WireFault) (s : Said)
    → ((if l then Err LineTooLong else if p then Ok line else Err BadCharacter) >>= f) ≡ Ok s
    → (l ≡ false) × (f line ≡ Ok s)
text_is true p line f s e = none_ok LineTooLong s e
text_is false true line f s e = (refl, e)
text_is false false line f s e = none_ok BadCharacter s e

-- what is read of a line may be said, and stands there
pub said-line : (asked : Asked) (count : ℕ) (line : List ℕ) (s : Said) → count < 256
    → line_says asked count line ≡ Ok s → MaySay asked count s × IsSaidLine line s
unfolding line_says text_of_line
said-line asked count line s small e =
    let read = text_is (nat_lt 1024 (length line)) (all_printable line) line _ s e in
    let whole = joined-words line (words line) refl in
    let short = ltb-false 1024 (length line) read.0 in
    let said = words_says asked count (words line) s small read.1
    (subst (λ t. length t ≤ 1024) whole short) in
    subst (λ t. MaySay asked count s × IsSaidLine t s) (sym whole) said

pub said-result : (asked : Asked) (count : ℕ) (line : List ℕ) (r : Result Said WireFault)
    → count < 256 → r ≡ line_says asked count line
    → IfOk r (λ s. MaySay asked count s × IsSaidLine line s)
said-result asked count line (Ok s) small e = said-line asked count line s small (sym e)
said-result asked count line (Err fault) small e = tt
