-- What may be said and stands in a line is read.
use Rattle.std.proofs.Common.{◌≡◌, ℕ, suc, ◌+◌, ◌-◌, ◌*◌, ◌<◌, ◌≤◌, ◌==◌, Bool, true, false, List}
use Rattle.std.proofs.Common.{[]}
use Rattle.std.proofs.Common.{◌∷◌, ◌++◌, length, get_or}
use Rattle.std.proofs.Common.{Some, ok_or, Ok, refl, sym, subst, ap, ◌∙◌, arith, append_assoc}
use Rattle.std.proofs.Common.{codes, decimal, length-append, lit<, lit≤}
use Rattle.usb_wire.proofs.SaidLaws.{version_text}
use Rattle.std.proofs.lemmas.Bool.{eq-eqb, le-ltb, lt-ltb}
use Rattle.std.proofs.lemmas.Bool.Decides.{nat_tests}
use Rattle.std.proofs.lemmas.Fmt.{length-decimal-le}
use Rattle.hex.specs.Hex.{IsBytes}
use Rattle.usb_packet.specs.{Toggle, Zero, One, data_name, hex_text}
use Rattle.usb_port.specs.{IsPath, path_text}
use Rattle.usb_port.proofs.Interface.{length-path_text, reads_back}
use Rattle.usb_request.specs.{DIRECTION_IN, IsToDevice, IsToHost, Setup, bytes_of}
use Rattle.usb_request.specs.{is_endpoint_address}
use Rattle.usb_request.proofs.Interface.{length-bytes_of}
use Rattle.usb_wire.specs.{ClearOf, Poll, ReceiveFrom, SendTo, clear_of_answer, endpoint_named}
use Rattle.usb_wire.specs.{address_text, poll_answer, receive_from_answer}
use Rattle.usb_wire.specs.{send_to_answer, send_to_limit, Interface, interface_answer}
use Rattle.usb_wire.specs.{Answer, Roots, RootsAndRows, second_answer, Ack, Nak, Stall, Nothing}
use Rattle.usb_wire.specs.{Data, Done, Show, End, Send}
use Rattle.usb_wire.specs.{Receive, Clear, Said, Changed, Answered, BadNumber, BadPath, Asked}
use Rattle.usb_wire.specs.{ControlIn, ControlOut, Look, News, answer_setup, control_answer}
use Rattle.usb_wire.specs.{is_other_request, look_answer, request_of_word, said_setup, with_three}
use Rattle.usb_wire.specs.{bare_control, write_answer, write_limit, write_of_words, write_text}
use Rattle.usb_wire.specs.{MayAnswer, HasRoom, IsSaidLine, MayPush, MaySay, answer_bytes}
use Rattle.usb_wire.specs.{answer_in_digits}
use Rattle.usb_wire.specs.{said_bytes, said_line, said_in_digits, send_limit, hex_value, alone}
use Rattle.usb_wire.specs.{bytes_of_word, clear_answer, data_answer, line_says, number_of_word}
use Rattle.usb_wire.specs.{path_in, status_change, receive_answer, roots_answer, send_answer}
use Rattle.usb_wire.specs.{status_of_word, text_of_line, three_say, with_one, with_two, words_say}
use Rattle.usb_wire.specs.{all_printable, words}
use Rattle.usb_wire.specs.declared.question.Asked.TheVariants.{Hello, Attempt, Port, Wait}
use Rattle.usb_wire.proofs.FieldLemmas.{Counted, all_visible-decimal, all_visible-hex}
use Rattle.usb_wire.proofs.FieldLemmas.{all_visible-path_text, bytes_of_word-value}
use Rattle.usb_wire.proofs.FieldLemmas.{address_named-text, small_address}
use Rattle.usb_wire.proofs.FieldLemmas.{hex_value-hex_text, hex_value-length, hex_value-within}
use Rattle.usb_wire.proofs.FieldLemmas.{spelled-value}
use Rattle.usb_wire.proofs.FieldLemmas.{status_of_word-value, within-decimal}
use Rattle.usb_wire.proofs.SetupLemmas.{IsBytes-bytes_of}
use Rattle.usb_wire.proofs.SetupLemmas.{setup_in_bytes-bytes_of}
use Rattle.usb_wire.proofs.WordLemmas.{HasNoSpace-visible, all_printable-append}
use Rattle.usb_wire.proofs.WordLemmas.{all_printable-visible, all_visible, words_cut, words_none}

-- ---- single words, each visible and short

-- the word has no space, and at most so many bytes
pub record IsVisibleWord (most : ℕ) (word : List ℕ) : Type 0 where
  pub visible : all_visible word ≡ true
  pub short : length word ≤ most

pub bytes_word : (most : ℕ) (word xs : List ℕ) → hex_value word ≡ Some xs → length xs ≤ most
    → IsVisibleWord (2 * most + 1) word
bytes_word most word xs e few =
    let spelled = spelled-value word xs e in
    record {
      visible = all_visible-hex word spelled.hex;
      short = omega (arith, hex_value-length word xs e);
    }

pub decimal-is_word : (most n : ℕ) → 4 ≤ most → n ≤ 1000 → IsVisibleWord most (decimal n)
decimal-is_word most n wide few =
    let short = length-decimal-le 4 n (lit< tt) (omega arith) (omega arith) in
    record { visible = all_visible-decimal n (omega arith); short = omega (arith, short, wide) }

path_text-is_word : (most : ℕ) (p : List ℕ) → 20 ≤ most → IsPath p
    → IsVisibleWord most (path_text p)
path_text-is_word most p wide h =
    let short = length-path_text p in
    record { visible = all_visible-path_text p h.2; short = omega (arith, short, h.1, wide) }

pub read_bytes : (most : ℕ) (word xs : List ℕ) → hex_value word ≡ Some xs → length xs ≤ most
    → bytes_of_word most word ≡ Ok xs
read_bytes most word xs e few =
    let spelled = spelled-value word xs e in
    let counted : Counted word (length xs) = record { hex = spelled.hex; count = spelled.count } in
    bytes_of_word-value most word (length xs) xs counted few e

read_status : (word xs : List ℕ) → hex_value word ≡ Some xs → length xs ≡ 4
    → status_of_word word ≡ Ok xs
read_status word xs e four =
    let spelled = spelled-value word xs e in
    status_of_word-value word xs (record { hex = spelled.hex; count = spelled.count ∙ four }) e

pub read_number : (least most n : ℕ) → least ≤ n → n ≤ most → n ≤ 1000
    → number_of_word least most (decimal n) ≡ Ok n
unfolding number_of_word
read_number least most n low high few =
    ap (λ o. ok_or o BadNumber) (within-decimal least most n low high (omega arith))

-- an endpoint's address is a word of two digits
address_text-is_word : (most a : ℕ) → 3 ≤ most → is_endpoint_address a ≡ true
    → IsVisibleWord most (address_text a)
address_text-is_word most a wide h =
    let word = bytes_word 1 (address_text a) (a ∷ [])
    (hex_value-hex_text (a ∷ []) (small_address a h)) (omega arith) in
    record { visible = word.visible; short = omega (arith, word.short, wide) }

read_endpoint : (a : ℕ) → is_endpoint_address a ≡ true → endpoint_named (address_text a) ≡ Ok a
unfolding endpoint_named
read_endpoint a h = ap (λ o. ok_or o BadNumber) (address_named-text a h)

read_path : (p : List ℕ) → IsPath p → path_in (path_text p) ≡ Ok p
unfolding path_in
read_path p h = ap (λ o. ok_or o BadPath) (reads_back p h)

eight_setup : (s : Setup) → length (bytes_of s) ≤ 8
eight_setup s = let size = length-bytes_of s in omega (arith, size)

read_request_word : (with_bytes : Bool) (word : List ℕ) (s : Setup)
    → hex_value word ≡ Some (bytes_of s) → is_other_request with_bytes s ≡ false
    → request_of_word with_bytes word ≡ Ok s
unfolding request_of_word
read_request_word with_bytes word s e kind =
    rw (read_bytes 8 word (bytes_of s) e (eight_setup s), setup_in_bytes-bytes_of s, kind) refl

reads_bare : (s : Setup) → IsToHost s → is_other_request false s ≡ false
reads_bare s reads = rw (le-ltb s.request_type DIRECTION_IN reads) refl

writes_bare : (s : Setup) → IsToDevice s → s.length ≡ 0 → is_other_request false s ≡ false
writes_bare s writes none = rw (lt-ltb s.request_type DIRECTION_IN writes, none) refl

some_count : (n : ℕ) → (suc n == 0) ≡ false
some_count n = grind (arith, nat_tests)

writes_some : (s : Setup) (n : ℕ) → IsToDevice s → s.length ≡ suc n
    → is_other_request true s ≡ false
writes_some s n writes some =
    rw (lt-ltb s.request_type DIRECTION_IN writes, some, some_count n) refl

-- ---- lines of one word and more

-- the line is read as this
record ReadsLine (asked : Asked) (count : ℕ) (line : List ℕ) (s : Said) : Type 0 where
  short : length line ≤ 1024
  printable : all_printable line ≡ true
  says : words_say asked count (words line) ≡ Ok s

-- a first word with a space behind it, which is cut off
record IsFront (most : ℕ) (front first : List ℕ) : Type 0 where
  short : length front ≤ most
  printable : all_printable front ≡ true
  cut : (rest : List ℕ) → words (front ++ rest) ≡ first ∷ words rest

read_two : (asked : Asked) (count : ℕ) (front first word : List ℕ) (s : Said)
    → IsFront 8 front first
    → IsVisibleWord 1001 word → words_say asked count (first ∷ word ∷ []) ≡ Ok s
    → ReadsLine asked count (front ++ word) s
read_two asked count front first word s f w e =
    let cut : words (front ++ word) ≡ first ∷ word ∷ [] = f.cut word
    ∙ ap (λ ws. first ∷ ws) (words_none word (HasNoSpace-visible word w.visible)) in
    record {
      short = omega (arith, length-append front word, f.short, w.short);
      printable = all_printable-append front word f.printable
          (all_printable-visible word w.visible);
      says = ap (words_say asked count) cut ∙ e;
    }

-- words after two others
record IsRest (most : ℕ) (rest : List ℕ) (ws : List (List ℕ)) : Type 0 where
  words : words rest ≡ ws
  printable : all_printable rest ≡ true
  short : length rest ≤ most

-- a line that ends in those
read_end : (asked : Asked) (count m k n : ℕ) (front first word rest : List ℕ) (ws : List (List ℕ))
    (s : Said) → m + k + n ≤ 1023 → IsFront m front first → IsVisibleWord k word → IsRest n rest ws
    → words_say asked count (first ∷ word ∷ ws) ≡ Ok s
    → ReadsLine asked count (front ++ word ++ codes " " ++ rest) s
read_end asked count m k n front first word rest ws s room f w r e =
    let whole : front ++ word ++ codes " " ++ rest ≡ front ++ (word ++ 32 ∷ rest) =
    append_assoc (front ++ word) (codes " ") rest ∙ append_assoc front word (32 ∷ rest) in
    let cut : words (front ++ (word ++ 32 ∷ rest)) ≡ first ∷ word ∷ ws =
    f.cut (word ++ 32 ∷ rest) ∙ ap (λ ws. first ∷ ws)
    (words_cut word rest (HasNoSpace-visible word w.visible) ∙ ap (λ ws. word ∷ ws) r.words) in
    let size : length (front ++ (word ++ 32 ∷ rest)) ≡ length front + length (word ++ 32 ∷ rest) =
    length-append front (word ++ 32 ∷ rest) in
    let more : length (word ++ 32 ∷ rest) ≡ length word + length (32 ∷ rest) =
    length-append word (32 ∷ rest) in
    let plain = all_printable-append word (32 ∷ rest) (all_printable-visible word w.visible)
    r.printable in
    subst (λ line. ReadsLine asked count line s) (sym whole) (record {
      short = omega (arith, size, more, room, f.short, w.short, r.short);
      printable = all_printable-append front (word ++ 32 ∷ rest) f.printable plain;
      says = ap (words_say asked count) cut ∙ e;
    })

read_rest : (asked : Asked) (count m n : ℕ) (front first word rest : List ℕ) (ws : List (List ℕ))
    (s : Said) → m + n ≤ 1003 → IsFront m front first → IsVisibleWord 20 word → IsRest n rest ws
    → words_say asked count (first ∷ word ∷ ws) ≡ Ok s
    → ReadsLine asked count (front ++ word ++ codes " " ++ rest) s
read_rest asked count m n front first word rest ws s room f w r e =
    read_end asked count m 20 n front first word rest ws s (omega (arith, room)) f w r e

last_rest : (most : ℕ) (last : List ℕ) → IsVisibleWord most last → IsRest most last (last ∷ [])
last_rest most last l = record {
  words = words_none last (HasNoSpace-visible last l.visible);
  printable = all_printable-visible last l.visible;
  short = l.short;
}

two_rest : (m n : ℕ) (word last : List ℕ) → IsVisibleWord m word → IsVisibleWord n last
    → IsRest (m + 1 + n) (word ++ codes " " ++ last) (word ∷ last ∷ [])
two_rest m n word last w l =
    let rest = last_rest n last l in
    let size : length (word ++ 32 ∷ last) ≡ length word + length (32 ∷ last) =
    length-append word (32 ∷ last) in
    subst (λ text. IsRest (m + 1 + n) text (word ∷ last ∷ []))
    (sym (append_assoc word (codes " ") last))
    (record {
      words = words_cut word last (HasNoSpace-visible word w.visible)
          ∙ ap (λ ws. word ∷ ws) rest.words;
      printable = all_printable-append word (32 ∷ last) (all_printable-visible word w.visible)
          rest.printable;
      short = omega (arith, size, w.short, l.short);
    })

read_three : (asked : Asked) (count : ℕ) (front first word last : List ℕ) (s : Said)
    → IsFront 8 front first → IsVisibleWord 20 word → IsVisibleWord 995 last
    → words_say asked count (first ∷ word ∷ last ∷ []) ≡ Ok s
    → ReadsLine asked count (front ++ word ++ codes " " ++ last) s
read_three asked count front first word last s f w l e =
    read_rest asked count 8 995 front first word last (last ∷ []) s (omega arith) f w
    (last_rest 995 last l) e

-- the digits of the bytes have room behind the path
room_of_digits : (p digits bytes : List ℕ) → IsPath p → hex_value digits ≡ Some bytes
    → HasRoom p bytes → IsVisibleWord (1018 - length (path_text p)) digits
room_of_digits p digits bytes h e room =
    let short = length-path_text p in
    let spelled = spelled-value digits bytes e in
    record {
      visible = all_visible-hex digits spelled.hex;
      short = hex_value-within digits bytes (1018 - length (path_text p)) e
          (omega (arith, short, h.1)) (omega (arith, room));
    }

-- the first word of a data packet
abbrev printed_data : Toggle → List ℕ
printed_data Zero = codes "DATA0"
printed_data One = codes "DATA1"

port_front : IsFront 8 (codes "port ") (codes "port")
port_front = record { short = lit≤ tt; printable = refl; cut = λ rest. refl }

-- ---- each line

push_said : (asked : Asked) (count number : ℕ) (status digits : List ℕ) → MayPush asked → 1 ≤ number
    → number ≤ count → count < 256 → hex_value digits ≡ Some status → length status ≡ 4
    → words_say asked count (codes "port" ∷ decimal number ∷ digits ∷ [])
    ≡ Ok (Changed number status)
unfolding words_say three_say status_change
push_said Hello count number status digits may low high small e four = absurd may
push_said _ count number status digits may low high small e four =
    rw (read_status digits status e four, read_number 1 count number low high (omega arith)) refl

read_changed : (asked : Asked) (count number : ℕ) (status digits : List ℕ) → MayPush asked
    → 1 ≤ number → number ≤ count → count < 256 → hex_value digits ≡ Some status → length status ≡ 4
    → ReadsLine asked count (codes "port " ++ decimal number ++ codes " " ++ digits)
    (Changed number status)
read_changed asked count number status digits may low high small e four =
    read_three asked count (codes "port ") (codes "port") (decimal number) digits
    (Changed number status) port_front (decimal-is_word 20 number (omega arith) (omega arith))
    (bytes_word 497 digits status e (omega (arith, four)))
    (push_said asked count number status digits may low high small e four)

data_said : (count : ℕ) (toggle : Toggle) (xs digits : List ℕ) → hex_value digits ≡ Some xs
    → length xs ≤ 64 → words_say Attempt count (printed_data toggle ∷ digits ∷ [])
    ≡ Ok (Answered (Data (record { toggle = toggle; bytes = record { items = xs } })))
unfolding words_say with_one data_answer
data_said count Zero xs digits e few = rw (read_bytes 64 digits xs e few) refl
data_said count One xs digits e few = rw (read_bytes 64 digits xs e few) refl

data_front : (toggle : Toggle) → IsFront 8 (data_name toggle) (printed_data toggle)
data_front Zero = record { short = lit≤ tt; printable = refl; cut = λ rest. refl }
data_front One = record { short = lit≤ tt; printable = refl; cut = λ rest. refl }

control_front : IsFront 8 (codes "control ") (codes "control")
control_front = record { short = lit≤ tt; printable = refl; cut = λ rest. refl }

setup_word : (setup : List ℕ) (s : Setup) → hex_value setup ≡ Some (bytes_of s)
    → IsVisibleWord 17 setup
setup_word setup s t = bytes_word 8 setup (bytes_of s) t (eight_setup s)

-- a request without bytes for the device
read_bare : (count : ℕ) (setup p : List ℕ) (s : Setup) (a : Answer) → IsPath p
    → hex_value setup ≡ Some (bytes_of s) → is_other_request false s ≡ false
    → bare_control p s ≡ a
    → ReadsLine Wait count (codes "control " ++ path_text p ++ codes " " ++ setup) (Answered a)
unfolding words_say three_say with_two control_answer
read_bare count setup p s a h t kind is =
    let word = setup_word setup s t in
    read_three Wait count (codes "control ") (codes "control") (path_text p) setup (Answered a)
    control_front (path_text-is_word 20 p (omega arith) h)
    (record { visible = word.visible; short = omega (arith, word.short) })
    (rw (read_request_word false setup s t kind, read_path p h, is) refl)

read_write : (count : ℕ) (setup digits p : List ℕ) (s : Setup) (items : List ℕ) → IsPath p
    → hex_value setup ≡ Some (bytes_of s) → hex_value digits ≡ Some items → IsToDevice s
    → s.length ≡ length items → length items ≤ write_limit
    → ReadsLine Wait count (codes "control " ++ path_text p ++ codes " " ++
    write_text setup digits items) (Answered (ControlOut p (record { setup = s; bytes = items })))
unfolding words_say with_three write_answer write_of_words
read_write count setup digits p s [] h t e writes size few =
    read_bare count setup p s (ControlOut p (record { setup = s; bytes = [] })) h t
    (writes_bare s writes size) (rw (lt-ltb s.request_type DIRECTION_IN writes) refl)
read_write count setup digits p s (x ∷ xs) h t e writes size few =
    read_rest Wait count 8 979 (codes "control ") (codes "control") (path_text p) _
    (setup ∷ digits ∷ []) (Answered (ControlOut p (record { setup = s; bytes = x ∷ xs })))
    (omega arith) control_front (path_text-is_word 20 p (omega arith) h)
    (two_rest 17 961 setup digits (setup_word setup s t)
    (bytes_word write_limit digits (x ∷ xs) e few))
    (rw (
      read_request_word true setup s t (writes_some s (length xs) writes size),
      read_bytes write_limit digits (x ∷ xs) e few,
      lt-ltb s.request_type DIRECTION_IN writes,
      eq-eqb s.length (length (x ∷ xs)) size,
      read_path p h,
    ) refl)

-- what stands behind a path and another word
named_line : (front rest p word : List ℕ)
    → front ++ path_text p ++ codes " " ++ (word ++ codes " " ++ rest)
    ≡ front ++ path_text p ++ codes " " ++ word ++ codes " " ++ rest
named_line front rest p word =
    let way : List ℕ = front ++ path_text p ++ codes " " in
    sym (append_assoc way (word ++ codes " ") rest)
    ∙ ap (λ t. t ++ rest) (sym (append_assoc way word (codes " ")))

read_named : (count : ℕ) (front first word p : List ℕ) (a : ℕ) (s : Said) → IsFront 8 front first
    → IsPath p → is_endpoint_address a ≡ true → IsVisibleWord 981 word
    → words_say Wait count (first ∷ path_text p ∷ address_text a ∷ word ∷ []) ≡ Ok s
    → ReadsLine Wait count
    (front ++ path_text p ++ codes " " ++ address_text a ++ codes " " ++ word) s
read_named count front first word p a s f h named w e =
    subst (λ line. ReadsLine Wait count line s) (named_line front word p (address_text a))
    (read_rest Wait count 8 985 front first (path_text p) _ (address_text a ∷ word ∷ []) s
    (omega arith) f (path_text-is_word 20 p (omega arith) h)
    (two_rest 3 981 (address_text a) word (address_text-is_word 3 a (omega arith) named) w) e)

read_version : number_of_word 2 2 (codes "2") ≡ Ok 2
read_version = ap (number_of_word 2 2) (sym version_text)
    ∙ read_number 2 2 2 (omega arith) (omega arith) (omega arith)

read_answer : (asked : Asked) (count : ℕ) (setup digits : List ℕ) (a : Answer) → MayAnswer asked a
    → hex_value setup ≡ Some (answer_setup a) → hex_value digits ≡ Some (answer_bytes a)
    → ReadsLine asked count (answer_in_digits setup digits a) (Answered a)
unfolding words_say alone with_one roots_answer clear_answer look_answer three_say with_two
    send_answer receive_answer poll_answer clear_of_answer with_three send_to_answer
    receive_from_answer interface_answer second_answer
read_answer Hello count setup digits (Roots n) h t e =
    read_two Hello count (codes "roots ") (codes "roots") (decimal n) (Answered (Roots n))
    (record { short = lit≤ tt; printable = refl; cut = λ rest. refl })
    (decimal-is_word 1001 n (omega arith) (omega (arith, h.1)))
    (rw (read_number 1 7 n h.0 h.1 (omega arith)) refl)
read_answer Hello count setup digits (RootsAndRows n) h t e =
    subst (λ line. ReadsLine Hello count line (Answered (RootsAndRows n)))
    (append_assoc (codes "roots " ++ decimal n) (codes " ") (codes "2"))
    (read_three Hello count (codes "roots ") (codes "roots") (decimal n) (codes "2")
    (Answered (RootsAndRows n))
    (record { short = lit≤ tt; printable = refl; cut = λ rest. refl })
    (decimal-is_word 20 n (omega arith) (omega (arith, h.1)))
    (record { visible = refl; short = lit≤ tt })
    (rw (read_version, read_number 1 7 n h.0 h.1 (omega arith)) refl))
read_answer Attempt count setup digits Ack h t e = record {
  short = lit≤ tt;
  printable = refl;
  says = refl;
}
read_answer Attempt count setup digits Nak h t e = record {
  short = lit≤ tt;
  printable = refl;
  says = refl;
}
read_answer Attempt count setup digits Stall h t e = record {
  short = lit≤ tt;
  printable = refl;
  says = refl;
}
read_answer Attempt count setup digits Nothing h t e = record {
  short = lit≤ tt;
  printable = refl;
  says = refl;
}
read_answer Attempt count setup digits (Data sent) h t e =
    read_two Attempt count (data_name sent.toggle) (printed_data sent.toggle) digits
    (Answered (Data sent)) (data_front sent.toggle)
    (bytes_word 500 digits sent.bytes.items e (omega (arith, h.0)))
    (data_said count sent.toggle sent.bytes.items digits e h.0)
read_answer Port count setup digits Done h t e = record {
  short = lit≤ tt;
  printable = refl;
  says = refl;
}
read_answer Wait count setup digits Done h t e = record {
  short = lit≤ tt;
  printable = refl;
  says = refl;
}
read_answer Wait count setup digits Show h t e = record {
  short = lit≤ tt;
  printable = refl;
  says = refl;
}
read_answer Wait count setup digits End h t e = record {
  short = lit≤ tt;
  printable = refl;
  says = refl;
}
read_answer Wait count setup digits (Send p sent) h t e =
    let way = path_text-is_word 20 p (omega arith) h.0 in
    let most : ℕ = 1018 - length (path_text p) in
    read_end Wait count 5 (length (path_text p)) most (codes "send ") (codes "send") (path_text p)
    digits (digits ∷ []) (Answered (Send p sent)) (omega (arith, way.short))
    (record { short = lit≤ tt; printable = refl; cut = λ rest. refl })
    (record { visible = way.visible; short = omega arith })
    (last_rest most digits (room_of_digits p digits sent.items h.0 e h.2))
    (rw (read_bytes send_limit digits sent.items e h.1.0, read_path p h.0) refl)
read_answer Wait count setup digits (Receive p n) h t e =
    read_three Wait count (codes "receive ") (codes "receive") (path_text p) (decimal n)
    (Answered (Receive p n)) (record { short = lit≤ tt; printable = refl; cut = λ rest. refl })
    (path_text-is_word 20 p (omega arith) h.0) (decimal-is_word 995 n (omega arith) h.1)
    (rw (read_number 0 1000 n (omega arith) h.1 h.1, read_path p h.0) refl)
read_answer Wait count setup digits (Clear p) h t e =
    read_two Wait count (codes "clear ") (codes "clear") (path_text p) (Answered (Clear p))
    (record { short = lit≤ tt; printable = refl; cut = λ rest. refl })
    (path_text-is_word 1001 p (omega arith) h) (rw (read_path p h) refl)
read_answer Wait count setup digits (SendTo p a sent) h t e =
    read_named count (codes "send ") (codes "send") digits p a (Answered (SendTo p a sent))
    (record { short = lit≤ tt; printable = refl; cut = λ rest. refl }) h.0 h.1
    (bytes_word 490 digits sent.items e h.2.0)
    (rw (
      read_bytes send_to_limit digits sent.items e h.2.0,
      read_endpoint a h.1,
      read_path p h.0,
    ) refl)
read_answer Wait count setup digits (ReceiveFrom p a n) h t e =
    read_named count (codes "receive ") (codes "receive") (decimal n) p a
    (Answered (ReceiveFrom p a n))
    (record { short = lit≤ tt; printable = refl; cut = λ rest. refl }) h.0 h.1
    (decimal-is_word 981 n (omega arith) h.2)
    (rw (
      read_number 0 1000 n (omega arith) h.2 h.2,
      read_endpoint a h.1,
      read_path p h.0,
    ) refl)
read_answer Wait count setup digits (Poll p a) h t e =
    read_rest Wait count 10 3 (codes "interrupt ") (codes "interrupt") (path_text p)
    (address_text a) (address_text a ∷ []) (Answered (Poll p a)) (omega arith)
    (record { short = lit≤ tt; printable = refl; cut = λ rest. refl })
    (path_text-is_word 20 p (omega arith) h.0)
    (last_rest 3 (address_text a) (address_text-is_word 3 a (omega arith) h.1))
    (rw (read_endpoint a h.1, read_path p h.0) refl)
read_answer Wait count setup digits (ClearOf p a) h t e =
    read_three Wait count (codes "clear ") (codes "clear") (path_text p) (address_text a)
    (Answered (ClearOf p a)) (record { short = lit≤ tt; printable = refl; cut = λ rest. refl })
    (path_text-is_word 20 p (omega arith) h.0)
    (address_text-is_word 995 a (omega arith) h.1)
    (rw (read_endpoint a h.1, read_path p h.0) refl)
read_answer Wait count setup digits (Interface p n k) h t e =
    subst (λ line. ReadsLine Wait count line (Answered (Interface p n k)))
    (named_line (codes "interface ") (decimal k) p (decimal n))
    (read_rest Wait count 10 28 (codes "interface ") (codes "interface") (path_text p) _
    (decimal n ∷ decimal k ∷ []) (Answered (Interface p n k)) (omega arith)
    (record { short = lit≤ tt; printable = refl; cut = λ rest. refl })
    (path_text-is_word 20 p (omega arith) h.0)
    (two_rest 13 14 (decimal n) (decimal k)
    (decimal-is_word 13 n (omega arith) (omega (arith, h.1)))
    (decimal-is_word 14 k (omega arith) (omega (arith, h.2))))
    (rw (
      read_number 0 255 k (omega arith) h.2 (omega (arith, h.2)),
      read_number 0 255 n (omega arith) h.1 (omega (arith, h.1)),
      read_path p h.0,
    ) refl))
read_answer Wait count setup digits (ControlIn p s) h t e =
    read_bare count setup p s (ControlIn p s) h.0 t (reads_bare s h.2)
    (rw (le-ltb s.request_type DIRECTION_IN h.2) refl)
read_answer Wait count setup digits (ControlOut p w) h t e =
    read_write count setup digits p w.setup w.bytes h.0 t e h.2.0 h.2.1 h.3.0
read_answer Wait count setup digits (Look p) h t e =
    read_two Wait count (codes "look ") (codes "look") (path_text p) (Answered (Look p))
    (record { short = lit≤ tt; printable = refl; cut = λ rest. refl })
    (path_text-is_word 1001 p (omega arith) h) (rw (read_path p h) refl)
read_answer Wait count setup digits News h t e = record {
  short = lit≤ tt;
  printable = refl;
  says = refl;
}
read_answer _ count setup digits _ h t e = absurd h

read_line : (asked : Asked) (count : ℕ) (line : List ℕ) (s : Said) → ReadsLine asked count line s
    → line_says asked count line ≡ Ok s
unfolding line_says text_of_line
read_line asked count line s h = rw (le-ltb 1024 (length line) h.short, h.printable) h.says

read_said : (asked : Asked) (count : ℕ) (setup digits : List ℕ) (s : Said) → count < 256
    → MaySay asked count s → hex_value setup ≡ Some (said_setup s)
    → hex_value digits ≡ Some (said_bytes s)
    → ReadsLine asked count (said_in_digits setup digits s) s
read_said asked count setup digits (Changed number status) small h t e =
    read_changed asked count number status digits h.0 h.1 h.2 small e h.3
read_said asked count setup digits (Answered a) small h t e =
    read_answer asked count setup digits a h t e

-- what may be said and stands in a line is read
pub line_says-said : (asked : Asked) (count : ℕ) (line : List ℕ) (s : Said) → count < 256
    → MaySay asked count s → IsSaidLine line s → line_says asked count line ≡ Ok s
line_says-said asked count line s small may is =
    ap (line_says asked count) is.written
    ∙ read_line asked count (said_in_digits is.setup is.digits s) s
    (read_said asked count is.setup is.digits s small may is.set_up is.spelled)

none_small : (i : ℕ) → get_or [] i 0 < 256
none_small i = omega arith

answer_small : (asked : Asked) (a : Answer) → MayAnswer asked a → IsBytes (answer_bytes a)
answer_small Attempt (Data sent) h = h.1
answer_small Wait (Send p sent) h = h.1.1
answer_small Wait (SendTo p a sent) h = h.2.1
answer_small Wait (ControlOut p w) h = h.3.1
answer_small _ (Data sent) h = absurd h
answer_small _ (Send p sent) h = absurd h
answer_small _ (SendTo p a sent) h = absurd h
answer_small _ (ControlOut p w) h = absurd h
answer_small _ _ h = none_small

setup_small : (asked : Asked) (a : Answer) → MayAnswer asked a → IsBytes (answer_setup a)
setup_small Wait (ControlIn p s) h = IsBytes-bytes_of s h.1
setup_small Wait (ControlOut p w) h = IsBytes-bytes_of w.setup h.1
setup_small _ (ControlIn p s) h = absurd h
setup_small _ (ControlOut p w) h = absurd h
setup_small _ _ h = none_small

small_setup : (asked : Asked) (count : ℕ) (s : Said) → MaySay asked count s → IsBytes (said_setup s)
small_setup asked count (Changed number status) h = none_small
small_setup asked count (Answered a) h = setup_small asked a h

small_bytes : (asked : Asked) (count : ℕ) (s : Said) → MaySay asked count s → IsBytes (said_bytes s)
small_bytes asked count (Changed number status) h = h.4
small_bytes asked count (Answered a) h = answer_small asked a h

-- the line that is written says what it was written for
pub IsSaidLine-said_line : (asked : Asked) (count : ℕ) (s : Said) → MaySay asked count s
    → IsSaidLine (said_line s) s
IsSaidLine-said_line asked count s may = record {
  setup = hex_text (said_setup s);
  digits = hex_text (said_bytes s);
  set_up = hex_value-hex_text (said_setup s) (small_setup asked count s may);
  spelled = hex_value-hex_text (said_bytes s) (small_bytes asked count s may);
  written = refl;
}
