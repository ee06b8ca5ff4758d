-- What reading tells of a line that says nothing is its fault.
use Rattle.std.proofs.Common.{◌≡◌, ℕ, ◌≤◌, Bool, true, false, not, ◌&&◌, ◌||◌, ◌==◌, nat_le, nat_lt}
use Rattle.std.proofs.Common.{if◌then◌else◌, List, [], ◌∷◌, length, Option, Some, None}
use Rattle.std.proofs.Common.{is_none, ok_or, Result, Ok, Err, refl, sym, ap, ◌∙◌, arith, codes}
use Rattle.std.specs.List.{list_all}
use Rattle.std.specs.Str.{bytes_eq}
use Rattle.std.proofs.lemmas.Bool.{and_parts, eqb-true, le-ltb, leb-true, or_parts}
use Rattle.std.proofs.lemmas.Bool.Decides.{nat_tests}
use Rattle.usb_packet.specs.{Toggle, Zero, One}
use Rattle.usb_port.specs.{path_of}
use Rattle.usb_request.specs.{DIRECTION_IN, Setup, setup_of}
use Rattle.usb_request.proofs.Interface.{same_setup}
use Rattle.usb_wire.specs.{Answer, Roots, RootsAndRows, second_answer, version_field, Ack, Nak}
use Rattle.usb_wire.specs.{Stall, Nothing, Data, Done, Show, End, Send}
use Rattle.usb_wire.specs.{Receive, Clear, Said, Changed, WireFault, LineTooLong, BadCharacter}
use Rattle.usb_wire.specs.{ControlOut, Look, News, bare_control, both, control_answer}
use Rattle.usb_wire.specs.{counted_write, is_other_count, is_other_request, is_other_setup}
use Rattle.usb_wire.specs.{look_answer}
use Rattle.usb_wire.specs.{request_field, request_of_word, request_with, setup_in_bytes, with_three}
use Rattle.usb_wire.specs.{Write, has_bytes, is_write, write_answer, write_limit, write_of_words}
use Rattle.usb_wire.specs.{ClearOf, Poll, ReceiveFrom, SendTo, clear_of_answer, endpoint_field}
use Rattle.usb_wire.specs.{endpoint_named, address_named, poll_answer, receive_from_answer}
use Rattle.usb_wire.specs.{send_to_answer, send_to_limit, Interface, interface_answer}
use Rattle.usb_wire.specs.{setting_field}
use Rattle.usb_wire.specs.{NoAnswer, BadHex, BadLength, BadNumber, BadPath, Asked, send_limit}
use Rattle.usb_wire.specs.{Field, Form, argument_fault, bytes_field, fault_by, form_fault}
use Rattle.usb_wire.specs.{fields_in, forms, packets_field, path_field, root_field, roots_field}
use Rattle.usb_wire.specs.{status_field, words_fault, hex_length, hex_value, is_dash, is_hex}
use Rattle.usb_wire.specs.{number_within, alone, said_of, bytes_of_word, clear_answer, count_in}
use Rattle.usb_wire.specs.{data_answer, fault_in, line_says, number_of_word, path_in, status_change}
use Rattle.usb_wire.specs.{receive_answer, roots_answer, send_answer, status_of_word, text_of_line}
use Rattle.usb_wire.specs.{three_say, with_one, with_two, words_say, all_printable, words}
use Rattle.usb_wire.specs.declared.question.Asked.TheVariants.{Hello, Attempt, Port, Wait}
use Rattle.usb_wire.specs.Reading.{◌>>=◌}
use Rattle.usb_wire.proofs.FieldLemmas.{spelled-value, value-hex}
use Rattle.usb_wire.proofs.SaidLaws.{bytes_of_word-data, false_not, request_word}

-- ---- faults of readings one after the other

abbrev first_fault_of : Option WireFault → Option WireFault → Option WireFault
first_fault_of None other = other
first_fault_of (Some fault) other = Some fault

fault_in-then : {A B : Type 0} (r : Result A WireFault) (f : A → Result B WireFault)
    (g : Option WireFault) → ((x : A) → fault_in (f x) ≡ g)
    → fault_in (r >>= f) ≡ first_fault_of (fault_in r) g
fault_in-then (Ok x) f g h = h x
fault_in-then (Err e) f g h = refl

fault_in-said_of : (r : Result Answer WireFault) → fault_in (said_of r) ≡ fault_in r
fault_in-said_of (Ok answer) = refl
fault_in-said_of (Err e) = refl

fault_in-ok_or : {A : Type 0} (o : Option A) (e : WireFault)
    → fault_in (ok_or o e) ≡ (if is_none o then Some e else None)
fault_in-ok_or (Some x) e = refl
fault_in-ok_or None e = refl

-- ---- single words

value_given : (o : Option (List ℕ)) (xs : List ℕ) (b : Bool) → o ≡ Some xs
    → fault_in (if b then Err BadLength else ok_or o BadHex) ≡ (if b then Some BadLength else None)
value_given None xs b e = cc
value_given (Some x) xs true e = refl
value_given (Some x) xs false e = refl

bytes_rows : (most : ℕ) (hex : Bool) (n : ℕ) (o : Option (List ℕ))
    → (hex ≡ true → (xs : List ℕ) × (o ≡ Some xs))
    → fault_in ((if hex then Ok n else Err BadHex) >>=
    (λ count. if nat_lt most count then Err BadLength else ok_or o BadHex))
    ≡ (if not hex then Some BadHex else if nat_lt most n then Some BadLength else None)
bytes_rows most true n o given = let value = given refl in
    value_given o value.0 (nat_lt most n) value.1
bytes_rows most false n o given = refl

fault_in-bytes : (most : ℕ) (word : List ℕ) → fault_in (bytes_of_word most word)
    ≡ (if not (is_dash word || is_hex word) then Some BadHex
    else if nat_lt most (hex_length word) then Some BadLength else None)
unfolding bytes_of_word count_in
fault_in-bytes most word = bytes_rows most (is_dash word || is_hex word) (hex_length word)
    (hex_value word) (value-hex word)

status_given : (o : Option (List ℕ)) (xs : List ℕ) (b : Bool) → o ≡ Some xs
    → fault_in (if b then ok_or o BadHex else Err BadLength)
    ≡ (if not b then Some BadLength else None)
status_given None xs b e = cc
status_given (Some x) xs true e = refl
status_given (Some x) xs false e = refl

status_rows : (hex : Bool) (n : ℕ) (o : Option (List ℕ))
    → (hex ≡ true → (xs : List ℕ) × (o ≡ Some xs))
    → fault_in ((if hex then Ok n else Err BadHex) >>=
    (λ count. if count == 4 then ok_or o BadHex else Err BadLength))
    ≡ (if not hex then Some BadHex else if not (n == 4) then Some BadLength else None)
status_rows true n o given = let value = given refl in status_given o value.0 (n == 4) value.1
status_rows false n o given = refl

fault_in-status : (word : List ℕ) → fault_in (status_of_word word)
    ≡ (if not (is_dash word || is_hex word) then Some BadHex else if not (hex_length word == 4)
    then Some BadLength else None)
unfolding status_of_word count_in
fault_in-status word = status_rows (is_dash word || is_hex word) (hex_length word) (hex_value word)
    (value-hex word)

fault_in-number : (least most : ℕ) (word : List ℕ) → fault_in (number_of_word least most word)
    ≡ (if is_none (number_within least most word) then Some BadNumber else None)
unfolding number_of_word
fault_in-number least most word = fault_in-ok_or (number_within least most word) BadNumber

fault_in-endpoint : (word : List ℕ) → fault_in (endpoint_named word)
    ≡ (if is_none (address_named word) then Some BadNumber else None)
unfolding endpoint_named
fault_in-endpoint word = fault_in-ok_or (address_named word) BadNumber

fault_in-path : (word : List ℕ) → fault_in (path_in word)
    ≡ (if is_none (path_of word) then Some BadPath else None)
unfolding path_in
fault_in-path word = fault_in-ok_or (path_of word) BadPath

-- the eight bytes of a request, or others, by what is so of them
eight_rows : (long eight write : Bool) (xs : List ℕ) (s : Setup)
    (next : List ℕ → Result Setup WireFault)
    → next xs ≡ (if eight then if write then Err NoAnswer else Ok s else Err BadLength)
    → (eight ≡ true → long ≡ false)
    → fault_in ((if long then Err BadLength else Ok xs) >>= next)
    ≡ (if eight && write then Some NoAnswer else if not eight then Some BadLength else None)
eight_rows true true write xs s next e other = absurd (cc (other refl))
eight_rows true false write xs s next e other = refl
eight_rows false true true xs s next e other = ap fault_in e
eight_rows false true false xs s next e other = ap fault_in e
eight_rows false false write xs s next e other = ap fault_in e

setup_then : (with_bytes eight : Bool) (s : Setup)
    → (ok_or (if eight then Some s else None) BadLength >>= request_with with_bytes)
    ≡ (if eight then request_with with_bytes s else Err BadLength)
setup_then with_bytes true s = refl
setup_then with_bytes false s = refl

fault_in-eight : (with_bytes : Bool) (xs : List ℕ)
    → fault_in ((if nat_lt 8 (length xs) then Err BadLength else Ok xs) >>=
    (λ xs. ok_or (setup_in_bytes xs) BadLength >>= request_with with_bytes))
    ≡ (if is_other_setup with_bytes (Some xs) then Some NoAnswer
    else if not (length xs == 8) then Some BadLength else None)
fault_in-eight with_bytes xs =
    eight_rows (nat_lt 8 (length xs)) (length xs == 8) (is_other_request with_bytes (setup_of xs))
    xs (setup_of xs) _ (setup_then with_bytes (length xs == 8) (setup_of xs))
    (λ eight. let size = eqb-true (length xs) 8 eight in
    le-ltb 8 (length xs) (omega (arith, size)))

request_rows : (with_bytes hex : Bool) (n : ℕ) (o : Option (List ℕ))
    → (hex ≡ true → (xs : List ℕ) × (o ≡ Some xs) × (n ≡ length xs)) → (hex ≡ false → o ≡ None)
    → fault_in (((if hex then Ok n else Err BadHex) >>=
    (λ count. if nat_lt 8 count then Err BadLength else ok_or o BadHex)) >>=
    (λ xs. ok_or (setup_in_bytes xs) BadLength >>= request_with with_bytes))
    ≡ (if is_other_setup with_bytes o then Some NoAnswer else if not hex then Some BadHex
    else if not (n == 8) then Some BadLength else None)
request_rows with_bytes true n o given none = let value = given refl in
    rw (value.1, value.2) (fault_in-eight with_bytes value.0)
request_rows with_bytes false n o given none = rw (none refl) refl

hex_value-none : (word : List ℕ) → (is_dash word || is_hex word) ≡ false → hex_value word ≡ None
hex_value-none word h = let parts = or_parts (is_dash word) (is_hex word) h in
    rw (parts.0, parts.1) refl

fault_in-request : (with_bytes : Bool) (word : List ℕ) → fault_in (request_of_word with_bytes word)
    ≡ (if is_other_setup with_bytes (hex_value word) then Some NoAnswer
    else if not (is_dash word || is_hex word) then Some BadHex
    else if not (hex_length word == 8) then Some BadLength else None)
unfolding request_of_word bytes_of_word count_in
fault_in-request with_bytes word =
    request_rows with_bytes (is_dash word || is_hex word) (hex_length word) (hex_value word)
    (λ hex. let value = value-hex word hex in
    (value.0, value.1, (spelled-value word value.0 value.1).count)) (hex_value-none word)

-- the first of the faults of two words, and else what is wrong with both
abbrev join : Option WireFault → Option WireFault → Option WireFault → Option WireFault
join None None last = last
join None (Some fault) last = Some fault
join (Some BadLength) (Some fault) last = Some fault
join (Some fault) other last = Some fault

counted_rows : (same : Bool) (w : Write)
    → fault_in (if same then Ok w else Err BadLength) ≡ (if not same then Some BadLength else None)
counted_rows true w = refl
counted_rows false w = refl

fault_in-both : (r : Result Setup WireFault) (s : Result (List ℕ) WireFault) (other : Bool)
    → ((x : Setup) (ys : List ℕ) → r ≡ Ok x → s ≡ Ok ys → not (is_write x ys) ≡ other)
    → fault_in (both r s >>= counted_write)
    ≡ join (fault_in r) (fault_in s) (if other then Some BadLength else None)
fault_in-both (Ok x) (Ok ys) other h = rw (← h x ys refl refl)
    (counted_rows (is_write x ys) (record { setup = x; bytes = ys }))
fault_in-both (Ok x) (Err fault) other h = refl
fault_in-both (Err BadLength) (Ok ys) other h = refl
fault_in-both (Err BadLength) (Err fault) other h = refl
fault_in-both (Err _) (Ok ys) other h = refl
fault_in-both (Err _) (Err fault) other h = refl

join_table : (w h l g m c : Bool) → join (if w then Some NoAnswer else if h then Some BadHex else if
    l then Some BadLength else None) (if g then Some BadHex else if m then Some BadLength else None)
    (if c then Some BadLength else None) ≡ (if w then Some NoAnswer else if h || (g || false) then
    Some BadHex else if (l || (m || false)) || c then Some BadLength else None)
join_table true h l true m c = refl
join_table true h l false true c = refl
join_table true h l false false c = refl
join_table false true l true m c = refl
join_table false true l false true c = refl
join_table false true l false false c = refl
join_table false false true true m c = refl
join_table false false true false true c = refl
join_table false false true false false c = refl
join_table false false false true m c = refl
join_table false false false false true c = refl
join_table false false false false false true = refl
join_table false false false false false false = refl

-- the bytes after setup data that were read are counted as the table counts them
counted_as : (setup bytes : List ℕ) (s : Setup) (ys : List ℕ) → request_of_word true setup ≡ Ok s
    → bytes_of_word write_limit bytes ≡ Ok ys
    → not (is_write s ys) ≡ is_other_count (hex_value setup) (hex_length bytes)
counted_as setup bytes s ys read given =
    let request = request_word true setup s read in
    let payload = bytes_of_word-data write_limit bytes ys given in
    let kind = and_parts (nat_lt s.request_type DIRECTION_IN) (not (s.length == 0))
    (false_not (has_bytes s) request.kind) in
    rw (
      kind.0,
      request.value,
      (spelled-value bytes ys payload.value).count,
      same_setup s,
    ) refl

fault_in-write : (setup bytes : List ℕ) → fault_in (write_of_words setup bytes)
    ≡ (if is_other_setup true (hex_value setup) then Some NoAnswer
    else if not (is_dash setup || is_hex setup) || (not (is_dash bytes || is_hex bytes) || false)
    then Some BadHex
    else if (not (hex_length setup == 8) || (nat_lt write_limit (hex_length bytes) || false))
    || is_other_count (hex_value setup) (hex_length bytes) then Some BadLength else None)
unfolding write_of_words
fault_in-write setup bytes =
    fault_in-both (request_of_word true setup) (bytes_of_word write_limit bytes)
    (is_other_count (hex_value setup) (hex_length bytes))
    (λ s ys read given. counted_as setup bytes s ys read given)
    ∙ rw (fault_in-request true setup, fault_in-bytes write_limit bytes) (join_table _ _ _ _ _ _)

-- ---- the rows of a form, by what is so of its words

faults_table : (w h l n m p : Bool) → first_fault_of (if w then Some NoAnswer else if h then Some
    BadHex else if l then Some BadLength else if n then Some BadNumber else None)
    (first_fault_of (if m then Some BadNumber else if p then Some BadPath else None) None)
    ≡ (if w || false then Some NoAnswer else if h || false then Some BadHex
    else if (l || false) || false then Some BadLength else if n || (m || false) then Some BadNumber
    else if p || false then Some BadPath else None)
faults_table true h l n m p = refl
faults_table false true l n m p = refl
faults_table false false true n m p = refl
faults_table false false false true m p = refl
faults_table false false false false true p = refl
faults_table false false false false false true = refl
faults_table false false false false false false = refl

-- of three words
write_table : (w h l p : Bool) → first_fault_of (if w then Some NoAnswer else if h then Some BadHex
    else if l then Some BadLength else None)
    (first_fault_of (if p then Some BadPath else None) None)
    ≡ (if w || false then Some NoAnswer else if h then Some BadHex else if l then Some BadLength
    else if p || false then Some BadPath else None)
write_table true h l p = refl
write_table false true l p = refl
write_table false false true p = refl
write_table false false false true = refl
write_table false false false false = refl

-- of three words, the second of an endpoint or of a number
named_table : (h l m n p : Bool) → first_fault_of (if h then Some BadHex else if l then Some
    BadLength else if m then Some BadNumber else None)
    (first_fault_of (if n then Some BadNumber else None)
    (first_fault_of (if p then Some BadPath else None) None))
    ≡ (if h || false then Some BadHex else if (l || false) || false then Some BadLength
    else if n || (m || false) then Some BadNumber else if p || false then Some BadPath else None)
named_table true l m n p = refl
named_table false true m n p = refl
named_table false false true true p = refl
named_table false false true false p = refl
named_table false false false true p = refl
named_table false false false false true = refl
named_table false false false false false = refl

-- ---- the readers of each form

abbrev roots_given : ℕ → Result Answer WireFault
roots_given roots = Ok (Roots roots)

abbrev data_result : Toggle → List ℕ → Result Answer WireFault
data_result toggle xs = Ok (Data (record { toggle = toggle; bytes = record { items = xs } }))

abbrev clear_given : List ℕ → Result Answer WireFault
clear_given p = Ok (Clear p)

abbrev look_given : List ℕ → Result Answer WireFault
look_given p = Ok (Look p)

abbrev control_given : Setup → List ℕ → Result Answer WireFault
control_given s p = Ok (bare_control p s)

abbrev write_given : Write → List ℕ → Result Answer WireFault
write_given w p = Ok (ControlOut p w)

abbrev send_given : List ℕ → List ℕ → Result Answer WireFault
send_given xs p = Ok (Send p (record { items = xs }))

abbrev receive_given : ℕ → List ℕ → Result Answer WireFault
receive_given n p = Ok (Receive p n)

abbrev poll_given : ℕ → List ℕ → Result Answer WireFault
poll_given a p = Ok (Poll p a)

abbrev clear_of_given : ℕ → List ℕ → Result Answer WireFault
clear_of_given a p = Ok (ClearOf p a)

abbrev send_to_given : List ℕ → ℕ → List ℕ → Result Answer WireFault
send_to_given xs a p = Ok (SendTo p a (record { items = xs }))

abbrev receive_from_given : ℕ → ℕ → List ℕ → Result Answer WireFault
receive_from_given n a p = Ok (ReceiveFrom p a n)

abbrev interface_given : ℕ → ℕ → List ℕ → Result Answer WireFault
interface_given k n p = Ok (Interface p n k)

abbrev push_given : List ℕ → ℕ → Result Said WireFault
push_given xs number = Ok (Changed number xs)

-- one reading, two, and three
one_read : {A B : Type 0} (r : Result A WireFault) (f : A → Result B WireFault)
    (o : Option WireFault) → fault_in r ≡ o → ((x : A) → fault_in (f x) ≡ None)
    → fault_in (r >>= f) ≡ first_fault_of o None
one_read r f o e h = fault_in-then r f None h ∙ ap (λ x. first_fault_of x None) e

two_read : {A B C : Type 0} (r : Result A WireFault) (s : Result B WireFault)
    (f : A → B → Result C WireFault) (o p : Option WireFault) → fault_in r ≡ o → fault_in s ≡ p
    → ((x : A) (y : B) → fault_in (f x y) ≡ None)
    → fault_in (r >>= (λ x. s >>= f x)) ≡ first_fault_of o (first_fault_of p None)
two_read r s f o p e k h =
    fault_in-then r (λ x. s >>= f x) (first_fault_of p None) (λ x. one_read s (f x) p k (h x))
    ∙ ap (λ x. first_fault_of x (first_fault_of p None)) e

three_read : {A B C D : Type 0} (r : Result A WireFault) (s : Result B WireFault)
    (t : Result C WireFault) (f : A → B → C → Result D WireFault) (o p q : Option WireFault)
    → fault_in r ≡ o → fault_in s ≡ p → fault_in t ≡ q
    → ((x : A) (y : B) (z : C) → fault_in (f x y z) ≡ None)
    → fault_in (r >>= (λ x. s >>= (λ y. t >>= f x y)))
    ≡ first_fault_of o (first_fault_of p (first_fault_of q None))
three_read r s t f o p q e k l h =
    fault_in-then r (λ x. s >>= (λ y. t >>= f x y)) (first_fault_of p (first_fault_of q None))
    (λ x. two_read s t (f x) p q k l (h x))
    ∙ ap (λ x. first_fault_of x (first_fault_of p (first_fault_of q None))) e

faults-roots : (count : ℕ) (word : List ℕ) → fault_in (roots_answer word)
    ≡ argument_fault count (roots_field ∷ []) (word ∷ [])
unfolding roots_answer
faults-roots count word =
    one_read (number_of_word 1 7 word) roots_given _ (fault_in-number 1 7 word) (λ _. refl)
    ∙ faults_table false false false (is_none (number_within 1 7 word)) false false

abbrev second_given : ℕ → ℕ → Result Answer WireFault
second_given roots version = Ok (RootsAndRows roots)

faults-second : (count : ℕ) (first second : List ℕ) → fault_in (second_answer first second)
    ≡ argument_fault count (roots_field ∷ version_field ∷ []) (first ∷ second ∷ [])
unfolding second_answer
faults-second count first second =
    two_read (number_of_word 1 7 first) (number_of_word 2 2 second) second_given _ _
    (fault_in-number 1 7 first) (fault_in-number 2 2 second) (λ _ _. refl)
    ∙ faults_table false false false (is_none (number_within 1 7 first))
    (is_none (number_within 2 2 second)) false

faults-data : (count : ℕ) (toggle : Toggle) (word : List ℕ) → fault_in (data_answer toggle word)
    ≡ argument_fault count (bytes_field 64 ∷ []) (word ∷ [])
unfolding data_answer
faults-data count toggle word =
    one_read (bytes_of_word 64 word) (data_result toggle) _ (fault_in-bytes 64 word) (λ _. refl)
    ∙ faults_table false (not (is_dash word || is_hex word)) (nat_lt 64 (hex_length word)) false
    false false

faults-clear : (count : ℕ) (word : List ℕ) → fault_in (clear_answer word)
    ≡ argument_fault count (path_field ∷ []) (word ∷ [])
unfolding clear_answer
faults-clear count word = one_read (path_in word) clear_given _ (fault_in-path word) (λ _. refl)
    ∙ faults_table false false false false false (is_none (path_of word))

faults-look : (count : ℕ) (word : List ℕ) → fault_in (look_answer word)
    ≡ argument_fault count (path_field ∷ []) (word ∷ [])
unfolding look_answer
faults-look count word = one_read (path_in word) look_given _ (fault_in-path word) (λ _. refl)
    ∙ faults_table false false false false false (is_none (path_of word))

faults-control : (count : ℕ) (first second : List ℕ) → fault_in (control_answer first second)
    ≡ argument_fault count (path_field ∷ request_field false ∷ []) (first ∷ second ∷ [])
unfolding control_answer
faults-control count first second =
    two_read (request_of_word false second) (path_in first) control_given _ _
    (fault_in-request false second) (fault_in-path first) (λ _ _. refl)
    ∙ faults_table (is_other_setup false (hex_value second)) (not (is_dash second || is_hex second))
    (not (hex_length second == 8)) false false (is_none (path_of first))

faults-write : (count : ℕ) (first second third : List ℕ)
    → fault_in (write_answer first second third)
    ≡ argument_fault count (path_field ∷ request_field true ∷ bytes_field write_limit ∷ [])
    (first ∷ second ∷ third ∷ [])
unfolding write_answer
faults-write count first second third =
    two_read (write_of_words second third) (path_in first) write_given _ _
    (fault_in-write second third) (fault_in-path first) (λ _ _. refl)
    ∙ write_table (is_other_setup true (hex_value second)) _ _ (is_none (path_of first))

faults-send : (count : ℕ) (first second : List ℕ) → fault_in (send_answer first second)
    ≡ argument_fault count (path_field ∷ bytes_field send_limit ∷ []) (first ∷ second ∷ [])
unfolding send_answer
faults-send count first second =
    two_read (bytes_of_word send_limit second) (path_in first) send_given _ _
    (fault_in-bytes send_limit second) (fault_in-path first) (λ _ _. refl)
    ∙ faults_table false (not (is_dash second || is_hex second))
    (nat_lt send_limit (hex_length second)) false false (is_none (path_of first))

faults-receive : (count : ℕ) (first second : List ℕ) → fault_in (receive_answer first second)
    ≡ argument_fault count (path_field ∷ packets_field ∷ []) (first ∷ second ∷ [])
unfolding receive_answer
faults-receive count first second =
    two_read (number_of_word 0 1000 second) (path_in first) receive_given _ _
    (fault_in-number 0 1000 second) (fault_in-path first) (λ _ _. refl)
    ∙ faults_table false false false (is_none (number_within 0 1000 second)) false
    (is_none (path_of first))

faults-poll : (count : ℕ) (first second : List ℕ) → fault_in (poll_answer first second)
    ≡ argument_fault count (path_field ∷ endpoint_field ∷ []) (first ∷ second ∷ [])
unfolding poll_answer
faults-poll count first second =
    two_read (endpoint_named second) (path_in first) poll_given _ _ (fault_in-endpoint second)
    (fault_in-path first) (λ _ _. refl)
    ∙ faults_table false false false (is_none (address_named second)) false
    (is_none (path_of first))

faults-clear_of : (count : ℕ) (first second : List ℕ) → fault_in (clear_of_answer first second)
    ≡ argument_fault count (path_field ∷ endpoint_field ∷ []) (first ∷ second ∷ [])
unfolding clear_of_answer
faults-clear_of count first second =
    two_read (endpoint_named second) (path_in first) clear_of_given _ _ (fault_in-endpoint second)
    (fault_in-path first) (λ _ _. refl)
    ∙ faults_table false false false (is_none (address_named second)) false
    (is_none (path_of first))

faults-send_to : (count : ℕ) (first second third : List ℕ)
    → fault_in (send_to_answer first second third)
    ≡ argument_fault count (path_field ∷ endpoint_field ∷ bytes_field send_to_limit ∷ [])
    (first ∷ second ∷ third ∷ [])
unfolding send_to_answer
faults-send_to count first second third =
    three_read (bytes_of_word send_to_limit third) (endpoint_named second) (path_in first)
    send_to_given _ _ _ (fault_in-bytes send_to_limit third) (fault_in-endpoint second)
    (fault_in-path first) (λ _ _ _. refl)
    ∙ named_table (not (is_dash third || is_hex third)) (nat_lt send_to_limit (hex_length third))
    false (is_none (address_named second)) (is_none (path_of first))

faults-receive_from : (count : ℕ) (first second third : List ℕ)
    → fault_in (receive_from_answer first second third)
    ≡ argument_fault count (path_field ∷ endpoint_field ∷ packets_field ∷ [])
    (first ∷ second ∷ third ∷ [])
unfolding receive_from_answer
faults-receive_from count first second third =
    three_read (number_of_word 0 1000 third) (endpoint_named second) (path_in first)
    receive_from_given _ _ _ (fault_in-number 0 1000 third) (fault_in-endpoint second)
    (fault_in-path first) (λ _ _ _. refl)
    ∙ named_table false false (is_none (number_within 0 1000 third))
    (is_none (address_named second)) (is_none (path_of first))

faults-interface : (count : ℕ) (first second third : List ℕ)
    → fault_in (interface_answer first second third)
    ≡ argument_fault count (path_field ∷ setting_field ∷ setting_field ∷ [])
    (first ∷ second ∷ third ∷ [])
unfolding interface_answer
faults-interface count first second third =
    three_read (number_of_word 0 255 third) (number_of_word 0 255 second) (path_in first)
    interface_given _ _ _ (fault_in-number 0 255 third) (fault_in-number 0 255 second)
    (fault_in-path first) (λ _ _ _. refl)
    ∙ named_table false false (is_none (number_within 0 255 third))
    (is_none (number_within 0 255 second)) (is_none (path_of first))

faults-status_change : (count : ℕ) (first second : List ℕ)
    → fault_in (status_change count first second)
    ≡ argument_fault count (root_field ∷ status_field ∷ []) (first ∷ second ∷ [])
unfolding status_change
faults-status_change count first second =
    two_read (status_of_word second) (number_of_word 1 count first) push_given _ _
    (fault_in-status second) (fault_in-number 1 count first) (λ _ _. refl)
    ∙ faults_table false (not (is_dash second || is_hex second)) (not (hex_length second == 4))
    false (is_none (number_within 1 count first)) false

-- ---- lines of one word, of two, of three

-- one form, if its test holds, or another
form_or : (count : ℕ) (b : Bool) (r s : Result Answer WireFault) (fields : List Field)
    (others : Option (List Field)) (arguments : List (List ℕ))
    → fault_in r ≡ argument_fault count fields arguments
    → fault_in (said_of s) ≡ fault_by count others arguments
    → fault_in (said_of (if b then r else s))
    ≡ fault_by count (if b then Some fields else others) arguments
form_or count true r s fields others arguments h k = fault_in-said_of r ∙ h
form_or count false r s fields others arguments h k = k

faults-alone : (asked : Asked) (count : ℕ) (word : List ℕ) → fault_in (said_of (alone asked word))
    ≡ words_fault asked count (word ∷ [])
unfolding alone
faults-alone Hello count word = refl
faults-alone Attempt count word =
    form_or count (bytes_eq word (codes "ACK")) (Ok Ack) _ [] _ [] refl
    (form_or count (bytes_eq word (codes "NAK")) (Ok Nak) _ [] _ [] refl
    (form_or count (bytes_eq word (codes "STALL")) (Ok Stall) _ [] _ [] refl
    (form_or count (bytes_eq word (codes "none")) (Ok Nothing) (Err NoAnswer) [] None [] refl
    refl)))
faults-alone Port count word =
    form_or count (bytes_eq word (codes "ok")) (Ok Done) (Err NoAnswer) [] None [] refl refl
faults-alone Wait count word =
    form_or count (bytes_eq word (codes "ok")) (Ok Done) _ [] _ [] refl
    (form_or count (bytes_eq word (codes "show")) (Ok Show) _ [] _ [] refl
    (form_or count (bytes_eq word (codes "end")) (Ok End) _ [] _ [] refl
    (form_or count (bytes_eq word (codes "news")) (Ok News) (Err NoAnswer) [] None [] refl refl)))

-- a push, or another form
push_or : (count : ℕ) (b : Bool) (r : Result Said WireFault) (s : Result Said WireFault)
    (fields : List Field) (others : Option (List Field)) (arguments : List (List ℕ))
    → fault_in r ≡ argument_fault count fields arguments
    → fault_in s ≡ fault_by count others arguments
    → fault_in (if b then r else s) ≡ fault_by count (if b then Some fields else others) arguments
push_or count true r s fields others arguments h k = h
push_or count false r s fields others arguments h k = k

faults-one : (asked : Asked) (count : ℕ) (word argument : List ℕ)
    → fault_in (said_of (with_one asked word argument))
    ≡ words_fault asked count (word ∷ argument ∷ [])
unfolding with_one
faults-one Hello count word argument =
    form_or count (bytes_eq word (codes "roots")) (roots_answer argument) (Err NoAnswer)
    (roots_field ∷ []) None (argument ∷ []) (faults-roots count argument) refl
faults-one Attempt count word argument =
    form_or count (bytes_eq word (codes "DATA0")) (data_answer Zero argument) _
    (bytes_field 64 ∷ []) _ (argument ∷ []) (faults-data count Zero argument)
    (form_or count (bytes_eq word (codes "DATA1")) (data_answer One argument) (Err NoAnswer)
    (bytes_field 64 ∷ []) None (argument ∷ []) (faults-data count One argument) refl)
faults-one Port count word argument = refl
faults-one Wait count word argument =
    form_or count (bytes_eq word (codes "clear")) (clear_answer argument) _ (path_field ∷ []) _
    (argument ∷ []) (faults-clear count argument)
    (form_or count (bytes_eq word (codes "look")) (look_answer argument) (Err NoAnswer)
    (path_field ∷ []) None (argument ∷ []) (faults-look count argument) refl)

faults-three : (asked : Asked) (count : ℕ) (word first second : List ℕ)
    → fault_in (three_say asked count word first second)
    ≡ words_fault asked count (word ∷ first ∷ second ∷ [])
unfolding three_say with_two
faults-three Hello count word first second =
    form_or count (bytes_eq word (codes "roots")) (second_answer first second) (Err NoAnswer)
    (roots_field ∷ version_field ∷ []) None (first ∷ second ∷ [])
    (faults-second count first second) refl
faults-three Wait count word first second =
    push_or count (bytes_eq word (codes "port")) (status_change count first second) _
    (root_field ∷ status_field ∷ []) _ (first ∷ second ∷ [])
    (faults-status_change count first second)
    (form_or count (bytes_eq word (codes "send")) (send_answer first second) _
    (path_field ∷ bytes_field send_limit ∷ []) _ (first ∷ second ∷ [])
    (faults-send count first second)
    (form_or count (bytes_eq word (codes "receive")) (receive_answer first second) _
    (path_field ∷ packets_field ∷ []) _ (first ∷ second ∷ [])
    (faults-receive count first second)
    (form_or count (bytes_eq word (codes "control")) (control_answer first second) _
    (path_field ∷ request_field false ∷ []) _ (first ∷ second ∷ [])
    (faults-control count first second)
    (form_or count (bytes_eq word (codes "interrupt")) (poll_answer first second) _
    (path_field ∷ endpoint_field ∷ []) _ (first ∷ second ∷ []) (faults-poll count first second)
    (form_or count (bytes_eq word (codes "clear")) (clear_of_answer first second) (Err NoAnswer)
    (path_field ∷ endpoint_field ∷ []) None (first ∷ second ∷ [])
    (faults-clear_of count first second) refl)))))
faults-three _ count word first second =
    push_or count (bytes_eq word (codes "port")) (status_change count first second) (Err NoAnswer)
    (root_field ∷ status_field ∷ []) None (first ∷ second ∷ [])
    (faults-status_change count first second) refl

faults-four : (asked : Asked) (count : ℕ) (word first second third : List ℕ)
    → fault_in (said_of (with_three asked word first second third))
    ≡ words_fault asked count (word ∷ first ∷ second ∷ third ∷ [])
unfolding with_three
faults-four Wait count word first second third =
    form_or count (bytes_eq word (codes "control")) (write_answer first second third) _
    (path_field ∷ request_field true ∷ bytes_field write_limit ∷ []) _
    (first ∷ second ∷ third ∷ []) (faults-write count first second third)
    (form_or count (bytes_eq word (codes "send")) (send_to_answer first second third) _
    (path_field ∷ endpoint_field ∷ bytes_field send_to_limit ∷ []) _
    (first ∷ second ∷ third ∷ []) (faults-send_to count first second third)
    (form_or count (bytes_eq word (codes "receive")) (receive_from_answer first second third) _
    (path_field ∷ endpoint_field ∷ packets_field ∷ []) _
    (first ∷ second ∷ third ∷ []) (faults-receive_from count first second third)
    (form_or count (bytes_eq word (codes "interface")) (interface_answer first second third)
    (Err NoAnswer) (path_field ∷ setting_field ∷ setting_field ∷ []) None
    (first ∷ second ∷ third ∷ []) (faults-interface count first second third) refl)))
faults-four _ count word first second third = refl

-- ---- lines of more words have no form

abbrev is_short : Form → Bool
is_short f = nat_le (length f.fields) 3

other_length : (m n : ℕ) → 4 ≤ m → n ≤ 3 → (m == n) ≡ false
other_length m n long few = grind (arith, nat_tests)

fields_in-long : (fs : List Form) (word : List ℕ) (arguments : List (List ℕ))
    → list_all is_short fs ≡ true → 4 ≤ length arguments → fields_in fs word arguments ≡ None
fields_in-long [] word arguments short long = refl
fields_in-long (f ∷ fs) word arguments short long =
    let parts = and_parts (is_short f) (list_all is_short fs) short in
    let few : length f.fields ≤ 3 = leb-true (length f.fields) 3 parts.0 in
    let other = other_length (length arguments) (length f.fields) long few in
    ap (λ b. if b && bytes_eq word f.word then Some f.fields else fields_in fs word arguments) other
    ∙ fields_in-long fs word arguments parts.1 long

short_forms : (asked : Asked) → list_all is_short (forms asked) ≡ true
short_forms Hello = refl
short_forms _ = refl

faults-words : (asked : Asked) (count : ℕ) (ws : List (List ℕ))
    → fault_in (words_say asked count ws) ≡ words_fault asked count ws
unfolding words_say
faults-words asked count [] = refl
faults-words asked count (word ∷ []) = faults-alone asked count word
faults-words asked count (word ∷ argument ∷ []) = faults-one asked count word argument
faults-words asked count (word ∷ first ∷ second ∷ []) = faults-three asked count word first second
faults-words asked count (word ∷ first ∷ second ∷ third ∷ []) =
    faults-four asked count word first second third
faults-words asked count (word ∷ first ∷ second ∷ third ∷ fourth ∷ more) =
    let long : 4 ≤ length (first ∷ second ∷ third ∷ fourth ∷ more) = omega arith in
    sym (ap (λ fields. fault_by count fields (first ∷ second ∷ third ∷ fourth ∷ more))
    (fields_in-long (forms asked) word (first ∷ second ∷ third ∷ fourth ∷ more) (short_forms asked)
    long))

line_rows : (l p : Bool) (line : List ℕ) (f : List ℕ → Result Said WireFault)
    (other : Option WireFault) → fault_in (f line) ≡ other
    → fault_in ((if l then Err LineTooLong else if p then Ok line else Err BadCharacter) >>= f)
    ≡ (if l then Some LineTooLong else if not p then Some BadCharacter else other)
line_rows false true line f other h = h
line_rows _ _ line f other h = refl

-- the fault that is told of a line is its own
pub faults-line : (asked : Asked) (count : ℕ) (line : List ℕ)
    → fault_in (line_says asked count line) ≡ form_fault asked count line
unfolding line_says text_of_line
faults-line asked count line =
    line_rows (nat_lt 1024 (length line)) (all_printable line) line
    (λ text. words_say asked count (words text)) (words_fault asked count (words line))
    (faults-words asked count (words line))
