-- What a run prints of an attempt is read as that attempt.
use Rattle.std.proofs.Common.{◌≡◌, ◌⊎◌, ℕ, suc, ◌+◌, ◌*◌, ◌/◌, ◌%◌, ◌<◌, ◌≤◌, inl, inr, ◌==◌}
use Rattle.std.proofs.Common.{Bool, true, false, List, [], ◌∷◌, ◌++◌, length, slice_index}
use Rattle.std.proofs.Common.{Option, Some, None, IfSome, is_some, option_map, codes, decimal, refl}
use Rattle.std.proofs.Common.{sym, ap, ap₂, subst, ◌∙◌, arith, append_assoc, append-nil}
use Rattle.std.proofs.Common.{length-append}
use Rattle.std.proofs.lemmas.Bool.{lt-ltb, ltb-true}
use Rattle.hex.specs.Hex.{encode_upper, encode_with, upper_digits}
use Rattle.usb_packet.specs.{TokenKind, OutTok, InTok, SetupTok, Toggle, Zero, One, Packet, Token}
use Rattle.usb_packet.specs.{Sof, Payload, Ack, Nak, Stall, Pre, HasData, HasFields, IsBytes}
use Rattle.usb_packet.specs.{data_name, hex_text, text_of, token_name}
use Rattle.usb_world.specs.{ExchangeAnswer, Mark, Whole, Lost, PreLost, Flipped, Outgoing}
use Rattle.usb_world.specs.{bit_count, answer_text, attempt_line, host_text, mark_text, next_text}
use Rattle.usb_world.specs.{pre_text}
use Rattle.usb_world.specs.declared.exchange.ExchangeAnswer.TheVariants as answer
use Rattle.usb_pcap.specs.{TracedAttempt, bytes_on, is_digit, strip, value_of, Piece, bit_in}
use Rattle.usb_pcap.specs.{data_in, handshake_in, packet_in, packet_mark_in, token_in}
use Rattle.usb_pcap.specs.{IsAttemptLine, IsMarkedAnswer, IsSent, IsTraced, answer_in}
use Rattle.usb_pcap.specs.{attempt_answered, attempt_begun, attempt_in, behind_pre, data_follow}
use Rattle.usb_pcap.specs.{host_ack_in, host_data_in, host_in, is_ack_packet, is_answer}
use Rattle.usb_pcap.specs.{is_data_packet, may_be_marked, next_in, no_time, payload_if}
use Rattle.usb_pcap.specs.{read_attempt, reply_if, traced}
use Rattle.usb_pcap.proofs.Items.{StopsAt, decimal_in-complete, dash_apart}
use Rattle.usb_pcap.proofs.Reading.{digit_spelled, encode_step}

-- ---- bytes

-- a text that is at its end, or goes on with a blank
abbrev Blank : List ℕ → Type 0
Blank [] = Unit {0}
Blank (c ∷ rest) = c ≡ 32

bytes_over : (done rest : List ℕ) → Blank rest → bytes_on done rest ≡ Some (done, rest)
unfolding bytes_on
bytes_over done [] h = refl
bytes_over _ (c ∷ []) h = refl
bytes_over _ (c ∷ d ∷ rest) h = rw h refl

bytes_pair : (h l : ℕ) (done text : List ℕ) → is_digit h ≡ true → is_digit l ≡ true
    → length done < 64 → bytes_on done (h ∷ l ∷ text)
    ≡ bytes_on (done ++ (value_of h * 16 + value_of l) ∷ []) text
unfolding bytes_on
bytes_pair h l _ _ high low room = rw (high, low, lt-ltb _ 64 room) refl

bytes_on-complete : (bytes done rest : List ℕ) → IsBytes bytes → length done + length bytes ≤ 64
    → Blank rest → bytes_on done (encode_upper bytes ++ rest) ≡ Some (done ++ bytes, rest)
unfolding encode_with
bytes_on-complete [] done rest small few end = bytes_over done _ end
    ∙ ap (λ (l : List ℕ). Some (l, rest)) (sym (append-nil done))
bytes_on-complete (b ∷ bytes) done rest small few end =
    let byte : b < 256 = small 0 in
    let high = digit_spelled (b / 16) (omega arith) in
    let low = digit_spelled (b % 16) (omega arith) in
    let h : ℕ = slice_index upper_digits (b / 16) in
    let l : ℕ = slice_index upper_digits (b % 16) in
    let value : value_of h * 16 + value_of l ≡ b = ap₂ (λ (x y : ℕ). x * 16 + y) high.1 low.1
    ∙ omega arith in
    let long = length-append done (b ∷ []) in
    bytes_pair h l done (encode_upper bytes ++ rest) high.0 low.0 (omega arith)
    ∙ ap (λ v. bytes_on (done ++ v ∷ []) (encode_upper bytes ++ rest)) value
    ∙ bytes_on-complete bytes (done ++ b ∷ []) rest (λ i. small (suc i)) (omega (arith, long)) end
    ∙ ap (λ (d : List ℕ). Some (d, rest)) (append_assoc done (b ∷ []) bytes)

-- ---- packets

blank_number : (rest : List ℕ) → Blank rest → StopsAt Piece.number rest
blank_number [] h = tt
blank_number (c ∷ rest) h = rw h refl

token_in-complete : (kind : TokenKind) (addr ep : ℕ) (rest : List ℕ) → addr < 128 → ep < 16
    → Blank rest → token_in kind (decimal addr ++ (codes "." ++ (decimal ep ++ rest)))
    ≡ Some (Token kind addr ep, rest)
unfolding token_in strip
token_in-complete _ addr ep rest few low end =
    let first = decimal_in-complete addr (codes "." ++ (decimal ep ++ rest)) (omega arith) refl in
    let second = decimal_in-complete ep _ (omega arith) (blank_number _ end) in
    rw (first, second, lt-ltb _ _ few, lt-ltb ep 16 low) refl

strip-dash : (h : ℕ) (text : List ℕ) → (h == 45) ≡ false → strip (codes "-") (h ∷ text) ≡ None
unfolding strip
strip-dash h _ other = rw other refl

data_behind : (toggle : Toggle) (b : ℕ) (bytes text rest : List ℕ) → strip (codes "-") text ≡ None
    → bytes_on [] text ≡ Some (b ∷ bytes, rest)
    → data_in toggle text ≡ Some (Payload toggle (record { items = b ∷ bytes }), rest)
unfolding data_in
data_behind _ b _ _ _ none found = rw (none, found) refl

data_in-complete : (toggle : Toggle) (items rest : List ℕ) → IsBytes items → length items ≤ 64
    → Blank rest → data_in toggle (hex_text items ++ rest)
    ≡ Some (Payload toggle (record { items = items }), rest)
unfolding data_in strip
data_in-complete toggle [] rest small few end = refl
data_in-complete toggle (b ∷ bytes) rest small few end =
    let byte : b < 256 = small 0 in
    let high = digit_spelled (b / 16) (omega arith) in
    let h : ℕ = slice_index upper_digits (b / 16) in
    let l : ℕ = slice_index upper_digits (b % 16) in
    let other = dash_apart h high.0 in
    data_behind toggle b bytes (encode_upper (b ∷ bytes) ++ rest) rest
    (subst (λ t. strip (codes "-") (t ++ rest) ≡ None) (sym (encode_step b bytes))
    (strip-dash h (l ∷ (encode_upper bytes ++ rest)) other))
    (bytes_on-complete (b ∷ bytes) [] rest small (omega (arith, few)) end)

abbrev is_spoken : Packet → Bool
is_spoken (Sof frame) = false
is_spoken Pre = false
is_spoken _ = true

token_begun : (kind : TokenKind) (text : List ℕ) → packet_in (token_name kind ++ text)
    ≡ token_in kind text
unfolding packet_in strip
token_begun OutTok _ = refl
token_begun InTok _ = refl
token_begun SetupTok _ = refl

data_begun : (toggle : Toggle) (text : List ℕ) → packet_in (data_name toggle ++ text)
    ≡ data_in toggle text
unfolding packet_in strip
data_begun Zero _ = refl
data_begun One _ = refl

packet_in-complete : (p : Packet) (rest : List ℕ) → is_spoken p ≡ true → HasFields p → HasData p
    → Blank rest → packet_in (text_of p ++ rest) ≡ Some (p, rest)
unfolding packet_in handshake_in strip
packet_in-complete (Token kind addr ep) rest h fields data_fits end =
    let own : text_of (Token kind addr ep) ++ rest ≡ token_name kind ++
    (decimal addr ++ (codes "." ++ (decimal ep ++ rest))) = simp append_assoc in
    ap packet_in own ∙ token_begun kind (decimal addr ++ (codes "." ++ (decimal ep ++ rest)))
    ∙ token_in-complete kind _ ep _ fields.0 fields.1 end
packet_in-complete (Sof frame) _ h fields data_fits end = absurd (cc)
packet_in-complete (Payload toggle bytes) rest h _ data_fits end =
    ap packet_in (append_assoc (data_name toggle) (hex_text bytes.items) rest)
    ∙ data_begun toggle (hex_text bytes.items ++ rest)
    ∙ data_in-complete toggle _ _ data_fits.1 data_fits.0 end
packet_in-complete Ack rest h _ _ _ = refl
packet_in-complete Nak rest h _ _ _ = refl
packet_in-complete Stall rest h _ _ _ = refl
packet_in-complete Pre _ h fields data_fits end = absurd (cc)

-- ---- marks

-- a text that is at its end, or goes on with a further packet
abbrev EndsWord : List ℕ → Type 0
EndsWord rest = (rest ≡ []) ⊎ ((more : List ℕ) × (rest ≡ codes " / " ++ more))

abbrev IsSmallMark : Mark → Type 0
IsSmallMark (Flipped bit) = bit < 65536
IsSmallMark _ = Unit {0}

bit_in-complete : (bit : ℕ) (rest : List ℕ) → bit < 65536
    → bit_in (decimal bit ++ (codes "]" ++ rest)) ≡ Some (Flipped bit, rest)
unfolding bit_in strip
bit_in-complete bit rest few = rw (
  decimal_in-complete bit (codes "]" ++ rest) (omega arith) refl,
  lt-ltb _ _ few,
) refl

mark-complete : (m : Mark) (rest : List ℕ) → IsSmallMark m → EndsWord rest
    → packet_mark_in (mark_text m ++ rest) ≡ Some (m, rest)
unfolding packet_mark_in strip
mark-complete Whole rest small (inl e) = rw e refl
mark-complete Whole rest small (inr (more, e)) = rw e refl
mark-complete Lost rest small end = refl
mark-complete PreLost rest small end = refl
mark-complete (Flipped bit) rest small end =
    ap bit_in (append_assoc (decimal bit) (codes "]") rest) ∙ bit_in-complete bit rest small

mark_blank : (m : Mark) (rest : List ℕ) → EndsWord rest → Blank (mark_text m ++ rest)
mark_blank Whole _ (inl e) = subst Blank (sym e) tt
mark_blank Whole _ (inr (more, e)) = subst Blank (sym e) refl
mark_blank _ _ _ = refl

few_bits : (p : Packet) → HasData p → bit_count p ≤ 536
unfolding bit_count
few_bits (Payload toggle bytes) fits_form = let few = fits_form.0 in omega (arith, few)
few_bits _ fits_form = omega arith

mark_small : (pre : Bool) (m : Mark) (p : Packet) → HasData p → may_be_marked pre m p ≡ true
    → IsSmallMark m
mark_small _ (Flipped bit) p fits_form h = let few = few_bits p fits_form in let below =
    ltb-true _ _ h in omega (arith, few, below)
mark_small _ _ p _ h = tt

-- ---- packets of the host

pre_behind : (pre : Bool) (text : List ℕ) → behind_pre pre (pre_text pre ++ text) ≡ Some text
unfolding strip
pre_behind false _ = refl
pre_behind true _ = refl

host_in-complete : (pre : Bool) (s : Outgoing) (rest : List ℕ) → IsSent pre s
    → is_spoken s.packet ≡ true → EndsWord rest → host_in pre (host_text pre s ++ rest)
    ≡ Some (s, rest)
unfolding host_in
host_in-complete pre s rest sends spoken end =
    let whole : host_text pre s ++ rest ≡ pre_text pre ++
    (text_of s.packet ++ (mark_text s.mark ++ rest)) = simp append_assoc in
    let one = pre_behind pre (text_of s.packet ++ (mark_text s.mark ++ rest)) in
    let two = packet_in-complete s.packet (mark_text s.mark ++ rest) spoken sends.0 sends.1
    (mark_blank s.mark rest end) in
    let three = mark-complete s.mark rest (mark_small pre s.mark s.packet sends.1 sends.2) end in
    let four = sends.2 in
    subst (λ t. host_in pre t ≡ Some (s, rest)) (sym whole) (rw (one, two, three, four) refl)

next_in-complete : (pre : Bool) (s : Outgoing) (rest : List ℕ) → IsSent pre s
    → is_spoken s.packet ≡ true → EndsWord rest → next_in pre (next_text pre (Some s) ++ rest)
    ≡ Some (s, rest)
unfolding next_in strip
next_in-complete pre s rest sends spoken end =
    ap (next_in pre) (append_assoc (codes " / ") (host_text pre s) rest)
    ∙ host_in-complete pre s rest sends spoken end

-- neither a start of frame nor a PRE alone
speaks : (f : Packet → Bool) → ((frame : ℕ) → f (Sof frame) ≡ false) → f Pre ≡ false → (p : Packet)
    → f p ≡ true → is_spoken p ≡ true
speaks f sof pre (Sof frame) h = cc (sym (sof frame) ∙ h)
speaks f sof pre Pre h = cc (sym pre ∙ h)
speaks f _ _ _ h = refl

host_data-complete : (pre : Bool) (s : Outgoing) (rest : List ℕ) → IsSent pre s
    → is_data_packet s.packet ≡ true → EndsWord rest
    → host_data_in pre (next_text pre (Some s) ++ rest) ≡ Some (s, rest)
unfolding host_data_in
host_data-complete pre s rest sends is end =
    rw (
      next_in-complete pre s rest sends (speaks is_data_packet (λ _. refl) refl s.packet is) end,
      is,
    ) refl

host_ack-complete : (pre : Bool) (s : Outgoing) (rest : List ℕ) → IsSent pre s
    → is_ack_packet s.packet ≡ true → EndsWord rest
    → host_ack_in pre (next_text pre (Some s) ++ rest) ≡ Some (s, rest)
unfolding host_ack_in
host_ack-complete pre s rest sends is end =
    rw (
      next_in-complete pre s rest sends (speaks is_ack_packet (λ _. refl) refl s.packet is) end,
      is,
    ) refl

-- ---- answers

abbrev HasNoWord : List ℕ → Type 0
HasNoWord text = (strip (codes " / none") text ≡ None) × (strip (codes " / collision") text ≡ None)

no_word : (p : Packet) (text : List ℕ) → is_answer p ≡ true
    → HasNoWord (codes " / " ++ (text_of p ++ text))
unfolding strip
no_word (Payload Zero bytes) _ h = (refl, refl)
no_word (Payload One bytes) _ h = (refl, refl)
no_word Ack _ h = (refl, refl)
no_word Nak _ h = (refl, refl)
no_word Stall _ h = (refl, refl)
no_word _ _ h = absurd (cc)

answer_behind : (text rest : List ℕ) (p : Packet) (m : Mark) → HasNoWord text
    → next_in false text ≡ Some (record { packet = p; mark = m }, rest) → is_answer p ≡ true
    → answer_in text ≡ Some ((answer.One p, m), rest)
unfolding answer_in
answer_behind _ _ p m none found is = let one = none.0 in let two = none.1 in
    rw (one, two, found, is) refl

nothing_read : (rest : List ℕ) → answer_in (codes " / " ++ (codes "none" ++ rest))
    ≡ Some ((answer.Nothing, Whole), rest)
unfolding answer_in strip
nothing_read rest = refl

collision_read : (rest : List ℕ) → answer_in (codes " / " ++ (codes "collision" ++ rest))
    ≡ Some ((answer.Collision, Whole), rest)
unfolding answer_in strip
collision_read rest = refl

answer_in-complete : (a : ExchangeAnswer) (m : Mark) (rest : List ℕ) → IsMarkedAnswer a m
    → EndsWord rest → answer_in (codes " / " ++ (answer_text a ++ (mark_text m ++ rest)))
    ≡ Some ((a, m), rest)
answer_in-complete answer.Nothing m rest e end =
    subst (λ (n : Mark). answer_in (codes " / " ++ (codes "none" ++ (mark_text n ++ rest)))
    ≡ Some ((answer.Nothing, n), rest)) (sym e) (nothing_read rest)
answer_in-complete answer.Collision m rest e end =
    subst (λ (n : Mark). answer_in (codes " / " ++ (codes "collision" ++ (mark_text n ++ rest)))
    ≡ Some ((answer.Collision, n), rest)) (sym e) (collision_read rest)
answer_in-complete (answer.One p) m rest (is, sends) end =
    let s : Outgoing = record { packet = p; mark = m } in
    let own : next_text false (Some s) ++ rest
    ≡ codes " / " ++ (text_of p ++ (mark_text m ++ rest)) = simp append_assoc in
    answer_behind (codes " / " ++ (text_of p ++ (mark_text m ++ rest))) rest p m
    (no_word p (mark_text m ++ rest) is)
    (subst (λ t. next_in false t ≡ Some (s, rest)) own
    (next_in-complete false s rest sends (speaks is_answer (λ _. refl) refl p is) end)) is

-- ---- whole lines

payload_if-complete : (pre : Bool) (payload : Option Outgoing) (rest : List ℕ)
    → IfSome payload (λ s. IsSent pre s × (is_data_packet s.packet ≡ true)) → EndsWord rest
    → payload_if (is_some payload) pre (next_text pre payload ++ rest) ≡ Some (payload, rest)
payload_if-complete _ None _ h _ = refl
payload_if-complete _ (Some s) _ h end = rw (host_data-complete _ s _ h.0 h.1 end) refl

reply_end : (pre : Bool) (reply : Option Outgoing) → EndsWord (next_text pre reply)
reply_end _ None = inl refl
reply_end pre (Some s) = inr (host_text pre s, refl)

reply_if-complete : (pre : Bool) (reply : Option Outgoing)
    → IfSome reply (λ s. IsSent pre s × (is_ack_packet s.packet ≡ true))
    → reply_if pre (next_text pre reply) ≡ Some (reply, [])
reply_if-complete _ None h = refl
reply_if-complete pre (Some s) h =
    let own : host_ack_in pre (next_text pre (Some s)) ≡ Some (s, []) =
    subst (λ t. host_ack_in pre t ≡ Some (s, [])) (append-nil (next_text pre (Some s)))
    (host_ack-complete pre s [] h.0 h.1 (inl refl)) in
    ap (option_map (λ (r : Outgoing × List ℕ). (Some r.0, r.1))) own

pre_read : (pre : Bool) (p : Packet) (m : Mark) (b : Bool) (text : List ℕ) → data_follow p ≡ Some b
    → is_some (strip (codes "PRE ") (host_text pre (record { packet = p; mark = m }) ++ text)) ≡ pre
unfolding strip
pre_read true p m b _ h = refl
pre_read false (Token OutTok addr ep) m b _ h = refl
pre_read false (Token InTok addr ep) m b _ h = refl
pre_read false (Token SetupTok addr ep) m b _ h = refl
pre_read false _ m b _ h = absurd (cc)

-- from the answer, from the host's data and from the token on
abbrev answer_on : TracedAttempt → List ℕ
answer_on a = codes " / " ++ (answer_text a.exchange.answer ++
    (mark_text a.exchange.answer_mark ++ next_text a.pre a.exchange.reply))

abbrev payload_on : TracedAttempt → List ℕ
payload_on a = next_text a.pre a.exchange.payload ++ answer_on a

abbrev token_on : TracedAttempt → List ℕ
token_on a = host_text a.pre a.exchange.token ++ payload_on a

payload_end : (pre : Bool) (payload : Option Outgoing) (more : List ℕ)
    → EndsWord (next_text pre payload ++ (codes " / " ++ more))
payload_end _ None more = inr (more, refl)
payload_end pre (Some s) more = inr (host_text pre s ++ (codes " / " ++ more), refl)

as_told : (a : TracedAttempt) → IsTraced a
    → (traced a.number a.pre a.exchange.token a.exchange.payload
    (a.exchange.answer, a.exchange.answer_mark) (a.exchange.reply, [])).0 ≡ a
as_told a h =
    ap₂ (λ (lost cleared : Bool). record a {
      exchange = record a.exchange { address_lost = lost; change_cleared = cleared };
    }) (sym h.kept)
    (sym h.uncleared)

answered-complete : (a : TracedAttempt) → IsTraced a
    → attempt_answered a.number a.pre a.exchange.token (a.exchange.payload, answer_on a)
    ≡ Some (a, [])
answered-complete a h =
    let one = answer_in-complete a.exchange.answer a.exchange.answer_mark
    (next_text a.pre a.exchange.reply) h.answer (reply_end a.pre a.exchange.reply) in
    let two = reply_if-complete a.pre a.exchange.reply h.reply in
    rw (one, two) (ap (λ (b : TracedAttempt). Some (b, [])) (as_told a h))

begun-complete : (a : TracedAttempt) → IsTraced a → attempt_begun a.number (token_on a)
    ≡ Some (a, [])
begun-complete a h =
    let one : is_some (strip (codes "PRE ") (token_on a)) ≡ a.pre =
    pre_read a.pre a.exchange.token.packet a.exchange.token.mark _ (payload_on a) h.sends in
    let two = host_in-complete a.pre a.exchange.token (payload_on a) h.token
    (speaks (λ p. is_some (data_follow p)) (λ _. refl) refl a.exchange.token.packet
    (ap is_some h.sends))
    (payload_end a.pre a.exchange.payload
    (answer_text a.exchange.answer ++ (mark_text a.exchange.answer_mark ++ next_text a.pre
    a.exchange.reply))) in
    let three = h.sends in
    let four = payload_if-complete a.pre a.exchange.payload (answer_on a) h.payload
    (inr (
      answer_text a.exchange.answer ++
          (mark_text a.exchange.answer_mark ++ next_text a.pre a.exchange.reply),
      refl,
    )) in
    rw (one, two, three, four) (answered-complete a h)

attempt_in-complete : (a : TracedAttempt) → IsTraced a
    → attempt_in (decimal a.number ++ (codes " " ++ token_on a)) ≡ Some (a, [])
unfolding attempt_in strip
attempt_in-complete a h =
    let timed = h.timed in
    let one = decimal_in-complete a.number (codes " " ++ token_on a) (omega (arith, timed)) refl in
    rw (one, lt-ltb a.number no_time timed) (begun-complete a h)

pub read_attempt-each : (line : List ℕ) (a : TracedAttempt) → IsAttemptLine line a
    → read_attempt line ≡ Some a
unfolding read_attempt
read_attempt-each line a h =
    let whole : attempt_line a.number a.pre a.exchange
    ≡ decimal a.number ++ (codes " " ++ (host_text a.pre a.exchange.token ++
    (next_text a.pre a.exchange.payload
    ++ (codes " / " ++ (answer_text a.exchange.answer ++
    (mark_text a.exchange.answer_mark ++ next_text a.pre a.exchange.reply)))))) =
    simp append_assoc in
    subst (λ l. read_attempt l ≡ Some a) (sym (h.printed ∙ whole))
    (rw (attempt_in-complete a h.traced) refl)
