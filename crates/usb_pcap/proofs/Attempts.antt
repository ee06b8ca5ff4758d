-- The attempt that was read of a line prints as that line.
use Rattle.std.proofs.Common.{◌≡◌, ℕ, ◌<◌, nat_lt, Bool, true, false, if◌then◌else◌, List, [], ◌∷◌}
use Rattle.std.proofs.Common.{◌++◌, Option, Some, None, IfSome, is_some, option_map, codes, decimal}
use Rattle.std.proofs.Common.{refl, sym, ap, subst, ◌∙◌, append_assoc, append-nil}
use Rattle.std.proofs.lemmas.Option.{option_and_then_some, same_Some}
use Rattle.std.proofs.lemmas.Bool.{ltb-true}
use Rattle.std.specs.Option.{option_and_then}
use Rattle.usb_packet.specs.{Packet, text_of}
use Rattle.usb_world.specs.{ExchangeAnswer, Mark, Whole, Outgoing, answer_text, attempt_line}
use Rattle.usb_world.specs.{host_text, mark_text, next_text, pre_text}
use Rattle.usb_world.specs.declared.exchange.ExchangeAnswer.TheVariants.{Nothing, One, Collision}
use Rattle.usb_pcap.specs.{TracedAttempt, decimal_in, strip, packet_in, packet_mark_in}
use Rattle.usb_pcap.specs.{IsAttemptLine, IsMarkedAnswer, IsSent, IsTraced, answer_in}
use Rattle.usb_pcap.specs.{attempt_answered, attempt_begun, attempt_in, behind_pre, data_follow}
use Rattle.usb_pcap.specs.{host_ack_in, host_data_in, host_in, is_ack_packet, is_answer}
use Rattle.usb_pcap.specs.{is_data_packet, kept_where, may_be_marked, next_in, no_time, one_answer}
use Rattle.usb_pcap.specs.{outgoing_of, payload_if, read_attempt, reply_if, sent, traced}
use Rattle.usb_pcap.specs.{whole_line}
use Rattle.usb_pcap.proofs.Reading.{decimal_in-some, found_some, if-some, map_some, strip-some}
use Rattle.usb_pcap.proofs.Packets.{packet_in-some, packet_mark_in-some}

behind_pre-some : (pre : Bool) (text rest : List ℕ) → behind_pre pre text ≡ Some rest
    → text ≡ pre_text pre ++ rest
behind_pre-some false text rest e = same_Some text rest e
behind_pre-some true text rest e = strip-some (codes "PRE ") text rest e

-- a text is that of a packet of the host with this behind it
abbrev SentAs : Bool → List ℕ → Outgoing × List ℕ → Type 0
SentAs pre text r = (text ≡ host_text pre r.0 ++ r.1) × IsSent pre r.0

host_in-some : (pre : Bool) (text : List ℕ) (r : Outgoing × List ℕ) → host_in pre text ≡ Some r
    → SentAs pre text r
unfolding host_in
host_in-some pre text r e =
    option_and_then_some (λ rest. option_and_then
    (λ packet. option_and_then (outgoing_of pre packet.0) (packet_mark_in packet.1))
    (packet_in rest)) (behind_pre pre text) r e (λ rest first e.
    option_and_then_some (λ packet. option_and_then (outgoing_of pre packet.0)
    (packet_mark_in packet.1)) (packet_in rest) r e (λ packet second e.
    option_and_then_some (outgoing_of pre packet.0) (packet_mark_in packet.1) r e (λ mark third e.
    if-some (may_be_marked pre mark.0 packet.0)
    (Some (record { packet = packet.0; mark = mark.0 }, mark.1)) r e (λ fits_form is.
    let own = packet_in-some rest packet second in
    let s : Outgoing = record { packet = packet.0; mark = mark.0 } in
    let spelled : text ≡ host_text pre s ++ mark.1 =
    behind_pre-some pre text rest first ∙ ap (λ l. pre_text pre ++ l) (own.0
    ∙ ap (λ l. text_of packet.0 ++ l) (packet_mark_in-some packet.1 mark third))
    ∙ simp append_assoc in
    subst (SentAs pre text) (same_Some (s, mark.1) r is) (spelled, (own.1, own.2, fits_form))))))

-- the same behind a stroke
abbrev NextAs : Bool → List ℕ → Outgoing × List ℕ → Type 0
NextAs pre text r = (text ≡ next_text pre (Some r.0) ++ r.1) × IsSent pre r.0

next_in-some : (pre : Bool) (text : List ℕ) (r : Outgoing × List ℕ) → next_in pre text ≡ Some r
    → NextAs pre text r
unfolding next_in
next_in-some pre text r e =
    option_and_then_some (host_in pre) (strip (codes " / ") text) r e (λ rest stroke e.
    let own = host_in-some pre rest r e in (
      strip-some (codes " / ") text rest stroke ∙ ap (λ l. codes " / " ++ l) own.0
          ∙ sym (append_assoc (codes " / ") (host_text pre r.0) r.1),
      own.1,
    ))

kept_where-some : (fits_form : Packet → Bool) (s r : Outgoing × List ℕ)
    → kept_where fits_form s ≡ Some r → (s ≡ r) × (fits_form r.0.packet ≡ true)
kept_where-some fits_form s r e =
    if-some (fits_form s.0.packet) (Some s) r e (λ h is. let same = same_Some s r is in
    (same, subst (λ (q : Outgoing × List ℕ). fits_form q.0.packet ≡ true) same h))

host_data_in-some : (pre : Bool) (text : List ℕ) (r : Outgoing × List ℕ)
    → host_data_in pre text ≡ Some r → NextAs pre text r × (is_data_packet r.0.packet ≡ true)
unfolding host_data_in
host_data_in-some pre text r e =
    option_and_then_some (kept_where is_data_packet) (next_in pre text) r e (λ s first e.
    let kept = kept_where-some is_data_packet s r e in
    (subst (NextAs pre text) kept.0 (next_in-some pre text s first), kept.1))

host_ack_in-some : (pre : Bool) (text : List ℕ) (r : Outgoing × List ℕ)
    → host_ack_in pre text ≡ Some r → NextAs pre text r × (is_ack_packet r.0.packet ≡ true)
unfolding host_ack_in
host_ack_in-some pre text r e =
    option_and_then_some (kept_where is_ack_packet) (next_in pre text) r e (λ s first e.
    let kept = kept_where-some is_ack_packet s r e in
    (subst (NextAs pre text) kept.0 (next_in-some pre text s first), kept.1))

-- a text is that of an answer and its mark with this behind it
abbrev AnsweredAs : List ℕ → (ExchangeAnswer × Mark) × List ℕ → Type 0
AnsweredAs text r = (text ≡ codes " / " ++ answer_text r.0.0 ++ mark_text r.0.1 ++ r.1)
    × IsMarkedAnswer r.0.0 r.0.1

answer_in-some : (text : List ℕ) (r : (ExchangeAnswer × Mark) × List ℕ) → answer_in text ≡ Some r
    → AnsweredAs text r
unfolding answer_in
answer_in-some text r e =
    found_some (strip (codes " / none") text) (λ rest. Some ((Nothing, Whole), rest)) _ r e
    (λ rest found is. subst (AnsweredAs text) (same_Some ((Nothing, Whole), rest) r is)
    (strip-some (codes " / none") text rest found, refl)) (λ e.
    found_some (strip (codes " / collision") text) (λ rest. Some ((Collision, Whole), rest)) _ r e
    (λ rest found is. subst (AnsweredAs text) (same_Some ((Collision, Whole), rest) r is)
    (strip-some (codes " / collision") text rest found, refl)) (λ e.
    option_and_then_some one_answer (next_in false text) r e (λ s first e.
    if-some (is_answer s.0.packet) (Some ((One s.0.packet, s.0.mark), s.1)) r e (λ fits_form is.
    let own = next_in-some false text s first in
    subst (AnsweredAs text) (same_Some ((One s.0.packet, s.0.mark), s.1) r is) (
      own.0 ∙ simp append_assoc,
      (fits_form, own.1),
    )))))

payload_if-some : (sends pre : Bool) (text : List ℕ) (r : Option Outgoing × List ℕ)
    → payload_if sends pre text ≡ Some r → (text ≡ next_text pre r.0 ++ r.1) × (is_some r.0 ≡ sends)
    × IfSome r.0 (λ s. IsSent pre s × (is_data_packet s.packet ≡ true))
payload_if-some false pre text r e =
    subst (λ (r : Option Outgoing × List ℕ). (text ≡ next_text pre r.0 ++ r.1)
    × (is_some r.0 ≡ false) × IfSome r.0 (λ s. IsSent pre s
    × (is_data_packet s.packet ≡ true))) (same_Some (None, text) r e) (refl, refl, tt)
payload_if-some true pre text r e =
    map_some (λ (s : Outgoing × List ℕ). (Some s.0, s.1)) (host_data_in pre text) r e (λ s found is.
    let own = host_data_in-some pre text s found in
    subst (λ (r : Option Outgoing × List ℕ). (text ≡ next_text pre r.0 ++ r.1)
    × (is_some r.0 ≡ true) × IfSome r.0 (λ s. IsSent pre s
    × (is_data_packet s.packet ≡ true))) is (own.0.0, refl, (own.0.1, own.1)))

reply_if-some : (pre : Bool) (text : List ℕ) (r : Option Outgoing × List ℕ)
    → reply_if pre text ≡ Some r → (text ≡ next_text pre r.0 ++ r.1) × IfSome r.0 (λ s. IsSent pre s
    × (is_ack_packet s.packet ≡ true))
reply_if-some pre [] r e =
    subst (λ (r : Option Outgoing × List ℕ). ([] ≡ next_text pre r.0 ++ r.1)
    × IfSome r.0 (λ s. IsSent pre s × (is_ack_packet s.packet ≡ true)))
    (same_Some (None, []) r e) (refl, tt)
reply_if-some pre (c ∷ text) r e =
    map_some (λ (s : Outgoing × List ℕ). (Some s.0, s.1)) (host_ack_in pre (c ∷ text)) r e
    (λ s found is.
    let own = host_ack_in-some pre (c ∷ text) s found in
    subst (λ (r : Option Outgoing × List ℕ). (c ∷ text ≡ next_text pre r.0 ++ r.1)
    × IfSome r.0 (λ s. IsSent pre s × (is_ack_packet s.packet ≡ true))) is
    (own.0.0, (own.0.1, own.1)))

-- a text is that of an attempt with this behind it
abbrev TracedAs : List ℕ → TracedAttempt × List ℕ → Type 0
TracedAs text r = (text ≡ attempt_line r.0.number r.0.pre r.0.exchange ++ r.1) × IsTraced r.0

attempt_begun-some : (number : ℕ) (text : List ℕ) (r : TracedAttempt × List ℕ) → number < no_time
    → attempt_begun number text ≡ Some r → TracedAs (decimal number ++ codes " " ++ text) r
attempt_begun-some number text r few e =
    let pre : Bool = is_some (strip (codes "PRE ") text) in
    option_and_then_some (sent number pre) (host_in pre text) r e (λ token first e.
    option_and_then_some (λ sends. option_and_then (attempt_answered number pre token.0)
    (payload_if sends pre token.1)) (data_follow token.0.packet) r e (λ sends kind e.
    option_and_then_some (attempt_answered number pre token.0) (payload_if sends pre token.1) r e
    (λ payload second e.
    option_and_then_some (λ answer. option_map (traced number pre token.0 payload.0 answer.0)
    (reply_if pre answer.1)) (answer_in payload.1) r e (λ answer third e.
    map_some (traced number pre token.0 payload.0 answer.0) (reply_if pre answer.1) r e
    (λ reply fourth is.
    let host = host_in-some pre text token first in
    let more = payload_if-some sends pre token.1 payload second in
    let heard = answer_in-some payload.1 answer third in
    let end = reply_if-some pre answer.1 reply fourth in
    let a : TracedAttempt = (traced number pre token.0 payload.0 answer.0 reply).0 in
    let spelled : decimal number ++ codes " " ++ text ≡ attempt_line a.number a.pre a.exchange ++
    reply.1 =
    ap (λ l. decimal number ++ codes " " ++ l) (host.0
    ∙ ap (λ l. host_text pre token.0 ++ l) (more.0
    ∙ ap (λ l. next_text pre payload.0 ++ l) (heard.0
    ∙ ap (λ l. codes " / " ++ answer_text answer.0.0 ++ mark_text answer.0.1 ++ l)
    end.0))) ∙ simp append_assoc in
    let told : IsTraced a = record {
      timed = few;
      token = host.1;
      sends = kind ∙ ap Some (sym more.1);
      payload = more.2;
      answer = heard.1;
      reply = end.1;
      kept = refl;
      uncleared = refl;
    } in
    subst (TracedAs (decimal number ++ codes " " ++ text)) is (spelled, told))))))

attempt_in-some : (text : List ℕ) (r : TracedAttempt × List ℕ) → attempt_in text ≡ Some r
    → TracedAs text r
unfolding attempt_in
attempt_in-some text r e =
    option_and_then_some (λ n. if nat_lt n.0 no_time then option_and_then (attempt_begun n.0)
    (strip (codes " ") n.1) else None)
    (decimal_in text) r e (λ n first e.
    if-some (nat_lt n.0 no_time) (option_and_then (attempt_begun n.0) (strip (codes " ") n.1)) r e
    (λ few e.
    option_and_then_some (attempt_begun n.0) (strip (codes " ") n.1) r e (λ rest blank e.
    let front : text ≡ decimal n.0 ++ codes " " ++ rest = (decimal_in-some text n first).0
    ∙ ap (λ l. decimal n.0 ++ l) (strip-some (codes " ") n.1 rest blank) ∙ simp append_assoc in
    subst (λ t. TracedAs t r) (sym front) (attempt_begun-some n.0 rest r (ltb-true n.0 no_time few)
    e))))

whole_line-some : (line : List ℕ) (r : TracedAttempt × List ℕ) (a : TracedAttempt) → TracedAs line r
    → whole_line r ≡ Some a → IsAttemptLine line a
whole_line-some line (b, []) a h e = subst (IsAttemptLine line) (same_Some b a e)
    (record { traced = h.1; printed = h.0 ∙ append-nil _ })
whole_line-some line (b, c ∷ text) a h e = absurd (cc)

pub read_attempt-some : (line : List ℕ) (o : Option TracedAttempt) → o ≡ read_attempt line
    → IfSome o (λ a. IsAttemptLine line a)
unfolding read_attempt
read_attempt-some line None e = tt
read_attempt-some line (Some a) e =
    option_and_then_some whole_line (attempt_in line) a (sym e)
    (λ r first e. whole_line-some line r a (attempt_in-some line r first) e)
