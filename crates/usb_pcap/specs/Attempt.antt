-- The line of an attempt, as it is read: from its number to the host's ACK.
use Rattle.std.specs.Prelude.{◌≡◌, ◌<◌, IfSome, ℕ, nat_lt, Bool, true, false, List, [], ◌∷◌, Option}
use Rattle.std.specs.Prelude.{Some, None, is_some, codes, option_map, if◌then◌else◌}
use Rattle.std.specs.Option.{option_and_then}
use Rattle.usb_packet.specs.{OutTok, InTok, SetupTok, Packet, Token, Sof, Payload, Ack, Nak, Stall}
use Rattle.usb_packet.specs.{Pre, HasData, HasFields}
use Rattle.usb_world.specs.{attempt_line, ExchangeAnswer, Mark, Whole, Lost, PreLost, Flipped}
use Rattle.usb_world.specs.{Outgoing, bit_count}
use Rattle.usb_world.specs.declared.exchange.ExchangeAnswer.TheVariants.{Nothing, One, Collision}
use Rattle.usb_pcap.specs.declared.attempt.TracedAttempt.{TracedAttempt}
use Rattle.usb_pcap.specs.Text.{decimal_in, if_found, strip}
use Rattle.usb_pcap.specs.Packet.{packet_in, packet_mark_in}

-- the first number that has no time in a pcap file: as many microseconds as 2 ^ 32 seconds have
abbrev pub no_time : ℕ
no_time = 4294967296000000

-- whether the host's data follow a token
abbrev pub data_follow : Packet → Option Bool
data_follow (Token InTok addr ep) = Some false
data_follow (Token SetupTok addr ep) = Some true
data_follow (Token OutTok addr ep) = Some true
data_follow (Sof frame) = None
data_follow (Payload toggle bytes) = None
data_follow Ack = None
data_follow Nak = None
data_follow Stall = None
data_follow Pre = None

-- PRE is lost only where there is one, and a flipped bit is one of the packet's
abbrev pub may_be_marked : Bool → Mark → Packet → Bool
may_be_marked pre Whole packet = true
may_be_marked pre Lost packet = true
may_be_marked pre PreLost packet = pre
may_be_marked pre (Flipped bit) packet = nat_lt bit (bit_count packet)

abbrev pub behind_pre : Bool → List ℕ → Option (List ℕ)
behind_pre false text = Some text
behind_pre true text = strip (codes "PRE ") text

abbrev pub outgoing_of : Bool → Packet → Mark × List ℕ → Option (Outgoing × List ℕ)
outgoing_of pre packet mark = if may_be_marked pre mark.0 packet then Some
    (record { packet = packet; mark = mark.0 }, mark.1) else None

-- a packet of the host and its mark
unfoldable pub host_in : Bool → List ℕ → Option (Outgoing × List ℕ)
host_in pre text =
    option_and_then (λ rest. option_and_then
    (λ packet. option_and_then (outgoing_of pre packet.0) (packet_mark_in packet.1))
    (packet_in rest))
    (behind_pre pre text)

-- a further packet of the host
unfoldable pub next_in : Bool → List ℕ → Option (Outgoing × List ℕ)
next_in pre text = option_and_then (host_in pre) (strip (codes " / ") text)

abbrev pub is_data_packet : Packet → Bool
is_data_packet (Payload toggle bytes) = true
is_data_packet (Token kind addr ep) = false
is_data_packet (Sof frame) = false
is_data_packet Ack = false
is_data_packet Nak = false
is_data_packet Stall = false
is_data_packet Pre = false

abbrev pub is_ack_packet : Packet → Bool
is_ack_packet Ack = true
is_ack_packet (Token kind addr ep) = false
is_ack_packet (Sof frame) = false
is_ack_packet (Payload toggle bytes) = false
is_ack_packet Nak = false
is_ack_packet Stall = false
is_ack_packet Pre = false

abbrev pub is_answer : Packet → Bool
is_answer (Token kind addr ep) = false
is_answer (Payload toggle bytes) = true
is_answer Ack = true
is_answer Nak = true
is_answer Stall = true
is_answer (Sof frame) = false
is_answer Pre = false

abbrev pub kept_where : (Packet → Bool) → Outgoing × List ℕ → Option (Outgoing × List ℕ)
kept_where fits_form sent = if fits_form sent.0.packet then Some sent else None

-- the host's data
unfoldable pub host_data_in : Bool → List ℕ → Option (Outgoing × List ℕ)
host_data_in pre text = option_and_then (kept_where is_data_packet) (next_in pre text)

-- the host's ACK
unfoldable pub host_ack_in : Bool → List ℕ → Option (Outgoing × List ℕ)
host_ack_in pre text = option_and_then (kept_where is_ack_packet) (next_in pre text)

abbrev pub one_answer : Outgoing × List ℕ → Option ((ExchangeAnswer × Mark) × List ℕ)
one_answer sent = if is_answer sent.0.packet then Some ((One sent.0.packet, sent.0.mark), sent.1)
    else None

-- the devices' answer and its mark
unfoldable pub answer_in : List ℕ → Option ((ExchangeAnswer × Mark) × List ℕ)
answer_in text =
    if_found (strip (codes " / none") text) (λ rest. Some ((Nothing, Whole), rest))
    (if_found (strip (codes " / collision") text) (λ rest. Some ((Collision, Whole), rest))
    (option_and_then one_answer (next_in false text)))

-- the host's data, where a token is followed by some
abbrev pub payload_if : Bool → Bool → List ℕ → Option (Option Outgoing × List ℕ)
payload_if false pre text = Some (None, text)
payload_if true pre text = option_map (λ s. (Some s.0, s.1)) (host_data_in pre text)

-- the host's ACK, where something is left
abbrev pub reply_if : Bool → List ℕ → Option (Option Outgoing × List ℕ)
reply_if pre [] = Some (None, [])
reply_if pre (c ∷ text) = option_map (λ s. (Some s.0, s.1)) (host_ack_in pre (c ∷ text))

abbrev pub traced : ℕ → Bool → Outgoing → Option Outgoing → ExchangeAnswer × Mark → Option Outgoing
    × List ℕ → TracedAttempt × List ℕ
traced number pre token payload answer reply = (
  record {
    number = number;
    pre = pre;
    exchange = record {
      token = token;
      payload = payload;
      answer = answer.0;
      answer_mark = answer.1;
      reply = reply.0;
      address_lost = false;
      change_cleared = false;
    };
  },
  reply.1,
)

-- from the answer on
abbrev pub attempt_answered : ℕ → Bool → Outgoing → Option Outgoing × List ℕ
    → Option (TracedAttempt × List ℕ)
attempt_answered number pre token payload =
    option_and_then (λ answer. option_map (traced number pre token payload.0 answer.0)
    (reply_if pre answer.1)) (answer_in payload.1)

-- from the host's data on
abbrev pub sent : ℕ → Bool → Outgoing × List ℕ → Option (TracedAttempt × List ℕ)
sent number pre token =
    option_and_then (λ sends. option_and_then (attempt_answered number pre token.0)
    (payload_if sends pre token.1)) (data_follow token.0.packet)

-- from the token on
abbrev pub attempt_begun : ℕ → List ℕ → Option (TracedAttempt × List ℕ)
attempt_begun number text = let pre = is_some (strip (codes "PRE ") text) in
    option_and_then (sent number pre) (host_in pre text)

unfoldable pub attempt_in : List ℕ → Option (TracedAttempt × List ℕ)
attempt_in text =
    option_and_then (λ n. if nat_lt n.0 no_time then option_and_then (attempt_begun n.0)
    (strip (codes " ") n.1) else None) (decimal_in text)

abbrev pub whole_line : TracedAttempt × List ℕ → Option TracedAttempt
whole_line (a, []) = Some a
whole_line (a, c ∷ text) = None

-- the attempt whose line this is
unfoldable pub read_attempt : List ℕ → Option TracedAttempt
read_attempt line = option_and_then whole_line (attempt_in line)

-- ---- what is so of an attempt that a line tells

-- fields and data that a packet has room for, and a mark that it may have
abbrev pub IsSent : Bool → Outgoing → Type 0
IsSent pre s = HasFields s.packet × HasData s.packet × (may_be_marked pre s.mark s.packet ≡ true)

abbrev pub IsMarkedAnswer : ExchangeAnswer → Mark → Type 0
IsMarkedAnswer Nothing mark = mark ≡ Whole
IsMarkedAnswer Collision mark = mark ≡ Whole
IsMarkedAnswer (One p) mark = (is_answer p ≡ true)
    × IsSent false (record { packet = p; mark = mark })

-- a number with a time, a token, the host's data behind SETUP and OUT, an answer, and maybe the
-- host's ACK; what no line
-- tells is false
pub record IsTraced (a : TracedAttempt) : Type 0 where
  pub timed : a.number < no_time
  pub token : IsSent a.pre a.exchange.token
  pub sends : data_follow a.exchange.token.packet ≡ Some (is_some a.exchange.payload)
  pub payload : IfSome a.exchange.payload (λ s. IsSent a.pre s × (is_data_packet s.packet ≡ true))
  pub answer : IsMarkedAnswer a.exchange.answer a.exchange.answer_mark
  pub reply : IfSome a.exchange.reply (λ s. IsSent a.pre s × (is_ack_packet s.packet ≡ true))
  pub kept : a.exchange.address_lost ≡ false
  pub uncleared : a.exchange.change_cleared ≡ false

-- the line is that of the attempt
pub record IsAttemptLine (line : List ℕ) (a : TracedAttempt) : Type 0 where
  pub traced : IsTraced a
  pub printed : line ≡ attempt_line a.number a.pre a.exchange
