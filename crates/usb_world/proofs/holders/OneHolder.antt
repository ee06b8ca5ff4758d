-- An attempt, where one reachable device holds its address or none does.
use Rattle.std.proofs.Common.{append-nil, arith, ◌≡◌, ℕ, ◌+◌, ◌&&◌, if◌then◌else◌, Bool, true}
use Rattle.std.proofs.Common.{false, List, [], ◌++◌, length, Option, None, Some, option_map, refl}
use Rattle.std.proofs.Common.{ap, ap₂, sym, subst, ◌∙◌}
use Rattle.arrayvec.specs.ArrayVec.{ArrayVec}
use Rattle.usb_packet.specs.{Packet, Token, Toggle, Zero, TokenKind, OutTok, InTok, SetupTok}
use Rattle.usb_packet.specs.declared.Packet.TheVariants as packet
use Rattle.usb_port.specs.{PortState}
use Rattle.usb_device.specs.{Answer, Sent, State, Reply, received, unread, forgotten, accepted}
use Rattle.usb_device.specs.{data_row, Way, is_whole, through, heard, is_good, sends, acked}
use Rattle.usb_device.specs.{setup_exchange, out_exchange, in_exchange, setup_law, out_law, in_law}
use Rattle.usb_device.specs.{Ports, full, acted, row_of, state_at, place_at, state_on, answer_of}
use Rattle.usb_device.specs.{effect_of, listed, held_addresses, repeats, Effect, Leaves}
use Rattle.usb_device.specs.declared.answer.Answer.TheVariants as answer
use Rattle.usb_device.specs.declared.transfer.RememberedPacket.TheVariants as memory
use Rattle.usb_request.specs.{setup_of}
use Rattle.usb_device.specs.Attempt.{whole}
use Rattle.usb_device.proofs.Interface.{in_is, keeps-received, out_is, setup_is}
use Rattle.usb_world.specs.{Attempt, Damage, ExchangeAnswer, Mark, is_read, marked, marked_some}
use Rattle.usb_world.specs.{token_of, payload_of, reply_of, outcome_of, sent_as, goes_out}
use Rattle.usb_world.specs.{heard_all, token_out, payload_out, reply_out, heard_in, mark_in}
use Rattle.usb_world.specs.{place_of_answer, ports_in, way_to, way_back, got, token_way}
use Rattle.usb_world.specs.{payload_way, answer_way, reply_way, out_alone, in_alone, IsSetup, IsOut}
use Rattle.usb_world.specs.{IsIn}
use Rattle.usb_world.specs.declared.types.Outcome.TheVariants as outcome
use Rattle.usb_world.specs.declared.exchange.ExchangeAnswer.TheVariants.{Nothing}
use Rattle.usb_world.specs.{address_of, after_sent, answers_to, heard_by, deep_at, IsSettled}
use Rattle.usb_world.specs.{NobodyHolds, OneHolds, Found}
use Rattle.usb_world.proofs.packets.Packets.{CalmOut, calm_token as token_calm}
use Rattle.usb_world.proofs.packets.Packets.{calm_ack as ack_calm, stands, state_stands}
use Rattle.std.proofs.lemmas.Option.{same_Some}
use Rattle.usb_world.proofs.holders.OneDevice.{settled_memory, nobody_answers, one_device}
use Rattle.usb_world.proofs.holders.OneDevice.{answers_at, place_after, OneActs, step_in}
use Rattle.usb_world.proofs.courses.Courses.{goes}

-- what a device that stands deep or not, with these ports, makes of an attempt with it alone
abbrev pub setup_alone : Attempt → Option Damage → Ports → Bool → State → List PortState → List ℕ
    → Reply
setup_alone a damage k deep s row bytes = setup_law s row bytes (token_way a damage deep s)
    (payload_way a damage deep s) (answer_way a damage k)

-- between attempts a reachable device holds the address, and no address is held twice
pub record Holder (n : ℕ) (k : Ports) : Type 0 where
  pub settled : IsSettled k
  pub single : repeats (held_addresses k) ≡ false
  pub found : Found n k
  pub open found use *

-- the host gets what the device answers, and the device is what it is then
pub record ExchangedWithHolder (a : Attempt) (damage : Option Damage) (k : Ports)
    (h : Holder a.addr k) (r : Reply) : Type 0 where
  pub outcome : outcome_of (heard_in a damage k) (mark_in a damage k) a.max ≡ got a.max r.0
  pub state : state_on (ports_in a damage k) h.spot ≡ Some r.1

-- What the host gets

pub outcome_unread : (h : ExchangeAnswer) (m : Mark) (max : ℕ) → h ≡ Nothing
    → outcome_of h m max ≡ outcome.Nothing
unfolding outcome_of is_read
outcome_unread h m max e = grind arith

outcome_got : (o : Option Answer) (m : Mark) (max : ℕ)
    → outcome_of (heard_all (listed o [])) m max ≡ got max (heard (way_back m) o)
unfolding outcome_of is_read
outcome_got o m max = grind arith

-- Nobody holds the address

pub nobody : (a : Attempt) (d : Option Damage) (k : Ports) → IsSettled k → NobodyHolds a.addr k
    → (outcome_of (heard_in a d k) (mark_in a d k) a.max ≡ outcome.Nothing) × (ports_in a d k ≡ k)
unfolding ports_in
nobody a d k s n =
    let w : _ = nobody_answers a.addr (token_out a d) (payload_out a d) (reply_out a d k)
    (goes a d k) k s n in (
      outcome_unread (heard_in a d k) (mark_in a d k) a.max
          (ap₂ (λ x y. heard_all (x ++ y)) w.1 w.2),
      w.0,
    )

-- One packet at the device that it is for

-- what it asks of its ports
abbrev pub asked_of : Option Sent → Bool → State → Effect
asked_of None deep s = Leaves
asked_of (Some q) deep s = effect_of q deep s

module _ (deep : Bool) (b : PortState) where
  -- its ports after the packet
  abbrev pub ports_by : Option Sent → State → Ports → Ports
  ports_by None s a = a
  ports_by (Some q) s a = acted (effect_of q deep s) a

  pub sent_stands : (o : Option Sent) (s : State) (a : Ports) → step_in o deep (full b s a)
      ≡ full b (heard_by o deep s (row_of a)).1 (ports_by o s a)
  unfolding answer_of
  sent_stands o s a = grind arith

  told_stands : (o : Option Sent) (s : State) (a : Ports) → answers_at o deep (Some (full b s a))
      ≡ listed (heard_by o deep s (row_of a)).0 []
  unfolding answer_of
  told_stands o s a = grind arith

  calm_ports : (o : Option Sent) → CalmOut o → (s : State) (a : Ports) → ports_by o s a ≡ a
  calm_ports o c s a = grind arith

  asked_ports : (o : Option Sent) (s : State) (a : Ports)
      → ports_by o s a ≡ acted (asked_of o deep s) a
  asked_ports o s a = grind arith

comes : (l pre : Bool) (m : Mark) (p : Packet) (deep : Bool) (s : State) (row : List PortState)
    → heard_by (sent_as l pre m p) deep s row ≡ through (way_to deep s (sent_as l pre m p)) s row p
comes l pre m p deep s row = grind arith

pub token_comes : (a : Attempt) (d : Option Damage) (deep : Bool) (s : State) (row : List PortState)
    → heard_by (token_out a d) deep s row ≡ through (token_way a d deep s) s row (token_of a)
unfolding marked
token_comes a d deep s row = grind arith

some_comes : (a : Attempt) (d : Option Damage) (n : ℕ) (p : Packet) (deep : Bool) (s : State)
    (row : List PortState) → heard_by (goes_out a (marked_some d n a.pre (Some p))) deep s row
    ≡ through (way_to deep s (goes_out a (marked_some d n a.pre (Some p)))) s row p
unfolding marked marked_some
some_comes a d n p deep s row = comes a.low a.pre _ p deep s row

payload_comes : (a : Attempt) (d : Option Damage) (p : Packet) → payload_of a ≡ Some p
    → (deep : Bool) (s : State) (row : List PortState)
    → heard_by (payload_out a d) deep s row ≡ through (payload_way a d deep s) s row p
payload_comes a d p e deep s row = grind (arith, some_comes)

pub no_payload : (a : Attempt) (d : Option Damage) → payload_of a ≡ None → payload_out a d ≡ None
unfolding marked_some
no_payload a d e = ap (λ o. goes_out a (marked_some d 2 a.pre o)) e

-- the host's ACK, where it acknowledges
reply_comes : (a : Attempt) (d : Option Damage) (n : ℕ) (o : Option Packet) (good deep : Bool)
    (s : State) (row : List PortState) → o ≡ (if good then Some packet.Ack else None)
    → (heard_by (goes_out a (marked_some d n a.pre o)) deep s row).1
    ≡ (if good then (through (way_to deep s (goes_out a (marked_some d n a.pre o))) s row
    packet.Ack).1 else s)
unfolding marked_some
reply_comes a d n o good deep s row e = grind (arith, some_comes)

-- no packet changes what the device is
pub through_spec : (w : Way) (s : State) (row : List PortState) (p : Packet)
    → (through w s row p).1.spec ≡ s.spec
unfolding unread
through_spec w s row p = grind (arith, keeps-received)

pub way_same : (deep : Bool) (o : Option Sent) (s r : State) → r.spec ≡ s.spec
    → way_to deep r o ≡ way_to deep s o
way_same deep o s r e = grind arith

pub remembers : (s : State) → s.memory ≡ memory.Nothing → forgotten s ≡ s
remembers s m = ap (λ x. record s { memory = x }) (sym m)

-- An attempt with the device alone

reply_told : (o : Option Answer) (m : Mark) (max : ℕ) → reply_of (heard_all (listed o [])) m max
    ≡ (if is_good max (heard (way_back m) o) then Some packet.Ack else None)
unfolding reply_of is_read
reply_told o m max = grind arith

-- the answer is no data
abbrev pub gives_no_data : Option Answer → Bool
gives_no_data (Some (answer.Data t bytes)) = false
gives_no_data o = true

no_data_good : (o : Option Answer) → gives_no_data o ≡ true → (w : Way) (max : ℕ)
    → is_good max (heard w o) ≡ false
no_data_good o h w max = grind arith

-- the holder by its place alone
pub holder_holds : (n : ℕ) (k : Ports) (h : Holder n k) → OneHolds n k h.spot
holder_holds n k h = record {
  single = h.single;
  on = h.on;
  at = ap (option_map address_of) (sym (state_stands k h.spot.row h.spot.rest)
      ∙ ap stands h.stands) ∙ ap (λ x. Some x) h.at;
}

module _ (a : Attempt) (d : Option Damage) (k : Ports) (h : Holder a.addr k) where
  open h use {spot.{row as j, rest as p}, port as b, own as s, below}

  abbrev pub is_deep : Bool
  is_deep = deep_at false p

  abbrev pub own_row : List PortState
  own_row = row_of below

  pub acts : OneActs (token_out a d) (payload_out a d) (reply_out a d k) k h.spot
  acts = one_device a.addr (token_out a d) (payload_out a d) (reply_out a d k) (goes a d k) k h.spot
      h.settled (holder_holds a.addr k h)

  pub rests : s.memory ≡ memory.Nothing
  rests = settled_memory k j p s h.settled (sym (state_stands k j p) ∙ ap stands h.stands)

  -- the token, the host's data and its ACK at the device
  abbrev pub first : Reply
  first = heard_by (token_out a d) is_deep s own_row

  abbrev pub first_below : Ports
  first_below = ports_by is_deep b (token_out a d) s below

  first_same : first_below ≡ below
  first_same = calm_ports is_deep b (token_out a d)
      (token_calm a.addr (token_out a d) (goes a d k).token) s below

  abbrev pub second : Reply
  second = heard_by (payload_out a d) is_deep first.1 own_row

  abbrev pub second_below : Ports
  second_below = ports_by is_deep b (payload_out a d) first.1 first_below

  abbrev pub third : Reply
  third = heard_by (reply_out a d k) is_deep second.1 (row_of second_below)

  abbrev third_below : Ports
  third_below = ports_by is_deep b (reply_out a d k) second.1 second_below

  first_place : option_map (step_in (token_out a d) is_deep) (place_at k j p)
      ≡ Some (full b first.1 first_below)
  first_place = grind (arith, sent_stands, step_in)

  second_place : step_in (payload_out a d) is_deep (full b first.1 first_below)
      ≡ full b second.1 second_below
  second_place = grind (arith, first_same, sent_stands)

  first_told : answers_to (token_out a d) k ≡ listed first.0 []
  first_told =
      grind (arith, acts, told_stands)

  second_told : answers_to (payload_out a d) (after_sent (token_out a d) k) ≡ listed second.0 []
  second_told =
      grind (arith, acts, first_place, first_same, told_stands)

  pub is_heard_in : heard_in a d k ≡ heard_all (listed first.0 [] ++ listed second.0 [])
  is_heard_in = ap₂ (λ x y. heard_all (x ++ y)) first_told second_told

  is_place : place_at (ports_in a d k) j p ≡ Some (full b (forgotten third.1) third_below)
  unfolding ports_in
  is_place = grind (arith, acts, place_after, second_place, sent_stands, step_in)

  pub is_state : state_at (ports_in a d k) j p ≡ Some (forgotten third.1)
  is_state = sym (state_stands (ports_in a d k) j p) ∙ ap stands is_place

  -- what the holder asks of its ports, which stay but for that
  abbrev pub effect : Effect
  effect = asked_of (payload_out a d) is_deep first.1

  below_then : third_below ≡ acted effect below
  below_then = calm_ports is_deep b (reply_out a d k)
      (ack_calm (reply_out a d k) (goes a d k).reply) second.1 second_below
      ∙ asked_ports is_deep b (payload_out a d) first.1 first_below ∙ ap (acted effect) first_same

  pub placed : (r : Reply) → ExchangedWithHolder a d k h r → place_at (ports_in a d k) j p
      ≡ Some (full b r.1 (acted effect below))
  placed r x = grind (arith, below_then, is_place, is_state, same_Some)

  -- SETUP and OUT: the token T is not answered, and X is not answered by data
  module _ (T X : Packet) (token_is : token_of a ≡ T) (payload_is : payload_of a ≡ Some X)
      (quiet : (w : Way) → (through w s own_row T).0 ≡ None) where
    abbrev pub to_token : Reply
    to_token = through (token_way a d is_deep s) s own_row T

    abbrev pub to_data : Reply
    to_data = through (payload_way a d is_deep s) to_token.1 own_row X

    first_sent : first ≡ to_token
    first_sent = grind (arith, token_comes)

    second_sent : second ≡ to_data
    second_sent =
        ap (λ r. heard_by (payload_out a d) is_deep r.1 own_row) first_sent
        ∙ payload_comes a d X payload_is is_deep to_token.1 own_row
        ∙ ap (λ w. through w to_token.1 own_row X)
        (way_same is_deep (payload_out a d) s to_token.1
        (through_spec _ s own_row T))

    pub sent_heard : heard_in a d k ≡ heard_all (listed to_data.0 [])
    sent_heard = grind (arith, first_sent, is_heard_in, second_sent)

    sent_reply : gives_no_data to_data.0 ≡ true → reply_of (heard_in a d k) (mark_in a d k) a.max
        ≡ None
    sent_reply n = grind (arith, no_data_good, reply_told, sent_heard)

    sent_third : gives_no_data to_data.0 ≡ true → third.1 ≡ second.1
    sent_third n = reply_comes a d (place_of_answer a d + 1)
        (reply_of (heard_in a d k) (mark_in a d k) a.max) false is_deep second.1
        (row_of second_below) (sent_reply n)

    sent : gives_no_data to_data.0 ≡ true
        → ExchangedWithHolder a d k h (sends s own_row T X (token_way a d is_deep s)
        (payload_way a d is_deep s) (answer_way a d k))
    sent n = grind (arith, is_state, outcome_got, second_sent, sent_heard, sent_third)

  -- IN: the token T
  module _ (T : Packet) (token_is : token_of a ≡ T) (none : payload_of a ≡ None) where
    abbrev pub to_in : Reply
    to_in = through (token_way a d is_deep s) s own_row T

    abbrev pub good : Bool
    good = is_good a.max (heard (answer_way a d k) to_in.0)

    first_asked : first ≡ to_in
    first_asked = grind (arith, token_comes)

    second_asked : second ≡ (None, to_in.1)
    second_asked = ap₂ (λ o r. heard_by o is_deep r.1 own_row) (no_payload a d none) first_asked

    below_asked : row_of second_below ≡ own_row
    below_asked = grind (arith, first_same, no_payload)

    pub asked_heard : heard_in a d k ≡ heard_all (listed to_in.0 [])
    asked_heard = grind (arith, append-nil {A = Answer}, first_asked, is_heard_in, second_asked)

    pub asked_reply : reply_of (heard_in a d k) (mark_in a d k) a.max
        ≡ (if good then Some packet.Ack else None)
    asked_reply = grind (arith, asked_heard, reply_told)

    asked_third : third.1 ≡ (if good then (through (reply_way a d k is_deep s) to_in.1 own_row
        packet.Ack).1 else to_in.1)
    asked_third =
        ap₂ (λ r x. (heard_by (reply_out a d k) is_deep r.1 x).1) second_asked below_asked
        ∙ reply_comes a d (place_of_answer a d + 1)
        (reply_of (heard_in a d k) (mark_in a d k) a.max) good is_deep to_in.1 own_row
        asked_reply
        ∙ ap (λ w. if good then (through w to_in.1 own_row packet.Ack).1 else to_in.1)
        (way_same is_deep (reply_out a d k) s to_in.1
        (through_spec (token_way a d is_deep s) s own_row T))

    pub asked : ExchangedWithHolder a d k h
        (acked own_row a.max (answer_way a d k) (reply_way a d k is_deep s)
        (through (token_way a d is_deep s) s own_row T))
    asked = grind (arith, asked_heard, asked_third, is_state, outcome_got)

-- The three kinds

pub token_of-fields : (a : Attempt) (t : TokenKind) (n e : ℕ) → a.kind ≡ t → a.addr ≡ n → a.ep ≡ e
    → token_of a ≡ Token t n e
unfolding token_of
token_of-fields a t n e x y z = rw (x, y, z) refl

pub data_is : (a : Attempt) (t : Toggle) (bytes : ArrayVec ℕ) → a.payload ≡ Some (t, bytes)
    → payload_of a ≡ Some (packet.Payload t bytes)
unfolding payload_of
data_is a t bytes e = rw e refl

pub none_is : (a : Attempt) → a.payload ≡ None → payload_of a ≡ None
unfolding payload_of
none_is a e = rw e refl

abbrev pub replied : Option Answer → State → Reply
replied o s = (o, s)

pub setup_quiet : (s : State) (row : List PortState) (n e : ℕ) (w : Way)
    → (through w s row (Token SetupTok n e)).0 ≡ None
unfolding received
setup_quiet s row n e w = grind arith

pub out_quiet : (s : State) (row : List PortState) (n e : ℕ) (w : Way)
    → (through w s row (Token OutTok n e)).0 ≡ None
unfolding received
out_quiet s row n e w = grind arith

-- setup data and OUT data are not answered by data

pub if_no_data : (x : Bool) (r q : Reply) → gives_no_data r.0 ≡ true → gives_no_data q.0 ≡ true
    → gives_no_data (if x then r else q).0 ≡ true
if_no_data x r q h g = grind arith

pub data_no_data : (s : State) (e : ℕ) (t : Toggle) (bytes : List ℕ)
    → gives_no_data (data_row s e t bytes).0 ≡ true
data_no_data s e t bytes = grind arith

module _ (a : Attempt) (d : Option Damage) (k : Ports) (h : Holder a.addr k) where
  open h use {spot.{row as j, rest as p}, own as s, below}

  abbrev t1 : Way
  t1 = token_way a d (deep_at false p) s

  abbrev t2 : Way
  t2 = payload_way a d (deep_at false p) s

  abbrev t3 : Way
  t3 = answer_way a d k

  abbrev t4 : Way
  t4 = reply_way a d k (deep_at false p) s

  itself : forgotten s ≡ s
  itself = remembers s (rests a d k h)

  module _ (loud : s.spec.silent ≡ false) where
    setup_same : (bytes : List ℕ) → length bytes ≡ 8 → (x y z : Way)
        → setup_exchange s (row_of below) s.registers.address bytes x y z
        ≡ setup_law s (row_of below) bytes x y z
    setup_same bytes len x y z = grind (arith, itself, setup_is)

    out_same : (e : ℕ) (t : Toggle) (bytes : List ℕ) (x y z : Way)
        → out_exchange s (row_of below) s.registers.address e t bytes x y z
        ≡ out_law s e t bytes x y z
    out_same e t bytes x y z = grind (arith, itself, out_is)

    pub in_same : (e max : ℕ) (x y z : Way) → in_exchange s (row_of below) s.registers.address e max
        x y z ≡ in_law s (row_of below) e max x y z
    in_same e max x y z = grind (arith, in_is, itself)

    pub setup_one : (bytes : List ℕ) → IsSetup a bytes
        → ExchangedWithHolder a d k h (setup_alone a d k (deep_at false p) s (row_of below) bytes)
    setup_one bytes i =
        subst (ExchangedWithHolder a d k h) (setup_same bytes i.whole t1 t2 t3)
        (sent a d k h (Token SetupTok s.registers.address 0)
        (packet.Payload Zero (record { items = bytes }))
        (token_of-fields a SetupTok s.registers.address 0 i.kind (sym h.at) i.ep)
        (data_is a Zero (record { items = bytes }) i.payload)
        (setup_quiet s (row_of below) s.registers.address 0)
        (ap (λ r. gives_no_data r.0) (setup_same bytes i.whole t1 t2 whole)
        ∙ if_no_data (is_whole t1 && is_whole t2)
        (replied (Some answer.Ack) (accepted s (row_of below) (setup_of bytes)))
        (replied None s) refl refl))

    pub out_one : (t : Toggle) (bytes : List ℕ) → IsOut a t bytes
        → ExchangedWithHolder a d k h (out_alone a d k (deep_at false p) s t bytes)
    out_one t bytes i =
        subst (ExchangedWithHolder a d k h) (out_same a.ep t bytes t1 t2 t3)
        (sent a d k h _ (packet.Payload t (record { items = bytes }))
        (token_of-fields a OutTok s.registers.address a.ep i.kind (sym h.at) refl)
        (data_is a t (record { items = bytes }) i.payload)
        (out_quiet s (row_of below) s.registers.address a.ep)
        (ap (λ r. gives_no_data r.0) (out_same a.ep t bytes t1 t2 whole)
        ∙ if_no_data _ _ (replied None s) (data_no_data s a.ep t bytes) refl))

    pub in_one : IsIn a → ExchangedWithHolder a d k h
        (in_alone a d k (deep_at false p) s (row_of below))
    in_one i =
        subst (ExchangedWithHolder a d k h) (in_same a.ep a.max t1 t3 t4)
        (asked a d k h (Token InTok s.registers.address a.ep)
        (token_of-fields a InTok s.registers.address a.ep i.kind (sym h.at) refl)
        (none_is a i.payload))
