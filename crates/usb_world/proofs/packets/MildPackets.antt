-- Packets that leave each device its address and configuration: so a refused packet does.
use Rattle.std.proofs.Common.{arith, ◌≡◌, ℕ, List, Option, Some, option_map, refl, if◌then◌else◌}
use Rattle.std.proofs.Common.{Bool, true, false, None, is_some, sym, subst, ap, ◌∙◌}
use Rattle.usb_port.specs.{PortState}
use Rattle.usb_device.specs.{Spec, State, forgotten, Ports, ended, vacant, taken, reach_at}
use Rattle.usb_device.specs.{state_at, port_at, all_forgotten, Registers, Content, Whole, Broken}
use Rattle.usb_device.specs.{Sent, Leaves, RememberedPacket, asks, asked_by_data, Reply, received}
use Rattle.usb_device.specs.{unread, payload_row, sink_grows, sink_row, reply_to, asked_by}
use Rattle.usb_device.specs.{answer_of, effect_of, Effect, full, before, acted, after_packet}
use Rattle.usb_device.specs.{delivered_device, on_port, Stopped, behind_empty, behind, below, here}
use Rattle.usb_world.specs.{Damage, Attempt, Mark, marked, marked_some, token_of, payload_of}
use Rattle.usb_world.specs.{sent_as, token_out, payload_out, IsAttempt, sends_data, IsCut}
use Rattle.usb_world.specs.{IsDataOut, IfOut, IsSettled, after_sent}
use Rattle.usb_packet.specs.{Packet, Token, Payload, Toggle, OutTok, SetupTok, TokenKind, InTok}
use Rattle.usb_device.specs.declared.transfer.RememberedPacket.TheVariants.{Nothing, SetupSeen}
use Rattle.usb_device.specs.declared.transfer.RememberedPacket.TheVariants.{OutSeen}
use Rattle.usb_packet.specs.declared.Packet.TheVariants as packet
use Rattle.usb_device.specs.declared.delivery.Content.TheVariants as content
use Rattle.usb_device.specs.declared.delivery.Heard.TheVariants.{NoAnswer}
use Rattle.usb_world.proofs.Booleans.{false_true}
use Rattle.usb_world.proofs.courses.Courses.{Rests, rests, goes}

-- Trees that differ in what their devices remember and in how far their transfers are, but not in
-- more.

-- a device's description, with its address and configuration
abbrev pub self_of : State → Spec × Registers
self_of s = (s.spec, s.registers)

-- the device still stands there
pub record StillStands (s : State) (now : Option State) : Type 0 where
  pub own : State
  pub stands : now ≡ Some own
  pub spec : own.spec ≡ s.spec
  pub registers : own.registers ≡ s.registers

-- the same devices stand at the same ports, each with its address and configuration, and the same
-- are reached
pub record StandAlike (k m : Ports) : Type 0 where
  pub port : (i : ℕ) (e : List ℕ) → port_at m i e ≡ port_at k i e
  pub reach : (i : ℕ) (e : List ℕ) → reach_at m i e ≡ reach_at k i e
  pub selves : (i : ℕ) (e : List ℕ) → option_map self_of (state_at m i e)
      ≡ option_map self_of (state_at k i e)
  pub device : (i : ℕ) (e : List ℕ) (s : State) → state_at k i e ≡ Some s
      → StillStands s (state_at m i e)

record SameDevices (k m : Ports) : Type 0 where
  port : (i : ℕ) (e : List ℕ) → port_at m i e ≡ port_at k i e
  reach : (i : ℕ) (e : List ℕ) → reach_at m i e ≡ reach_at k i e
  selves : (i : ℕ) (e : List ℕ) → option_map self_of (state_at m i e)
      ≡ option_map self_of (state_at k i e)

alike_self : (k : Ports) → SameDevices k k
alike_self k = grind arith

alike_joined : {k m n : Ports} → SameDevices k m → SameDevices m n → SameDevices k n
alike_joined x y = grind arith

alike_vacant : (b : PortState) (k m : Ports) → SameDevices k m
    → SameDevices (vacant b k) (vacant b m)
unfolding port_at reach_at state_at
alike_vacant b k m h = grind arith

alike_taken : (b : PortState) (s z : State) (a c k m : Ports) → self_of z ≡ self_of s
    → SameDevices a c → SameDevices k m → SameDevices (taken b s a k) (taken b z c m)
unfolding port_at reach_at state_at
alike_taken b s z a c k m own lower h = grind arith

alike_forgotten : (k : Ports) → SameDevices k (all_forgotten k)
unfolding all_forgotten
alike_forgotten ended = alike_self ended
alike_forgotten (vacant b k) = alike_vacant b k _ (alike_forgotten k)
alike_forgotten (taken b s a k) = alike_taken b s (forgotten s) a _ k
    _ refl (alike_forgotten a) (alike_forgotten k)

stand_alike : (k m : Ports) → SameDevices k m → StandAlike k m
stand_alike k m h = grind arith

-- Tokens, and data after an OUT token, ask nothing of ports and leave each device its address and
-- configuration.

abbrev pub is_nothing : RememberedPacket → Bool
is_nothing Nothing = true
is_nothing m = false

abbrev remembers_no_setup : RememberedPacket → Bool
remembers_no_setup SetupSeen = false
remembers_no_setup m = true

abbrev no_out : RememberedPacket → Bool
no_out (OutSeen e) = false
no_out m = true

abbrev any_memory : RememberedPacket → Bool
any_memory m = true

-- bytes that leave a device that remembers such a thing as it is, but for what it remembers then
-- and how far its transfers are
record Mild (old new : RememberedPacket → Bool) (c : Content) : Type 0 where
  pub wider : (m : RememberedPacket) → old m ≡ true → new m ≡ true
  pub own : (s : State) (row : List PortState) → old s.memory ≡ true → self_of (reply_to c s row).1
      ≡ self_of s
  pub after : (s : State) (row : List PortState) → old s.memory ≡ true
      → new (reply_to c s row).1.memory ≡ true
  pub calm : (s : State) → old s.memory ≡ true → asked_by c s ≡ Leaves

record MildAnswer (old new : RememberedPacket → Bool) (q : Sent) (deep : Bool) (s : State)
    (a : Ports) : Type 0 where
  pub own : self_of (answer_of q deep s a).1 ≡ self_of s
  pub after : new (answer_of q deep s a).1.memory ≡ true
  pub calm : effect_of q deep s ≡ Leaves

mild_answer : {old new : RememberedPacket → Bool} (q : Sent) → Mild old new q.content
    → (deep : Bool) (s : State) (a : Ports) → old s.memory ≡ true → MildAnswer old new q deep s a
unfolding answer_of effect_of
mild_answer {old} {new} q c deep s a h = grind arith

-- one row or another
reply_if : (P : Reply → Type 0) (b : Bool) (x y : Reply) → P x → P y → P (if b then x else y)
reply_if P b x y h g = grind arith

-- Bytes that spell nothing

mild_broken : {old new : RememberedPacket → Bool}
    → ((m : RememberedPacket) → old m ≡ true → new m ≡ true) → new Nothing ≡ true
    → Mild old new Broken
unfolding unread
mild_broken {old} {new} w n = grind arith

-- Tokens

mild_out : (n e : ℕ) → Mild is_nothing remembers_no_setup (Whole (Token OutTok n e))
unfolding received asks
mild_out n e = grind arith

mild_setup : (n e : ℕ) → Mild is_nothing no_out (Whole (Token SetupTok n e))
unfolding received asks
mild_setup n e = grind arith

-- Data after an OUT token

own_sink : (s : State) (e max : ℕ) (t : Toggle) (b : List ℕ)
    → self_of (sink_row s e max t b).1 ≡ self_of s
own_sink s e max t b = grind arith

own_payload : (s : State) (row : List PortState) (m : RememberedPacket) (t : Toggle) (b : List ℕ)
    → remembers_no_setup m ≡ true → self_of (payload_row s row m t b).1 ≡ self_of s
own_payload s row m t b h = grind (arith, own_sink)

calm_data : (s : State) (m : RememberedPacket) (t : Toggle) (b : List ℕ)
    → remembers_no_setup m ≡ true → asked_by_data s m t b ≡ Leaves
calm_data s m t b h = grind arith

mild_data : (c : Content) → IsDataOut c → Mild remembers_no_setup any_memory c
unfolding received asks
mild_data (Whole (Payload t b)) h = grind (arith, calm_data, own_payload, reply_if, self_of)
mild_data Broken h = mild_broken (λ m h. refl) refl
mild_data _ h = elim h [ ]

-- Where no OUT token is remembered, no sink grows

grows_after_out : (s : State) (p : Packet) → no_out s.memory ≡ true → sink_grows s p ≡ true → ⊥
grows_after_out s p h g = grind arith

-- What a refused packet leaves.

-- every device remembers such a thing
unfoldable All : (RememberedPacket → Bool) → Ports → Type 0
All P ended = Unit {0}
All P (vacant b k) = All P k
All P (taken b s a k) = (P s.memory ≡ true) × All P a × All P k

all_nothing : (k : Ports) → Rests k → All is_nothing k
unfolding All Rests
all_nothing ended h = tt
all_nothing (vacant b k) h = all_nothing k h
all_nothing (taken b s a k) h = (ap is_nothing h.0, all_nothing a h.1, all_nothing k h.2)

all_wider : {P Q : RememberedPacket → Bool} → ((m : RememberedPacket) → P m ≡ true → Q m ≡ true)
    → (k : Ports) → All P k → All Q k
unfolding All
all_wider w ended h = tt
all_wider w (vacant b k) h = all_wider w k h
all_wider w (taken b s a k) h = (w s.memory h.0, all_wider w a h.1, all_wider w k h.2)

-- A mild packet

record MildPacket (new : RememberedPacket → Bool) (k m : Ports) : Type 0 where
  all : All new m
  alike : SameDevices k m

mild_taken : {new : RememberedPacket → Bool} (b : PortState) (s z : State) (e : Effect)
    (a c k m : Ports) → self_of z ≡ self_of s → new z.memory ≡ true → e ≡ Leaves
    → MildPacket new a c → MildPacket new k m
    → MildPacket new (taken b s a k) (taken b z (acted e c) m)
unfolding All
mild_taken b s z e a c k m own after calm x y =
    rw calm (record {
      all = (after, x.all, y.all);
      alike = alike_taken b s z a c k m own x.alike y.alike;
    })

mild_packet : {old new : RememberedPacket → Bool} (q : Sent) → Mild old new q.content
    → (deep : Bool) (k : Ports) → All old k → MildPacket new k (after_packet q deep k)
unfolding All after_packet
mild_packet q c deep ended h = record { all = tt; alike = alike_self ended }
mild_packet q c deep (vacant b k) h =
    let rest = mild_packet q c deep k h in
    record { all = rest.all; alike = alike_vacant b k _ rest.alike }
mild_packet {old} {new} q c deep (taken b s a k) h =
    split b.enable (mild_packet q c true a h.1) (mild_packet q c deep k h.2)
  where
    reply : MildAnswer old new q deep s a
    reply = mild_answer q c deep s a h.0

    split : (x : Bool) → MildPacket new a (after_packet q true a)
        → MildPacket new k (after_packet q deep k)
        → MildPacket new (taken b s a k) (if x then taken b (answer_of q deep s a).1
        (acted (effect_of q deep s) (after_packet q true a)) (after_packet q deep k) else taken b
        s a (after_packet q deep k))
    split true lower rest = mild_taken b s _ _ a _ k _ reply.own reply.after reply.calm lower
        rest
    split false lower rest = mild_taken b s s Leaves a a k _ refl
        (c.wider s.memory h.0) refl (record { all = all_wider c.wider a h.1; alike = alike_self a })
        rest

-- the same where it stopped on its way
mild_stopped : {old new : RememberedPacket → Bool} (q : Sent) → Mild old new q.content
    → {deep : Bool} {k m : Ports} → Stopped q deep k m → All old k → SameDevices k m
unfolding All
mild_stopped q w (behind_empty {deep} {k} {m} b st) h = alike_vacant b k m (mild_stopped q w st h)
mild_stopped {old} {new} q w (behind {deep} {k} {m} b s a st) h =
    split b.enable (mild_stopped q w st h.2)
  where
    reply : MildAnswer old new q deep s a
    reply = mild_answer q w deep s a h.0

    split : (x : Bool) → SameDevices k m → SameDevices (taken b s a k) (before
        (if x then on_port b (delivered_device q deep (record { own = s; ports = a }))
        else (NoAnswer, full b s a)).1 m)
    split true rest = rw reply.calm (alike_taken b s _ a
        _ k m reply.own (mild_packet q w true a h.1).alike rest)
    split false rest = alike_taken b s s a a k m refl (alike_self a) rest
mild_stopped q w (below {deep} {a} {c} b s k on st) h =
    alike_taken b s s a c k k refl (mild_stopped q w st h.1) (alike_self k)
mild_stopped q w (here {deep} b s a k p on is heard grows) h =
    alike_taken b s s a (after_packet q true a) k k refl (mild_packet q w true a h.1).alike
    (alike_self k)

-- where no device remembers an OUT token, no packet stops
stopped_after_out : {q : Sent} {deep : Bool} {k m : Ports} → Stopped q deep k m → All no_out k
    → ⊥
unfolding All
stopped_after_out (behind_empty b st) h = stopped_after_out st h
stopped_after_out (behind b s a st) h = stopped_after_out st h.2
stopped_after_out (below b s k on st) h = stopped_after_out st h.1
stopped_after_out (here b s a k p on is heard grows) h = grows_after_out s p h.0 grows

-- The attempt

-- a packet that goes out, or not, and is mild
abbrev MildOut : (RememberedPacket → Bool) → (RememberedPacket → Bool) → Option Sent → Type 0
MildOut old new None = (m : RememberedPacket) → old m ≡ true → new m ≡ true
MildOut old new (Some q) = Mild old new q.content

mild_sent : (old new : RememberedPacket → Bool) (o : Option Sent) → MildOut old new o → (k : Ports)
    → All old k → MildPacket new k (after_sent o k)
mild_sent old new None w k h = record { all = all_wider w k h; alike = alike_self k }
mild_sent old new (Some q) c k h = mild_packet q c false k h

sent_mild : {old new : RememberedPacket → Bool} (low pre : Bool) (mark : Mark) (p : Packet)
    → new Nothing ≡ true → Mild old new (content.Whole p) → MildOut old new (sent_as low pre mark p)
sent_mild low pre mark p n c = grind (arith, mild_broken)

token_mild : {new : RememberedPacket → Bool} (a : Attempt) (d : Option Damage) → new Nothing ≡ true
    → Mild is_nothing new (content.Whole (packet.Token a.kind a.addr a.ep))
    → MildOut is_nothing new (token_out a d)
unfolding token_of marked
token_mild a d n c = grind (arith, sent_mild)

-- IN sends no data
payload_out-none : (a : Attempt) (d : Option Damage) → is_some a.payload ≡ false
    → payload_out a d ≡ None
unfolding payload_of marked_some
payload_out-none a d h = grind arith

module _ (a : Attempt) (d : Option Damage) (k m : Ports) (is : IsAttempt a) (settled : IsSettled k)
    (c : IsCut a d k m) where
  resting : All is_nothing k
  resting = all_nothing k (rests k settled)

  data_mild : Mild remembers_no_setup any_memory c.sent.content
  data_mild = mild_data c.sent.content (subst (IfOut IsDataOut) c.went (goes a d k).payload)

  -- the attempt is an OUT
  pub cut_kind : a.kind ≡ OutTok
  cut_kind = kinds a.kind refl
    where
      kinds : (x : TokenKind) → a.kind ≡ x → a.kind ≡ OutTok
      kinds OutTok e = e
      kinds InTok e = false_true (ap is_some
          (sym (payload_out-none a d (is.payload_sent ∙ ap sends_data e)) ∙ c.went))
      kinds SetupTok e =
          let mild : Mild is_nothing no_out (content.Whole (packet.Token a.kind a.addr a.ep)) =
          rw e (mild_setup a.addr a.ep) in
          absurd (stopped_after_out c.stopped (mild_sent is_nothing no_out (token_out a d)
          (token_mild a d refl mild) k resting).all)

  token_packet : MildPacket remembers_no_setup k (after_sent (token_out a d) k)
  token_packet = mild_sent is_nothing remembers_no_setup (token_out a d)
      (token_mild a d refl (rw cut_kind (mild_out a.addr a.ep))) k resting

  cut_alike : SameDevices k m
  cut_alike =
      let tree : SameDevices (after_sent (token_out a d) k) c.tree =
      mild_stopped c.sent data_mild c.stopped token_packet.all in
      subst (SameDevices k) (sym c.is) (alike_joined token_packet.alike
      (alike_joined tree (alike_forgotten c.tree)))

pub cut_stand : (a : Attempt) (d : Option Damage) (k m : Ports) → IsAttempt a → IsSettled k
    → IsCut a d k m → StandAlike k m
cut_stand a d k m is settled c = stand_alike k m (cut_alike a d k m is settled c)
