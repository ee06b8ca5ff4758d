-- Which packets leave no device that awaits the ACK at which it would take an address.
use Rattle.std.proofs.Common.{◌||◌, ◌≡◌, ℕ, zero, suc, ◌==◌, ◌&&◌, if◌then◌else◌, Bool, true, false}
use Rattle.std.proofs.Common.{List, [], Option, Some, ◌⊎◌, refl, ap, ◌∙◌, arith}
use Rattle.usb_packet.specs.{Toggle, TokenKind, InTok, Packet, Token}
use Rattle.usb_packet.specs.declared.Packet.TheVariants as packet
use Rattle.usb_port.specs.{PortState, PortCall}
use Rattle.usb_device.specs.{Content, Whole, Broken, Sent, Effect, Leaves, Calls, PortsOff}
use Rattle.usb_device.specs.{RememberedPacket, Outcome, State, Reply, received, unread, answered}
use Rattle.usb_device.specs.{reset_state, begun, payload_row, data_row, in_other_row, after_memory}
use Rattle.usb_device.specs.{awaits_control, ends_with_address, awaits_address, Ports, ended}
use Rattle.usb_device.specs.{vacant, taken, all_off, acted, called, changed_at, row_of, hears}
use Rattle.usb_device.specs.{reply_to, answer_of, after_packet, has_loss}
use Rattle.usb_world.specs.{after_sent, IfOut, IsDataOut, IsAckOut}
use Rattle.usb_world.proofs.courses.Courses.{Rests}
use Rattle.usb_world.proofs.packets.Packets.{calm_token as token_rests}
use Rattle.usb_device.proofs.Interface.{answer-spec}
use Rattle.usb_device.specs.declared.transfer.RememberedPacket.TheVariants.{Nothing}

-- A device after a packet that is no IN token of endpoint 0 awaits no ACK of that endpoint

abbrev pub AwaitsNone : State → Type 0
AwaitsNone d = awaits_control d.memory ≡ false

abbrev pub IsNoControlIn : Packet → Type 0
IsNoControlIn (Token InTok a e) = (e == 0) ≡ false
IsNoControlIn p = Unit {0}

memory_if : (x : Bool) (r t : Reply) → AwaitsNone r.1 → AwaitsNone t.1
    → AwaitsNone (if x then r else t).1
memory_if x r t h g = grind arith

module _ (d : State) (row : List PortState) (h : AwaitsNone d) where
  memory_begun : (n : ℕ) (o : Outcome) → AwaitsNone (begun d row n o)
  memory_begun n o = grind arith

  memory_data : (e : ℕ) (t : Toggle) (b : List ℕ) → AwaitsNone (data_row d e t b).1
  memory_data e t b = grind arith

  memory_payload : (m : RememberedPacket) (t : Toggle) (b : List ℕ)
      → AwaitsNone (payload_row d row m t b).1
  memory_payload m t b = grind (arith, memory_begun, memory_data, memory_if)

  memory_in : (e : ℕ) → AwaitsNone (in_other_row d row e).1
  memory_in e = grind arith

  -- the host's ACK ends what was awaited
  memory_ack : (m : RememberedPacket) → AwaitsNone (after_memory d m)
  memory_ack m = grind arith

  memory_answered : (p : Packet) → IsNoControlIn p → (m : RememberedPacket)
      → AwaitsNone (answered d row m p).1
  memory_answered p c m = grind (arith, memory_ack, memory_if, memory_in, memory_payload)

-- and so it awaits no ACK at which it would take an address
none_awaited : (d : State) → AwaitsNone d → awaits_address d ≡ false
unfolding awaits_address
none_awaited d h = ap (λ x. x && ends_with_address d.stage) h

-- nor one that remembers nothing
pub rest_awaits : (s : State) → s.memory ≡ Nothing → awaits_address s ≡ false
rest_awaits s m = none_awaited s (ap awaits_control m)

-- what devices can read as no IN of endpoint 0
abbrev pub ReadsNoControlIn : Content → Type 0
ReadsNoControlIn (Whole p) = IsNoControlIn p
ReadsNoControlIn Broken = Unit {0}

pub data_no_control_in : (c : Content) → IsDataOut c → ReadsNoControlIn c
data_no_control_in c h = grind arith

pub ack_no_control_in : (c : Content) → IsAckOut c → ReadsNoControlIn c
ack_no_control_in c h = grind arith

-- a silent device is as it was
none_awaited_reply : (c : Content) → ReadsNoControlIn c → (s : State) (row : List PortState)
    → awaits_address s ≡ false → awaits_address (reply_to c s row).1 ≡ false
unfolding received unread
none_awaited_reply e c s row h = grind (arith, memory_answered, none_awaited)

pub none_awaited_answer : (q : Sent) → ReadsNoControlIn q.content
    → (deep : Bool) (s : State) (a : Ports) → awaits_address s ≡ false
    → awaits_address (answer_of q deep s a).1 ≡ false
unfolding answer_of
none_awaited_answer q c deep s a h = grind (arith, none_awaited_reply)

-- what a device asks of its ports adds no loss

loss_off : (k : Ports) → has_loss (all_off k) ≡ has_loss k
unfolding has_loss all_off
loss_off ended = refl
loss_off (vacant b k) = loss_off k
loss_off (taken b s a k) = ap (λ x. awaits_address s || has_loss a || x) (loss_off k)

three_none : (x y z : Bool) → x ≡ false → y ≡ false → z ≡ false → (x || y || z) ≡ false
three_none x y z f g h = rw (f, g, h) refl

-- a device, those on its ports and those further on its row await none
record NoLoss (s : State) (a k : Ports) : Type 0 where
  own : awaits_address s ≡ false
  below : has_loss a ≡ false
  more : has_loss k ≡ false

no_loss : (b : PortState) (s : State) (a k : Ports) → has_loss (taken b s a k) ≡ false
    → NoLoss s a k
unfolding has_loss
no_loss b s a k h = grind arith

loss_changed : (c : PortCall) (k : Ports) (i : ℕ) → has_loss k ≡ false
    → has_loss (changed_at (called c) k i []) ≡ false
unfolding has_loss changed_at reset_state awaits_address
loss_changed c (vacant b k) (suc i) h = loss_changed c k i h
loss_changed c (taken b s a k) zero h = grind (arith, loss_off, no_loss, three_none)
loss_changed c (taken b s a k) (suc i) h =
    grind (arith, loss_changed c k i, no_loss, three_none)
loss_changed c k i h = h

loss_acted : (e : Effect) (a : Ports) → has_loss a ≡ false → has_loss (acted e a) ≡ false
loss_acted Leaves a h = h
loss_acted (Calls c i) a h = loss_changed c a i h
loss_acted PortsOff a h = loss_off a ∙ h

-- nor does a packet that is no IN of endpoint 0

no_loss_packet : (q : Sent) → ReadsNoControlIn q.content → (deep : Bool) (k : Ports)
    → has_loss k ≡ false → has_loss (after_packet q deep k) ≡ false
unfolding has_loss after_packet
no_loss_packet q c deep ended h = h
no_loss_packet q c deep (vacant b k) h = no_loss_packet q c deep k h
no_loss_packet q c deep (taken b s a k) h =
    grind (
      arith,
      no_loss_packet q c true a,
      no_loss_packet q c deep k,
      loss_acted,
      no_loss,
      none_awaited_answer,
      three_none,
    )

pub no_loss_sent : (o : Option Sent) → IfOut ReadsNoControlIn o → (k : Ports) → has_loss k ≡ false
    → has_loss (after_sent o k) ≡ false
no_loss_sent o c k h = grind (arith, no_loss_packet)

-- nobody awaits anything where nothing is remembered
pub rests_loss : (k : Ports) → Rests k → has_loss k ≡ false
unfolding has_loss Rests
rests_loss ended h = refl
rests_loss (vacant b k) h = rests_loss k h
rests_loss (taken b s a k) h = three_none _ _ _ (rest_awaits s h.0) (rests_loss a h.1)
    (rests_loss k h.2)

-- A token and then an ACK, both whole: who hears the one hears the other

abbrev pub whole_sent : Bool → Bool → Packet → Sent
whole_sent low pre p = record { low = low; pre = pre; content = Whole p }

answer_of-unheard : (q : Sent) (p : Packet) (deep : Bool) (s : State) (a : Ports)
    → q.content ≡ Whole p → (s.spec.silent ≡ true) ⊎ (hears q deep s ≡ false)
    → (answer_of q deep s a).1 ≡ s
unfolding answer_of received
answer_of-unheard q p deep s a e h = grind arith

-- the ACK at a device that hears it, or awaits none
pub ack_received : (s : State) (row : List PortState) → s.spec.silent ≡ false
    → awaits_address (received s row packet.Ack).1 ≡ false
unfolding received
ack_received s row loud = grind (arith, memory_ack, none_awaited)

ack_answer : (q : Sent) → q.content ≡ Whole packet.Ack → (deep : Bool) (s : State) (a : Ports)
    → ((s.spec.silent ≡ true) ⊎ (hears q deep s ≡ false) → awaits_address s ≡ false)
    → awaits_address (answer_of q deep s a).1 ≡ false
unfolding answer_of received
ack_answer q e deep s a f =
    grind (arith, ack_received s (row_of a))

acked_answer : (low pre : Bool) (t : Packet) (deep : Bool) (s : State) (a x : Ports)
    → awaits_address s ≡ false → awaits_address (answer_of (whole_sent low pre packet.Ack) deep
    (answer_of (whole_sent low pre t) deep s a).1 x).1 ≡ false
acked_answer low pre t deep s a x h = grind (arith, ack_answer, answer-spec, answer_of-unheard)

-- after a token and an ACK nobody awaits what was not awaited before
pub acked_loss : (low pre : Bool) (kind : TokenKind) (n e : ℕ) (deep : Bool) (k : Ports)
    → has_loss k ≡ false → has_loss (after_packet (whole_sent low pre packet.Ack) deep
    (after_packet (whole_sent low pre (Token kind n e)) deep k)) ≡ false
unfolding has_loss after_packet
acked_loss low pre kind n e deep ended h = h
acked_loss low pre kind n e deep (vacant b k) h = acked_loss low pre kind n e deep k h
acked_loss low pre kind n e deep (taken b s a k) h =
    grind (
      arith,
      acked_answer low pre (Token kind n e) deep s a,
      acked_loss low pre kind n e deep k,
      acked_loss low pre kind n e true a,
      loss_acted,
      no_loss,
      three_none,
      token_rests n (Some (whole_sent low pre (Token kind n e))) refl deep s,
    )
