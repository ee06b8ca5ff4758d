-- A packet goes down the tree, through the enabled ports (8.6.5, 11.8.4).
use Rattle.std.specs.Prelude.{◌≡◌, ℕ, ◌&&◌, ◌||◌, ◌==◌, not, if◌then◌else◌, Bool, true, false, List}
use Rattle.std.specs.Prelude.{[], ◌∷◌, ◌++◌, Option, None, Some}
use Rattle.usb_packet.specs.{Spells, Packet}
use Rattle.usb_port.specs.{PortState, is_clearing}
use Rattle.usb_device.specs.declared.answer.Answer.{Answer}
use Rattle.usb_device.specs.declared.delivery.Content.{Content}
use Rattle.usb_device.specs.declared.delivery.Content.TheVariants.{Whole, Broken}
use Rattle.usb_device.specs.declared.delivery.Sent.{Sent}
use Rattle.usb_device.specs.declared.effect.Effect.{Effect}
use Rattle.usb_device.specs.declared.effect.Effect.TheVariants.{Leaves, Calls, PortsOff}
use Rattle.usb_device.specs.DeviceSpecs.{Spec}
use Rattle.usb_device.specs.Rows.{State, Reply, received, unread, forgotten, awaits_address}
use Rattle.usb_device.specs.Effects.{asks}
use Rattle.usb_device.specs.declared.delivery.Heard.{Heard}
use Rattle.usb_device.specs.declared.delivery.Heard.TheVariants.{NoAnswer, One, Collision}
use Rattle.usb_device.specs.Tree.{Ports, ended, vacant, taken, Place, empty, full, Plugged, acted}
use Rattle.usb_device.specs.Tree.{row_of}

-- what bytes carry
pub record Carries (bytes : List ℕ) (content : Content) : Type 0 where
  pub whole : (p : Packet) → Spells bytes p → content ≡ Whole p
  pub broken : ((p : Packet) → Spells bytes p → ⊥) → content ≡ Broken

-- whether a device of a speed hears a packet, which is `deep` where it stands on a hub's port: at
-- low speed only with PRE there
abbrev pub is_heard : Sent → Bool → Bool → Bool
is_heard q deep low = if q.low then low && (not deep || q.pre) else not low

abbrev pub hears : Sent → Bool → State → Bool
hears q deep s = is_heard q deep s.spec.low

-- what a device makes of it
abbrev pub reply_to : Content → State → List PortState → Reply
reply_to (Whole p) s row = received s row p
reply_to Broken s row = (None, unread s)

abbrev pub asked_by : Content → State → Effect
asked_by (Whole p) s = asks s p
asked_by Broken s = Leaves

unfoldable pub answer_of : Sent → Bool → State → Ports → Reply
answer_of q deep s a = if hears q deep s then reply_to q.content s (row_of a) else (None, s)

unfoldable pub effect_of : Sent → Bool → State → Effect
effect_of q deep s = if hears q deep s then asked_by q.content s else Leaves

-- the ports after a packet: those below a device first, by the enables as they stood, and then what
-- the device asks of them
unfoldable pub after_packet : Sent → Bool → Ports → Ports
after_packet q deep ended = ended
after_packet q deep (vacant b k) = vacant b (after_packet q deep k)
after_packet q deep (taken b s a k) =
    if b.enable then taken b (answer_of q deep s a).1
    (acted (effect_of q deep s) (after_packet q true a)) (after_packet q deep k)
    else taken b s a (after_packet q deep k)

-- a change of connection at a port is cleared (11.24.2.2)
abbrev pub asks_clearing : Effect → Bool
asks_clearing Leaves = false
asks_clearing (Calls c i) = is_clearing c
asks_clearing PortsOff = false

-- a device that the packet reaches clears a change of connection at one of its ports
unfoldable pub clears_change : Sent → Bool → Ports → Bool
clears_change q deep ended = false
clears_change q deep (vacant b k) = clears_change q deep k
clears_change q deep (taken b s a k) =
    (b.enable && (asks_clearing (effect_of q deep s) || clears_change q true a)) ||
    clears_change q deep k

-- the same, of a device and all below it, and of the device on a port
abbrev pub clears_whole : Sent → Bool → Plugged → Bool
clears_whole q deep t = asks_clearing (effect_of q deep t.own) || clears_change q true t.ports

abbrev pub clears_in : Sent → Bool → PortState → Option Plugged → Bool
clears_in q deep b None = false
clears_in q deep b (Some t) = b.enable && clears_whole q deep t

abbrev pub listed : Option Answer → List Answer → List Answer
listed None more = more
listed (Some x) more = x ∷ more

-- the answers to a packet
unfoldable pub answers : Sent → Bool → Ports → List Answer
answers q deep ended = []
answers q deep (vacant b k) = answers q deep k
answers q deep (taken b s a k) =
    if b.enable then listed (answer_of q deep s a).0 (answers q true a ++ answers q deep k)
    else answers q deep k

abbrev pub heard_from : Option Answer → Heard
heard_from None = NoAnswer
heard_from (Some x) = One x

-- what is heard of two parts of the tree
abbrev pub both : Heard → Heard → Heard
both NoAnswer h = h
both (One x) NoAnswer = One x
both (One x) (One y) = Collision
both (One x) Collision = Collision
both Collision h = Collision

-- what was heard before, and then something more
abbrev pub heard_joined : {A : Type 0} → Heard → Heard × A → Heard × A
heard_joined h x = (both h x.0, x.1)

-- the same, where it is one device's answer
abbrev pub with_answer : {A : Type 0} → Heard → Option Answer × A → Heard × A
with_answer h x = (both h (heard_from x.0), x.1)

-- what is heard of the answers: two collide
abbrev pub heard_of : List Answer → Heard
heard_of [] = NoAnswer
heard_of (x ∷ []) = One x
heard_of (x ∷ y ∷ more) = Collision

-- what is heard, and the ports then
abbrev pub delivered : Sent → Bool → Ports → Heard × Ports
delivered q deep k = (heard_of (answers q deep k), after_packet q deep k)

-- a packet at a device itself
abbrev pub taken_content : Content → Plugged → Option Answer × Plugged
taken_content c t = (
  (reply_to c t.own (row_of t.ports)).0,
  record {
    own = (reply_to c t.own (row_of t.ports)).1;
    ports =
        acted (asked_by c t.own) t.ports;
  },
)

-- the same, where the device hears it
abbrev pub taken_sent : Sent → Bool → Plugged → Option Answer × Plugged
taken_sent q deep t = (
  (answer_of q deep t.own t.ports).0,
  record {
    own = (answer_of q deep t.own t.ports).1;
    ports =
        acted (effect_of q deep t.own) t.ports;
  },
)

-- the same, and the devices below
abbrev pub delivered_device : Sent → Bool → Plugged → Heard × Plugged
delivered_device q deep t = (
  both (heard_from (answer_of q deep t.own t.ports).0) (heard_of (answers q true t.ports)),
  record {
    own = (answer_of q deep t.own t.ports).1;
    ports =
        acted (effect_of q deep t.own) (after_packet q true t.ports);
  },
)

abbrev pub on_port : PortState → Heard × Plugged → Heard × Place
on_port b x = (x.0, full b x.1.own x.1.ports)

abbrev pub delivered_place : Sent → Bool → Place → Heard × Place
delivered_place q deep (empty b) = (NoAnswer, empty b)
delivered_place q deep (full b s a) =
    if b.enable then on_port b (delivered_device q deep (record { own = s; ports = a }))
    else (NoAnswer, full b s a)

-- between attempts no device remembers a token or an awaited ACK
unfoldable pub all_forgotten : Ports → Ports
all_forgotten ended = ended
all_forgotten (vacant b k) = vacant b (all_forgotten k)
all_forgotten (taken b s a k) = taken b (forgotten s) (all_forgotten a) (all_forgotten k)

-- the addresses of the devices that packets reach
unfoldable pub held_addresses : Ports → List ℕ
held_addresses ended = []
held_addresses (vacant b k) = held_addresses k
held_addresses (taken b s a k) = if b.enable then s.registers.address ∷
    (held_addresses a ++ held_addresses k) else held_addresses k

abbrev pub has : ℕ → List ℕ → Bool
has a [] = false
has a (x ∷ xs) = a == x || has a xs

-- one of these stands twice
unfoldable pub repeats : List ℕ → Bool
repeats [] = false
repeats (x ∷ xs) = has x xs || repeats xs

-- some device awaits the ACK that would end its SET_ADDRESS
unfoldable pub has_loss : Ports → Bool
has_loss ended = false
has_loss (vacant b k) = has_loss k
has_loss (taken b s a k) = awaits_address s || has_loss a || has_loss k

-- a device and all below it forget
abbrev pub forgotten_whole : Plugged → Plugged
forgotten_whole t = record { own = forgotten t.own; ports = all_forgotten t.ports }

-- the device on a port, or one below it, loses its address
abbrev pub has_loss_in : Option Plugged → Bool
has_loss_in None = false
has_loss_in (Some t) = awaits_address t.own || has_loss t.ports

-- the addresses on a port and below it
abbrev pub held_in : PortState → Option Plugged → List ℕ
held_in b None = []
held_in b (Some t) = if b.enable then t.own.registers.address ∷ held_addresses t.ports else []

-- which devices stand where: a mark for each port and for each end of a row
unfoldable pub figure : Ports → List (Option (Option Spec))
figure ended = None ∷ []
figure (vacant b k) = Some None ∷ figure k
figure (taken b s a k) = Some (Some s.spec) ∷ (figure a ++ figure k)

abbrev pub figure_in : Place → List (Option (Option Spec))
figure_in (empty b) = Some None ∷ []
figure_in (full b s a) = Some (Some s.spec) ∷ figure a

abbrev pub figure_of : Plugged → List (Option (Option Spec))
figure_of t = Some (Some t.own.spec) ∷ figure t.ports
