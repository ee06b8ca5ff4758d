-- What packets, and the attempts that they make, do to reachable, live and pending, and to the
-- devices and ports.
use Rattle.std.proofs.Common.{◌||◌, arith, ◌≡◌, ℕ, zero, suc, ◌&&◌, if◌then◌else◌, inl, inr, Bool}
use Rattle.std.proofs.Common.{true, false, List, [], ◌∷◌, Option, None, Some, option_map, refl, ap}
use Rattle.std.proofs.Common.{sym, ◌∙◌}
use Rattle.usb_port.specs.{PortState, powered_off}
use Rattle.usb_device.specs.{Effect, Leaves, Calls, PortsOff, State, Ports, ended, vacant, taken}
use Rattle.usb_device.specs.{full, reach_at, state_at, place_at, acted, empty, answer_of, effect_of}
use Rattle.usb_device.specs.{after_packet, Sent, Place, port_at, Content, Whole, Broken, forgotten}
use Rattle.usb_device.specs.{received, unread, asks, all_off, reply_to, asked_by, all_forgotten}
use Rattle.usb_device.specs.{asks_clearing, clears_change}
use Rattle.usb_world.specs.{has_power_at, pending_at, IsNew, takes_reset, effect_resets, resets_at}
use Rattle.usb_world.specs.{reset_if, effect_keeps_pending, packet_keeps_pending, deep_at}
use Rattle.usb_world.specs.{leaves_port, way_leaves, after_sent, after_attempt, calls_on}
use Rattle.usb_world.specs.{IsTokenFor, IsAckOut, IfOut, IsAttemptAt, sent_resets}
use Rattle.usb_world.specs.{sent_keeps_pending, attempt_resets, attempt_keeps_pending, IsSettled}
use Rattle.usb_world.specs.{Mark, sent_as, Consistent, Attempt, token_out, payload_out, clears_at}
use Rattle.usb_world.specs.{World, at_attempt, damage_in, attempt, resets, step_keeps_pending}
use Rattle.usb_world.specs.{sent_leaves, leaves_step, AsksNothing}
use Rattle.usb_world.proofs.Booleans.{and_kept, either_of, neither, false_true, and_false}
use Rattle.usb_world.proofs.Booleans.{neither_of}
use Rattle.usb_world.proofs.States.{reset_if-false}
use Rattle.usb_world.proofs.OnWays.{spares_if, resets_if, way_leaves-on_way}
use Rattle.usb_world.proofs.ports.PortCalls.{off_way, ResetIf, same_reset, call_way, KeepsPending}
use Rattle.usb_world.proofs.ports.PortCalls.{pending_kept, call_kept, same_way-behind, SamePorts}
use Rattle.usb_world.proofs.ports.PortCalls.{same_ports, called_apart, passed_ports}
use Rattle.usb_packet.specs.{Packet}
use Rattle.usb_device.specs.declared.transfer.RememberedPacket.TheVariants.{Nothing}
use Rattle.usb_world.proofs.ports.SanePorts.{sane_packet, sane_forgotten}

-- a device's own state after a packet, which reaches it or does not
abbrev pub heard_state : Sent → Bool → Bool → Option Place → Option State
heard_state q deep on None = None
heard_state q deep on (Some (empty b)) = None
heard_state q deep on (Some (full b s a)) = Some (if on then (answer_of q deep s a).1 else s)

-- a device after a packet, which comes to it or does not
abbrev met : Bool → Sent → Bool → PortState → State → Ports → Ports → Ports
met x q deep b s a k = if x then taken b (answer_of q deep s a).1
    (acted (effect_of q deep s) (after_packet q true a)) k else taken b s a k

-- what is so in both cases
met_either : (P : Ports → Type 0) (x : Bool) (q : Sent) (deep : Bool)
    (b : PortState) (s : State) (a k : Ports)
    → P (met true q deep b s a k) → P (met false q deep b s a k) → P (met x q deep b s a k)
met_either P x q deep b s a k h g = grind arith

-- What a device asks of its ports

acted_way : (e : Effect) (x : Ports) (j : ℕ) (p : List ℕ)
    → ResetIf (effect_resets e x j p) x (acted e x) j p
acted_way Leaves x j p = same_reset false x j p refl
acted_way (Calls c i) x j p = call_way c x i j p
acted_way PortsOff x j p =
    grind (arith, off_way x j p)

acted_kept : (e : Effect) (x : Ports) (j : ℕ) (p : List ℕ) → effect_keeps_pending e j p ≡ true
    → KeepsPending x (acted e x) j p
acted_kept Leaves x j p h = (λ g. g, λ g. g)
acted_kept (Calls c i) x j p h = call_kept c x i j p h
acted_kept PortsOff x j p h = false_true h

-- Where a reset falls

resets_nil : (q : Sent) (deep : Bool) (k : Ports) (j : ℕ) → resets_at q deep k j [] ≡ false
unfolding resets_at
resets_nil q deep (vacant b k) (suc j) = resets_nil q deep k j
resets_nil q deep (taken b s a k) (suc j) = resets_nil q deep k j
resets_nil q deep k j = refl

-- a packet changes no port of the row on which it starts
packet_takes : (q : Sent) (deep : Bool) (k : Ports) (j : ℕ)
    → takes_reset (place_at (after_packet q deep k) j []) ≡ takes_reset (place_at k j [])
unfolding after_packet place_at
packet_takes q deep (vacant b k) (suc j) = packet_takes q deep k j
packet_takes q deep (taken b s a k) zero = grind arith
packet_takes q deep (taken b s a k) (suc j) = grind (arith, packet_takes q deep k j)
packet_takes q deep k j = refl

packet_asks : (e : Effect) (q : Sent) (deep : Bool) (k : Ports) (j : ℕ) (p : List ℕ)
    → effect_resets e (after_packet q deep k) j p ≡ effect_resets e k j p
packet_asks e q deep k j p = grind (arith, packet_takes)

-- A packet

-- what is live or pending, and spared, is so after a packet
packet_kept : (q : Sent) (deep : Bool) (k : Ports) (j : ℕ) (p : List ℕ)
    → packet_keeps_pending q deep k j p ≡ true → KeepsPending k (after_packet q deep k) j p
unfolding after_packet has_power_at pending_at packet_keeps_pending
packet_kept q deep ended j p h = (λ g. g, λ g. g)
packet_kept q deep (vacant b k) zero p h = grind (arith, pending_kept, same_way-behind)
packet_kept q deep (vacant b k) (suc j) p h = packet_kept q deep k j p h
packet_kept q deep (taken b s a k) zero (suc j ∷ p) h =
    grind (
      arith,
      acted_kept (effect_of q deep s) (after_packet q true a) j p,
      met,
      packet_kept q true a j p,
    )
packet_kept q deep (taken b s a k) zero p h = grind (arith, met_either)
packet_kept q deep (taken b s a k) (suc j) p h =
    grind (arith, packet_kept q deep k j p h, met_either)

abbrev pub stands : Option Place → Option State
stands None = None
stands (Some (empty b)) = None
stands (Some (full b s a)) = Some s

pub state_stands : (k : Ports) (j : ℕ) (p : List ℕ) → stands (place_at k j p) ≡ state_at k j p
unfolding state_at place_at
state_stands (vacant b k) zero [] = refl
state_stands (vacant b k) (suc j) p = state_stands k j p
state_stands (taken b s a k) zero (suc j ∷ p) = state_stands a j p
state_stands (taken b s a k) (suc j) p = state_stands k j p
state_stands k j p = refl

unheard : (q : Sent) (d : Bool) (x : Option Place) → stands x ≡ heard_state q d false x
unheard q d x = grind arith

heard_state-unheard : (q : Sent) (d : Bool) (k : Ports) (j : ℕ) (p : List ℕ)
    → state_at k j p ≡ heard_state q d false (place_at k j p)
heard_state-unheard q d k j p = sym (state_stands k j p) ∙ unheard q d (place_at k j p)

pub true_deep : (p : List ℕ) → deep_at true p ≡ true
true_deep p = grind arith

reset_then : (x y : Bool) (o : Option State) → (x ≡ true → y ≡ false)
    → option_map (reset_if x) (option_map (reset_if y) o) ≡ option_map (reset_if (x || y)) o
reset_then x y o f = grind arith

-- a device asks for no reset but on its own ports
asks_here : (e : Effect) (q : Sent) (a : Ports) (j : ℕ) (p : List ℕ) → effect_resets e a j p ≡ true
    → resets_at q true a j p ≡ false
asks_here e q a j p h = grind (arith, resets_nil)

-- the device at a path hears a packet or not, and is then reset or not
abbrev HeardIf : Sent → Bool → Bool → Bool → Ports → Ports → ℕ → List ℕ → Type 0
HeardIf q deep on r k m j p =
    (state_at m j p ≡ option_map (reset_if r) (heard_state q deep on (place_at k j p)))
    × (r ≡ false → reach_at m j p ≡ true → reach_at k j p ≡ true)
    × (r ≡ true → IsNew (place_at m j p))

packet_way : (q : Sent) (deep : Bool) (k : Ports) (j : ℕ) (p : List ℕ)
    → HeardIf q (deep_at deep p) (reach_at k j p) (resets_at q deep k j p) k
    (after_packet q deep k) j p
unfolding after_packet reach_at place_at resets_at state_at
packet_way q deep (vacant b k) zero [] = (refl, λ f h. h, λ f. false_true f)
packet_way q deep (vacant b k) (suc j) p = packet_way q deep k j p
packet_way q deep (taken b s a k) zero (suc j ∷ p) = split b.enable (packet_way q true a j p)
  where
    split : (x : Bool) → HeardIf q (deep_at true p) (reach_at a j p) (resets_at q true a j p) a
        (after_packet q true a) j p → HeardIf q true (x && reach_at a j p)
        (x && (effect_resets (effect_of q deep s) a j p || resets_at q true a j p))
        (taken b s a k) (met x q deep b s a (after_packet q deep k)) zero (suc j ∷ p)
    split true ih =
        let asked : _ = acted_way _ _ j p in
        let same : _ = packet_asks _ q true a j p in (
          asked.0 ∙ ap (λ x. option_map (reset_if x) (state_at (after_packet q true a) j p)) same
              ∙ ap (option_map (reset_if (effect_resets (effect_of q deep s) a j p))) ih.0
              ∙ reset_then (effect_resets (effect_of q deep s) a j p) (resets_at q true a j p)
              (heard_state q (deep_at true p) (reach_at a j p) (place_at a j p))
              (asks_here (effect_of q deep s) q a j p)
              ∙ ap (λ d. option_map
              (reset_if (effect_resets (effect_of q deep s) a j p || resets_at q true a j p))
              (heard_state q d (reach_at a j p) (place_at a j p))) (true_deep p),
          λ f.
              let none_of : _ =
              neither (effect_resets (effect_of q deep s) a j p) (resets_at q true a j p) f in
              and_kept b.enable _ _ (λ g. ih.1 none_of.1 (asked.1 (same ∙ none_of.0) g)),
          λ f. elim (either_of (effect_resets (effect_of q deep s) a j p)
              (resets_at q true a j p) f)
              [ inl y ↦ asked.2 (same ∙ y) | inr y ↦ asked.3 (ih.2 y) ],
        )
    split false ih = (
      heard_state-unheard q true a j p ∙ reset_if-false (heard_state q true false (place_at a j p)),
      λ f h. h,
      λ f. false_true f,
    )
packet_way q deep (taken b s a k) zero p = grind (arith, met_either)
packet_way q deep (taken b s a k) (suc j) p = grind (arith, packet_way q deep k j p, met_either)
packet_way q deep k j p = (refl, λ f h. h, λ f. false_true f)

-- a packet changes each device that it reaches by that device's row, and no other, but for those
-- that it resets
pub packet_state : (q : Sent) (deep : Bool) (k : Ports) (j : ℕ) (p : List ℕ)
    → state_at (after_packet q deep k) j p
    ≡ option_map (reset_if (resets_at q deep k j p))
    (heard_state q (deep_at deep p) (reach_at k j p) (place_at k j p))
packet_state q deep k j p = (packet_way q deep k j p).0

-- The ports that nobody asks anything of at a packet.

-- a device asks nothing of its ports
abbrev pub is_left : Effect → Bool
is_left Leaves = true
is_left e = false

pub left_is : (e : Effect) → is_left e ≡ true → e ≡ Leaves
left_is e h = grind arith

-- the ports that nobody asks anything of

left_acted : (e : Effect) (x : Ports) (j : ℕ) (p : List ℕ) → leaves_port e j ≡ true
    → SamePorts x (acted e x) j p
left_acted Leaves x j p h = same_ports x j p
left_acted (Calls c i) x j p h = (called_apart c x i j p h).0
left_acted PortsOff x j p h = false_true h

-- and those on the way to them
pub way_ports : (q : Sent) (deep : Bool) (k : Ports) (j : ℕ) (p : List ℕ)
    → way_leaves q deep k j p ≡ true → SamePorts k (after_packet q deep k) j p
unfolding after_packet reach_at has_power_at pending_at port_at way_leaves
way_ports q deep ended j p h = same_ports ended j p
way_ports q deep (vacant b k) zero p h = (same_way-behind (empty b) k (after_packet q deep k) p).0
way_ports q deep (vacant b k) (suc j) p h = way_ports q deep k j p h
way_ports q deep (taken b s a k) zero (suc j ∷ p) h =
    grind (
      arith,
      left_acted (effect_of q deep s) (after_packet q true a) j p,
      met,
      same_ports,
      way_ports q true a j p,
    )
way_ports q deep (taken b s a k) (suc j) p h = grind (arith, way_ports q deep k j p h, met_either)
way_ports q deep (taken b s a k) zero _ h = grind (arith, met_either, same_ports)

-- What an attempt's packets do to reachable, live and pending.

-- no device asks anything of its ports
abbrev pub IsCalm : Sent → Type 0
IsCalm q = (deep : Bool) (s : State) → effect_of q deep s ≡ Leaves

abbrev IsCalmContent : Content → Type 0
IsCalmContent c = (s : State) → asked_by c s ≡ Leaves

calm_content : (q : Sent) → IsCalmContent q.content → IsCalm q
unfolding effect_of
calm_content q c deep s = grind arith

token_calm : (n : ℕ) (c : Content) → IsTokenFor n c → IsCalmContent c
unfolding asks
token_calm n c h s = grind arith

ack_calm : (c : Content) → IsAckOut c → IsCalmContent c
unfolding asks
ack_calm c h s = grind arith

-- a packet that goes out, or not, and asks nothing
abbrev pub CalmOut : Option Sent → Type 0
CalmOut None = Unit {0}
CalmOut (Some q) = IsCalm q

-- what is so of a packet of the host, and of bytes that spell none, is so of what goes out of it
pub sent_out : (P : Content → Type 0) → P Broken → (l pre : Bool) (m : Mark) (p : Packet)
    → P (Whole p) → IfOut P (sent_as l pre m p)
sent_out P e l pre m p h = grind arith

pub calm_token : (n : ℕ) (o : Option Sent) → IfOut (IsTokenFor n) o → CalmOut o
calm_token n o h = grind (arith, calm_content, token_calm)

pub calm_ack : (o : Option Sent) → IfOut IsAckOut o → CalmOut o
calm_ack o h = grind (arith, ack_calm, calm_content)

pub calm_sent : (o : Option Sent) → CalmOut o → (k : Ports) (j : ℕ) (p : List ℕ)
    → sent_resets o k j p ≡ false
calm_sent o c k j p = grind (arith, resets_if)

calm_sent_spares : (o : Option Sent) → CalmOut o → (k : Ports) (j : ℕ) (p : List ℕ)
    → sent_keeps_pending o k j p ≡ true
calm_sent_spares o c k j p = grind (arith, spares_if)

-- One packet

sent_reach : (o : Option Sent) (k : Ports) (j : ℕ) (p : List ℕ) → sent_resets o k j p ≡ false
    → reach_at (after_sent o k) j p ≡ true → reach_at k j p ≡ true
sent_reach None k j p f h = h
sent_reach (Some q) k j p f h = (packet_way q false k j p).1 f h

sent_new : (o : Option Sent) (k : Ports) (j : ℕ) (p : List ℕ) → sent_resets o k j p ≡ true
    → IsNew (place_at (after_sent o k) j p)
sent_new None k j p h = false_true h
sent_new (Some q) k j p h = (packet_way q false k j p).2 h

sent_kept : (o : Option Sent) (k : Ports) (j : ℕ) (p : List ℕ) → sent_keeps_pending o k j p ≡ true
    → KeepsPending k (after_sent o k) j p
sent_kept None k j p f = (λ h. h, λ h. h)
sent_kept (Some q) k j p f = packet_kept q false k j p f

sent_sane : (o : Option Sent) (k : Ports) → Consistent k → Consistent (after_sent o k)
sent_sane o k h = grind (arith, sane_packet)

-- Forgetting

forgotten_off : (k : Ports) → all_off (all_forgotten k) ≡ all_forgotten (all_off k)
unfolding all_forgotten all_off
forgotten_off ended = refl
forgotten_off (vacant b k) = ap (vacant (powered_off b)) (forgotten_off k)
forgotten_off (taken b s a k) = grind (arith, forgotten_off k)

-- the way to a path where each device has forgotten what it remembered
abbrev ForgottenWay : Ports → ℕ → List ℕ → Type 0
ForgottenWay k j p =
    SamePorts k (all_forgotten k) j p
    × (state_at (all_forgotten k) j p ≡ option_map forgotten (state_at k j p))
    × (IsNew (place_at k j p) → IsNew (place_at (all_forgotten k) j p))

forgotten_way : (k : Ports) (j : ℕ) (p : List ℕ) → ForgottenWay k j p
unfolding all_forgotten reach_at has_power_at pending_at port_at state_at place_at
forgotten_way ended j p = (same_ports ended j p, refl, λ h. h)
forgotten_way (vacant b k) zero p = grind (arith, same_ports)
forgotten_way (vacant b k) (suc j) p = forgotten_way k j p
forgotten_way (taken b s a k) zero (suc j ∷ p) =
    grind (arith, forgotten_way a j p, passed_ports)
forgotten_way (taken b s a k) zero p = grind (arith, forgotten_off, same_ports)
forgotten_way (taken b s a k) (suc j) p = forgotten_way k j p

pub forgotten_ports : (k : Ports) (j : ℕ) (p : List ℕ) → SamePorts k (all_forgotten k) j p
forgotten_ports k j p = (forgotten_way k j p).0

pub forgotten_state : (k : Ports) (j : ℕ) (p : List ℕ)
    → state_at (all_forgotten k) j p ≡ option_map forgotten (state_at k j p)
forgotten_state k j p = (forgotten_way k j p).1

forgotten_twice : (k : Ports) → all_forgotten (all_forgotten k) ≡ all_forgotten k
unfolding all_forgotten
forgotten_twice ended = refl
forgotten_twice (vacant b k) = ap (vacant b) (forgotten_twice k)
forgotten_twice (taken b s a k) = grind (arith, forgotten_twice a, forgotten_twice k)

-- A device that remembers nothing stays as it is at what is no token for it

rested_reply : (c : Content) (s : State) (row : List PortState) → s.memory ≡ Nothing
    → calls_on c s ≡ false → reply_to c s row ≡ (None, s)
unfolding received unread
rested_reply c s row n own = grind arith

pub rested_answer : (q : Sent) (deep : Bool) (s : State) (a : Ports) → s.memory ≡ Nothing
    → calls_on q.content s ≡ false → answer_of q deep s a ≡ (None, s)
unfolding answer_of
rested_answer q deep s a n own = grind (arith, rested_reply)

pub ack_calls : (c : Content) (s : State) → IsAckOut c → calls_on c s ≡ false
ack_calls c s h = grind arith

-- no packet comes through ports that are off
off_unreached : (q : Sent) (deep : Bool) (k : Ports) → after_packet q deep (all_off k) ≡ all_off k
unfolding after_packet all_off
off_unreached q deep ended = refl
off_unreached q deep (vacant b k) = ap (vacant (powered_off b)) (off_unreached q deep k)
off_unreached q deep (taken b s a k) = ap (taken (powered_off b) s a) (off_unreached q deep k)

-- the host's ACK leaves a new device new
ack_new : (q : Sent) → IsAckOut q.content → (deep : Bool) (k : Ports) (j : ℕ) (p : List ℕ)
    → IsNew (place_at k j p) → IsNew (place_at (after_packet q deep k) j p)
unfolding after_packet place_at
ack_new q c deep (vacant b k) (suc j) p h = ack_new q c deep k j p h
ack_new q c deep (taken b s a k) zero [] h =
    grind (arith, ack_calls, ack_calm, calm_content, off_unreached, rested_answer)
ack_new q c deep (taken b s a k) zero (zero ∷ p) h = elim h [ ]
ack_new q c deep (taken b s a k) zero (suc j ∷ p) h =
    grind (arith, ack_new q c true a j p h, ack_calm, calm_content)
ack_new q c deep (taken b s a k) (suc j) p h = grind (arith, ack_new q c deep k j p h)
ack_new q c deep _ _ _ h = h

ack_sent_new : (o : Option Sent) → IfOut IsAckOut o → (k : Ports) (j : ℕ) (p : List ℕ)
    → IsNew (place_at k j p) → IsNew (place_at (after_sent o k) j p)
ack_sent_new o c k j p h = grind (arith, ack_new)

-- An attempt

-- who is reachable after an attempt that does not reset it was so before
pub attempt_reach : (n : ℕ) (t d r : Option Sent) → IsAttemptAt n t d r
    → (k : Ports) (j : ℕ) (p : List ℕ)
    → attempt_resets t d k j p ≡ false → reach_at (after_attempt t d r k) j p ≡ true
    → reach_at k j p ≡ true
attempt_reach n t d r is k j p f h =
    sent_reach t k j p (calm_sent t (calm_token n t is.token) k j p)
    (sent_reach d (after_sent t k) j p f
    (sent_reach r (after_sent d (after_sent t k)) j p
    (calm_sent r (calm_ack r is.reply) (after_sent d (after_sent t k)) j p)
    (sym (forgotten_ports (after_sent r (after_sent d (after_sent t k))) j p).0 ∙ h)))

-- a device that an attempt resets is new after it
pub attempt_new : (n : ℕ) (t d r : Option Sent) → IsAttemptAt n t d r
    → (k : Ports) (j : ℕ) (p : List ℕ)
    → attempt_resets t d k j p ≡ true → IsNew (place_at (after_attempt t d r k) j p)
attempt_new n t d r is k j p h =
    (forgotten_way (after_sent r (after_sent d (after_sent t k))) j p).2
    (ack_sent_new r is.reply (after_sent d (after_sent t k)) j p
    (sent_new d (after_sent t k) j p h))

-- what is live or pending, and spared, is so after an attempt
pub attempt_kept : (n : ℕ) (t d r : Option Sent) → IsAttemptAt n t d r
    → (k : Ports) (j : ℕ) (p : List ℕ)
    → attempt_keeps_pending t d k j p ≡ true → KeepsPending k (after_attempt t d r k) j p
attempt_kept n t d r is k j p f =
    let first : _ = sent_kept t k j p (calm_sent_spares t (calm_token n t is.token) k j p) in
    let second : _ = sent_kept d (after_sent t k) j p f in
    let third : _ = sent_kept r _ j p
    (calm_sent_spares r (calm_ack r is.reply) _ j p) in
    let same : _ = forgotten_ports _ j p in
    (λ h. same.1 ∙ third.0 (second.0 (first.0 h)), λ h. same.2 ∙ third.1 (second.1 (first.1 h)))

pub attempt_sane : (t d r : Option Sent) (k : Ports) → Consistent k
    → Consistent (after_attempt t d r k)
attempt_sane t d r k h = grind (arith, sane_forgotten, sent_sane)

pub after_attempt-settled : (t d r : Option Sent) (k : Ports) → IsSettled (after_attempt t d r k)
after_attempt-settled t d r k = forgotten_twice _

-- A packet resets none, spares what is pending and leaves a port, by what each device on the way
-- asks.

-- what is so of each device, wherever it stands
pub clears_if : (q : Sent) (deep : Bool) (k : Ports)
    → ((j : ℕ) (e : List ℕ) (t : State) → state_at k j e ≡ Some t → (dp : Bool)
    → asks_clearing (effect_of q dp t) ≡ false) → clears_change q deep k ≡ false
unfolding clears_change state_at
clears_if q deep ended c = refl
clears_if q deep (vacant b k) c = clears_if q deep k (λ i e. c (suc i) e)
clears_if q deep (taken b s a k) c =
    rw (
      c zero [] s refl deep,
      clears_if q true a (λ i e. c zero (suc i ∷ e)),
      clears_if q deep k (λ i e. c (suc i) e),
    )
    (neither_of (b.enable && false) false (and_false b.enable) refl)

-- No device asks anything

abbrev pub NoneAsks : Option Sent → Ports → Type 0
NoneAsks o k = (q : Sent) → o ≡ Some q → (j : ℕ) (e : List ℕ) (t : State) → state_at k j e ≡ Some t
    → (dp : Bool) → effect_of q dp t ≡ Leaves

none_spares : (o : Option Sent) (k : Ports) → NoneAsks o k → (j : ℕ) (p : List ℕ)
    → sent_keeps_pending o k j p ≡ true
none_spares o k c j p = grind (arith, spares_if)

none_leaves : (o : Option Sent) (k : Ports) → NoneAsks o k → (j : ℕ) (p : List ℕ)
    → sent_leaves o k j p ≡ true
none_leaves o k c j p = grind (arith, way_leaves-on_way)

none_resets : (o : Option Sent) (k : Ports) → NoneAsks o k → (j : ℕ) (p : List ℕ)
    → sent_resets o k j p ≡ false
none_resets o k c j p = grind (arith, resets_if)

pub calm_leaves : (o : Option Sent) → CalmOut o → (k : Ports) (j : ℕ) (p : List ℕ)
    → sent_leaves o k j p ≡ true
calm_leaves o c k j p = grind (arith, way_leaves-on_way)

pub none_clear : (o : Option Sent) (k : Ports) → NoneAsks o k → clears_at o k ≡ false
none_clear o k c = grind (arith, clears_if)

-- an attempt that is made, whose data nobody asks anything at
pub none_asks_nothing : (a : Attempt) (w : World) (p : List ℕ)
    → NoneAsks (payload_out a (damage_in (at_attempt w)))
    (after_sent (token_out a (damage_in (at_attempt w))) (at_attempt w).roots)
    → AsksNothing (attempt a) w p
unfolding step_keeps_pending resets leaves_step
none_asks_nothing a w p c = grind (arith, none_leaves, none_resets, none_spares)
