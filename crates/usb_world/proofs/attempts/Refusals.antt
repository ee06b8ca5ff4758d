-- Attempts that the bus gave up.
use Rattle.std.proofs.Common.{arith, ◌≡◌, ℕ, Bool, true, false, Option, None, Some, Result, OnErr}
use Rattle.std.proofs.Common.{sym, subst, ap, ◌∙◌, ◌+◌, ◌≤◌, ◌==◌, not, if◌then◌else◌, List, refl}
use Rattle.std.proofs.Common.{◌≢◌, Err}
use Rattle.usb_packet.specs.{Packet, Token, OutTok}
use Rattle.usb_device.specs.{Content, Sent, State, sink_grows, Ports, all_forgotten, Stopped}
use Rattle.usb_device.specs.{behind_empty, behind, below, here, Effect, Leaves, RememberedPacket}
use Rattle.usb_device.specs.{forgotten, received, unread, ended, vacant, taken, full, before, acted}
use Rattle.usb_device.specs.{reply_to, answer_of, effect_of, after_packet, delivered_device}
use Rattle.usb_device.specs.{on_port, held_addresses, repeats, path_to}
use Rattle.usb_device.specs.declared.delivery.Content.TheVariants as content
use Rattle.usb_world.specs.{Damage, ExchangeAnswer, Attempt, Mark, Outgoing, marked, marked_some}
use Rattle.usb_world.specs.{token_of, reply_of, sent_as, goes_out, token_out, payload_out}
use Rattle.usb_world.specs.{IsStopped, IsCut, Lost, Flipped, IsAttempt, BusFault, World}
use Rattle.usb_world.specs.{HoldsMapped, Injective, with_attempt, Left, at_event, at_packet}
use Rattle.usb_world.specs.{at_line, GaveUp, Limit, Memory, Failed, IsMade, Attempted, Relation}
use Rattle.usb_world.specs.{EachWas, at_attempt, attempt, after, AttemptFails, after_sent}
use Rattle.usb_world.specs.{address_of, IfOut, IsTokenFor, IsDataOut, IsSettled, calls_on}
use Rattle.usb_world.proofs.Booleans.{false_true, and_false, neither}
use Rattle.usb_world.proofs.TreeHolders.{one_if, occurs, occurs-most, occurs_append}
use Rattle.usb_world.proofs.States.{forgotten-nothing}
use Rattle.usb_port.specs.{PortState}
use Rattle.usb_device.specs.declared.delivery.Heard.TheVariants.{NoAnswer}
use Rattle.usb_device.specs.declared.transfer.RememberedPacket.TheVariants.{Nothing}
use Rattle.usb_world.proofs.courses.Courses.{Rests, rests, rests_settled, goes}
use Rattle.usb_world.proofs.holders.OneDevice.{rested_effect, token_calls, payload_calls}
use Rattle.usb_world.proofs.packets.Packets.{rested_answer}
use Rattle.usb_world.proofs.packets.MildPackets.{is_nothing, cut_kind}
use Rattle.usb_world.proofs.addresses.AddressesKept.{ready_unshared, StandsAfter, stood_events}
use Rattle.usb_world.proofs.addresses.AddressesKept.{ready_stood}
use Rattle.usb_world.proofs.courses.LiftedSteps.{came_shared, ready_shared, attempt_cases}
use Rattle.usb_world.proofs.courses.LiftedSteps.{over_coming}
use Rattle.usb_world.proofs.holders.OneHolderAttempts.{made_here, made_is, ready_settled}

-- Only the host's data can be refused memory on their way: no sink grows at a token or at an ACK.

-- whether a device's sink grows at what goes out
abbrev grows_at : State → Content → Bool
grows_at s (content.Whole p) = sink_grows s p
grows_at s content.Broken = false

abbrev grows_out : State → Option Sent → Bool
grows_out s None = false
grows_out s (Some q) = grows_at s q.content

abbrev grows_some : State → Option Packet → Bool
grows_some s None = false
grows_some s (Some p) = sink_grows s p

-- a packet is refused only where a sink was to grow
not_stopped : (q : Sent) (deep : Bool) (k m : Ports) → ((s : State) → grows_at s q.content ≡ false)
    → Stopped q deep k m → ⊥
not_stopped q deep _ _ still (behind_empty {k = k} {m = m} b x) = not_stopped q deep k m still x
not_stopped q deep _ _ still (behind {k = k} {m = m} b s a x) = not_stopped q deep k m still x
not_stopped q deep _ _ still (below {a = a} {c = c} b s k on x) = not_stopped q true a c still x
not_stopped q deep _ _ still (here b s a k p on whole heard grows) =
    false_true (sym (still s) ∙ ap (grows_at s) whole ∙ grows)

not_stopped_out : (out : Option Sent) (k m : Ports) → ((s : State) → grows_out s out ≡ false)
    → IsStopped out k m → ⊥
not_stopped_out out k m still h = not_stopped h.sent false k m (λ s. ap (grows_out s) (sym h.went)
    ∙ still s) h.stopped

-- damage makes no sink grow
still_sent : (s : State) (low pre : Bool) (m : Mark) (p : Packet) → sink_grows s p ≡ false
    → grows_out s (sent_as low pre m p) ≡ false
still_sent s low pre m p h = grind arith

still_marked : (s : State) (a : Attempt) (d : Option Damage) (n : ℕ) (o : Option Packet)
    → grows_some s o ≡ false → grows_out s (goes_out a (marked_some d n a.pre o)) ≡ false
unfolding marked_some marked
still_marked s a d n o h = grind arith

-- a token, and the host's ACK
still_token : (s : State) (a : Attempt) → sink_grows s (token_of a) ≡ false
unfolding token_of
still_token s a = and_false _

still_reply : (s : State) (h : ExchangeAnswer) (m : Mark) (max : ℕ)
    → grows_some s (reply_of h m max) ≡ false
unfolding reply_of
still_reply s h m max = grind arith

pub token_not_stopped : (a : Attempt) (d : Option Damage) (x : Outgoing) (k m : Ports)
    → x ≡ marked d 1 a.pre (token_of a) → IsStopped (goes_out a (Some x)) k m → ⊥
unfolding marked
token_not_stopped a d x k m is h =
    let P : Outgoing → Type 0 = λ y. IsStopped (goes_out a (Some y)) k m in
    not_stopped_out (token_out a d) k m
    (λ s. still_sent s a.low a.pre _ (token_of a)
    (still_token s a)) (subst P is h)

pub reply_not_stopped : (a : Attempt) (d : Option Damage) (n : ℕ) (h : ExchangeAnswer) (mk : Mark)
    (max : ℕ) (x : Option Outgoing) (k m : Ports) → x ≡ marked_some d n a.pre (reply_of h mk max)
    → IsStopped (goes_out a x) k m → ⊥
reply_not_stopped a d n h mk max x k m is stopped =
    let P : Option Outgoing → Type 0 = λ y. IsStopped (goes_out a y) k m in
    not_stopped_out _ k m
    (λ s. still_marked s a d n _ (still_reply s h mk max))
    (subst P is stopped)

-- where it was refused, nothing is remembered of it after the attempt
pub over_cut : {A E : Type 0} (a : Attempt) (d : Option Damage) (k j m : Ports) (r : Result A E)
    → m ≡ all_forgotten j → OnErr r (IsStopped (payload_out a d) (after_sent (token_out a d) k) j)
    → OnErr r (IsCut a d k m)
over_cut a d k j m r e h = grind arith

-- Where no address is held twice, a refused packet leaves everything as it was.

-- how many devices remember something
unfoldable seen : Ports → ℕ
seen ended = 0
seen (vacant b k) = seen k
seen (taken b s a k) = one_if (not (is_nothing s.memory)) + (seen a + seen k)

none_seen : (m : RememberedPacket) → one_if (not (is_nothing m)) ≡ 0 → m ≡ Nothing
none_seen m h = grind arith

rest_seen : (k : Ports) → Rests k → seen k ≡ 0
unfolding Rests seen
rest_seen ended h = refl
rest_seen (vacant b k) h = rest_seen k h
rest_seen (taken b s a k) h = omega (
  arith,
  ap (λ x. one_if (not (is_nothing x))) h.0,
  rest_seen a h.1,
  rest_seen k h.2,
)

-- Data where nothing is remembered

-- a device that nothing was meant for, and all below it, is as it was
same_taken : (q : Sent) (deep : Bool) (b : PortState) (s : State) (a : Ports) → s.memory ≡ Nothing
    → calls_on q.content s ≡ false → after_packet q true a ≡ a
    → (k m : Ports) → m ≡ k → taken b (answer_of q deep s a).1
    (acted (effect_of q deep s) (after_packet q true a)) m ≡ taken b s a k
same_taken q deep b s a n own lower k m rest = grind (arith, rested_answer, rested_effect)

after_packet-data : (q : Sent) → IsDataOut q.content → (deep : Bool) (k : Ports) → seen k ≡ 0
    → after_packet q deep k ≡ k
unfolding after_packet seen
after_packet-data q c deep ended h = refl
after_packet-data q c deep (vacant b k) h = ap (vacant b) (after_packet-data q c deep k h)
after_packet-data q c deep (taken b s a k) h =
    grind (
      arith,
      after_packet-data q c deep k,
      after_packet-data q c true a,
      none_seen s.memory,
      payload_calls q.content s c,
      rested_answer,
      rested_effect,
    )

-- Who stops a packet remembers something

grows_seen : (s : State) (p : Packet) → sink_grows s p ≡ true → one_if (not (is_nothing s.memory))
    ≡ 1
grows_seen s p g = grind arith

stopped_seen : {q : Sent} {deep : Bool} {k m : Ports} → Stopped q deep k m → 1 ≤ seen k
unfolding seen
stopped_seen (behind_empty b st) = stopped_seen st
stopped_seen (behind b s a st) = omega (arith, stopped_seen st)
stopped_seen (below b s k on st) = omega (arith, stopped_seen st)
stopped_seen (here b s a k p on is heard grows) = omega (arith, grows_seen s p grows)

-- where one device alone remembers something, who stops a packet is this one: for all others it is
-- nothing
stopped_same : (q : Sent) → IsDataOut q.content → {deep : Bool} {k m : Ports} → Stopped q deep k m
    → seen k ≤ 1 → m ≡ k
unfolding seen
stopped_same q c (behind_empty b st) h = ap (vacant b) (stopped_same q c st h)
stopped_same q c (behind {deep} {k} {m} b s a st) h =
    split b.enable (stopped_same q c st (omega (arith, h))) (stopped_seen st)
  where
    forgot : 1 ≤ seen k → s.memory ≡ Nothing
    forgot y = none_seen s.memory (omega (arith, h, y))

    split : (x : Bool) → m ≡ k → 1 ≤ seen k
        → before (if x then on_port b (delivered_device q deep (record { own = s; ports = a }))
        else (NoAnswer, full b s a)).1 m ≡ taken b s a k
    split true rest y = same_taken q deep b s a (forgot y) (payload_calls q.content s c)
        (after_packet-data q c true a (omega (arith, h, y))) k m rest
    split false rest y = ap (taken b s a) rest
stopped_same q w (below {deep} {a} {c} b s k on st) h =
    ap (λ x. taken b s x k) (stopped_same q w st (omega (arith, h)))
stopped_same q c (here b s a k p on is heard grows) h = grind (arith, after_packet-data, grows_seen)

-- A token is remembered by those who hold its address

at_most_one : (b : Bool) → one_if b ≤ 1
at_most_one b = grind arith

token_one : (n : ℕ) (q : Sent) → IsTokenFor n q.content → (deep : Bool) (s : State) (a : Ports)
    → s.memory ≡ Nothing
    → one_if (not (is_nothing (answer_of q deep s a).1.memory)) ≤ one_if (n == address_of s)
token_one n q c deep s a h =
    grind (arith, at_most_one, is_nothing, one_if, rested_answer, token_calls)

seen_acted : (b : PortState) (z : State) (e : Effect) (c m : Ports) → e ≡ Leaves
    → seen (taken b z (acted e c) m) ≡ one_if (not (is_nothing z.memory)) + (seen c + seen m)
unfolding seen
seen_acted b z e c m h = rw h refl

token_seen : (n : ℕ) (q : Sent) → IsTokenFor n q.content → (deep : Bool) (k : Ports) → Rests k
    → seen (after_packet q deep k) ≤ occurs n (held_addresses k)
unfolding Rests seen held_addresses occurs after_packet
token_seen n q c deep ended h = omega arith
token_seen n q c deep (vacant b k) h = token_seen n q c deep k h
token_seen n q c deep (taken b s a k) h =
    grind (
      arith,
      token_seen n q c true a h.1,
      token_seen n q c deep k h.2,
      is_nothing,
      occurs,
      occurs_append,
      one_if,
      rest_seen,
      rested_effect,
      seen_acted,
      token_one,
    )

sent_seen : (n : ℕ) (o : Option Sent) → IfOut (IsTokenFor n) o → (k : Ports) → Rests k
    → seen (after_sent o k) ≤ occurs n (held_addresses k)
sent_seen n o c k h = grind (arith, rest_seen, token_seen)

-- An OUT token leaves nothing but what is remembered of it

-- a device that remembered nothing is as it was when it forgets
abbrev IsForgotten : Content → Type 0
IsForgotten c = (s : State) (row : List PortState) → s.memory ≡ Nothing
    → forgotten (reply_to c s row).1 ≡ s

out_forgets : (n e : ℕ) → IsForgotten (content.Whole (Token OutTok n e))
unfolding received
out_forgets n e s row h = grind arith

broken_forgets : IsForgotten content.Broken
unfolding unread
broken_forgets s row h = grind arith

answer_forgets : (q : Sent) → IsForgotten q.content → (deep : Bool) (s : State) (a : Ports)
    → s.memory ≡ Nothing → forgotten (answer_of q deep s a).1 ≡ s
unfolding answer_of
answer_forgets q c deep s a h = grind arith

forgotten_acted : (b : PortState) (s z : State) (e : Effect) (a c k m : Ports) → forgotten z ≡ s
    → e ≡ Leaves → all_forgotten c ≡ a → all_forgotten m ≡ k
    → all_forgotten (taken b z (acted e c) m) ≡ taken b s a k
unfolding all_forgotten
forgotten_acted b s z e a c k m own calm lower rest = rw (calm, own, lower, rest) refl

packet_forgets : (q : Sent) → IsForgotten q.content → (deep : Bool) (k : Ports) → Rests k
    → all_forgotten (after_packet q deep k) ≡ k
unfolding Rests after_packet all_forgotten
packet_forgets q c deep ended h = refl
packet_forgets q c deep (vacant b k) h = ap (vacant b) (packet_forgets q c deep k h)
packet_forgets q c deep (taken b s a k) h =
    grind (
      arith,
      packet_forgets q c true a h.1,
      packet_forgets q c deep k h.2,
      rests_settled,
      answer_forgets,
      forgotten-nothing,
      forgotten_acted,
      rested_effect,
    )

abbrev ForgetsOut : Option Sent → Type 0
ForgetsOut None = Unit {0}
ForgetsOut (Some q) = IsForgotten q.content

forgotten_sent : (o : Option Sent) → ForgetsOut o → (k : Ports) → IsSettled k
    → all_forgotten (after_sent o k) ≡ k
forgotten_sent o c k h = grind (arith, packet_forgets, rests)

sent_forgets : (low pre : Bool) (mark : Mark) (p : Packet) → IsForgotten (content.Whole p)
    → ForgetsOut (sent_as low pre mark p)
sent_forgets low pre Lost p c = tt
sent_forgets low pre (Flipped bit) p c = broken_forgets
sent_forgets low pre m p c = c

token_forgets : (a : Attempt) (d : Option Damage)
    → IsForgotten (content.Whole (Token a.kind a.addr a.ep)) → ForgetsOut (token_out a d)
unfolding token_of marked
token_forgets a d c = grind (arith, sent_forgets)

cut_alone : (a : Attempt) (d : Option Damage) (k m : Ports) → IsAttempt a → IsSettled k
    → IsCut a d k m → repeats (held_addresses k) ≡ false → m ≡ k
cut_alone a d k m is quiet c single =
    let forgets_it : IsForgotten (content.Whole (Token a.kind a.addr a.ep)) =
    rw (cut_kind a d k m is quiet c) (out_forgets a.addr a.ep) in
    let text : IsDataOut c.sent.content = subst (IfOut IsDataOut) c.went (goes a d k).payload in
    let one : seen (after_sent (token_out a d) k) ≤ 1 =
    omega (
      arith,
      sent_seen a.addr (token_out a d) (goes a d k).token k (rests k quiet),
      occurs-most a.addr (held_addresses k) single,
    ) in
    c.is ∙ ap all_forgotten (stopped_same c.sent text c.stopped one)
    ∙ forgotten_sent (token_out a d) (token_forgets a d forgets_it) k quiet

-- An attempt that the bus gave up sets no mark.

left_shared : (a : Attempt) (w v : World) (m : BusFault) → Left a w m v → (f : List ℕ → Option ℕ)
    → Injective f → HoldsMapped f w → w.shared ≡ false → v.shared ≡ false
unfolding with_attempt
left_shared a w v m (at_event c) f inj own h = came_shared c ∙ h
left_shared a w v m (at_packet k e c made) f inj own h = ap (λ x. x.shared) made
    ∙ ready_unshared f inj w own h
left_shared a w v m (at_line e made) f inj own h = ap (λ x. x.shared) made
    ∙ ready_unshared f inj w own h

pub given_up_shared : (a : Attempt) (w v : World) (m : BusFault) → GaveUp a w m v
    → (f : List ℕ → Option ℕ) → Injective f → HoldsMapped f w → w.shared ≡ false → v.shared ≡ false
given_up_shared a w v m g f inj own h = ap (λ x. x.shared) g.told
    ∙ left_shared a w g.left m g.so_far f inj own h

-- Each device over an attempt that the bus gave up: it was made whole, and only its line was not
-- written; or it changed no device.

-- Events that came

abbrev Same : Relation
Same j s v = v ≡ s

each_stood : (w v : World) → ((p : List ℕ) → StandsAfter p w v) → EachWas Same w v
each_stood w v f j s on there =
    let x : _ = f (path_to j) on in
    record { before = s; on = x.0; stands = sym x.1 ∙ there; so = refl }

-- What is so of each device depends on the ports alone

each_same_roots : (R : Relation) (old w v : World) → w.roots ≡ v.roots → EachWas R old w
    → EachWas R old v
each_same_roots R old w v e x j s on there = grind arith

-- The attempt

-- no device changed; or the attempt was made
pub data AttemptCut (a : Attempt) (w v : World) : Type 0 where
  unmade : w.shared ≡ false → EachWas (λ j s x. x ≡ s) w v → AttemptCut a w v
  made_whole : w.shared ≡ false → IsMade a w → (after (attempt a) w).shared ≡ false
      → (after (attempt a) w).roots ≡ v.roots → AttemptCut a w v

cut_at : (a : Attempt) (w x v : World) → x.roots ≡ v.roots → AttemptCut a w x → AttemptCut a w v
cut_at a w x v e (unmade h each) = unmade h (each_same_roots Same w x v e each)
cut_at a w x v e (made_whole h m u r) = made_whole h m u (r ∙ e)

made_cut : (a : Attempt) (w : World) → IsMade a w → (after (attempt a) w).shared ≡ false
    → AttemptCut a w (after (attempt a) w)
unfolding with_attempt
made_cut a w m u = grind (arith, made_is, ready_shared)

module _ (a : Attempt) (w : World) (fits : IsAttempt a) (sound : w.fault ≡ None)
    (settled : IsSettled w.roots) where
  left_cut : (f : BusFault) (x : World) → w.attempts ≢ w.limit → Left a w f x → x.shared ≡ false
      → AttemptCut a w x
  left_cut f x in_limit (at_event c) single =
      unmade (sym (came_shared c) ∙ single) (each_stood w x (λ p. over_coming (stood_events p) c))
  left_cut f x in_limit (at_packet k e c is) single =
      let parts : _ = neither (at_attempt w).shared (repeats (held_addresses (at_attempt w).roots))
      (sym (ap (λ y. y.shared) is) ∙ single) in
      let same : k ≡ (at_attempt w).roots =
      cut_alone a _ (at_attempt w).roots k fits (ready_settled w settled) c parts.1 in
      unmade (sym (ready_shared w) ∙ parts.0)
      (each_same_roots Same w (at_attempt w) x (sym (ap (λ y. y.roots) is ∙ same))
      (each_stood w (at_attempt w) (ready_stood w)))
  left_cut f x in_limit (at_line e is) single = grind (arith, made_cut, made_is)

  gave_up_cut : (f : BusFault) (v : World) → GaveUp a w f v → v.shared ≡ false → AttemptCut a w v
  gave_up_cut f v g single =
      cut_at a w g.left v (sym (ap (λ y. y.roots) g.told))
      (left_cut f g.left g.below g.so_far (sym (ap (λ y. y.shared) g.told) ∙ single))

  limit_cut : (after (attempt a) w).shared ≡ false → AttemptCut a w (after (attempt a) w)
  limit_cut single = grind (arith, attempt_cases, each_same_roots, each_stood, made_cut, made_here)

  cut_attempt : (f : BusFault) (v : World) → AttemptFails a w (Err f) v → v.shared ≡ false
      → AttemptCut a w v
  cut_attempt Limit v e single =
      subst (AttemptCut a w) (sym e) (limit_cut (ap (λ y. y.shared) (sym e) ∙ single))
  cut_attempt Memory v g single = gave_up_cut Memory v g single
  cut_attempt Failed v g single = gave_up_cut Failed v g single

-- the bus that had given up before changes nothing
pub cut_or_same : (a : Attempt) (w : World) (f : BusFault) (v : World) → IsAttempt a
    → IsSettled w.roots → Attempted a w (Err f) v → (w.fault ≡ None → AttemptFails a w (Err f) v)
    → v.shared ≡ false → AttemptCut a w v
cut_or_same a w f v fits settled h fails single =
    grind (arith, cut_attempt, each_same_roots, each_stood)
