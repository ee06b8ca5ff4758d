-- Which courses keep each device at its own address, and set no mark.
use Rattle.usb_world.proofs.Booleans.{and_none, false_true, decided, neither_of}
use Rattle.usb_world.proofs.TreeHolders.{twice_two}
use Rattle.usb_world.proofs.States.{kept_address, forgotten_address}
use Rattle.usb_world.proofs.OnWays.{resets_if}
use Rattle.usb_world.proofs.Equality.{equal_same}
use Rattle.std.proofs.Common.{◌||◌, arith, ◌≡◌, ℕ, zero, suc, ◌&&◌, inl, inr, Bool, true, false}
use Rattle.std.proofs.Common.{List, [], ◌∷◌, ◌++◌, Option, None, Some, option_map, refl, ap, sym}
use Rattle.std.proofs.Common.{◌∙◌, ◌==◌, if◌then◌else◌, subst}
use Rattle.usb_packet.specs.{Packet, Token, Payload, Toggle, TokenKind, SetupTok, OutTok, InTok}
use Rattle.arrayvec.specs.ArrayVec.{ArrayVec}
use Rattle.usb_port.specs.{PortState, PortCall}
use Rattle.usb_device.specs.{Answer, Content, Whole, Broken, Sent, is_ack, State, received, unread}
use Rattle.usb_device.specs.{Ports, ended, vacant, taken, called, changed, reach, state_at, path_to}
use Rattle.usb_device.specs.{reply_to, answer_of, listed, held_addresses, repeats, state_there}
use Rattle.usb_device.specs.{Place, answers, RememberedPacket, payload_row, Leaves, Reply}
use Rattle.usb_device.specs.{forgotten, unless_busy, in_row, in_other_row, token_row, after_memory}
use Rattle.usb_device.specs.{awaits_control, ends_with_address, awaits_address, asks, row_of}
use Rattle.usb_device.specs.{reach_at, place_at, hears, asked_by, effect_of}
use Rattle.usb_device.specs.declared.transfer.RememberedPacket.TheVariants.{SetupSeen, Nothing}
use Rattle.usb_device.proofs.Interface.{keeps-received}
use Rattle.usb_world.specs.{Damage, Attempt, BusFault, Mark, marked, marked_some, token_of}
use Rattle.usb_world.specs.{payload_of, reply_of, sent_as, token_out, payload_out, reply_out}
use Rattle.usb_world.specs.{heard_all, ports_in, World, after_event, at_attempt, damage_in}
use Rattle.usb_world.specs.{with_attempt, event_taken, Step, attempt, root_call, event, after}
use Rattle.usb_world.specs.{is_made, made_resets, root_resets, resets, address_at, HoldsMapped}
use Rattle.usb_world.specs.{Injective, is_quiet, QuietStep, quiet_data, Course, is_setup, NoneTakes}
use Rattle.usb_world.specs.{MovesData, GivesNoAddress, AsksNothing, address_of, after_sent}
use Rattle.usb_world.specs.{answers_to, after_attempt, sent_resets, attempt_resets, reset_if}
use Rattle.usb_world.specs.{deep_at, IsDataOut, IfOut, IsSettled}
use Rattle.usb_world.proofs.events.PlugEvents.{happened_there}
use Rattle.usb_world.proofs.ports.PortCalls.{call_state}
use Rattle.usb_world.proofs.packets.Packets.{packet_state, heard_state, stands, state_stands}
use Rattle.usb_world.proofs.packets.Packets.{forgotten_state, calm_sent}
use Rattle.usb_world.proofs.packets.Packets.{calm_token as token_calm_out, calm_ack as ack_out}
use Rattle.usb_world.proofs.packets.Packets.{NoneAsks, none_asks_nothing, left_is, is_left}
use Rattle.usb_world.proofs.holders.OneHolder.{gives_no_data, if_no_data, data_no_data}
use Rattle.usb_world.proofs.courses.Courses.{happened_reach, made_reach, root_reach, goes}
use Rattle.usb_world.proofs.courses.Courses.{settled_after}
use Rattle.usb_world.proofs.ports.PortRequests.{harmless_resets, IsHarmlessOut, AllowsOut}
use Rattle.usb_world.proofs.ports.PortRequests.{sent_allowed, payload_allowed}
use Rattle.usb_world.proofs.ports.PortRequests.{payload_no_port_allows, payload_asks_no_port}
use Rattle.usb_world.proofs.courses.LiftedSteps.{OverEvents, OverSteps, Keeps, keeps_events}
use Rattle.usb_world.proofs.courses.LiftedSteps.{over_taken, over_ready, after-attempt_by}
use Rattle.usb_world.proofs.courses.LiftedSteps.{over_step, kept_course, beside_events}
use Rattle.usb_world.proofs.courses.LiftedSteps.{ready_shared}
use Rattle.usb_world.proofs.packets.AwaitedAcks.{none_awaited_answer, data_no_control_in}
use Rattle.usb_world.proofs.packets.AwaitedAcks.{rest_awaits}
use Rattle.usb_world.proofs.holders.OneDevice.{settled_memory}
use Rattle.usb_world.proofs.holders.OneHolderAttempts.{ready_settled}

-- A packet that is no ACK changes no address

is_ack_out : Content → Bool
is_ack_out (Whole p) = is_ack p
is_ack_out Broken = false

answer_address : (q : Sent) → is_ack_out q.content ≡ false → (deep : Bool) (s : State) (a : Ports)
    → address_of (answer_of q deep s a).1 ≡ address_of s
unfolding answer_of unread is_ack_out
answer_address q c deep s a = grind (arith, keeps-received)

heard_address : (q : Sent) → is_ack_out q.content ≡ false → (d on : Bool) (x : Option Place)
    → option_map address_of (heard_state q d on x) ≡ option_map address_of (stands x)
heard_address q c d on x = grind (arith, answer_address)

NoAckOut : Option Sent → Type 0
NoAckOut None = Unit {0}
NoAckOut (Some q) = is_ack_out q.content ≡ false

sent_address : (o : Option Sent) → NoAckOut o → (k : Ports) (j : ℕ) (p : List ℕ)
    → sent_resets o k j p ≡ false
    → option_map address_of (state_at (after_sent o k) j p) ≡ option_map address_of (state_at k j p)
unfolding NoAckOut
sent_address o c k j p h =
    grind (arith, heard_address, heard_state, kept_address, packet_state, state_stands)

-- an attempt without an ACK of the host changes no address, but of a device that it resets
attempt_address : (t d : Option Sent) → NoAckOut t → NoAckOut d → (k : Ports) (j : ℕ) (p : List ℕ)
    → sent_resets t k j p ≡ false → attempt_resets t d k j p ≡ false
    → option_map address_of (state_at (after_attempt t d None k) j p)
    ≡ option_map address_of (state_at k j p)
attempt_address t d ct cd k j p f h =
    grind (arith, forgotten_address, forgotten_state, sent_address)

-- Where each reachable device holds an address of its own, no address is held twice

own_not_twice : (f : List ℕ → Option ℕ) → Injective f → (w : World) → HoldsMapped f w
    → repeats (held_addresses w.roots) ≡ false
own_not_twice f inj w own = elim (decided (repeats (held_addresses w.roots))) [
  | inl y ↦
      let t : _ = twice_two w.roots y in
      let one : _ = sym (own (path_to t.one.spot) t.one.on) ∙ t.one.at in
      let other : _ = sym (own (path_to t.other.spot) t.other.on) ∙ t.other.at in
      false_true (sym t.differ ∙ inj (path_to t.one.spot) (path_to t.other.spot) t.n one other)
  | inr y ↦ y
]

-- Events

-- a device that is reached was reached before, and is as it was
abbrev pub StandsAfter : List ℕ → World → World → Type 0
StandsAfter p w v =
    reach v.roots p ≡ true
    → (reach w.roots p ≡ true) × (state_there v.roots p ≡ state_there w.roots p)

pub stood_events : (p : List ℕ) → OverEvents (StandsAfter p)
unfolding after_event
stood_events p = grind (arith, happened_reach, happened_there)

pub ready_stood : (w : World) (p : List ℕ) → StandsAfter p w (at_attempt w)
ready_stood w p = over_ready (stood_events p) w

pub taken_state : (f : Option BusFault) (w : World) (p : List ℕ) → reach (event_taken f w).roots p
    ≡ true → state_there (event_taken f w).roots p ≡ state_there w.roots p
taken_state f w p on = (over_taken (stood_events p) f w on).1

root_address : (c : PortCall) (n : ℕ) (k : Ports) (p : List ℕ) → root_resets c n k p ≡ false
    → address_at (changed (called c) k (n ∷ [])) p ≡ address_at k p
root_address c n k (zero ∷ p) h = refl
root_address c (suc i) k (suc j ∷ p) h = ap (option_map address_of) (call_state c k i j p)
    ∙ kept_address _ (state_at k j p) h
root_address c n k p h = refl

-- To setup data, and to data, no device answers by data; so the host sends no ACK

-- what goes out in an attempt that sends setup data
IsSetupOut : Content → Type 0
IsSetupOut (Whole (Token SetupTok a e)) = Unit {0}
IsSetupOut (Whole (Payload t b)) = Unit {0}
IsSetupOut Broken = Unit {0}
IsSetupOut (Whole p) = ⊥

no_data_payload : (s : State) (row : List PortState) (m : RememberedPacket) (t : Toggle)
    (bytes : List ℕ) → gives_no_data (payload_row s row m t bytes).0 ≡ true
no_data_payload s row m t bytes = grind (arith, data_no_data)

no_data_content : (c : Content) (s : State) (row : List PortState) → IsSetupOut c
    → gives_no_data (reply_to c s row).0 ≡ true
unfolding received IsSetupOut
no_data_content c s row h = grind (arith, if_no_data, no_data_payload)

no_data_answer : (q : Sent) → IsSetupOut q.content → (deep : Bool) (s : State) (a : Ports)
    → gives_no_data (answer_of q deep s a).0 ≡ true
unfolding answer_of
no_data_answer q c deep s a = grind (arith, no_data_content, if_no_data)

all_without_data : List Answer → Bool
all_without_data [] = true
all_without_data (x ∷ xs) = gives_no_data (Some x) && all_without_data xs

no_data_append : (xs ys : List Answer) → all_without_data xs ≡ true → all_without_data ys ≡ true
    → all_without_data (xs ++ ys) ≡ true
unfolding all_without_data
no_data_append [] ys h g = g
no_data_append (x ∷ xs) ys h g =
    grind (arith, no_data_append xs ys)

no_data_listed : (o : Option Answer) (xs : List Answer) → gives_no_data o ≡ true
    → all_without_data xs ≡ true → all_without_data (listed o xs) ≡ true
unfolding all_without_data
no_data_listed o xs h g = grind arith

no_data_answers : (q : Sent) → IsSetupOut q.content → (deep : Bool) (k : Ports)
    → all_without_data (answers q deep k) ≡ true
unfolding answers all_without_data
no_data_answers q c deep ended = refl
no_data_answers q c deep (vacant b k) = no_data_answers q c deep k
no_data_answers q c deep (taken b s a k) =
    grind (
      arith,
      no_data_answers q c true a,
      no_data_answers q c deep k,
      no_data_answer,
      no_data_append,
      no_data_listed,
    )

SetupIfOut : Option Sent → Type 0
SetupIfOut None = Unit {0}
SetupIfOut (Some q) = IsSetupOut q.content

no_data_told : (o : Option Sent) → SetupIfOut o → (k : Ports) → all_without_data (answers_to o k)
    ≡ true
unfolding all_without_data SetupIfOut
no_data_told o c k = grind (arith, no_data_answers)

no_data_reply : (xs : List Answer) (m : Mark) (max : ℕ) → all_without_data xs ≡ true
    → reply_of (heard_all xs) m max ≡ None
unfolding all_without_data reply_of
no_data_reply xs m max h = grind arith

-- Attempts that send setup data

setup_goes : (l pre : Bool) (m : Mark) (p : Packet) → IsSetupOut (Whole p)
    → SetupIfOut (sent_as l pre m p)
unfolding SetupIfOut IsSetupOut
setup_goes l pre m p h = grind arith

no_ack_goes : (l pre : Bool) (m : Mark) (p : Packet) → is_ack p ≡ false
    → NoAckOut (sent_as l pre m p)
unfolding NoAckOut is_ack_out
no_ack_goes l pre m p h = grind arith

harmless_goes : (l pre : Bool) (m : Mark) (p : Packet) → IsHarmlessOut (Whole p)
    → (k : Ports) (j : ℕ) (path : List ℕ) → sent_resets (sent_as l pre m p) k j path ≡ false
harmless_goes l pre m p h k j path = grind (arith, harmless_resets)

-- what such an attempt sends
record SetupGoes (a : Attempt) (d : Option Damage) : Type 0 where
  token : SetupIfOut (token_out a d)
  payload : SetupIfOut (payload_out a d)
  token_no_ack : NoAckOut (token_out a d)
  payload_no_ack : NoAckOut (payload_out a d)
  harmless : (k : Ports) (j : ℕ) (p : List ℕ) → sent_resets (payload_out a d) k j p ≡ false

setup_sends : (a : Attempt) (d : Option Damage) (t : TokenKind) (o : Option (Toggle × ArrayVec ℕ))
    → a.kind ≡ t → a.payload ≡ o → quiet_data t o ≡ true → SetupGoes a d
unfolding token_of payload_of marked marked_some IsSetupOut SetupIfOut NoAckOut
setup_sends a d t o et eo h = grind (arith, harmless_goes, no_ack_goes, setup_goes)

reply_out-setup : (a : Attempt) (d : Option Damage) (k : Ports) → SetupGoes a d
    → reply_out a d k ≡ None
unfolding marked_some
reply_out-setup a d k g = grind (arith, no_data_append, no_data_reply, no_data_told)

made_address : (a : Attempt) (w : World) → SetupGoes a (damage_in w) → (p : List ℕ)
    → address_at (with_attempt a w).roots p ≡ address_at w.roots p
unfolding with_attempt ports_in
made_address a w g (suc j ∷ p) =
    grind (
      arith,
      attempt_address (token_out a (damage_in w)) (payload_out a (damage_in w)) g.token_no_ack
          g.payload_no_ack w.roots j p,
      calm_sent (token_out a (damage_in w)),
      g.harmless,
      goes a (damage_in w) w.roots,
      reply_out-setup a (damage_in w) w.roots g,
      token_calm_out a.addr (token_out a (damage_in w)),
    )
made_address a w g p = refl

quiet_sends : (a : Attempt) (d : Option Damage) → quiet_data a.kind a.payload ≡ true → SetupGoes a d
quiet_sends a d h = setup_sends a d a.kind a.payload refl refl h

-- Steps

pub quiet_resets : (s : Step) (w : World) (p : List ℕ) → is_quiet s ≡ true → resets s w p ≡ false
unfolding resets
quiet_resets (attempt a) w p h = and_none (is_made w.fault w) _ (by_path p)
  where
    by_path : (p : List ℕ) → made_resets a (at_attempt w) p ≡ false
    by_path (suc j ∷ p) = (quiet_sends a _ h).harmless _ j p
    by_path p = refl
quiet_resets (root_call c n) w p h = grind arith
quiet_resets s w p h = refl

-- each device keeps its own address over a quiet step
own_steps : (f : List ℕ → Option ℕ) → OverSteps QuietStep (Keeps (HoldsMapped f))
unfolding resets
own_steps f = record {
  events = keeps_events (HoldsMapped f) (λ e es w l own p h.
      let x : _ = (stood_events p).came e es w l h in
      ap (option_map address_of) x.1 ∙ own p x.0);
  made = λ a w made q own p h.
      let rest : made_resets a (at_attempt w) p ≡ false =
      ap (λ x. x && made_resets a (at_attempt w) p) (sym made) ∙ quiet_resets (attempt a) w p q in
      made_address a (at_attempt w) (quiet_sends a (damage_in (at_attempt w)) q) p
      ∙ own p (made_reach a (at_attempt w) p rest h);
  root = λ c n w q own p h.
      let rest : _ = quiet_resets (root_call c n) w p q in
      root_address c n w.roots p rest ∙ own p (root_reach c n w.roots p rest h);
  refused = λ w own. own;
}

pub step_own : (f : List ℕ → Option ℕ) (s : Step) (w : World) → is_quiet s ≡ true → HoldsMapped f w
    → HoldsMapped f (after s w)
step_own f = over_step (own_steps f)

pub ready_own : (f : List ℕ → Option ℕ) (w : World) → HoldsMapped f w → HoldsMapped f (at_attempt w)
ready_own f = over_ready (own_steps f).events

-- no mark is set

-- neither a world before an attempt nor the attempt sets the mark
pub ready_unshared : (f : List ℕ → Option ℕ) → Injective f → (w : World) → HoldsMapped f w
    → w.shared ≡ false → ((at_attempt w).shared || repeats (held_addresses (at_attempt w).roots))
    ≡ false
ready_unshared f inj w own h =
    neither_of (at_attempt w).shared _
    (ready_shared w ∙ h) (own_not_twice f inj (at_attempt w) (ready_own f w own))

pub step_unshared : (f : List ℕ → Option ℕ) → Injective f → (s : Step) (w : World) → HoldsMapped f w
    → w.shared ≡ false → (after s w).shared ≡ false
unfolding after with_attempt
step_unshared f inj (attempt a) w own h =
    after-attempt_by (λ v. v.shared ≡ false) a w (λ _. (h, h)) (λ _. ready_unshared f inj w own h)
step_unshared f inj event w own h = ap (λ v. v.shared) (over_taken beside_events w.fault w) ∙ h
step_unshared f inj s w own h = h

-- IN and OUT change no address, where no device at theirs takes another.

-- What is so of a device, where one stands there

abbrev If : (State → Type 0) → Option State → Type 0
If P None = Unit {0}
If P (Some s) = P s

heard_if : (P Q : State → Type 0) (q : Sent) (d on : Bool) (x : Option Place)
    → ((s : State) → P s → Q s)
    → ((s : State) (a : Ports) → on ≡ true → P s → Q (answer_of q d s a).1) → If P (stands x)
    → If Q (heard_state q d on x)
heard_if P Q q d on x f g h = grind arith

unreset_if : (P : State → Type 0) (b : Bool) (o : Option State) → b ≡ false → If P o
    → If P (option_map (reset_if b) o)
unreset_if P b o h g = grind arith

-- a packet, where it resets no device there
sent_if : (P Q : State → Type 0) (o : Option Sent) (k : Ports) (j : ℕ) (p : List ℕ)
    → sent_resets o k j p ≡ false → ((s : State) → P s → Q s)
    → ((q : Sent) (d : Bool) (s : State) (a : Ports) → o ≡ Some q → reach_at k j p ≡ true → P s
    → Q (answer_of q d s a).1) → If P (state_at k j p) → If Q (state_at (after_sent o k) j p)
sent_if P Q None k j p r f g h = grind arith
sent_if P Q (Some q) k j p r f g h =
    grind (
      arith,
      heard_if P Q q (deep_at false p) (reach_at k j p) (place_at k j p),
      packet_state q false k j p,
      state_stands k j p,
      unreset_if Q,
    )

-- The token of IN or OUT

abbrev pub saw_setup : RememberedPacket → Bool
saw_setup SetupSeen = true
saw_setup m = false

-- a device gives what it gives, and its transfer stays where it stands
abbrev AddressStays : State → State → Type 0
AddressStays d x = (saw_setup x.memory ≡ false) × (x.stage ≡ d.stage)

stays_if : (d : State) (b : Bool) (x y : Reply) → AddressStays d x.1 → AddressStays d y.1
    → AddressStays d (if b then x else y).1
stays_if d b x y h g = grind arith

module _ (d : State) (rests : saw_setup d.memory ≡ false) where
  stays_zero : AddressStays d (unless_busy d (in_row d d.stage)).1
  stays_zero = (grind arith, grind arith)

  stays_other : (row : List PortState) (e : ℕ) → AddressStays d (in_other_row d row e).1
  stays_other row e = (grind arith, grind arith)

  stays_token : (row : List PortState) (e : ℕ) → AddressStays d (token_row d row InTok e).1
  stays_token row e = stays_if d (e == 0) _ _ stays_zero (stays_other row e)

-- the device waits for no setup data; and for no ACK that gives it an address, where its status
-- stage gives none or the
-- token was not for it
abbrev AddressAfterData : ℕ → State → State → Type 0
AddressAfterData n s x = (saw_setup x.memory ≡ false)
    × ((address_of s ≡ n → ends_with_address s.stage ≡ false) → awaits_address x ≡ false)

rested_asked : (n : ℕ) (s x : State) → x.memory ≡ Nothing → AddressAfterData n s x
unfolding awaits_address
rested_asked n s x m = grind arith

stayed_asked : (n : ℕ) (s x : State) → AddressStays s x → address_of s ≡ n → AddressAfterData n s x
unfolding awaits_address
stayed_asked n s x h e = grind arith

IsInOrOut : ℕ → Content → Type 0
IsInOrOut n (Whole (Token InTok a e)) = a ≡ n
IsInOrOut n (Whole (Token OutTok a e)) = a ≡ n
IsInOrOut n Broken = Unit {0}
IsInOrOut n (Whole p) = ⊥

token_reply : (n : ℕ) (c : Content) → IsInOrOut n c → (s : State) (row : List PortState)
    → s.memory ≡ Nothing → AddressAfterData n s (reply_to c s row).1
unfolding received unread IsInOrOut awaits_address
token_reply n (Whole (Token InTok a e)) h s row m =
    grind (
      arith,
      equal_same a s.registers.address,
      rested_asked,
      stayed_asked n s (token_row (forgotten s) row InTok e).1,
      stays_token (forgotten s) refl row e,
    )
token_reply n (Whole (Token OutTok a e)) h s row m = grind (arith, rested_asked)
token_reply n Broken h s row m = grind (arith, rested_asked)
token_reply n (Whole p) h s row m = elim h [ ]

token_answer : (n : ℕ) (q : Sent) → IsInOrOut n q.content → (deep : Bool) (s : State) (a : Ports)
    → s.memory ≡ Nothing → AddressAfterData n s (answer_of q deep s a).1
unfolding answer_of
token_answer n q c deep s a m = elim (hears q deep s)
    as (λ x. AddressAfterData n s (if x then reply_to q.content s (row_of a) else (None, s)).1) [
      | true ↦ token_reply n q.content c s (row_of a) m
      | false ↦ rested_asked n s s m
    ]

-- The host's data

abbrev Forgot : State → Type 0
Forgot s = s.memory ≡ Nothing

abbrev AwaitsNoAddress : State → Type 0
AwaitsNoAddress s = awaits_address s ≡ false

abbrev WaitsNone : State → Type 0
WaitsNone s = saw_setup s.memory ≡ false

abbrev IsCalmed : State → Type 0
IsCalmed s = WaitsNone s × AwaitsNoAddress s

-- a device that waits for no setup data asks nothing of its ports
data_asks : (c : Content) → IsDataOut c → (s : State) → saw_setup s.memory ≡ false
    → asked_by c s ≡ Leaves
unfolding asks
data_asks c h s r = grind arith

data_effect : (q : Sent) → IsDataOut q.content → (deep : Bool) (s : State)
    → saw_setup s.memory ≡ false → effect_of q deep s ≡ Leaves
unfolding effect_of
data_effect q c deep s r = grind (arith, data_asks)

data_sent : (o : Option Sent) → IfOut IsDataOut o → (k : Ports)
    → ((i : ℕ) (e : List ℕ) → If WaitsNone (state_at k i e))
    → (j : ℕ) (p : List ℕ) → sent_resets o k j p ≡ false
data_sent o c k h j p = grind (arith, data_effect, resets_if)

-- The host's ACK, where no device awaits it to take an address

memory_acked : (d : State) (m : RememberedPacket) → (awaits_control m && ends_with_address d.stage)
    ≡ false → address_of (after_memory d m) ≡ address_of d
memory_acked d m h = grind arith

-- where a device awaits no ACK to take an address, no packet changes its address

kept_reply : (c : Content) (s : State) (row : List PortState) → AwaitsNoAddress s
    → address_of (reply_to c s row).1 ≡ address_of s
unfolding received unread awaits_address
kept_reply c s row r = grind (arith, keeps-received, memory_acked)

kept_answer : (q : Sent) (deep : Bool) (s : State) (a : Ports) → AwaitsNoAddress s
    → address_of (answer_of q deep s a).1 ≡ address_of s
unfolding answer_of
kept_answer q deep s a r = grind (arith, kept_reply)

kept_heard : (q : Sent) (d on : Bool) (x : Option Place) → If AwaitsNoAddress (stands x)
    → option_map address_of (heard_state q d on x) ≡ option_map address_of (stands x)
kept_heard q d on x r = grind (arith, kept_answer)

kept_sent : (o : Option Sent) (k : Ports) (j : ℕ) (p : List ℕ) → sent_resets o k j p ≡ false
    → If AwaitsNoAddress (state_at k j p)
    → option_map address_of (state_at (after_sent o k) j p) ≡ option_map address_of (state_at k j p)
kept_sent o k j p h r =
    grind (arith, heard_state, kept_address, kept_heard, packet_state, state_stands)

-- The attempt

of_out : (P : Content → Type 0) (o : Option Sent) (q : Sent) → IfOut P o → o ≡ Some q → P q.content
of_out P o q h e = subst (IfOut P) e h

token_out-in_or_out : (a : Attempt) (d : Option Damage) → is_setup a.kind ≡ false
    → IfOut (IsInOrOut a.addr) (token_out a d)
unfolding token_of marked IsInOrOut
token_out-in_or_out a d h = grind arith

-- IN or OUT, in a tree where no device remembers a packet
module _ (a : Attempt) (d : Option Damage) (k : Ports) (settled : IsSettled k)
    (kind : is_setup a.kind ≡ false) where
  abbrev asked_ports : Ports
  asked_ports = after_sent (token_out a d) k

  token_calm : (j : ℕ) (p : List ℕ) → sent_resets (token_out a d) k j p ≡ false
  token_calm j p = calm_sent (token_out a d)
      (token_calm_out a.addr (token_out a d) (goes a d k).token) k j p

  at_rest : (P : State → Type 0) (j : ℕ) (p : List ℕ)
      → ((s : State) → state_at k j p ≡ Some s → s.memory ≡ Nothing → P s) → If P (state_at k j p)
  at_rest P j p c = grind (arith, settled_memory)

  none_waits : (j : ℕ) (p : List ℕ) → If WaitsNone (state_at asked_ports j p)
  none_waits j p =
      sent_if Forgot WaitsNone (token_out a d) k j p (token_calm j p) (λ s m. ap saw_setup m)
      (λ q deep s below e on m. (token_answer a.addr q
      (of_out (IsInOrOut a.addr) (token_out a d) q (token_out-in_or_out a d kind) e) deep s
      below m).0)
      (at_rest Forgot j p (λ s e m. m))

  pub data_calm : (j : ℕ) (p : List ℕ) → attempt_resets (token_out a d) (payload_out a d) k j p
      ≡ false
  data_calm j p = data_sent (payload_out a d) (goes a d k).payload asked_ports none_waits j p

  -- the device at a path takes no address
  module _ (j : ℕ) (p : List ℕ) (c : (s : State) → reach_at k j p ≡ true → state_at k j p ≡ Some s
      → address_of s ≡ a.addr → ends_with_address s.stage ≡ false) where
    abbrev Takes : State → Type 0
    Takes s = Forgot s × (reach_at k j p ≡ true → address_of s ≡ a.addr
        → ends_with_address s.stage ≡ false)

    calmed : If IsCalmed (state_at asked_ports j p)
    calmed =
        sent_if Takes IsCalmed (token_out a d) k j p (token_calm j p)
        (λ s t. (ap saw_setup t.0, rest_awaits s t.0))
        (λ q deep s below e on t.
        let x : AddressAfterData a.addr s (answer_of q deep s below).1 =
        token_answer a.addr q (of_out (IsInOrOut a.addr) (token_out a d) q
        (token_out-in_or_out a d kind) e) deep s below t.0 in
        (x.0, x.1 (t.1 on)))
        (at_rest Takes j p (λ s e m. (m, λ on. c s on e)))

    awaits_none : If AwaitsNoAddress (state_at (after_sent (payload_out a d) asked_ports) j p)
    awaits_none =
        sent_if IsCalmed AwaitsNoAddress (payload_out a d) asked_ports j p (data_calm j p)
        (λ s r. r.1)
        (λ q deep s below e on r. none_awaited_answer q
        (data_no_control_in q.content (of_out IsDataOut (payload_out a d) q
        (goes a d k).payload e)) deep s below r.1)
        calmed

    calmed_awaits : (o : Option State) → If IsCalmed o → If AwaitsNoAddress o
    calmed_awaits o h = grind arith

    pub ports_address : option_map address_of (state_at (ports_in a d k) j p)
        ≡ option_map address_of (state_at k j p)
    unfolding ports_in
    ports_address =
        grind (
          arith,
          ack_out,
          at_rest,
          awaits_none,
          calm_sent,
          calmed,
          calmed_awaits,
          data_calm,
          forgotten_address,
          forgotten_state,
          goes,
          kept_sent,
          rest_awaits,
          token_calm,
        )

-- Worlds

made_own : (f : List ℕ → Option ℕ) (a : Attempt) (w : World) → is_setup a.kind ≡ false
    → NoneTakes a.addr w.roots → IsSettled w.roots → HoldsMapped f w
    → HoldsMapped f (with_attempt a w)
unfolding with_attempt
made_own f a w kind none settled own (suc j ∷ p) h =
    ports_address a (damage_in w) w.roots settled kind j p (λ s on e at. none j p s on e at)
    ∙ own (suc j ∷ p) (made_reach a w (suc j ∷ p) (data_calm a (damage_in w) w.roots settled kind j
    p) h)
made_own f a w kind none settled own p h = false_true h

pub data_own : (f : List ℕ → Option ℕ) (a : Attempt) (w : World) → is_setup a.kind ≡ false
    → NoneTakes a.addr (at_attempt w).roots → IsSettled w.roots → HoldsMapped f w
    → HoldsMapped f (after (attempt a) w)
data_own f a w kind none settled own =
    after-attempt_by (HoldsMapped f) a w (λ _. (own, own))
    (λ _. made_own f a (at_attempt w) kind none (ready_settled w settled) (ready_own f w own))

-- Courses

moved_own : (f : List ℕ → Option ℕ) (s : Step) (w : World) → MovesData s w → IsSettled w.roots
    → HoldsMapped f w → HoldsMapped f (after s w)
moved_own f (attempt a) w m settled own = data_own f a w m.0 m.1 settled own
moved_own f s w m settled own = elim m [ ]

given_own : (f : List ℕ → Option ℕ) (s : Step) (w : World) → GivesNoAddress s w → IsSettled w.roots
    → HoldsMapped f w → HoldsMapped f (after s w)
given_own f s w (inl q) settled own = step_own f s w q own
given_own f s w (inr m) settled own = moved_own f s w m settled own

-- a course of such steps keeps each reachable device at its own address, and sets no mark
pub course_keeps : (f : List ℕ → Option ℕ) → Injective f → {w v : World} → Course GivesNoAddress w v
    → IsSettled w.roots → HoldsMapped f w → w.shared ≡ false
    → HoldsMapped f v × (v.shared ≡ false) × IsSettled v.roots
course_keeps f inj c settled own h =
    kept_course (λ w. HoldsMapped f w × (w.shared ≡ false) × IsSettled w.roots)
    (λ s w k x. (given_own f s w k x.2 x.0, step_unshared f inj s w x.0 x.1, settled_after s w x.2))
    c (own, h, settled)

-- Attempts that ask nothing of ports.

allowed_none : (o : Option Sent) (k : Ports) → IfOut (AllowsOut is_left) o → NoneAsks o k
allowed_none o k h q e j x t at dp = left_is (effect_of q dp t)
    (sent_allowed is_left refl q (subst (IfOut _) e h) dp t)

-- whoever hears them
pub payload_asks_nothing : (a : Attempt) (w : World) (p : List ℕ) → payload_asks_no_port a.payload
    ≡ true → AsksNothing (attempt a) w p
payload_asks_nothing a w p h =
    none_asks_nothing a w p (allowed_none _ _ (payload_allowed is_left refl a _
    (payload_no_port_allows a.payload h)))

-- IN and OUT, where no device remembers a packet before them

pub data_asks_none : (a : Attempt) (w : World) → is_setup a.kind ≡ false → IsSettled w.roots
    → NoneAsks (payload_out a (damage_in (at_attempt w)))
    (after_sent (token_out a (damage_in (at_attempt w))) (at_attempt w).roots)
data_asks_none a w kind h q o j e t at dp =
    let d : Option Damage = damage_in (at_attempt w) in
    data_effect q (subst (IfOut IsDataOut) o (goes a d (at_attempt w).roots).payload) dp t
    (subst (If WaitsNone) at (none_waits a d (at_attempt w).roots (ready_settled w h) kind j e))

pub data_asks_nothing : (a : Attempt) (w : World) (p : List ℕ) → is_setup a.kind ≡ false
    → IsSettled w.roots → AsksNothing (attempt a) w p
data_asks_nothing a w p kind h = none_asks_nothing a w p (data_asks_none a w kind h)
