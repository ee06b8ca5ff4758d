-- What an attempt counts of address losses.
use Rattle.std.proofs.Common.{◌≡◌, ◌&&◌, not, Bool, true, false, List, Option, None, Some}
use Rattle.std.proofs.Common.{option_map, is_some, ap, sym, subst, ◌∙◌, arith, ◌≢◌, ℕ, ◌==◌}
use Rattle.std.proofs.Common.{if◌then◌else◌, [], refl, ap₂, ◌+◌, ◌*◌, ◌<◌, ◌≤◌, nat_lt, ◌∷◌, length}
use Rattle.std.proofs.Common.{length-append, drop, drop-cons, get_or, add-one, drop_of_length-le}
use Rattle.usb_port.specs.{PortState}
use Rattle.usb_device.specs.{Content, Sent, State, Reply, awaits_address, is_whole, through, Ports}
use Rattle.usb_device.specs.{full, row_of, place_at, has_loss, Effect, Is, ending, received, unread}
use Rattle.usb_device.specs.{forgotten, is_busy, ack_row, ends_with_address, Way, in_stage_law}
use Rattle.usb_device.specs.{in_law, state_on, asks_clearing}
use Rattle.usb_world.specs.{Damage, Attempt, harm_to, mark_of, marked, marked_some, IsAttempt}
use Rattle.usb_world.specs.{lost_in, token_of, payload_of, token_out, reply_in, readable, way_to}
use Rattle.usb_world.specs.{token_way, reply_way, IsIn, Outcome, clears_at, cleared_in, TookOrLost}
use Rattle.usb_world.specs.{counted, after_clearing, got, answer_way, IsMade, IsOut, HolderIn}
use Rattle.usb_world.specs.{is_setup, EachWas, World, at_attempt, damage_in, with_attempt, attempt}
use Rattle.usb_world.specs.{after, outcome_in, AreOfDamages, no_losses, one_more, damage_of}
use Rattle.usb_world.specs.{damages_until, bit_count, after_sent, heard_by, deep_at, IfOut}
use Rattle.usb_world.specs.{IsAckOut, IsSettled, address_of}
use Rattle.usb_world.proofs.courses.Courses.{rests, goes}
use Rattle.usb_world.proofs.packets.Packets.{ack_calls, sent_out, clears_if, none_clear}
use Rattle.usb_world.proofs.packets.AwaitedAcks.{IsNoControlIn, data_no_control_in}
use Rattle.usb_world.proofs.packets.AwaitedAcks.{ack_no_control_in, no_loss_sent, rests_loss}
use Rattle.usb_world.proofs.packets.AwaitedAcks.{acked_loss, ack_received}
use Rattle.usb_world.proofs.packets.AwaitedAcks.{whole_sent as whole_packet}
use Rattle.usb_world.proofs.holders.OneDevice.{SentToOne, sent_to_one, sent_place, alone_holder}
use Rattle.usb_world.proofs.holders.OneDevice.{step_in}
use Rattle.usb_world.proofs.holders.OneHolder.{holder_holds, ports_by, sent_stands, token_comes}
use Rattle.usb_world.proofs.holders.OneHolder.{no_payload, none_is, through_spec, way_same, Holder}
use Rattle.usb_world.proofs.holders.OneHolder.{token_of-fields}
use Rattle.usb_world.proofs.attempts.Exchanges.{brings, acks}
use Rattle.usb_world.proofs.ways.Routes.{loss_by, plugged_on, plugged_place, others_loss}
use Rattle.std.proofs.lemmas.Option.{same_Some}
use Rattle.usb_request.specs.{CLEAR_FEATURE, PORT_OUT, C_PORT_CONNECTION, Setup, setup_of}
use Rattle.usb_packet.specs.{Token, Toggle, One, InTok, SetupTok, Packet, Spells, Follows}
use Rattle.usb_world.specs.declared.types.Outcome.TheVariants as outcome
use Rattle.usb_world.proofs.Booleans.{false_true, not-true, decided, and_none, if-true, if-false}
use Rattle.usb_world.proofs.Equality.{unequal}
use Rattle.usb_world.proofs.holders.Devices.{each_holder}
use Rattle.usb_world.proofs.courses.LiftedSteps.{ready_beside}
use Rattle.usb_world.proofs.holders.OneHolderAttempts.{made_is, ready_settled, holder_in, in_in}
use Rattle.usb_world.proofs.holders.OneHolderAttempts.{silent_in, ExchangedIn}
use Rattle.usb_world.proofs.addresses.AddressesKept.{data_asks_none}
use Rattle.usb_world.proofs.ports.PortRequests.{Allows, AllowsOut, PayloadAllows, payload_allowed}
use Rattle.usb_world.proofs.ports.PortRequests.{sent_allowed}
use Rattle.usb_device.proofs.Interface.{same_number}
use Rattle.std.proofs.lemmas.Bool.Decides.{nat_tests}
use Rattle.std.proofs.lemmas.Bool.{ltb-true, eq-eqb}
use Rattle.usb_check.proofs.Interface.{length-bits_of_bytes, length-low_bits}
use Rattle.usb_world.specs.declared.losses.Losses.{Losses}
use Rattle.usb_packet.proofs.Interface.{carried}

-- What an attempt counts of address losses: without damage none, without IN of endpoint 0 none,
-- and with it as the one device says that holds the address.

-- Attempts that are no IN of endpoint 0

if_out : (P Q : Content → Type 0) → ((c : Content) → P c → Q c) → (o : Option Sent) → IfOut P o
    → IfOut Q o
if_out P Q f o h = grind arith

read_out : (o : Option Sent) → IfOut IsAckOut o → IfOut IsAckOut (readable o)
read_out o h = grind arith

no_control_in_unlost : (a : Attempt) (d : Option Damage) (k : Ports)
    → IsNoControlIn (token_of a) → IsSettled k → lost_in a d k ≡ false
unfolding lost_in marked
no_control_in_unlost a d k c s =
    grind (
      arith,
      ack_no_control_in,
      data_no_control_in,
      goes,
      if_out,
      no_loss_sent,
      read_out,
      rests,
      rests_loss,
      sent_out,
    )

-- Without damage whoever awaits an ACK to take its address gets it

in_unlost : (a : Attempt) (k : Ports) → payload_of a ≡ None → IsSettled k → lost_in a None k ≡ false
unfolding lost_in marked_some marked mark_of harm_to token_of
in_unlost a k none s =
    grind (arith, acked_loss, acks, brings, no_payload, rests, rests_loss, whole_packet)

lost_in-none : (a : Attempt) (k : Ports) → IsAttempt a → IsSettled k → lost_in a None k ≡ false
unfolding token_of
lost_in-none a k is s = grind (arith, in_unlost, no_control_in_unlost, none_is)

-- IN, where one device holds the address: a loss is counted where that device awaits the host's
-- ACK, and does not see it

and_true : (x : Bool) → x ≡ (x && true)
and_true x = grind arith

-- the ACK, where devices can read it
seen_by : (o : Option Sent) → IfOut IsAckOut o → (deep : Bool) (u : State) (row : List PortState)
    → u.spec.silent ≡ false → awaits_address (heard_by (readable o) deep u row).1
    ≡ (awaits_address u && not (is_whole (way_to deep u o)))
seen_by o is deep u row loud = grind (arith, ack_received, and_true)

module _ (a : Attempt) (d : Option Damage) (k : Ports) (h : Holder a.addr k) (into : IsIn a) where
  open h use {spot.{row as j, rest as p}, port as b, own as s, below}

  abbrev deep : Bool
  deep = deep_at false p

  abbrev asked : Reply
  asked = through (token_way a d deep s) s (row_of below) (token_of a)

  abbrev now : Ports
  now = after_sent (token_out a d) k

  abbrev below_now : Ports
  below_now = ports_by deep b (token_out a d) s below

  first : SentToOne (token_out a d) k h.spot
  first = sent_to_one (token_out a d) k h.spot (alone_holder a.addr (token_out a d)
      (goes a d k).token k h.spot h.settled (holder_holds a.addr k h))

  stands_now : place_at now j p ≡ Some (full b asked.1 below_now)
  stands_now = grind (arith, first, sent_place, sent_stands, step_in, token_comes)

  ack_left : (o : Option Sent) → IfOut IsAckOut o
      → has_loss (after_sent o now) ≡ awaits_address (heard_by o deep asked.1 (row_of below_now)).1
  ack_left o is =
      let z : SentToOne o now h.spot = sent_to_one o now h.spot (record {
        on = first.on;
        forgot = first.forgot;
        uncalled = λ q eq i e v w at on. ack_calls q.content v (subst (IfOut IsAckOut) eq is);
      }) in
      others_loss (after_sent o now) j p z.on z.forgot
      ∙ ap loss_by (sym (plugged_place (after_sent o now) j p)
      ∙ ap plugged_on (sent_place z ∙ ap (option_map (step_in o deep)) stands_now
      ∙ ap (λ x. Some x) (sent_stands deep b o asked.1 below_now)))

  holder_loss : s.spec.silent ≡ false → lost_in a d k ≡ (is_some (reply_in a d k) &&
      (awaits_address asked.1 && not (is_whole (reply_way a d k deep s))))
  unfolding lost_in
  holder_loss loud =
      grind (arith, ack_left, goes, no_payload, none_is, read_out, seen_by, through_spec, way_same)

-- The count of address losses after an attempt: by its kind, and for IN of endpoint 0 by the
-- device that holds its address.

-- whether a loss is counted, and whether another stretch begins, at the next attempt
abbrev pub loses : Attempt → World → Bool
loses a w = lost_in a (damage_in (at_attempt w)) (at_attempt w).roots

abbrev pub clears : Attempt → World → Bool
clears a w = cleared_in a (damage_in (at_attempt w)) (at_attempt w).roots

pub losses_as : (a : Attempt) (w : World) (gone cleared : Bool) → IsMade a w → loses a w ≡ gone
    → clears a w ≡ cleared → (after (attempt a) w).losses
    ≡ counted gone (after_clearing cleared w.losses)
unfolding with_attempt at_attempt
losses_as a w gone cleared m x y = grind (arith, made_is, ready_beside)

-- Attempts that count nothing

abbrev pub CountsNone : Attempt → World → Type 0
CountsNone a w = (after (attempt a) w).losses ≡ w.losses

-- IN sends no data, OUT none that a device takes for a request
pub in_clears : (a : Attempt) → IsIn a → (w : World) → clears a w ≡ false
in_clears a i w = grind (arith, no_payload, none_is)

none_counted : (a : Attempt) (w : World) → IsMade a w → IsNoControlIn (token_of a)
    → clears a w ≡ false → CountsNone a w
none_counted a w m p c = grind (arith, losses_as, no_control_in_unlost, ready_settled)

pub in_counts : (a : Attempt) → IsIn a → a.ep ≢ 0 → (w : World) → IsMade a w → CountsNone a w
unfolding token_of
in_counts a i other w m = grind (arith, in_clears, none_counted, unequal)

pub out_counts : (a : Attempt) {t : Toggle} (bytes : List ℕ) → IsOut a t bytes → (w : World)
    → IsMade a w → CountsNone a w
unfolding token_of
out_counts a bytes i w m = none_counted a w m (subst (λ t. IsNoControlIn (Token t a.addr a.ep))
    (sym i.kind) tt) (none_clear _ _ (data_asks_none a w (ap is_setup i.kind) m.settled))

-- a request that clears no change of connection
abbrev unclearing : Effect → Bool
unclearing e = not (asks_clearing e)

unclearing_allows : (r : Setup) → (Is r PORT_OUT CLEAR_FEATURE && r.value == C_PORT_CONNECTION)
    ≡ false → Allows unclearing r
unclearing_allows r h = grind arith

allowed_clear : (o : Option Sent) → IfOut (AllowsOut unclearing) o → (k : Ports)
    → clears_at o k ≡ false
allowed_clear None c k = refl
allowed_clear (Some q) c k = clears_if q false k
    (λ j e t at dp. not-true _ (sent_allowed unclearing refl q c dp t))

pub set_up_counts : (a : Attempt) {t : Toggle} (bytes : List ℕ) → a.kind ≡ SetupTok
    → a.payload ≡ Some (t, record { items = bytes })
    → (Is (setup_of bytes) PORT_OUT CLEAR_FEATURE && (setup_of bytes).value == C_PORT_CONNECTION)
    ≡ false → (w : World) → IsMade a w → CountsNone a w
unfolding token_of
set_up_counts a bytes kind payload h w m =
    none_counted a w m (subst (λ t. IsNoControlIn (Token t a.addr a.ep)) (sym kind) tt)
    (allowed_clear _ (payload_allowed unclearing refl a _
    (subst (PayloadAllows unclearing) (sym payload) (unclearing_allows (setup_of bytes) h))) _)

-- where the host got no data
quiet_counts : (a : Attempt) → IsIn a → (w : World) → IsMade a w
    → brings (outcome_in a w) ≡ false → CountsNone a w
unfolding outcome_in lost_in marked_some
quiet_counts a i w m h = grind (arith, acks, in_clears, losses_as)

-- IN of endpoint 0 at the device that holds the address

token_stage : (t : Way) (s : State) (row : List PortState) (n : ℕ)
    → (through t s row (Token InTok n 0)).1.stage ≡ s.stage
unfolding received unread
token_stage t s row n = grind arith

endless_awaits : (s : State) → ends_with_address s.stage ≡ false → awaits_address s ≡ false
unfolding awaits_address
endless_awaits s h = and_none _ _ h

status_awaits : (n : ℕ) (s : State) (row : List PortState) → s.spec.silent ≡ false
    → is_busy s ≡ false → s.stage ≡ ending (Some n)
    → awaits_address (received s row (Token InTok s.registers.address 0)).1 ≡ true
unfolding received awaits_address
status_awaits n s row loud free stage = grind (arith, same_number)

-- one whose status stage gives an address: the host got it, and the device saw the ACK or is as it
-- was; or it got no data
data Status (s : State) (awaits : Bool) (z : Way) (o : Outcome) (v : State) : Type 0 where
  gave_it : o ≡ outcome.Payload One (record { items = [] }) → awaits ≡ true
      → v ≡ (if is_whole z then forgotten (ack_row s s.stage) else s) → Status s awaits z o v
  gave_none : brings o ≡ false → v.stage ≡ s.stage → v.registers ≡ s.registers
      → Status s awaits z o v

abbrev ReplyGives : State → Bool → Way → ℕ → Reply → Type 0
ReplyGives s awaits z max r = Status s awaits z (got max r.0) r.1

status_stage : (n : ℕ) (s : State) (awaits : Bool) (max : ℕ) (y z : Way) → awaits ≡ true
    → ReplyGives s awaits z max (in_stage_law s (ending (Some n)) max y z)
status_stage n s awaits max y z e = grind arith

status_law : (n : ℕ) (s : State) (row : List PortState) (max : ℕ) (x y z : Way)
    → s.spec.silent ≡ false → s.stage ≡ ending (Some n)
    → ReplyGives s (awaits_address (through x s row (Token InTok s.registers.address 0)).1) z max
    (in_law s row 0 max x y z)
status_law n s row max x y z loud stage = grind (arith, status_awaits, status_stage)

-- one whose status stage gives no address keeps its own, and has none to give then
abbrev pub StaysEndless : State → State → Type 0
StaysEndless s v = (ends_with_address v.stage ≡ false) × (v.registers ≡ s.registers)

law_endless : (s : State) (row : List PortState) (max : ℕ) (x y z : Way)
    → ends_with_address s.stage ≡ false → StaysEndless s (in_law s row 0 max x y z).1
law_endless s row max x y z h = grind arith

-- In a world

-- what an IN of endpoint 0 counts, seen from the device that holds its address and whose status
-- stage gives an address: the host got it, or no data
pub data EndsWithAddress (a : Attempt) (w : World) (n : ℕ) (s v : State) : Type 0 where
  got_it : outcome_in a w ≡ outcome.Payload One (record { items = [] })
      → TookOrLost n w (after (attempt a) w) s v → EndsWithAddress a w n s v
  got_none : brings (outcome_in a w) ≡ false → v.stage ≡ s.stage → v.registers ≡ s.registers
      → CountsNone a w → EndsWithAddress a w n s v

pub record Counts (a : Attempt) (w : World) (s v : State) : Type 0 where
  pub none : ends_with_address s.stage ≡ false → StaysEndless s v × CountsNone a w
  pub ends : (n : ℕ) → s.stage ≡ ending (Some n) → EndsWithAddress a w n s v

module _ (a : Attempt) (w : World) (into : IsIn a) (zeroth : a.ep ≡ 0) (h : HolderIn a w)
    (v : State) (there : state_on (after (attempt a) w).roots h.spot ≡ Some v) where
  open h use {spot.{rest as p}, own as s, below}

  abbrev pub d : Option Damage
  d = damage_in (at_attempt w)

  abbrev pub k : Ports
  k = (at_attempt w).roots

  abbrev token : Way
  token = token_way a d (deep_at false p) s

  abbrev reply : Way
  reply = reply_way a d k (deep_at false p) s

  abbrev awaits : Bool
  awaits = awaits_address (through token s (row_of below) (Token InTok s.registers.address 0)).1

  abbrev r : Reply
  r = in_law s (row_of below) 0 a.max token (answer_way a d k) reply

  went : (o : Outcome) → outcome_in a w ≡ o → is_some (reply_in a d k) ≡ brings o
  unfolding outcome_in marked_some
  went o e = grind (arith, acks, brings)

  module _ (loud : s.spec.silent ≡ false) where
    its : ExchangedIn a w h r
    its = subst (λ e. ExchangedIn a w h (in_law s (row_of below) e a.max token (answer_way a d k)
        reply)) zeroth (in_in a w h loud into)

    is : v ≡ r.1
    is = same_Some v r.1 (sym there ∙ its.state)

    -- a loss, as many as the device says
    counted_as : (o : Outcome) → outcome_in a w ≡ o → (after (attempt a) w).losses
        ≡ counted (brings o && (awaits && not (is_whole reply))) w.losses
    counted_as o e =
        losses_as a w _ false h.made
        (holder_loss a d k (holder_in a w h) into loud
        ∙ ap₂ (λ x q. x && (awaits_address (through token s (row_of below) q).1 &&
        not (is_whole reply))) (went o e)
        (token_of-fields a InTok s.registers.address 0 into.kind (sym h.at) zeroth))
        (in_clears a into w)

    -- it takes its address, or loses it
    took_or_lost : (n : ℕ) → s.stage ≡ ending (Some n) → (z : Bool) → (after (attempt a) w).losses
        ≡ counted (not z) w.losses → v ≡ (if z then forgotten (ack_row s s.stage) else s)
        → TookOrLost n w (after (attempt a) w) s v
    took_or_lost n stage z l e = grind arith

    loud_counts : Counts a w s v
    loud_counts = record {
      none = λ f. (
        subst (StaysEndless s) (sym is)
            (law_endless s (row_of below) a.max token (answer_way a d k) reply f),
        counted_as (outcome_in a w) refl ∙ ap (λ x. counted x w.losses) (unawaited f),
      );
      ends = λ n stage. by_law n stage (status_law n s (row_of below) a.max token (answer_way a d k)
          reply loud stage);
    }
      where
        unawaited : ends_with_address s.stage ≡ false
            → (brings (outcome_in a w) && (awaits && not (is_whole reply))) ≡ false
        unawaited f = and_none _ _ (ap (λ x. x && not (is_whole reply))
            (endless_awaits _ (ap ends_with_address
            (token_stage token s (row_of below) s.registers.address) ∙ f)))

        by_law : (n : ℕ) → s.stage ≡ ending (Some n) → Status s awaits reply (got a.max r.0) r.1
            → EndsWithAddress a w n s v
        by_law n stage (gave_it o x e) = let got : _ = its.outcome ∙ o in
            got_it got (took_or_lost n stage (is_whole reply) (counted_as _ got
            ∙ ap (λ y. counted (y && not (is_whole reply)) w.losses) x) (is ∙ e))
        by_law n stage (gave_none o g r) = let none : _ = ap brings its.outcome ∙ o in
            got_none none (ap (λ y. y.stage) is ∙ g) (ap (λ y. y.registers) is
            ∙ r) (quiet_counts a into w h.made none)

  holder_counts : Counts a w s v
  holder_counts = grind (arith, brings, decided, loud_counts, quiet_counts, same_Some, silent_in)

pub each_counts : (a : Attempt) (w : World) → IsMade a w → IsIn a → a.ep ≡ 0
    → (after (attempt a) w).shared ≡ false → EachWas (λ j s v. (address_of s == a.addr) ≡ true
    → Counts a w s v) w (after (attempt a) w)
each_counts a w m i zeroth single =
    each_holder a w m (ap is_setup i.kind) single (λ j s v. (address_of s == a.addr) ≡ true
    → Counts a w s v) (λ j s v d e at. false_true (sym d ∙ at))
    (λ h v there at. holder_counts a w i zeroth h v there)

-- What damage leaves of packets, and how many addresses it loses.

-- ---- bits

follows_bits : (p : Packet) (rest : List ℕ) → Follows p rest → bit_count p ≡ 8 + 8 * length rest
unfolding bit_count
follows_bits p rest f = grind (arith, carried, length-append, length-bits_of_bytes, length-low_bits)

-- a packet has eight bits for each byte that spells it
spelled_bits : (bytes : List ℕ) (p : Packet) → Spells bytes p → bit_count p ≡ 8 * length bytes
spelled_bits bytes p h = grind (arith, follows_bits)

-- a bit of the packet is a bit of its bytes
pub bit_within : (bytes : List ℕ) (p : Packet) (n : ℕ) → Spells bytes p
    → nat_lt n (bit_count p) ≡ true → n < 8 * length bytes
bit_within bytes p n h lt = grind (arith, ltb-true, spelled_bits)

-- ---- the damage to an attempt

of_first : (d : Damage) (damages : List Damage) (n : ℕ) → d.attempt ≡ n
    → damage_of (d ∷ damages) n ≡ Some d
unfolding damage_of
of_first d damages n e = if-true (d.attempt == n) _ _ (eq-eqb d.attempt n e)

of_rest : (d : Damage) (damages : List Damage) (n : ℕ) → (d.attempt ≡ n → ⊥)
    → damage_of (d ∷ damages) n ≡ damage_of damages n
unfolding damage_of
of_rest d damages n h = if-false (d.attempt == n) _ _ (unequal d.attempt n h)

split_at : (damages : List Damage) (i : ℕ) (d : Damage) → i < length damages
    → drop i damages ≡ get_or damages i d ∷ drop (i + 1) damages
split_at damages i d lt = drop-cons damages i d lt
    ∙ ap (λ (n : ℕ). get_or damages i d ∷ drop n damages) (sym (add-one i))

pub damage_here : (damages : List Damage) (n i : ℕ) (d : Damage)
    → damage_of damages n ≡ damage_of (drop i damages) n → i < length damages
    → (get_or damages i d).attempt ≡ n → Some (get_or damages i d) ≡ damage_of damages n
damage_here damages n i d h lt e = grind (arith, of_first, split_at)

pub damage_later : (damages : List Damage) (n i : ℕ) (d : Damage)
    → damage_of damages n ≡ damage_of (drop i damages) n → i < length damages
    → ((get_or damages i d).attempt ≡ n → ⊥)
    → damage_of damages n ≡ damage_of (drop (i + 1) damages) n
damage_later damages n i d h lt e = grind (arith, of_rest, split_at)

pub damage_none : (damages : List Damage) (n i : ℕ)
    → damage_of damages n ≡ damage_of (drop i damages) n → length damages ≤ i
    → None ≡ damage_of damages n
unfolding damage_of
damage_none damages n i h le = sym (h ∙ ap (λ (l : List Damage). damage_of l n)
    (drop_of_length-le damages le))

-- ---- address losses

until_grows : (damages : List Damage) (n : ℕ)
    → damages_until n damages ≤ damages_until (n + 1) damages
unfolding damages_until
until_grows [] n = omega arith
until_grows (d ∷ damages) n = let rest = until_grows damages n in grind (arith, nat_tests, rest)

until_at : (x : Damage) (damages : List Damage) (n : ℕ) (d : Damage) (here : Bool)
    → (x.attempt == n + 1) ≡ here → (if here then Some x else damage_of damages (n + 1)) ≡ Some d
    → damages_until n damages ≤ damages_until (n + 1) damages
    → (damage_of damages (n + 1) ≡ Some d → damages_until n damages + 1
    ≤ damages_until (n + 1) damages)
    → damages_until n (x ∷ damages) + 1 ≤ damages_until (n + 1) (x ∷ damages)
unfolding damages_until
until_at x damages n d here e h le more = grind arith

until_more : (damages : List Damage) (n : ℕ) (d : Damage) → damage_of damages (n + 1) ≡ Some d
    → damages_until n damages + 1 ≤ damages_until (n + 1) damages
unfolding damages_until damage_of
until_more [] n d h = cc
until_more (x ∷ damages) n d h = until_at x damages n d (x.attempt == n + 1) refl h
    (until_grows damages n) (until_more damages n d)

pub until_most : (damages : List Damage) (n : ℕ) → damages_until n damages ≤ length damages
unfolding damages_until
until_most [] n = omega arith
until_most (d ∷ damages) n = let rest = until_most damages n in grind (arith, nat_tests, rest)

-- an address that was lost is one more damage that is past
losses_damaged : (damages : List Damage) (n : ℕ) (a : Attempt) (k : Ports) (l : Losses)
    (lost : Bool) → IsAttempt a → IsSettled k → lost ≡ lost_in a (damage_of damages (n + 1)) k
    → l.all ≤ damages_until n damages → (counted lost l).all ≤ damages_until (n + 1) damages
unfolding one_more
losses_damaged damages n a k l false is settled e h = let le = until_grows damages n in
    omega (arith, le, h)
losses_damaged damages n a k l true is settled e h = at_loss (damage_of damages (n + 1)) refl e
  where
    at_loss : (o : Option Damage) → damage_of damages (n + 1) ≡ o → true ≡ lost_in a o k
        → l.all + 1 ≤ damages_until (n + 1) damages
    at_loss None found t = absurd (cc (t ∙ lost_in-none a k is settled))
    at_loss (Some d) found t = let more = until_more damages n d found in omega (arith, more, h)

run_at : (l : Losses) (lost : Bool) → l.run ≤ l.all → (counted lost l).run ≤ (counted lost l).all
unfolding one_more
run_at l lost h = grind arith

worst_at : (l : Losses) (lost : Bool) → l.run ≤ l.all → l.worst ≤ l.all
    → (counted lost l).worst ≤ (counted lost l).all
unfolding one_more
worst_at l lost r w = grind arith

-- a new stretch
pub losses_cleared : (cleared : Bool) (n : ℕ) (damages : List Damage) (l : Losses)
    → AreOfDamages n damages l → AreOfDamages n damages (after_clearing cleared l)
losses_cleared cleared n damages l h = grind arith

-- the losses after an attempt
pub losses_after : (damages : List Damage) (n : ℕ) (a : Attempt) (k : Ports) (cleared lost : Bool)
    (l : Losses) → IsAttempt a → IsSettled k → lost ≡ lost_in a (damage_of damages (n + 1)) k
    → AreOfDamages n damages l → AreOfDamages (n + 1) damages
    (counted lost (after_clearing cleared l))
losses_after damages n a k cleared lost l is settled e h =
    grind (arith, losses_cleared, losses_damaged, run_at, worst_at)

pub no_losses_yet : (damages : List Damage) → AreOfDamages 0 damages no_losses
no_losses_yet damages = grind arith
