-- An attempt that goes straight to the one device that it is for.
use Rattle.usb_world.proofs.holders.OneDevice.{IsFull, reach-full, full_state, step_in, sent_to_one}
use Rattle.usb_world.proofs.holders.OneDevice.{sent_place, end_is, all_is, others_rest}
use Rattle.usb_world.proofs.holders.OneDevice.{others_forget, alone_sent, second_alone, third_alone}
use Rattle.usb_world.proofs.holders.OneDevice.{last_alone}
use Rattle.std.proofs.Common.{arith, ◌≡◌, ℕ, zero, suc, Bool, true, false, List, [], ◌∷◌, ◌++◌}
use Rattle.std.proofs.Common.{Option, None, Some, is_some, option_map, IsSome, nat_eq, refl, ap}
use Rattle.std.proofs.Common.{sym, subst, ◌∙◌, ◌+◌, ◌&&◌, if◌then◌else◌, ap₂}
use Rattle.std.proofs.lemmas.Option.{same_Some}
use Rattle.std.specs.Option.{option_eq}
use Rattle.arrayvec.specs.ArrayVec.{ArrayVec}
use Rattle.usb_port.specs.{PortState}
use Rattle.usb_device.specs.{Sent, Leaves, State, Ports, full, acted, put, changed, changed_at}
use Rattle.usb_device.specs.{changed_in, device_there, plugged_at, place_at, Location, state_at}
use Rattle.usb_device.specs.{answer_of, all_forgotten, reached, all_reached, ReachedSame}
use Rattle.usb_device.specs.{keeps_others, forgotten_in, address_by}
use Rattle.usb_device.specs.{Place, HostSide, DeviceSide, Heard, Plugged, taken_sent, heard_of}
use Rattle.usb_device.specs.{heard_from, both, has_loss, asks_clearing, RefusedBy, token_sent}
use Rattle.usb_device.specs.{ack_sent, after_packet_at, answer_from, asked_from, RefusedFrom}
use Rattle.usb_device.specs.{takes_data, after_token, after_data, heard_of_both, acknowledges}
use Rattle.usb_device.specs.{after_reply, side_of, heard_at, side_at, RefusedAt, left_in, cut_in}
use Rattle.usb_device.proofs.Interface.{changed_at-port, changed_at-twice}
use Rattle.usb_device.proofs.Interface.{reached-acted, reached-both}
use Rattle.usb_device.proofs.Interface.{heard_of-append}
use Rattle.usb_world.specs.{Attempt, Damage, token_out, payload_out, reply_out, ended_in, ports_in}
use Rattle.usb_world.specs.{Exchange, Whole, Outgoing, harm_to, mark_of, is_read, marked}
use Rattle.usb_world.specs.{marked_some, ack_if, token_of, payload_of, answer_place, reply_of}
use Rattle.usb_world.specs.{goes_out, heard_in, place_of_answer, mark_in, reply_in, answered_in}
use Rattle.usb_world.specs.{is_lost, lost_in, clears_at, cleared_in, exchange_in, StaysPlugged}
use Rattle.usb_world.specs.{Exchanged, IsStopped, heard_above, host_side, keeps_address, IsCut}
use Rattle.usb_world.specs.{address_of, after_sent, deep_at, IsSettled, Alone, is_whole_tree}
use Rattle.usb_world.specs.{without_port, IsQuiet, KeptAt, answers_to, AloneAt, is_deep}
use Rattle.usb_world.proofs.Booleans.{false_true, both as both_true}
use Rattle.usb_world.proofs.Equality.{equal_same}
use Rattle.usb_world.proofs.packets.Packets.{calm_token as token_calm, calm_ack as ack_calm}
use Rattle.usb_world.proofs.holders.HolderPorts.{calm_asked}
use Rattle.usb_world.proofs.holders.OneHolder.{asked_of}
use Rattle.usb_world.proofs.ports.PortCalls.{place_at-changed, changed_at-there}
use Rattle.usb_world.proofs.ways.Routes.{plugged_on, plugged_place, alone_token, heard_place_by}
use Rattle.usb_world.proofs.ways.Routes.{others_clear, others_loss, others_stop, loss_by}
use Rattle.usb_world.proofs.courses.Courses.{goes}
use Rattle.usb_world.proofs.attempts.Exchanges.{after_sent-plugged, heard_all_of, plugged_further}
use Rattle.usb_world.proofs.attempts.Exchanges.{over_plugged, over_settled}
use Rattle.usb_world.proofs.holders.OneHolderAttempts.{sound_answer}

-- An attempt that goes straight to one device: whose addresses stay.
-- a device with another state of the same address, and ports below which the same devices are
-- reached, without what is on one of them
same_there : (port : ℕ) (b : PortState) (s sent_token : State) (a c : Ports)
    → sent_token.registers.address ≡ s.registers.address
    → ((w : Option (ArrayVec ℕ)) (n : ℕ) → reached w n (changed (put None) c (port ∷ []))
    ≡ reached w n (changed (put None) a (port ∷ [])))
    → ReachedSame (changed_in (put None) (full b sent_token c) (port ∷ []))
    (changed_in (put None) (full b s a) (port ∷ []))
unfolding reached
same_there port b s sent_token a c e h = grind arith

-- ---- one packet
abbrev own_after : Option Sent → Bool → State → Ports → State
own_after None deep_here s a = s
own_after (Some sent_data) deep_here s a = (answer_of sent_data deep_here s a).1

step_calm : (o : Option Sent) (deep_here : Bool) (b : PortState) (s : State) (a : Ports)
    → asked_of o deep_here s ≡ Leaves → step_in o deep_here (full b s a)
    ≡ full b (own_after o deep_here s a) a
step_calm o deep_here b s a h = grind arith

step_in-full : (o : Option Sent) (deep_here : Bool) (b : PortState) (s : State) (a : Ports)
    → step_in o deep_here (full b s a)
    ≡ full b (own_after o deep_here s a) (acted (asked_of o deep_here s) a)
step_in-full o deep_here b s a = grind arith

quiet_keeps_others : (port : ℕ) (o : Option Sent) (k : Ports) (j : ℕ) (p : List ℕ) (b : PortState)
    (s : State) (a : Ports) → IsQuiet port o k (suc j ∷ p) → place_at k j p ≡ Some (full b s a)
    → keeps_others port (asked_of o (deep_at false p) s) ≡ true
quiet_keeps_others port None k j p b s a h e = refl
quiet_keeps_others port (Some sent_data) k j p b s a h e =
    grind (arith, plugged_place k j p)

-- ---- an attempt
module _ (a : Attempt) (d : Option Damage) (k : Ports) (j : ℕ) (p : List ℕ)
    (one : Alone (token_out a d) k (record { row = j; rest = p })) where
  abbrev deep_here : Bool
  deep_here = deep_at false p

  abbrev pub sent_token : Option Sent
  sent_token = token_out a d

  abbrev pub sent_data : Option Sent
  sent_data = payload_out a d

  abbrev sent_reply : Option Sent
  sent_reply = reply_out a d k

  abbrev pub x : Location
  x = record { row = j; rest = p }

  abbrev till_end : Place → Place
  till_end x = step_in sent_reply deep_here
      (step_in sent_data deep_here (step_in sent_token deep_here x))

  pub here : IsFull (place_at k j p)
  here = reach-full k j p one.on

  pub left_is : ports_in a d k ≡ changed_at (λ y. forgotten_in (till_end y)) k j p
  unfolding ports_in
  left_is = all_is a.addr sent_token sent_data sent_reply (goes a d k) k x one

  abbrev first : State
  first = own_after sent_token deep_here here.own here.below

  abbrev second : State
  second = own_after sent_data deep_here first here.below

  abbrev below_then : Ports
  below_then = acted (asked_of sent_data deep_here first) here.below

  abbrev third : State
  third = own_after sent_reply deep_here second below_then

  first_place : step_in sent_token deep_here (full here.port here.own here.below)
      ≡ full here.port first here.below
  first_place = step_calm sent_token deep_here here.port here.own here.below
      (calm_asked sent_token (token_calm a.addr sent_token (goes a d k).token) deep_here here.own)

  first_stands : place_at (after_sent sent_token k) j p ≡ Some (full here.port first here.below)
  first_stands = sent_place (sent_to_one sent_token k x one)
      ∙ ap (option_map (step_in sent_token deep_here)) here.at
      ∙ ap (λ x. Some x) first_place

  end_place : till_end (full here.port here.own here.below) ≡ full here.port third below_then
  end_place = grind (arith, ack_calm, calm_asked, first_place, goes, step_calm, step_in-full)

  end_stands : place_at (ended_in a d k) j p ≡ Some (full here.port third below_then)
  end_stands = ap (λ y. place_at y j p)
      (end_is a.addr sent_token sent_data sent_reply (goes a d k) k x one)
      ∙ place_at-changed till_end k j p ∙ ap (option_map till_end) here.at
      ∙ ap (λ x. Some x) end_place

  module _ (at : option_map address_of (state_at k j p) ≡ Some a.addr) where
    here_address : here.own.registers.address ≡ a.addr
    here_address = same_Some _ a.addr
        (sym (ap (option_map address_of) (full_state k j p here)) ∙ at)

    module _ (port : ℕ) (quiet : IsQuiet port sent_data (after_sent sent_token k) (suc j ∷ p)) where
      abbrev without : Place → Place
      without x = changed_in (put None) x (port ∷ [])

      below_same : (w : Option (ArrayVec ℕ)) (n : ℕ)
          → reached w n (changed (put None) below_then (port ∷ []))
          ≡ reached w n (changed (put None) here.below (port ∷ []))
      below_same = grind (arith, asked_of, first_stands, quiet_keeps_others, reached-acted)

      left_same : (x : Place) → x ≡ full here.port here.own here.below
          → third.registers.address ≡ here.own.registers.address
          → ReachedSame (without (forgotten_in (till_end x))) (without x)
      left_same x is e = grind (arith, below_same, end_place, same_there)

      addresses_stay : address_by (plugged_at (ended_in a d k) j p) ≡ Some a.addr
          → all_reached (without_port port (ports_in a d k) (suc j ∷ p))
          ≡ all_reached (without_port port k (suc j ∷ p))
      addresses_stay e =
          let address : third.registers.address ≡ a.addr =
          same_Some _ a.addr (sym (ap (λ x. address_by (plugged_on x)) end_stands)
          ∙ ap address_by (plugged_place (ended_in a d k) j p) ∙ e) in
          ap all_reached
          (changed_at-port (put None) (ports_in a d k) j p port
          ∙ ap (λ y. changed_at without y j p) left_is
          ∙ changed_at-twice without (λ x. forgotten_in (till_end x)) k j p)
          ∙ reached-both (λ x. without (forgotten_in (till_end x))) without _ 1 k j p
          (λ x at. left_same x (same_Some x _ (sym at ∙ here.at))
          (address ∙ sym here_address))
          ∙ sym (ap all_reached (changed_at-port (put None) k j p port))

-- where what was asked of ports keeps who is reached, and the device has the address still
held_still : (port : ℕ) (a : Attempt) (d : Option Damage) (k : Ports) (p : List ℕ)
    → IsQuiet port (payload_out a d) (after_sent (token_out a d) k) p
    → address_by (device_there (ended_in a d k) p) ≡ Some a.addr
    → KeptAt a.addr port k (ports_in a d k) p
held_still port a d k (suc j ∷ p) sent_data e =
    λ settled o. addresses_stay a d k j p (alone_token a d k (suc j ∷ p) settled o) o.at port
    sent_data e
held_still port a d k p sent_data e = false_true (ap is_some e)

-- the same, of what the code tells: the address that is left there is the attempt's
pub kept_at : (port : ℕ) (a : Attempt) (d : Option Damage) (k m n : Ports) (p : List ℕ)
    (left : Option ℕ) → option_eq nat_eq left (Some a.addr) ≡ true
    → IsQuiet port (payload_out a d) (after_sent (token_out a d) k) p → m ≡ ended_in a d k
    → n ≡ all_forgotten m → (IsSome left → left ≡ address_by (device_there m p))
    → KeptAt a.addr port k n p
unfolding ports_in
kept_at port a d k m n p left same asks e over at = grind (arith, equal_same, held_still)

-- An attempt of which nothing is damaged, at the one device that it is for and on one way down the
-- tree, is the attempt in the whole tree.
-- ---- one packet at the device
abbrev pub place_plugged : PortState → Plugged → Place
place_plugged b t = full b t.own t.ports

step_in-plugged : (o : Option Sent) (deep : Bool) (b : PortState) (t : Plugged)
    → step_in o deep (place_plugged b t) ≡ place_plugged b (after_packet_at o deep t)
step_in-plugged o deep b t = grind arith

module _ (o : Option Sent) (k : Ports) (j : ℕ) (p : List ℕ) (b : PortState) (t : Plugged)
    (alone : Alone o k (record { row = j; rest = p }))
    (at : place_at k j p ≡ Some (place_plugged b t))
  where
    there_then : place_at (after_sent o k) j p
        ≡ Some (place_plugged b (after_packet_at o (deep_at false p) t))
    there_then =
        sent_place (sent_to_one o k (record { row = j; rest = p }) alone)
        ∙ ap (option_map (step_in o (deep_at false p))) at
        ∙ ap (λ x. Some x) (step_in-plugged o (deep_at false p) b t)

    plugged_there : plugged_at k j p ≡ Some t
    plugged_there = sym (plugged_place k j p) ∙ ap plugged_on at

heard_of-alone : (o : Option Sent) (k : Ports) (j : ℕ) (p : List ℕ) (b : PortState) (t : Plugged)
    → Alone o k (record { row = j; rest = p }) → place_at k j p ≡ Some (place_plugged b t)
    → heard_of (answers_to o k) ≡ heard_from (answer_from o (deep_at false p) t)
heard_of-alone None k j p b t alone at = refl
heard_of-alone (Some q) k j p b t alone at =
    grind (
      arith,
      heard_place_by q (deep_at false p) (place_at k j p),
      sent_to_one (Some q) k (record { row = j; rest = p }) alone,
    )

clears_one : (o : Option Sent) (k : Ports) (j : ℕ) (p : List ℕ) (b : PortState) (t : Plugged)
    → Alone o k (record { row = j; rest = p }) → place_at k j p ≡ Some (place_plugged b t)
    → clears_at o k ≡ asks_clearing (asked_from o (deep_at false p) t)
clears_one None k j p b t alone at = refl
clears_one (Some q) k j p b t alone at =
    grind (
      arith,
      others_clear q false k j p alone.on alone.forgot,
      plugged_there (Some q) k j p b t alone at,
    )

quiet_one : (port : ℕ) (o : Option Sent) (k : Ports) (j : ℕ) (p : List ℕ) (b : PortState)
    (t : Plugged)
    → Alone o k (record { row = j; rest = p }) → place_at k j p ≡ Some (place_plugged b t)
    → keeps_others port (asked_from o (deep_at false p) t) ≡ true → IsQuiet port o k (suc j ∷ p)
quiet_one port None k j p b t alone at h = tt
quiet_one port (Some q) k j p b t alone at h =
    grind (arith, plugged_there (Some q) k j p b t alone at)

stopped_one : (o : Option Sent) (k : Ports) (j : ℕ) (p : List ℕ) (b : PortState) (t : Plugged)
    → Alone o k (record { row = j; rest = p }) → place_at k j p ≡ Some (place_plugged b t)
    → RefusedFrom o (deep_at false p) t → IsStopped o k k
stopped_one None k j p b t alone at h = absurd h
stopped_one (Some q) k j p b t alone at h =
    let there : _ = plugged_there (Some q) k j p b t alone at in
    record {
      sent = q;
      went = refl;
      stopped =
          others_stop q false k j p alone.on (others_rest q k _ alone)
          (subst (RefusedBy q (deep_at false p)) (sym there) h);
    }

-- ---- no damage
reply_taken : (g : Heard) (max : ℕ) → reply_of (heard_above g) Whole max ≡ ack_if (takes_data max g)
unfolding reply_of is_read
reply_taken g max = grind arith

token_out-undamaged : (a : Attempt) → token_out a None ≡ Some (token_sent (host_side a))
unfolding token_of marked harm_to mark_of
token_out-undamaged a = refl

abbrev walk_ack : HostSide → Bool → Option Sent
walk_ack y w = if w then Some (ack_sent y) else None

ack_is : (a : Attempt) (n : ℕ) (w : Bool)
    → goes_out a (marked_some None n a.pre (ack_if w)) ≡ walk_ack (host_side a) w
unfolding marked_some marked harm_to mark_of
ack_is a n w = grind arith

lost_if : (a : Attempt) (n : ℕ) (k : Ports) (w : Bool)
    → is_lost (marked_some None n a.pre (ack_if w))
    (goes_out a (marked_some None n a.pre (ack_if w))) k ≡
    (w && has_loss (after_sent (walk_ack (host_side a) w) k))
unfolding marked_some marked harm_to mark_of
lost_if a n k w = grind arith

sent_to-ack : (y : HostSide) (deep : Bool) (t : Plugged) (w : Bool)
    → after_packet_at (walk_ack y w) deep t ≡ (if w then (taken_sent (ack_sent y) deep t).1 else t)
sent_to-ack y deep t w = grind arith

-- ---- the attempt
module _ (a : Attempt) (k : Ports) (j : ℕ) (p : List ℕ)
    (one : Alone (token_out a None) k (record { row = j; rest = p })) where
  abbrev deep_there : Bool
  deep_there = deep_at false p

  abbrev pub t : Option Sent
  t = token_out a None

  abbrev q : Option Sent
  q = payload_out a None

  abbrev r : Option Sent
  r = reply_out a None k

  abbrev y : HostSide
  y = host_side a

  abbrev spot : Location
  spot = record { row = j; rest = p }

  two : Alone q (after_sent t k) spot
  two = second_alone a.addr t q r (goes a None k) k spot one

  three : Alone r (answered_in a None k) spot
  three = third_alone a.addr t q r (goes a None k) k spot one

  four : Alone None (ended_in a None k) spot
  four = last_alone a.addr t q r (goes a None k) k spot one

  abbrev pub b : PortState
  b = (here a None k j p one).port

  abbrev device : Plugged
  device = record { own = (here a None k j p one).own; ports = (here a None k j p one).below }

  abbrev pub n : ℕ
  n = place_of_answer a None + 1

  abbrev pub w : Bool
  w = acknowledges y q deep_there device

  stands : place_at k j p ≡ Some (place_plugged b device)
  stands = (here a None k j p one).at

  there : plugged_at k j p ≡ Some device
  there = plugged_there t k j p b device one stands

  first_at : place_at (after_sent t k) j p
      ≡ Some (place_plugged b (after_token y deep_there device))
  first_at =
      there_then t k j p b device one stands
      ∙ ap (λ o. Some (place_plugged b (after_packet_at o deep_there device)))
      (token_out-undamaged a)

  second_at :
      place_at (answered_in a None k) j p
      ≡ Some (place_plugged b (after_data y q deep_there device))
  second_at =
      there_then q (after_sent t k) j p b _ two
      first_at

  heard_is : heard_in a None k ≡ heard_above (heard_of_both y q deep_there device)
  unfolding heard_of_both
  heard_is =
      sym (heard_all_of (answers_to t k ++ answers_to q (after_sent t k)))
      ∙ ap heard_above
      (heard_of-append (answers_to t k) _
      ∙ ap₂ both
      (heard_of-alone t k j p b device one stands
      ∙ ap (λ o. heard_from (answer_from o deep_there device)) (token_out-undamaged a))
      (heard_of-alone q (after_sent t k) j p b (after_token y deep_there device)
      two first_at))

  mark_is : mark_in a None k ≡ Whole
  mark_is = sound_answer _ _

  reply_is : reply_in a None k ≡ marked_some None n a.pre (ack_if w)
  reply_is = grind (arith, heard_is, mark_is, reply_taken)

  reply_out_is : r ≡ walk_ack y w
  reply_out_is = ap (goes_out a) reply_is ∙ ack_is a n w

  replied :
      after_packet_at r deep_there (after_data y q deep_there device) ≡ after_reply y q deep_there
      device
  unfolding after_reply
  replied = grind (arith, reply_out_is, sent_to-ack)

  end_at : place_at (ended_in a None k) j p
      ≡ Some (place_plugged b (after_reply y q deep_there device))
  end_at = grind (arith, replied, second_at, there_then, three)

  end_there : plugged_at (ended_in a None k) j p ≡ Some (after_reply y q deep_there device)
  end_there =
      plugged_there None (ended_in a None k) j p b _ four end_at

  cleared_is : cleared_in a None k ≡ asks_clearing (side_of y q deep_there device).effect
  unfolding side_of
  cleared_is =
      clears_one q (after_sent t k) j p b _ two
      first_at

  lost_is : lost_in a None k ≡ (side_of y q deep_there device).address_lost
  unfolding lost_in side_of
  lost_is =
      ap (λ o. is_lost o (goes_out a o) (answered_in a None k)) reply_is
      ∙ lost_if a n (answered_in a None k) w
      ∙ ap (λ o. w && has_loss (after_sent o (answered_in a None k))) (sym reply_out_is)
      ∙ ap (λ x. w && x)
      (others_loss (ended_in a None k) j p four.on four.forgot
      ∙ ap loss_by end_there)

  quiet_is : (port : ℕ) → keeps_others port (side_of y q deep_there device).effect ≡ true
      → IsQuiet port q (after_sent t k) (suc j ∷ p)
  unfolding side_of
  quiet_is port h =
      quiet_one port q (after_sent t k) j p b _ two first_at h

  till_end_is :
      till_end a None k j p one (place_plugged b device)
      ≡ place_plugged b (after_reply y q deep_there device)
  till_end_is = grind (arith, replied, step_in, step_in-plugged, token_out-undamaged)

  walk_is : changed_at (left_in y q deep_there) k j p ≡ ports_in a None k
  walk_is =
      changed_at-there (left_in y q deep_there) (λ x. forgotten_in (till_end a None k j p one x)) k
      j p _ stands (ap forgotten_in (sym till_end_is))
      ∙ sym (left_is a None k j p one)

  cut_is : changed_at (cut_in y deep_there) k j p ≡ all_forgotten (after_sent t k)
  cut_is =
      let after : _ = alone_sent t k (suc j ∷ p) one in
      changed_at-there (cut_in y deep_there) (λ x. forgotten_in (step_in t deep_there x)) k j p
      _ stands
      (ap forgotten_in (sym (step_in-plugged t deep_there b device
      ∙ ap (λ o. place_plugged b (after_packet_at o deep_there device)) (token_out-undamaged a))))
      ∙ sym
      (others_forget (after_sent t k) j p after.on after.forgot
      ∙ ap (λ x. changed_at forgotten_in x j p) (sent_to_one t k spot one).ports
      ∙ changed_at-twice forgotten_in (step_in t deep_there) k j p)

  stopped_is : RefusedFrom q deep_there (after_token y deep_there device)
      → IsStopped q (after_sent t k) (after_sent t k)
  stopped_is h =
      stopped_one q (after_sent t k) j p b _ two
      first_at h

-- ---- as the code makes it, by paths
-- what the code makes of a path's device
pub record Walked (a : Attempt) (k m : Ports) (p : List ℕ) (x : Exchange) (g : Heard)
    (side : DeviceSide) : Type 0 where
  pub token : x.token ≡ marked None 1 a.pre (token_of a)
  pub payload : x.payload ≡ marked_some None 2 a.pre (payload_of a)
  pub host : HostSide
  pub data_out : Option Sent
  pub deep : Bool
  pub host_is : host ≡ host_side a
  pub data_is : data_out ≡ goes_out a x.payload
  pub deep_is : deep ≡ is_deep p
  pub heard : g ≡ heard_at host data_out deep (device_there k p)
  pub told : side ≡ side_at host data_out deep (device_there k p)
  pub ports : m ≡ changed (left_in host data_out deep) k p
  pub answer : x.answer ≡ heard_above g
  pub mark : x.answer_mark ≡ Whole
  pub reply :
      x.reply ≡ marked_some None (answer_place x.payload + 1) a.pre (ack_if side.acknowledged)
  pub lost : x.address_lost ≡ side.address_lost
  pub cleared : x.change_cleared ≡ asks_clearing side.effect

ports_in-undamaged : (a : Attempt) (k : Ports)
    → ports_in a None k ≡ all_forgotten (ended_in a None k)
unfolding ports_in
ports_in-undamaged a k = refl

module _ (a : Attempt) (k m : Ports) (j : ℕ) (p : List ℕ) (x : Exchange) (g : Heard)
    (side : DeviceSide) (one : Alone (token_out a None) k (record { row = j; rest = p }))
    (walked : Walked a k m (suc j ∷ p) x g side) where
  abbrev device_then : Plugged
  device_then = record { own = (here a None k j p one).own; ports = (here a None k j p one).below }

  abbrev pub host : HostSide
  host = host_side a

  abbrev data_sent : Option Sent
  data_sent = payload_out a None

  data_then : walked.data_out ≡ data_sent
  data_then = grind arith

  side_is : side ≡ side_of host data_sent (deep_at false p) device_then
  side_is = grind (arith, data_then, there)

  heard_then : g ≡ heard_of_both host data_sent (deep_at false p) device_then
  heard_then = grind (arith, data_then, there)

  acknowledged_is : side.acknowledged ≡ acknowledges host data_sent (deep_at false p) device_then
  unfolding side_of
  acknowledged_is = ap (λ s. s.acknowledged) side_is

  address_is : side.address ≡ address_by (plugged_at (ended_in a None k) j p)
  unfolding side_of
  address_is = ap (λ s. s.address) side_is ∙ ap address_by (sym (end_there a k j p one))

  ports_there : m ≡ ports_in a None k
  ports_there = grind (arith, data_then, walk_is)

  answer_is : x.answer ≡ heard_in a None k
  answer_is = walked.answer ∙ ap heard_above heard_then ∙ sym (heard_is a k j p one)

  reply_then : x.reply ≡ reply_in a None k
  reply_then = grind (arith, acknowledged_is, reply_is)

  exchange_there : x ≡ exchange_in a None k
  unfolding exchange_in
  exchange_there = grind (arith, answer_is, cleared_is, lost_is, mark_is, reply_then, side_is)

  kept_there : (port : ℕ) → keeps_others port side.effect ≡ true
      → option_eq nat_eq side.address (Some a.addr) ≡ true → KeptAt a.addr port k m (suc j ∷ p)
  kept_there port quiet same =
      kept_at port a None k (ended_in a None k) m (suc j ∷ p) side.address same
      (quiet_is a k j p one port (ap (λ s. keeps_others port s.effect) (sym side_is) ∙ quiet)) refl
      (ports_there ∙ ports_in-undamaged a k) (λ h. address_is)

pub walked_made : (a : Attempt) (k m : Ports) (p : List ℕ) (x : Exchange) (g : Heard)
    (side : DeviceSide) → is_whole_tree p ≡ false → AloneAt (token_out a None) k p
    → Walked a k m p x g side → Exchanged a None k m x
walked_made a k m [] x g side f h w = false_true (sym f)
walked_made a k m (zero ∷ p) x g side f h w = absurd h
walked_made a k m (suc j ∷ p) x g side f h w =
    record
    { made = exchange_there a k m j p x g side h w; ports = ports_there a k m j p x g side h w }

pub walked_kept : (port : ℕ) (a : Attempt) (k m : Ports) (p : List ℕ) (x : Exchange) (g : Heard)
    (side : DeviceSide) → is_whole_tree p ≡ false → AloneAt (token_out a None) k p
    → Walked a k m p x g side → keeps_address port side a.addr ≡ true → KeptAt a.addr port k m p
walked_kept port a k m [] x g side f h w kept = false_true (sym f)
walked_kept port a k m (zero ∷ p) x g side f h w kept = absurd h
walked_kept port a k m (suc j ∷ p) x g side f h w kept =
    let same : Bool = option_eq nat_eq side.address (Some a.addr) in
    let is : _ = both_true _ same kept in
    kept_there a k m j p x g side h w port is.0 is.1

-- ---- memory that was refused
-- what the code makes of it then
pub record CutShort (a : Attempt) (k m : Ports) (p : List ℕ) (o : Option Outgoing) : Type 0 where
  pub payload : o ≡ marked_some None 2 a.pre (payload_of a)
  pub host : HostSide
  pub data_out : Option Sent
  pub deep : Bool
  pub host_is : host ≡ host_side a
  pub data_is : data_out ≡ goes_out a o
  pub deep_is : deep ≡ is_deep p
  pub ports : m ≡ changed (cut_in host deep) k p
  pub refused : RefusedAt host data_out deep (device_there k p)

module _ (a : Attempt) (k m : Ports) (j : ℕ) (p : List ℕ) (o : Option Outgoing)
    (one : Alone (token_out a None) k (record { row = j; rest = p }))
    (walked : CutShort a k m (suc j ∷ p) o) where
  cut_there : m ≡ all_forgotten (after_sent (token_out a None) k)
  cut_there = grind (arith, cut_is)

  stopped_there :
      IsStopped (payload_out a None) (after_sent (token_out a None) k)
      (after_sent (token_out a None) k)
  stopped_there =
      let P : HostSide → Type 0 = λ z. RefusedAt z walked.data_out walked.deep (plugged_at k j p) in
      let Q : Option Sent → Type 0 = λ q. RefusedAt (host_side a) q walked.deep (plugged_at k j p)
      in
      let R : Bool → Type 0 = λ d. RefusedAt (host_side a) (payload_out a None) d (plugged_at k j p)
      in
      let S : Option Plugged → Type 0 = λ x. RefusedAt (host_side a) (payload_out a None)
      (deep_at false p) x in
      stopped_is a k j p one
      (subst S (there a k j p one)
      (subst R walked.deep_is
      (subst Q (walked.data_is ∙ ap (goes_out a) walked.payload)
      (subst P walked.host_is walked.refused))))

pub walk_over : (a : Attempt) (k m : Ports) (p : List ℕ) (o : Option Outgoing)
    → is_whole_tree p ≡ false → AloneAt (token_out a None) k p → CutShort a k m p o
    → m ≡ all_forgotten (after_sent (token_out a None) k)
walk_over a k m [] o f h w = false_true (sym f)
walk_over a k m (zero ∷ p) o f h w = absurd h
walk_over a k m (suc j ∷ p) o f h w = cut_there a k m j p o h w

pub walk_cut : (a : Attempt) (k m : Ports) (p : List ℕ) (o : Option Outgoing)
    → is_whole_tree p ≡ false → AloneAt (token_out a None) k p → CutShort a k m p o
    → IsCut a None k m
walk_cut a k m [] o f h w = false_true (sym f)
walk_cut a k m (zero ∷ p) o f h w = absurd h
walk_cut a k m (suc j ∷ p) o f h w =
    let s : _ = stopped_there a k m j p o h w in
    record {
      sent = s.sent;
      went = s.went;
      tree = after_sent (token_out a None) k;
      stopped = s.stopped;
      is = cut_there a k m j p o h w;
    }

-- ---- who stands there
pub made_plugged : (a : Attempt) (k m : Ports) → m ≡ ports_in a None k → StaysPlugged k m
made_plugged a k m e =
    let first = after_sent (token_out a None) k in
    let second = after_sent (payload_out a None) first in
    let r = reply_out a None k in
    let till_second : StaysPlugged k second =
    plugged_further k first second (after_sent-plugged (token_out a None) k)
    (after_sent-plugged (payload_out a None) first) in
    over_plugged k (ended_in a None k) m (e ∙ ports_in-undamaged a k)
    (plugged_further k second (ended_in a None k) till_second (after_sent-plugged r second))

pub cut_plugged : (a : Attempt) (k m : Ports) → m ≡ all_forgotten (after_sent (token_out a None) k)
    → StaysPlugged k m
cut_plugged a k m e =
    over_plugged k _ m e (after_sent-plugged _ k)

pub made_settled : (a : Attempt) (k m : Ports) → m ≡ ports_in a None k → IsSettled m
made_settled a k m e = over_settled _ m (e ∙ ports_in-undamaged a k)
