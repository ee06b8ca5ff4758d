-- Attempts at endpoint 0 move nothing at any other endpoint.
use Rattle.std.proofs.Common.{arith, ◌≡◌, inl, inr, ◌∙◌, refl, sym, ap, subst, ℕ, zero, suc}
use Rattle.std.proofs.Common.{◌==◌, Bool, true, false, if◌then◌else◌, List, [], ◌∷◌, Option, None}
use Rattle.std.proofs.Common.{Some, option_map}
use Rattle.std.proofs.Common.{get_or, length, map}
use Rattle.std.specs.Prelude.{⊤, ◌+◌, IfSome}
use Rattle.usb_packet.specs.{Packet, Token, Payload, Ack, TokenKind, SetupTok, OutTok, InTok}
use Rattle.usb_packet.specs.{Toggle, Zero, One}
use Rattle.usb_port.specs.{PortCall, PortState}
use Rattle.usb_request.specs.{setup_of}
use Rattle.usb_device.specs.{Content, Whole, Broken, Sent, Effect, Leaves, Calls, PortsOff, Stage}
use Rattle.usb_device.specs.{RememberedPacket, Spec, State, Reply, Ports, Place, ended, vacant}
use Rattle.usb_device.specs.{taken, empty, full, before, acted, all_off, all_forgotten, forgotten}
use Rattle.usb_device.specs.{answer_of, effect_of, after_packet, reply_to, received, unread, fresh}
use Rattle.usb_device.specs.{reset_state, replaced, changed, changed_at, called, state_at, state_on}
use Rattle.usb_device.specs.{first_ports, Location, hears, row_of, in_row, ack_row}
use Rattle.usb_device.specs.{out_row, unless_busy, begun, setup_row, token_row, payload_row}
use Rattle.usb_device.specs.{data_row, after_memory, answered, Outcome, Write, WriteData, judged}
use Rattle.usb_device.specs.{max_packet, write_row, writing, BulkIn, BulkOut, Changes, halts}
use Rattle.usb_device.specs.{in_end, no_in, no_out, out_end, rested_in, rested_out}
use Rattle.usb_device.specs.{takes_configuration, unhalts, with_endpoint_state, with_endpoints}
use Rattle.usb_device.specs.{EndpointState, ServedEndpoint, InEnd, OutEnd, accepted, begun_again}
use Rattle.usb_device.specs.{end_numbers, endpoint_state, halted, outcome, plugged_in_end}
use Rattle.usb_device.specs.{begun_if, is_of_setting, numbered_from, plugged_out, takes_setting}
use Rattle.usb_device.specs.{with_in, with_out}
use Rattle.usb_device.specs.declared.transfer.RememberedPacket.TheVariants.{Nothing, SetupSeen}
use Rattle.usb_device.specs.declared.transfer.RememberedPacket.TheVariants.{OutSeen, AckAwaited}
use Rattle.usb_device.specs.declared.transfer.InEndpoint.TheVariants as by
use Rattle.usb_device.specs.declared.answer.Answer.TheVariants as answer
use Rattle.usb_device.proofs.Interface.{at_each, at_mapped}
use Rattle.usb_world.specs.{IsSettled, IfOut, after_sent, call_resets, reset_if, Attempt, Damage}
use Rattle.usb_world.specs.{Mark, Step, World, here, step, after, after_event, at_attempt, attempt}
use Rattle.usb_world.specs.{damage_in, event, payload_of, payload_out, ExchangeAnswer, goes_out}
use Rattle.usb_world.specs.{heard_in, mark_in, marked, marked_some, place_of_answer, ports_in}
use Rattle.usb_world.specs.{reply_of, reply_out, report, root_call, sent_as, token_of, token_out}
use Rattle.usb_world.specs.{with_attempt}
use Rattle.usb_world.proofs.Interface.{MadeOrNot, OverEvents, attempt_cases, call_state}
use Rattle.usb_world.proofs.Interface.{happened_by, over_ready, over_taken, ready_settled}
use Rattle.usb_world.proofs.Interface.{settled_after, settled_memory, new_bare}
use Rattle.usb_hub.specs.{ControlCourse, IsControlStep}
use Rattle.usb_run_laws.specs.{IsUntouched, KeepsStreams, MovesNothing}

-- One device

-- what it remembers is not of a bulk endpoint
abbrev AwaitsControl : RememberedPacket → Type 0
AwaitsControl Nothing = ⊤
AwaitsControl SetupSeen = ⊤
AwaitsControl (OutSeen e) = e ≡ 0
AwaitsControl (AckAwaited by.Control) = ⊤
AwaitsControl (AckAwaited (by.Bulk e)) = ⊥
AwaitsControl (AckAwaited by.Changes) = ⊤

-- a packet of an attempt at endpoint 0
abbrev IsOfControl : Content → Type 0
IsOfControl (Whole (Token kind a e)) = e ≡ 0
IsOfControl (Whole p) = ⊤
IsOfControl Broken = ⊤

-- it took and gave nothing, and remembers nothing of a bulk endpoint
record StaysOut (s v : State) : Type 0 where
  sink : (e : ℕ) → (out_end v e).sink ≡ (out_end s e).sink
  place : (e : ℕ) → (in_end v e).place ≡ (in_end s e).place
  memory : AwaitsControl v.memory

rest : (d : State) → AwaitsControl d.memory → StaysOut d d
rest d m = record { sink = λ e. refl; place = λ e. refl; memory = m }

-- each end of a row was changed by its number
pub numbered_each : {A : Type 0} (none : A) (R : A → A → Type 0) → ((x : A) → R x x)
    → (change : ℕ → A → A) → ((k : ℕ) (x : A) → R x (change k x)) → (k n : ℕ) (row : List A)
    → R (get_or row n none) (get_or (numbered_from change k row) n none)
unfolding numbered_from
numbered_each none R same change so k n [] = same none
numbered_each none R same change so k zero (x ∷ row) = so k x
numbered_each none R same change so k (suc n) (x ∷ row) =
    numbered_each none R same change so (k + 1) n row

pub begun_sink : (begins : Bool) (x : OutEnd) → (begun_if begins rested_out x).sink ≡ x.sink
begun_sink true x = refl
begun_sink false x = refl

begun_place : (begins : Bool) (x : InEnd) → (begun_if begins rested_in x).place ≡ x.place
begun_place true x = refl
begun_place false x = refl

module _ (d : State) (m : AwaitsControl d.memory) where
  in_stage : (stage : Stage) → StaysOut d (in_row d stage).1
  in_stage stage = grind (arith, rest)

  ack_stage : (stage : Stage) → StaysOut d (ack_row d stage)
  ack_stage stage = grind (arith, rest)

  write_stage : (w : Write) (bytes : List ℕ) (x : WriteData) → StaysOut d (write_row d w bytes x).1
  write_stage w bytes x = grind (arith, rest)

  out_stage : (stage : Stage) (t : Toggle) (bytes : List ℕ) → StaysOut d (out_row d stage t bytes).1
  out_stage (writing w) t bytes = write_stage w bytes (judged (max_packet d.spec) w t bytes)
  out_stage stage t bytes = grind (arith, rest)

  unless_busy_out : (r : Reply) → StaysOut d r.1 → StaysOut d (unless_busy d r).1
  unless_busy_out r h = grind (arith, rest)

  -- another end was put in a row
  out_put : (n : ℕ) (end : OutEnd) → end.sink ≡ (out_end d n).sink → StaysOut d (with_out d n end)
  out_put n end same = record {
    sink = at_each no_out (λ x y. y.sink ≡ x.sink) (λ x. refl) n end d.outs same;
    place = λ e. refl;
    memory = m;
  }

  in_put : (n : ℕ) (end : InEnd) → end.place ≡ (in_end d n).place → StaysOut d (with_in d n end)
  in_put n end same = record {
    sink = λ e. refl;
    place = at_each no_in (λ x y. y.place ≡ x.place) (λ x. refl) n end d.ins same;
    memory = m;
  }

  halts_out : (which : ServedEndpoint) (state : EndpointState)
      → StaysOut d (with_endpoint_state d which state)
  halts_out (BulkOut n) state = out_put n (record (out_end d n) { state = state }) refl
  halts_out (BulkIn n) state = in_put n (record (in_end d n) { state = state }) refl
  halts_out Changes state = record { sink = λ e. refl; place = λ e. refl; memory = m }

  begins_out : (which : ServedEndpoint) → StaysOut d (begun_again d which)
  begins_out (BulkOut n) = out_put n (rested_out (out_end d n)) refl
  begins_out (BulkIn n) = in_put n (rested_in (in_end d n)) refl
  begins_out Changes = record { sink = λ e. refl; place = λ e. refl; memory = m }

  ends_out : (o : Outcome) → StaysOut d (with_endpoints d o)
  ends_out (takes_configuration c) = record {
    sink = λ e. ap (λ (x : OutEnd). x.sink) (at_mapped no_out rested_out refl e d.outs);
    place = λ e. ap (λ (x : InEnd). x.place) (at_mapped no_in rested_in refl e d.ins);
    memory = m;
  }
  ends_out (halts which) = halts_out which (halted (endpoint_state d which))
  ends_out (unhalts which) = begins_out which
  ends_out (takes_setting interface setting) = record {
    sink = λ e. numbered_each no_out (λ x y. y.sink ≡ x.sink) (λ x. refl) (λ k.
        begun_if (is_of_setting d.spec d.registers interface setting false k) rested_out)
        (λ k x. begun_sink (is_of_setting d.spec d.registers interface setting false k) x) 0 e
        d.outs;
    place = λ e. numbered_each no_in (λ x y. y.place ≡ x.place) (λ x. refl) (λ k.
        begun_if (is_of_setting d.spec d.registers interface setting true k) rested_in)
        (λ k x. begun_place (is_of_setting d.spec d.registers interface setting true k) x) 0 e
        d.ins;
    memory = m;
  }
  ends_out _ = rest d m

  begun_out : (row : List PortState) (wanted : ℕ) (o : Outcome) → StaysOut d (begun d row wanted o)
  begun_out row wanted o =
      let x = ends_out o in record { sink = x.sink; place = x.place; memory = x.memory }

  set_up_out : (row : List PortState) (bytes : List ℕ) → StaysOut d (setup_row d row bytes).1
  set_up_out row bytes = by_length (length bytes == 8)
    where
      row_of_setup : Bool → Reply
      row_of_setup b = if b then (Some answer.Ack, accepted d row (setup_of bytes)) else (None, d)

      by_length : (b : Bool) → StaysOut d (row_of_setup b).1
      by_length true = begun_out row (setup_of bytes).length
          (outcome d.spec d.registers (setup_of bytes))
      by_length false = rest d m

  token_stays : (row : List PortState) (kind : TokenKind) → StaysOut d (token_row d row kind 0).1
  token_stays row SetupTok = record { sink = λ e. refl; place = λ e. refl; memory = tt }
  token_stays row OutTok = record { sink = λ e. refl; place = λ e. refl; memory = refl }
  token_stays row InTok = unless_busy_out (in_row d d.stage) (in_stage d.stage)

  payload_stays : (row : List PortState) (was : RememberedPacket) → AwaitsControl was → (t : Toggle)
      (bytes : List ℕ) → StaysOut d (payload_row d row was t bytes).1
  payload_stays row Nothing h t bytes = rest d m
  payload_stays row SetupSeen h Zero bytes = set_up_out row bytes
  payload_stays row SetupSeen h One bytes = rest d m
  payload_stays row (OutSeen e) h t bytes =
      subst (λ n. StaysOut d (data_row d n t bytes).1) (sym h)
      (unless_busy_out (out_row d d.stage t bytes) (out_stage d.stage t bytes))
  payload_stays row (AckAwaited end) h t bytes = rest d m

  ack_stays : (was : RememberedPacket) → AwaitsControl was → StaysOut d (after_memory d was)
  ack_stays (AckAwaited by.Control) h = ack_stage d.stage
  ack_stays (AckAwaited (by.Bulk e)) h = absurd h
  ack_stays (AckAwaited by.Changes) h =
      record { sink = λ e. refl; place = λ e. refl; memory = m }
  ack_stays _ h = rest d m

  packet_stays : (row : List PortState) (was : RememberedPacket) → AwaitsControl was → (p : Packet)
      → IsOfControl (Whole p) → StaysOut d (answered d row was p).1
  packet_stays row was h (Token kind a e) zero_is =
      subst (λ n. StaysOut d (answered d row was (Token kind a n)).1) (sym zero_is)
      (own (a == d.registers.address))
    where
      own : (here : Bool) → StaysOut d (if here then token_row d row kind 0 else (None, d)).1
      own true = token_stays row kind
      own false = rest d m
  packet_stays row was h (Payload t bytes) is = payload_stays row was h t bytes.items
  packet_stays row was h Ack is = ack_stays was h
  packet_stays row was h p is = rest d m

reply_stays : (c : Content) → IsOfControl c → (s : State) (row : List PortState)
    → AwaitsControl s.memory → StaysOut s (reply_to c s row).1
unfolding received unread
reply_stays (Whole p) is s row m = heard s.spec.silent
  where
    heard : (silent : Bool) → StaysOut s (if silent then (None, s)
        else answered (forgotten s) row s.memory p).1
    heard true = rest s m
    heard false =
        let x = packet_stays (forgotten s) tt row s.memory m p is in
        record { sink = x.sink; place = x.place; memory = x.memory }
reply_stays Broken is s row m = heard s.spec.silent
  where
    heard : (silent : Bool) → StaysOut s (if silent then s else forgotten s)
    heard true = rest s m
    heard false = record { sink = λ e. refl; place = λ e. refl; memory = tt }

-- One place

-- what stands there moved nothing, where it remembered nothing of a bulk endpoint
abbrev OutAt : Option State → Option State → Type 0
OutAt None None = ⊤
OutAt None (Some v) = ⊥
OutAt (Some s) None = ⊥
OutAt (Some s) (Some v) = AwaitsControl s.memory → StaysOut s v

out_same : (o : Option State) → OutAt o o
out_same None = tt
out_same (Some s) = rest s

out_then : (o p q : Option State) → OutAt o p → OutAt p q → OutAt o q
out_then None None q x y = y
out_then None (Some u) q x y = absurd x
out_then (Some s) None q x y = absurd x
out_then (Some s) (Some u) None x y = absurd y
out_then (Some s) (Some u) (Some v) x y = λ m.
    let first = x m in
    let second = y first.memory in
    record {
      sink = λ e. second.sink e ∙ first.sink e;
      place = λ e. second.place e ∙ first.place e;
      memory = second.memory;
    }

answer_stays : (q : Sent) → IsOfControl q.content → (deep : Bool) (s : State) (a : Ports)
    → AwaitsControl s.memory → StaysOut s (answer_of q deep s a).1
unfolding answer_of
answer_stays q is deep s a m = heard (hears q deep s)
  where
    heard : (there : Bool) → StaysOut s (if there then reply_to q.content s (row_of a)
        else (None, s)).1
    heard true = reply_stays q.content is s (row_of a) m
    heard false = rest s m

reset_stays : (reset : Bool) (o : Option State) → OutAt o (option_map (reset_if reset) o)
unfolding reset_state
reset_stays reset None = tt
reset_stays true (Some s) = λ m. record { sink = λ e. refl; place = λ e. refl; memory = tt }
reset_stays false (Some s) = rest s

off_stays : (k : Ports) (j : ℕ) (p : List ℕ) → OutAt (state_at k j p) (state_at (all_off k) j p)
unfolding state_at all_off
off_stays ended j p = tt
off_stays (vacant b k) zero p = tt
off_stays (vacant b k) (suc j) p = off_stays k j p
off_stays (taken b s a k) zero [] = rest s
off_stays (taken b s a k) zero (zero ∷ p) = tt
off_stays (taken b s a k) zero (suc j ∷ p) = out_same (state_at a j p)
off_stays (taken b s a k) (suc j) p = off_stays k j p

acted_stays : (e : Effect) (k : Ports) (j : ℕ) (p : List ℕ)
    → OutAt (state_at k j p) (state_at (acted e k) j p)
acted_stays Leaves k j p = out_same (state_at k j p)
acted_stays (Calls c i) k j p =
    subst (OutAt (state_at k j p)) (sym (call_state c k i j p))
    (reset_stays (call_resets c k i j p) (state_at k j p))
acted_stays PortsOff k j p = off_stays k j p

forgotten_stays : (k : Ports) (j : ℕ) (p : List ℕ)
    → OutAt (state_at k j p) (state_at (all_forgotten k) j p)
unfolding state_at all_forgotten
forgotten_stays ended j p = tt
forgotten_stays (vacant b k) zero p = tt
forgotten_stays (vacant b k) (suc j) p = forgotten_stays k j p
forgotten_stays (taken b s a k) zero [] =
    λ m. record { sink = λ e. refl; place = λ e. refl; memory = tt }
forgotten_stays (taken b s a k) zero (zero ∷ p) = tt
forgotten_stays (taken b s a k) zero (suc j ∷ p) = forgotten_stays a j p
forgotten_stays (taken b s a k) (suc j) p = forgotten_stays k j p

-- Packets

module _ (q : Sent) (is : IsOfControl q.content) where
  abbrev passed : Bool → Bool → PortState → State → Ports → Ports → Ports
  passed on deep b s a k =
      if on then taken b (answer_of q deep s a).1
      (acted (effect_of q deep s) (after_packet q true a)) k else taken b s a k

  device_stays : (on deep : Bool) (b : PortState) (s : State) (a k after : Ports) (j : ℕ)
      (p : List ℕ) → ((j : ℕ) (p : List ℕ) → OutAt (state_at a j p)
      (state_at (after_packet q true a) j p))
      → OutAt (state_at k j p) (state_at after j p)
      → OutAt (state_at (taken b s a k) (suc j) p)
      (state_at (passed on deep b s a after) (suc j) p)
  unfolding state_at
  device_stays true deep b s a k after j p below beside = beside
  device_stays false deep b s a k after j p below beside = beside

  first_stays : (on deep : Bool) (b : PortState) (s : State) (a k after : Ports) (p : List ℕ)
      → ((j : ℕ) (p : List ℕ) → OutAt (state_at a j p) (state_at (after_packet q true a) j p))
      → OutAt (state_at (taken b s a k) zero p) (state_at (passed on deep b s a after) zero p)
  unfolding state_at
  first_stays true deep b s a k after [] below = answer_stays q is deep s a
  first_stays false deep b s a k after [] below = rest s
  first_stays true deep b s a k after (zero ∷ p) below = tt
  first_stays false deep b s a k after (zero ∷ p) below = tt
  first_stays true deep b s a k after (suc j ∷ p) below =
      out_then (state_at a j p) (state_at (after_packet q true a) j p) _ (below j p)
      (acted_stays (effect_of q deep s) (after_packet q true a) j p)
  first_stays false deep b s a k after (suc j ∷ p) below = out_same (state_at a j p)

  after_stays : (deep : Bool) (k : Ports) (j : ℕ) (p : List ℕ)
      → OutAt (state_at k j p) (state_at (after_packet q deep k) j p)
  unfolding state_at after_packet
  after_stays deep ended j p = tt
  after_stays deep (vacant b k) zero p = tt
  after_stays deep (vacant b k) (suc j) p = after_stays deep k j p
  after_stays deep (taken b s a k) zero p =
      first_stays b.enable deep b s a k (after_packet q deep k) p (after_stays true a)
  after_stays deep (taken b s a k) (suc j) p =
      device_stays b.enable deep b s a k (after_packet q deep k) j p (after_stays true a)
      (after_stays deep k j p)

sent_stays : (o : Option Sent) → IfOut IsOfControl o → (k : Ports) (j : ℕ) (p : List ℕ)
    → OutAt (state_at k j p) (state_at (after_sent o k) j p)
sent_stays None is k j p = out_same (state_at k j p)
sent_stays (Some q) is k j p = after_stays q is false k j p

-- Attempts

sent_is : (low pre : Bool) (mark : Mark) (p : Packet) → IsOfControl (Whole p)
    → IfOut IsOfControl (sent_as low pre mark p)
sent_is low pre mark p is = grind arith

token_is : (a : Attempt) (d : Option Damage) → a.ep ≡ 0 → IfOut IsOfControl (token_out a d)
unfolding token_of marked
token_is a d zero_is =
    let sent = marked d 1 a.pre (token_of a) in sent_is a.low a.pre sent.mark (token_of a) zero_is

out_is : (a : Attempt) (d : Option Damage) (place : ℕ) (o : Option Packet)
    → IfSome o (λ p. IsOfControl (Whole p))
    → IfOut IsOfControl (goes_out a (marked_some d place a.pre o))
unfolding marked marked_some
out_is a d place None is = tt
out_is a d place (Some p) is = sent_is a.low a.pre (marked d place a.pre p).mark p is

payload_is : (a : Attempt) (d : Option Damage) → IfOut IsOfControl (payload_out a d)
unfolding payload_of
payload_is a d = out_is a d 2 (payload_of a)
    (elim a.payload as (λ o. IfSome (elim o [ None ↦ None | Some p ↦ Some (Payload p.0 p.1) ])
    (λ p. IsOfControl (Whole p))) [
      | None ↦ tt
      | Some p ↦ tt
    ])

reply_is : (a : Attempt) (d : Option Damage) (k : Ports) → IfOut IsOfControl (reply_out a d k)
unfolding reply_of
reply_is a d k =
    out_is a d (place_of_answer a d + 1) (reply_of (heard_in a d k) (mark_in a d k) a.max)
    (given (heard_in a d k) (mark_in a d k))
  where
    given : (heard : ExchangeAnswer) (mark : Mark) → IfSome (reply_of heard mark a.max)
        (λ p. IsOfControl (Whole p))
    given heard mark = grind arith

attempt_stays : (a : Attempt) (d : Option Damage) → a.ep ≡ 0 → (k : Ports) (j : ℕ) (p : List ℕ)
    → OutAt (state_at k j p) (state_at (ports_in a d k) j p)
unfolding ports_in
attempt_stays a d zero_is k j p =
    let t : Ports = after_sent (token_out a d) k in
    let u : Ports = after_sent (payload_out a d) t in
    let v : Ports = after_sent (reply_out a d k) u in
    out_then (state_at k j p) (state_at t j p) _
    (sent_stays (token_out a d) (token_is a d zero_is) k j p)
    (out_then (state_at t j p) (state_at u j p) _
    (sent_stays (payload_out a d) (payload_is a d) t j p)
    (out_then (state_at u j p) (state_at v j p) _
    (sent_stays (reply_out a d k) (reply_is a d k) u j p) (forgotten_stays v j p)))

-- Steps

kept_same : (o : Option State) → KeepsStreams o o
kept_same None = tt
kept_same (Some s) = inl (record { sink = λ e. refl; place = λ e. refl })

pub kept_then : (o p q : Option State) → KeepsStreams o p → KeepsStreams p q → KeepsStreams o q
kept_then o p None x y = tt
kept_then None None (Some v) x y = y
kept_then None (Some u) (Some v) x (inl y) =
    record { sink = λ e. y.sink e ∙ x.sink e; place = λ e. y.place e ∙ x.place e }
kept_then None (Some u) (Some v) x (inr y) = y
kept_then (Some s) None (Some v) x y = inr y
kept_then (Some s) (Some u) (Some v) (inl x) (inl y) =
    inl (record { sink = λ e. y.sink e ∙ x.sink e; place = λ e. y.place e ∙ x.place e })
kept_then (Some s) (Some u) (Some v) (inr x) (inl y) =
    inr (record { sink = λ e. y.sink e ∙ x.sink e; place = λ e. y.place e ∙ x.place e })
kept_then (Some s) (Some u) (Some v) x (inr y) = inr y

out_kept : (o p : Option State) → ((s : State) → o ≡ Some s → s.memory ≡ Nothing) → OutAt o p
    → KeepsStreams o p
out_kept o None forgot x = tt
out_kept None (Some v) forgot x = absurd x
out_kept (Some s) (Some v) forgot x =
    let y = x (subst AwaitsControl (sym (forgot s refl)) tt) in
    inl (record { sink = y.sink; place = y.place })

none_first : (spec : Spec) (j : ℕ) (p : List ℕ) → state_at (first_ports spec.hub) j p ≡ None
unfolding state_at
none_first spec j p = grind (arith, new_bare)

-- a device that is put somewhere is untouched
row_new : {A B X : Type 0} (none : A) (seen : A → X) (new : B → A)
    → ((b : B) → seen (new b) ≡ seen none) → (row : List B) (e : ℕ)
    → seen (get_or (map new row) e none) ≡ seen none
row_new none seen new same [] e = refl
row_new none seen new same (b ∷ row) zero = same b
row_new none seen new same (b ∷ row) (suc e) = row_new none seen new same row e

new_untouched : (spec : Spec) → IsUntouched (fresh spec)
unfolding fresh
new_untouched spec = record {
  sink = row_new no_out (λ (x : OutEnd). x.sink) (plugged_out spec) (λ n. refl) end_numbers;
  place = row_new no_in (λ (x : InEnd). x.place) (plugged_in_end spec) (λ n. refl) end_numbers;
}

put_kept : (o : Option Spec) (place : Place) (k : Ports) (p : List ℕ)
    → KeepsStreams (state_at (before place k) zero p)
    (state_at (before (replaced o place) k) zero p)
unfolding state_at
put_kept None place k p = tt
put_kept (Some spec) place k [] = new_kept (state_at (before place k) zero [])
  where
    new_kept : (o : Option State) → KeepsStreams o (Some (fresh spec))
    new_kept None = new_untouched spec
    new_kept (Some s) = inr (new_untouched spec)
put_kept (Some spec) place k (zero ∷ p) = tt
put_kept (Some spec) place k (suc j ∷ p) =
    subst (KeepsStreams (state_at (before place k) zero (suc j ∷ p))) (sym (none_first spec j p)) tt

beside : (o : Option Spec) (place : Place) (k : Ports) (j : ℕ) (p : List ℕ)
    → KeepsStreams (state_at k j p) (state_at (before (replaced o place) k) (suc j) p)
unfolding state_at
beside None place k j p = kept_same (state_at k j p)
beside (Some spec) place k j p = kept_same (state_at k j p)

replaced_kept : (o : Option Spec) (k : Ports) (i : ℕ) (q : List ℕ) (j : ℕ) (p : List ℕ)
    → KeepsStreams (state_at k j p) (state_at (changed_at (replaced o) k i q) j p)
unfolding state_at changed_at
replaced_kept o ended i q j p = tt
replaced_kept o (vacant b k) zero [] zero p = put_kept o (empty b) k p
replaced_kept o (vacant b k) zero [] (suc j) p = beside o (empty b) k j p
replaced_kept o (vacant b k) zero (n ∷ q) j p = kept_same (state_at (vacant b k) j p)
replaced_kept o (vacant b k) (suc i) q zero p = tt
replaced_kept o (vacant b k) (suc i) q (suc j) p = replaced_kept o k i q j p
replaced_kept o (taken b s a k) zero [] zero p = put_kept o (full b s a) k p
replaced_kept o (taken b s a k) zero [] (suc j) p = beside o (full b s a) k j p
replaced_kept o (taken b s a k) zero (zero ∷ q) j p = kept_same (state_at (taken b s a k) j p)
replaced_kept o (taken b s a k) zero (suc n ∷ q) zero [] = kept_same (Some s)
replaced_kept o (taken b s a k) zero (suc n ∷ q) zero (zero ∷ p) = tt
replaced_kept o (taken b s a k) zero (suc n ∷ q) zero (suc j ∷ p) = replaced_kept o a n q j p
replaced_kept o (taken b s a k) zero (suc n ∷ q) (suc j) p = kept_same (state_at k j p)
replaced_kept o (taken b s a k) (suc i) q zero [] = kept_same (Some s)
replaced_kept o (taken b s a k) (suc i) q zero (zero ∷ p) = tt
replaced_kept o (taken b s a k) (suc i) q zero (suc j ∷ p) = kept_same (state_at a j p)
replaced_kept o (taken b s a k) (suc i) q (suc j) p = replaced_kept o k i q j p

changed_kept : (o : Option Spec) (k : Ports) (q : List ℕ) (x : Location)
    → KeepsStreams (state_on k x) (state_on (changed (replaced o) k q) x)
changed_kept o k [] x = kept_same (state_on k x)
changed_kept o k (zero ∷ q) x = kept_same (state_on k x)
changed_kept o k (suc i ∷ q) x = replaced_kept o k i q x.row x.rest

events_kept : OverEvents MovesNothing
unfolding after_event
events_kept = record {
  same = λ w x. kept_same (state_on w.roots x);
  joined = λ w m v f g x.
      kept_then (state_on w.roots x) (state_on m.roots x) (state_on v.roots x) (f x) (g x);
  came = λ e es w is x. happened_by
      (λ k named. KeepsStreams (state_on w.roots x) (state_on k x)) e.action w.devices w.roots []
      (kept_same (state_on w.roots x)) (λ o q. changed_kept o w.roots q x);
}

called_kept : (c : PortCall) (n : ℕ) (w : World) → IsSettled w.roots → (x : Location)
    → KeepsStreams (state_on w.roots x) (state_on (changed (called c) w.roots (n ∷ [])) x)
called_kept c zero w settled x = kept_same (state_on w.roots x)
called_kept c (suc i) w settled x =
    out_kept (state_on w.roots x) _
    (λ s is. settled_memory w.roots x.row x.rest s settled is)
    (subst (OutAt (state_on w.roots x)) (sym (call_state c w.roots i x.row x.rest))
    (reset_stays (call_resets c w.roots i x.row x.rest) (state_on w.roots x)))

step_kept : (s : Step) (w : World) → IsControlStep s w → IsSettled w.roots
    → MovesNothing w (after s w)
unfolding after with_attempt
step_kept (attempt a) w zero_is settled = λ x. pick x (attempt_cases a w)
  where
    pick : (x : Location) → MadeOrNot a w (after (attempt a) w)
        → KeepsStreams (state_on w.roots x) (state_on (after (attempt a) w).roots x)
    pick x (inl same) = subst (λ (k : Ports). KeepsStreams (state_on k x)
        (state_on (after (attempt a) w).roots x)) (ap (λ (v : World). v.roots) same)
        (kept_same (state_on (after (attempt a) w).roots x))
    pick x (inr made) = let ready : World = at_attempt w in
        subst (λ (v : World). KeepsStreams (state_on w.roots x) (state_on v.roots x)) (sym made.1)
        (kept_then (state_on w.roots x) (state_on ready.roots x) _ (over_ready events_kept w x)
        (out_kept (state_on ready.roots x) _
        (λ s is. settled_memory ready.roots x.row x.rest s (ready_settled w settled) is)
        (attempt_stays a (damage_in ready) zero_is ready.roots x.row x.rest)))
step_kept (root_call c n) w is settled = called_kept c n w settled
step_kept event w is settled = over_taken events_kept w.fault w
step_kept (report line) w is settled = λ x. kept_same (state_on w.roots x)

pub course_kept : {w v : World} → ControlCourse w v → IsSettled w.roots → MovesNothing w v
course_kept (here w) settled x = kept_same (state_on w.roots x)
course_kept (step s {w} {v} k more) settled x =
    kept_then (state_on w.roots x) (state_on (after s w).roots x) (state_on v.roots x)
    (step_kept s w k settled x) (course_kept more (settled_after s w settled) x)
