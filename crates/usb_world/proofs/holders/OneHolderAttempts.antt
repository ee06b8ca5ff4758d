-- Attempts where one reachable device holds their address, or none does.
use Rattle.usb_device.specs.{setup_law, Content, Sent, State, Reply, forgotten, accepted, Way, lost}
use Rattle.usb_device.specs.{heard, is_good, acked, in_law, Ports, row_of, state_at, state_on}
use Rattle.usb_device.specs.{reply_to, listed, held_addresses, repeats, Answer, all_reached}
use Rattle.usb_device.specs.{paths_at, holder_among, holder_of}
use Rattle.std.proofs.Common.{inl, inr, arith, ◌≡◌, ℕ, suc, ◌+◌, ◌&&◌, if◌then◌else◌, Bool, true}
use Rattle.std.proofs.Common.{false, List, [], ◌∷◌, ◌++◌, Option, None, Some, is_some, refl, ap}
use Rattle.std.proofs.Common.{ap₂, sym, subst, ◌∙◌, ◌⊎◌, ◌≤◌, length, ◌==◌, option_map}
use Rattle.usb_world.proofs.Booleans.{decided, false_true}
use Rattle.usb_world.proofs.Equality.{unequal, same_equal, equal_same, swapped}
use Rattle.usb_world.proofs.HolderOfAddress.{who_holds}
use Rattle.usb_world.proofs.TreeHolders.{occurs, one_if, occurs-reached}
use Rattle.usb_packet.specs.{Packet, Token, Toggle, InTok, TokenKind, OutTok, SetupTok}
use Rattle.usb_packet.specs.declared.Packet.TheVariants as packet
use Rattle.usb_port.specs.{PortState}
use Rattle.usb_request.specs.{setup_of}
use Rattle.usb_device.specs.declared.answer.Answer.TheVariants as answer
use Rattle.usb_device.specs.Attempt.{whole}
use Rattle.usb_device.proofs.Interface.{silent-stays, silent-unread, way_addresses, held-reached}
use Rattle.usb_world.specs.{Attempt, Limit, Damage, ExchangeAnswer, mark_of, harm_to, marked}
use Rattle.usb_world.specs.{marked_some, token_of, payload_of, answer_mark, goes_out, heard_all}
use Rattle.usb_world.specs.{token_out, payload_out, heard_in, mark_in, place_of_answer, ports_in}
use Rattle.usb_world.specs.{reply_in, World, Made, is_made, resets, AnyStep, at_attempt, damage_in}
use Rattle.usb_world.specs.{with_attempt, outcome_in, attempt, after, way_to, token_way, answer_way}
use Rattle.usb_world.specs.{reply_way, out_alone, in_alone, IsSetup, IsOut, IsIn, hears_attempt}
use Rattle.usb_world.specs.{IsMade, HolderIn, payload_way, got, AttemptAnswerer, reply_out}
use Rattle.usb_world.specs.{exchange_in, made_in, IsAttempt, sends_data, Exchange, Mark, Whole}
use Rattle.usb_world.specs.{lost_in, cleared_in, reply_of, Exchanged, silent_exchange}
use Rattle.usb_world.specs.declared.types.Outcome.TheVariants as outcome
use Rattle.usb_world.specs.declared.wire.Mark.TheVariants as mark
use Rattle.usb_world.specs.{same_number, same_path, reset_if, heard_by, deep_at, attempt_resets}
use Rattle.usb_world.specs.{IsSettled, NobodyHolds, after_sent, answers_to, IfOut, IsTokenFor}
use Rattle.usb_world.specs.{address_of}
use Rattle.usb_world.proofs.courses.Courses.{settled_steps, goes}
use Rattle.usb_world.proofs.courses.LiftedSteps.{over_ready, ready_beside}
use Rattle.usb_world.proofs.holders.OneHolder.{replied, outcome_unread, remembers, acts, rests}
use Rattle.usb_world.proofs.holders.OneHolder.{first, second, third, second_below, is_heard_in}
use Rattle.usb_world.proofs.holders.OneHolder.{is_state, token_of-fields, none_is, in_same, asked}
use Rattle.usb_world.proofs.holders.OneHolder.{good, asked_reply, nobody, setup_one, out_one}
use Rattle.usb_world.proofs.holders.OneHolder.{in_one, setup_alone, Holder, ExchangedWithHolder}
use Rattle.usb_world.proofs.holders.OneHolder.{sent_heard, asked_heard, data_is, setup_quiet}
use Rattle.usb_world.proofs.holders.OneHolder.{out_quiet}
use Rattle.arrayvec.specs.ArrayVec.{ArrayVec}
use Rattle.usb_world.specs.declared.exchange.ExchangeAnswer.TheVariants.{Collision, Nothing}
use Rattle.usb_world.proofs.holders.OneDevice.{nobody_answers, sent_to_nobody, settled_memory}
use Rattle.usb_world.proofs.holders.OneDevice.{token_calls}
use Rattle.usb_device.specs.declared.holders.Holder.TheVariants.{Nobody}
use Rattle.usb_world.proofs.ways.Routes.{rest_clears}

-- A silent holder, attempts without damage, and the attempts of a world.

-- each packet of an attempt that goes out comes whole
pub record AllWhole (a : Attempt) (damage : Option Damage) (k : Ports) (deep : Bool) (s : State) :
    Type 0 where
  pub token : token_way a damage deep s ≡ whole
  pub payload : is_some a.payload ≡ true → payload_way a damage deep s ≡ whole
  pub answer : answer_way a damage k ≡ whole
  pub reply : is_some (reply_in a damage k) ≡ true → reply_way a damage k deep s ≡ whole

pub record ExchangedIn (a : Attempt) (w : World) (h : HolderIn a w) (r : Reply) : Type 0 where
  pub outcome : outcome_in a w ≡ got a.max r.0
  pub state : state_on (after (attempt a) w).roots h.spot ≡ Some r.1

-- A silent device

silent_reply : (c : Content) (s : State) (row : List PortState) → s.spec.silent ≡ true
    → reply_to c s row ≡ (None, s)
silent_reply c s row h = grind (arith, replied, silent-stays, silent-unread)

silent_heard : (o : Option Sent) (deep : Bool) (s : State) (row : List PortState)
    → s.spec.silent ≡ true → heard_by o deep s row ≡ (None, s)
silent_heard o deep s row h = grind (arith, silent_reply)

module _ (a : Attempt) (d : Option Damage) (k : Ports) (h : Holder a.addr k) where
  open h use {spot.{row as j, rest as p}, own as s, below}

  module _ (silent : s.spec.silent ≡ true) where
    pub first_silent : first a d k h ≡ (None, s)
    first_silent = grind (arith, silent_heard)

    second_silent : second a d k h ≡ (None, s)
    second_silent = grind (arith, first_silent, silent_heard)

    third_silent : third a d k h ≡ (None, s)
    third_silent = grind (arith, second_below, second_silent, silent_heard)

    pub silent_one : ExchangedWithHolder a d k h (None, s)
    silent_one = record {
      outcome = outcome_unread (heard_in a d k) (mark_in a d k) a.max (is_heard_in a d k h
          ∙ ap₂ (λ x y. heard_all (listed x.0 [] ++ listed y.0 [])) first_silent second_silent);
      state = is_state a d k h ∙ ap (λ r. Some (forgotten r.1)) third_silent
          ∙ ap (λ x. Some x) (remembers s (rests a d k h));
    }

  -- the other devices
  others_one : (i : ℕ) (e : List ℕ) (v : State) → (same_number i j && same_path e p) ≡ false
      → state_at k i e ≡ Some v → state_at (ports_in a d k) i e ≡ Some
      (reset_if (attempt_resets (token_out a d) (payload_out a d) k i e) v)
  unfolding ports_in
  others_one = (acts a d k h).others

-- Without damage

sound_packet : (a : Attempt) (n : ℕ) (p : Packet) (deep : Bool) (s : State)
    → hears_attempt a deep s ≡ true → way_to deep s (goes_out a (Some (marked None n a.pre p)))
    ≡ whole
unfolding marked mark_of harm_to
sound_packet a n p deep s h = ap (λ x. if x then whole else lost) h

sound_some : (a : Attempt) (n : ℕ) (o : Option Packet) (deep : Bool) (s : State)
    → hears_attempt a deep s ≡ true → is_some o ≡ true
    → way_to deep s (goes_out a (marked_some None n a.pre o)) ≡ whole
unfolding marked_some
sound_some a n o deep s h g = grind (arith, sound_packet)

payload_some : (a : Attempt) → is_some a.payload ≡ true → is_some (payload_of a) ≡ true
unfolding payload_of
payload_some a g = grind arith

pub sound_answer : (n : ℕ) (h : ExchangeAnswer) → answer_mark (harm_to None n) h ≡ mark.Whole
unfolding answer_mark mark_of harm_to
sound_answer n h = grind arith

marked_is : (d : Option Damage) (n : ℕ) (pre : Bool) (o : Option Packet)
    → is_some (marked_some d n pre o) ≡ is_some o
unfolding marked_some
marked_is d n pre o = grind arith

pub undamaged : (a : Attempt) (k : Ports) (deep : Bool) (s : State) → hears_attempt a deep s ≡ true
    → AllWhole a None k deep s
undamaged a k deep s h =
    grind (arith, marked_is, payload_some, sound_answer, sound_packet, sound_some)

-- the host's ACK does not matter where it does not go out
ack_gone : (row : List PortState) (max : ℕ) (t2 t3 : Way) (r : Reply)
    → acked row max t2 t3 r
    ≡ acked row max t2 (if is_good max (heard t2 r.0) then t3 else whole) r
ack_gone row max t2 t3 r = grind arith

-- IN, with the way of the host's ACK where that goes out
module _ (a : Attempt) (d : Option Damage) (k : Ports) (h : Holder a.addr k) (into : IsIn a) where
  open h use {spot.{row as j, rest as p}, own as s, below}

  abbrev pub token : Packet
  token = Token InTok s.registers.address a.ep

  pub of_token : token_of a ≡ token
  of_token = token_of-fields a InTok _ a.ep into.kind (sym h.at) refl

  abbrev pub goes_back : Bool
  goes_back = good a d k h token of_token (none_is a into.payload)

  abbrev pub reply_gone : Way
  reply_gone = if goes_back then reply_way a d k (deep_at false p) s else whole

  in_gone : s.spec.silent ≡ false → ExchangedWithHolder a d k h
      (in_law s (row_of below) a.ep a.max (token_way a d (deep_at false p) s) (answer_way a d k)
      reply_gone)
  in_gone loud =
      subst (ExchangedWithHolder a d k h)
      (ack_gone (row_of below) a.max (answer_way a d k) _ _
      ∙ in_same a d k h loud a.ep a.max _ (answer_way a d k)
      reply_gone)
      (asked a d k h token of_token (none_is a into.payload))

  pub gone_whole : AllWhole a d k (deep_at false p) s → reply_gone ≡ whole
  gone_whole ways = elim (decided goes_back) [
    | inl e ↦ rw e (ways.reply (marked_is d (place_of_answer a d + 1) a.pre _
        ∙ ap is_some (asked_reply a d k h token of_token (none_is a into.payload))
        ∙ ap (λ x. is_some (if x then Some packet.Ack else None)) e))
    | inr e ↦ rw e refl
  ]

module _ (a : Attempt) (k : Ports) (h : Holder a.addr k) (loud : h.own.spec.silent ≡ false)
    (hears_it : hears_attempt a (deep_at false h.spot.rest) h.own ≡ true) where
  open h use {spot.{row as j, rest as p}, own as s, below}

  ways : AllWhole a None k (deep_at false p) s
  ways = undamaged a k (deep_at false p) s hears_it

  setup_sound : (bytes : List ℕ) → IsSetup a bytes
      → ExchangedWithHolder a None k h (Some answer.Ack, accepted s (row_of below) (setup_of bytes))
  setup_sound bytes i =
      subst (ExchangedWithHolder a None k h)
      (ap₂ (λ x y. setup_law s (row_of below) bytes x y (answer_way a None k)) ways.token
      (ways.payload (ap is_some i.payload))
      ∙ ap (setup_law s (row_of below) bytes whole whole) ways.answer)
      (setup_one a None k h loud bytes i)

-- Worlds

pub ready_settled : (w : World) → IsSettled w.roots → IsSettled (at_attempt w).roots
ready_settled = over_ready (settled_steps {K = AnyStep}).events

pub made_is : (a : Attempt) (w : World) → IsMade a w
    → after (attempt a) w ≡ with_attempt a (at_attempt w)
unfolding after
made_is a w m = rw (m.sound, unequal w.attempts w.limit m.within) refl

after-limit_fault : (a : Attempt) (w : World) → w.fault ≡ None → w.attempts ≡ w.limit
    → (after (attempt a) w).fault ≡ Some Limit
unfolding after
after-limit_fault a w s e = rw (s, same_equal w.attempts w.limit e) refl

-- an attempt that ends well was made
pub made_of : (a : Attempt) (w : World) → IsSettled w.roots → Made w (after (attempt a) w)
    → IsMade a w
made_of a w h m = grind (arith, after-limit_fault)

pub made_true : (a : Attempt) (w : World) → IsMade a w → is_made w.fault w ≡ true
made_true a w m = rw (m.sound, unequal w.attempts w.limit m.within) refl

pub made_here : (a : Attempt) (w : World) → is_made w.fault w ≡ true → IsSettled w.roots
    → IsMade a w
made_here a w made settled = grind arith

pub damage_ready : (w : World) → damage_in (at_attempt w) ≡ damage_in w
damage_ready w = ap damage_in (ready_beside w)

pub nobody_in : (a : Attempt) (w : World) → IsMade a w → NobodyHolds a.addr (at_attempt w).roots
    → (outcome_in a w ≡ outcome.Nothing) × ((after (attempt a) w).roots ≡ (at_attempt w).roots)
unfolding outcome_in with_attempt
nobody_in a w m n =
    let r : _ = nobody a _ (at_attempt w).roots (ready_settled w m.settled)
    n in
    (r.0, ap (λ v. v.roots) (made_is a w m) ∙ r.1)

module _ (a : Attempt) (w : World) (h : HolderIn a w) where
  open h use {spot.{row as j, rest as p}, own as s, below}

  pub unshared : repeats (held_addresses (at_attempt w).roots) ≡ false
  unfolding with_attempt
  unshared = grind (arith, made_is)

  abbrev pub holder_in : Holder a.addr (at_attempt w).roots
  holder_in = record {
    settled = ready_settled w h.made.settled;
    single = unshared;
    found = h.found;
  }

  exchanged_in : (r : Reply) → ExchangedWithHolder a (damage_in (at_attempt w))
      (at_attempt w).roots holder_in r → ExchangedIn a w h r
  unfolding outcome_in with_attempt
  exchanged_in r x = grind (arith, made_is)

  pub setup_in : s.spec.silent ≡ false → (bytes : List ℕ) → IsSetup a bytes
      → ExchangedIn a w h (setup_alone a (damage_in (at_attempt w)) (at_attempt w).roots
      (deep_at false p) s (row_of below) bytes)
  setup_in loud bytes i = exchanged_in _ (setup_one a _ _ holder_in loud bytes i)

  pub out_in : s.spec.silent ≡ false → (t : Toggle) (bytes : List ℕ) → IsOut a t bytes
      → ExchangedIn a w h (out_alone a (damage_in (at_attempt w)) (at_attempt w).roots
      (deep_at false p) s t bytes)
  out_in loud t bytes i = exchanged_in _ (out_one a _ _ holder_in loud t bytes i)

  pub in_in : s.spec.silent ≡ false → IsIn a
      → ExchangedIn a w h (in_alone a (damage_in (at_attempt w)) (at_attempt w).roots
      (deep_at false p) s (row_of below))
  in_in loud i = exchanged_in _ (in_one a _ _ holder_in loud i)

  -- IN, where the way of the host's ACK is whole if it does not go out
  pub in_gone_in : s.spec.silent ≡ false → (into : IsIn a) → ExchangedIn a w h
      (in_law s (row_of below) a.ep a.max
      (token_way a (damage_in (at_attempt w)) (deep_at false p) s)
      (answer_way a (damage_in (at_attempt w)) (at_attempt w).roots)
      (reply_gone a (damage_in (at_attempt w)) (at_attempt w).roots holder_in into))
  in_gone_in loud into = exchanged_in _ (in_gone a _ _ holder_in into loud)

  pub silent_in : s.spec.silent ≡ true → ExchangedIn a w h (None, s)
  silent_in silent = exchanged_in _ (silent_one a _ _ holder_in silent)

  pub others_in : (i : ℕ) (e : List ℕ) (v : State) → (same_number i j && same_path e p) ≡ false
      → state_at (at_attempt w).roots i e ≡ Some v → state_at (after (attempt a) w).roots i e
      ≡ Some (reset_if (resets (attempt a) w (suc i ∷ e)) v)
  unfolding with_attempt resets
  others_in i e v differ stands_there =
      ap (λ x. state_at x.roots i e) (made_is a w h.made)
      ∙ others_one a (damage_in (at_attempt w)) (at_attempt w).roots holder_in i e v differ
      stands_there
      ∙ ap (λ x. Some (reset_if (x && attempt_resets (token_out a (damage_in (at_attempt w)))
      (payload_out a (damage_in (at_attempt w))) (at_attempt w).roots i e) v))
      (sym (made_true a w h.made))

  module _ (loud : s.spec.silent ≡ false) (hears_it : hears_attempt a (deep_at false p) s ≡ true)
      (none : damage_in w ≡ None) where
    undamaged_in : (r : Reply) → ExchangedWithHolder a None (at_attempt w).roots holder_in r
        → ExchangedIn a w h r
    undamaged_in r x = grind (arith, damage_ready, exchanged_in)

    pub setup_sound_in : (bytes : List ℕ) → IsSetup a bytes
        → ExchangedIn a w h (Some answer.Ack, accepted s (row_of below) (setup_of bytes))
    setup_sound_in bytes i = undamaged_in (
      Some answer.Ack,
      accepted s (row_of below) (setup_of bytes),
    ) (setup_sound a (at_attempt w).roots holder_in loud hears_it bytes i)

-- Where no address is held twice, one device holds the address of an attempt or none does.

-- one device holds the address of an attempt, or none does
pub holder_or_nobody : (a : Attempt) (w : World) → IsMade a w → (after (attempt a) w).shared ≡ false
    → HolderIn a w ⊎ NobodyHolds a.addr (at_attempt w).roots
holder_or_nobody a w m u = grind (arith, who_holds)

-- what is answered comes from one device, which is not silent
pub one_answers : (a : Attempt) (w : World) → IsMade a w → (after (attempt a) w).shared ≡ false
    → (outcome_in a w ≡ outcome.Nothing → ⊥) → AttemptAnswerer a w
one_answers a w m u c = elim (holder_or_nobody a w m u) [
  | inl h ↦ elim (decided h.own.spec.silent) [
    | inl y ↦ elim (c (silent_in a w h y).outcome) [ ]
    | inr y ↦ record { holder = h; loud = y }
  ]
  | inr n ↦ elim (c (nobody_in a w m n).0) [ ]
]

-- Where no address is held twice, at most one device answers an attempt.

alone : (o : Option Answer) → heard_all (listed o []) ≡ Collision → ⊥
alone o h = grind arith

few : (xs : List Answer) → (heard_all xs ≡ Collision → ⊥) → length xs ≤ 1
few xs f = grind arith

module _ (a : Attempt) (d : Option Damage) (k : Ports) (is : IsAttempt a) where
  of_holder : Holder a.addr k → heard_in a d k ≡ Collision → ⊥
  of_holder h = split a.kind refl a.payload refl is.payload_sent
    where
      split : (t : TokenKind) → a.kind ≡ t → (o : Option (Toggle × ArrayVec ℕ)) → a.payload ≡ o
          → is_some o ≡ sends_data t → heard_in a d k ≡ Collision → ⊥
      split SetupTok kind (Some x) load sent c =
          alone _ (sym
          (sent_heard a d k h _ (packet.Payload x.0 x.1)
          (token_of-fields a SetupTok a.addr a.ep kind refl refl) (data_is a x.0 x.1 load)
          (setup_quiet h.own (row_of h.below) a.addr a.ep))
          ∙ c)
      split OutTok kind (Some x) load sent c =
          alone _ (sym
          (sent_heard a d k h _ (packet.Payload x.0 x.1)
          (token_of-fields a OutTok a.addr a.ep kind refl refl) (data_is a x.0 x.1 load)
          (out_quiet h.own (row_of h.below) a.addr a.ep))
          ∙ c)
      split InTok kind None load sent c =
          alone _ (sym (asked_heard a d k h _
          (token_of-fields a InTok a.addr a.ep kind refl refl) (none_is a load)) ∙ c)
      split InTok kind (Some x) load sent c = false_true (sym sent)
      split t kind o load sent c = false_true sent

  of_nobody : IsSettled k → NobodyHolds a.addr k → heard_in a d k ≡ Collision → ⊥
  of_nobody settled n c =
      let w : _ = nobody_answers a.addr (token_out a d) (payload_out a d) (reply_out a d k)
      (goes a d k) k settled n in
      alone None (sym (ap₂ (λ x y. heard_all (x ++ y)) w.1 w.2) ∙ c)

  pub no_collision : IsSettled k → repeats (held_addresses k) ≡ false → heard_in a d k ≡ Collision
      → ⊥
  no_collision settled single = grind (arith, of_holder, of_nobody, who_holds)

  pub few_answers : IsSettled k → repeats (held_addresses k) ≡ false
      → length (answers_to (token_out a d) k ++ answers_to (payload_out a d)
      (after_sent (token_out a d) k)) ≤ 1
  few_answers settled single = grind (arith, few, no_collision)

pub no_collision_in : (a : Attempt) (w : World) → IsAttempt a → IsMade a w
    → (after (attempt a) w).shared ≡ false → (made_in a (at_attempt w)).answer ≡ Collision → ⊥
unfolding with_attempt exchange_in
no_collision_in a w is m u = grind (arith, made_is, no_collision, ready_settled)

-- An attempt at an address that nobody holds.

-- ---- an index with nobody at an address

holder_among-nobody : (ws : List (Option (ArrayVec ℕ))) → holder_among ws ≡ Nobody → ws ≡ []
holder_among-nobody ws e = grind arith

none_occurs : (n : ℕ) (xs : List (ℕ × Option (ArrayVec ℕ))) → paths_at n xs ≡ []
    → occurs n (way_addresses xs) ≡ 0
unfolding occurs
none_occurs n [] e = refl
none_occurs n (x ∷ xs) e = grind (arith, none_occurs n xs, occurs, one_if, swapped, way_addresses)

pub nobody_there : (n : ℕ) (k : Ports) → holder_of n k ≡ Nobody → NobodyHolds n k
nobody_there n k h i e t at on = elim (decided (n == address_of t)) [
  | inl is ↦ absurd (omega (
    arith,
    none,
    occurs-reached k i e n on (ap (option_map address_of) at
        ∙ ap (λ x. Some x) (sym (equal_same n (address_of t) is))),
  ))
  | inr is ↦ is
]
  where
    none : occurs n (held_addresses k) ≡ 0
    none = ap (occurs n) (sym (held-reached _ 1 k))
        ∙ none_occurs n (all_reached k) (holder_among-nobody _ h)

-- ---- the attempt

marked_some-nothing : (d : Option Damage) (n : ℕ) (pre : Bool) (m : Mark) (max : ℕ)
    → marked_some d n pre (reply_of Nothing m max) ≡ None
unfolding marked_some reply_of
marked_some-nothing d n pre m max = refl

module _ (a : Attempt) (d : Option Damage) (k : Ports) (settled : IsSettled k)
    (nobody : NobodyHolds a.addr k) where
  abbrev pub t : Option Sent
  t = token_out a d

  abbrev q : Option Sent
  q = payload_out a d

  token_unheard : after_sent t k ≡ k
  token_unheard = (sent_to_nobody t k settled (λ x o s w. token_calls a.addr x.content s
      (subst (IfOut (IsTokenFor a.addr)) o (goes a d k).token) (nobody w.0 w.1 s w.2 w.3))).0

  unheard : (ports_in a d k ≡ k) × (answers_to t k ≡ []) × (answers_to q (after_sent t k) ≡ [])
  unfolding ports_in
  unheard = nobody_answers a.addr t q (reply_out a d k) (goes a d k) k settled nobody

  heard_nothing : heard_in a d k ≡ Nothing
  heard_nothing = ap₂ (λ x y. heard_all (x ++ y)) unheard.1 unheard.2

  mark_whole : mark_in a d k ≡ Whole
  unfolding answer_mark
  mark_whole = grind (arith, heard_nothing)

  replied_none : reply_in a d k ≡ None
  replied_none = grind (arith, heard_nothing, marked_some-nothing)

  lost_none : lost_in a d k ≡ false
  unfolding lost_in
  lost_none = grind (arith, replied_none)

  cleared_none : cleared_in a d k ≡ false
  cleared_none = grind (arith, rest_clears, settled_memory, token_unheard)

  exchange_is : exchange_in a d k ≡ silent_exchange a d
  unfolding exchange_in
  exchange_is = grind (arith, cleared_none, heard_nothing, lost_none, mark_whole, replied_none)

  pub silence_made : (x : Exchange) → x ≡ silent_exchange a d → Exchanged a d k k x
  silence_made x e = record { made = e ∙ sym exchange_is; ports = sym unheard.0 }
